-- What one call says (docs/SCOPE.md, Track): `start` is equated with `start_call`, and `deliver` with `deliver_call`, for every state, table and delivery, refusals too. Definitions only.
use Rattle.std.specs.Prelude.{Result, Ok, Err, ℕ, ◌+◌, ◌-◌, ◌*◌, cond, List, ◌++◌, ℤ, pos, length, take, drop, replicate, eqb}
use Rattle.refusals.specs.Refusals.{told}
use Rattle.pitch_settings.specs.Settings.{longest_frame, hop_length}
use Rattle.track_settings.specs.declared.TrackSettings.{TrackSettings}
use Rattle.track_settings.specs.TrackSettings.{stored_settings, track_settings_no}
use Rattle.pitch_table.specs.Row.{row_size}
use Rattle.track_paper.specs.Paper.{F, answer_of, no_previous, previous, paper_numbers, track_limit}
use Rattle.track_refusal.specs.Refusal.{delivery_refusal}
use Rattle.pitch_track.specs.declared.Track.{Track}
use Rattle.pitch_track.specs.declared.Answered.{Answered}

-- no sample held
unfoldable pub zeros : List ℤ
zeros = replicate longest_frame (pos 0)

-- a list laid at the front of the places for samples held, the others 0
unfoldable pub padded : List ℤ → List ℤ
padded l = l ++ drop (length l) zeros

-- a track that has taken nothing yet
unfoldable pub fresh_track : TrackSettings → Track
fresh_track k = record { settings = k; frames = 0; held = zeros; count = 0; prev = no_previous }

-- the number of a start's refusal, or 0: before the first row the type is 0
abbrev pub start_no : TrackSettings → ℕ
start_no k = track_settings_no k no_previous.signal

-- what a call says, with its refusal's number, and the track that it hands back
pub record Said : Type 0 where
  pub answer : Result ℕ ℕ
  pub track : Track

abbrev pub said : Answered → Said
said r = record { answer = told r.answer; track = r.track }

-- what a start says, and its track
unfoldable pub start_call : TrackSettings → Said
start_call k = record { answer = answer_of (start_no k) 0; track = fresh_track k }

-- what a delivery says, with the track after it, and the table at the end
pub record DeliveryOutcome : Type 0 where
  pub delivered : Said
  pub table : List ℤ

abbrev pub delivery_outcome : Answered → List ℤ → DeliveryOutcome
delivery_outcome r t = record { delivered = said r; table = t }

-- the samples held and then those delivered
unfoldable pub pending : Track → List ℤ → List ℤ
pending tr d = take tr.count tr.held ++ d

-- a delivery that finishes k frames
unfoldable pub accepted_delivery : Track → List ℤ → List ℤ → ℕ → DeliveryOutcome
accepted_delivery tr t d k =
    record {
      delivered =
          record {
            answer = Ok (tr.frames + k);
            track =
                record {
                  settings = tr.settings;
                  frames = tr.frames + k;
                  held = padded (drop (k * hop_length (stored_settings tr.settings)) (pending tr d));
                  count = tr.count + length d - k * hop_length (stored_settings tr.settings);
                  prev = previous tr.settings (pending tr d) tr.prev k;
                };
          };
      table = take (tr.frames * row_size) t ++ paper_numbers tr.settings (pending tr d) tr.prev k ++ drop ((tr.frames + k) * row_size) t;
    }

-- the number of a delivery's refusal, or 0
abbrev pub delivery_no : Track → List ℤ → List ℤ → ℕ
delivery_no tr t d = delivery_refusal track_limit tr.settings tr.prev.signal tr.frames tr.count (length d) (length t)

-- the frames done after a delivery that is accepted
abbrev pub frames_after : Track → List ℤ → ℕ
frames_after tr d = tr.frames + F (stored_settings tr.settings) (tr.count + length d)

-- what a delivery says and leaves
unfoldable pub deliver_call : Track → List ℤ → List ℤ → DeliveryOutcome
deliver_call tr t d =
    cond (eqb (delivery_no tr t d) 0)
    (accepted_delivery tr t d (F (stored_settings tr.settings) (tr.count + length d)))
    (record { delivered = record { answer = Err (delivery_no tr t d); track = tr }; table = t })
