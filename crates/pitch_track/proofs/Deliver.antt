-- The number that `start_call` says, the answer of `deliver_call` in numbers, and the two cases of `deliver_call`.
use Rattle.std.proofs.Common.{sym, ap, ◌∙◌, arith, eq-eqb, ne_eqb, eqb-true, length-drop, take_all, ◌≡◌, refl, Ok, Err, Bool, true, false, cond, ℕ, ◌+◌, ◌-◌, ◌*◌, eqb, ℤ, pos, List, [], ◌∷◌, ◌++◌, length, take, drop}
use Rattle.track_settings.specs.declared.TrackSettings.{TrackSettings}
use Rattle.track_settings.specs.TrackSettings.{stored_settings}
use Rattle.answers.specs.Answer.{answer_numbers}
use Rattle.refusals.specs.Refusals.{told}
use Rattle.pitch_track.specs.declared.Track.{Track}
use Rattle.pitch_track.specs.declared.Answered.{Answered}
use Rattle.track_paper.specs.declared.Prev.{Prev}
use Rattle.pitch_settings.specs.Settings.{hop_length}
use Rattle.track_paper.specs.Paper.{F, answer_of, answer_no, track_answer_numbers, previous, paper_numbers}
use Rattle.pitch_track.specs.Step.{padded, start_no, start_call, pending, delivery_no, frames_after, DeliveryOutcome, delivery_outcome, accepted_delivery, deliver_call}
use Rattle.pitch_table.specs.Row.{row_size}

-- the number that `start` says is that of the settings with the type 0
pub start_number : (s : TrackSettings) → answer_no (start_call s).answer ≡ start_no s
unfolding start_call answer_of
start_number s = by (eqb (start_no s) 0) refl
  where
    by : (b : Bool) → eqb (start_no s) 0 ≡ b → answer_no (cond b (Ok 0) (Err (start_no s))) ≡ start_no s
    by true e = sym (eqb-true (start_no s) 0 e)
    by false e = refl

-- an answer by its number, in numbers
answer_in_numbers : (n f : ℕ) → track_answer_numbers (answer_of n f) ≡ answer_numbers n (pos f ∷ [])
unfolding answer_of
answer_in_numbers n f = by (eqb n 0) refl
  where
    by : (b : Bool) → eqb n 0 ≡ b → track_answer_numbers (cond b (Ok f) (Err n)) ≡ pos n ∷ cond b (pos f ∷ []) []
    by true e = ap (λ (k : ℕ). pos k ∷ pos f ∷ []) (sym (eqb-true n 0 e))
    by false e = refl

module _ (tr : Track) (t d : List ℤ) where
  answer_is : (deliver_call tr t d).delivered.answer ≡ answer_of (delivery_no tr t d) (frames_after tr d)
  unfolding deliver_call accepted_delivery answer_of
  answer_is = by (eqb (delivery_no tr t d) 0)
    where
      by : (b : Bool)
          → (cond b (accepted_delivery tr t d (F (stored_settings tr.settings) (tr.count + length d))) (record { delivered = record { answer = Err (delivery_no tr t d); track = tr }; table = t })).delivered.answer
          ≡ cond b (Ok (frames_after tr d)) (Err (delivery_no tr t d))
      by true = refl
      by false = refl

  pub delivers : (r : Answered) (table : List ℤ) → delivery_outcome r table ≡ deliver_call tr t d
      → (delivery_outcome r table ≡ deliver_call tr t d) × (track_answer_numbers (told r.answer) ≡ answer_numbers (delivery_no tr t d) (pos (frames_after tr d) ∷ []))
  delivers r table e = (e, ap track_answer_numbers (ap (λ (o : DeliveryOutcome). o.delivered.answer) e ∙ answer_is) ∙ answer_in_numbers (delivery_no tr t d) (frames_after tr d))

  pub refuses : (delivery_no tr t d ≡ 0 → ⊥) → deliver_call tr t d ≡ record { delivered = record { answer = Err (delivery_no tr t d); track = tr }; table = t }
  unfolding deliver_call
  refuses h = rw (ne_eqb (delivery_no tr t d) 0 h)

  pub accepts : delivery_no tr t d ≡ 0 → deliver_call tr t d ≡ accepted_delivery tr t d (F (stored_settings tr.settings) (tr.count + length d))
  unfolding deliver_call
  accepts h = rw (eq-eqb (delivery_no tr t d) 0 h)

  pub made : (k n : ℕ) (held : List ℤ) (left : ℕ) (prev : Prev) (table : List ℤ)
      → n ≡ tr.frames + k
      → held ≡ padded (drop (k * hop_length (stored_settings tr.settings)) (pending tr d))
      → left ≡ tr.count + length d - k * hop_length (stored_settings tr.settings)
      → prev ≡ previous tr.settings (pending tr d) tr.prev k
      → table ≡ take (tr.frames * row_size) t ++ paper_numbers tr.settings (pending tr d) tr.prev k ++ drop ((tr.frames + k) * row_size) t
      → record { delivered = record { answer = Ok n; track = record { settings = tr.settings; frames = n; held = held; count = left; prev = prev } }; table = table }
      ≡ accepted_delivery tr t d k
  unfolding accepted_delivery
  made k n held left prev table a b c d e = rw (a, b, c, d, e)

-- what is gathered after the last new frame's start is all that is left
pub kept : (x : List ℤ) (from left : ℕ) → length x ≡ from + left → take left (drop from x) ≡ drop from x
kept x from left e = take_all left (drop from x) (rw length-drop (omega arith))
