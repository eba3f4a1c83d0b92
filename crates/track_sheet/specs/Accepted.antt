-- Every table that a track can finish is one that writing accepts: the claim, over every list of deliveries. Definitions only; `AcceptedLaws` shows it.
use Rattle.std.specs.Prelude.{Ok, ◌≡◌, List, ◌++◌, ℕ, ◌*◌, ◌≤◌, ◌<◌, ℤ, length, take, drop}
use Rattle.std.specs.Int.{w32}
use Rattle.std.proofs.Common.{SFits}
use Rattle.lists.specs.Fill.{tabulate}
use Rattle.track_settings.specs.declared.TrackSettings.{TrackSettings}
use Rattle.track_settings.specs.TrackSettings.{stored_settings}
use Rattle.pitch_table.specs.declared.Row.{Row}
use Rattle.track_paper.specs.Paper.{no_previous, paper_row, paper_numbers, frames_done}
use Rattle.track_chain.specs.Chain.{run_from_start, final_samples}
use Rattle.sheet_sections.specs.Sheet.{sheet, sheet_length}
use Rattle.pitch_sheet.specs.Calls.{whole_rows, write_no, wrote, write_call, got, read_call}
use Rattle.pitch_table.specs.Row.{row_size, most_frames}

-- the finished rows of the track on paper whose accepted samples are j, and their sheet
unfoldable pub paper_rows : TrackSettings → List ℤ → List Row
paper_rows k j = tabulate (paper_row k j no_previous) (frames_done (stored_settings k) j)

unfoldable pub paper_sheet : TrackSettings → List ℤ → List ℕ
paper_sheet k j = sheet (stored_settings k) (paper_rows k j)

-- the deliveries ds, from a fresh start, with the table t
module _ (k : TrackSettings) (t : List ℤ) (ds : List (List ℤ)) where
  -- the refusal of writing what they left on a page of `room` bytes, or 0; and the writing of it
  abbrev pub left_no : ℕ → ℕ
  left_no room = write_no (stored_settings k) (run_from_start k t ds).track.frames (run_from_start k t ds).table room

  abbrev pub left_sheet : List ℕ
  left_sheet = paper_sheet k (final_samples k t ds)

  abbrev pub WrittenOn : List ℕ → Type 0
  WrittenOn page =
      write_call (stored_settings k) (run_from_start k t ds).track.frames (run_from_start k t ds).table page ≡ wrote (Ok (length left_sheet)) (left_sheet ++ drop (length left_sheet) page)

  pub record AcceptedByWrite : Type 0 where
    -- nothing is refused but a page that is shorter than the sheet, with 8; so 9 is never said
    pub room_enough : (room : ℕ) → length left_sheet ≤ room → left_no room ≡ 0
    pub room_short : (room : ℕ) → room < length left_sheet → left_no room ≡ 8
    pub never_nine : (room : ℕ) → left_no room ≡ 9 → ⊥
    -- what is written is the sheet of the track on paper; a page as long as the longest sheet is never too short
    pub written : (page : List ℕ) → length left_sheet ≤ length page → WrittenOn page
    pub written_on_longest : (page : List ℕ) → sheet_length most_frames most_frames ≤ length page → WrittenOn page
    -- what was written reads back to the stored settings, the frames done and the rows of the track on paper, into any table that has the rows; a program's thresholds have 32 bits
    pub reads_back : SFits w32 (stored_settings k).thres1 → SFits w32 (stored_settings k).thres2 → (page : List ℕ) → length left_sheet ≤ length page
        → (into : List ℤ) → frames_done (stored_settings k) (final_samples k t ds) ≤ whole_rows into
        → read_call (take (length left_sheet) (write_call (stored_settings k) (run_from_start k t ds).track.frames (run_from_start k t ds).table page).page) into
        ≡ got (Ok (stored_settings k, frames_done (stored_settings k) (final_samples k t ds))) (paper_numbers k (final_samples k t ds) no_previous (frames_done (stored_settings k) (final_samples k t ds)) ++ drop (frames_done (stored_settings k) (final_samples k t ds) * row_size) into)
