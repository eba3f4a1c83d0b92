-- Laws of the written bytes: a refusal, a sheet, what a started, fed and written track leaves, and that a track of at most the frames that a program takes is written on `longest_program_sheet` bytes.
use Rattle.std.specs.Prelude.{Result, Ok, Err, ◌≡◌, refl, Bool, true, false, cond, ℕ, ◌/◌, ◌≤◌, ltb, ℤ, pos, List, [], ◌∷◌, ◌++◌, length, drop}
use Rattle.std.proofs.Common.{◌∙◌, zero-add, sym, ap, arith, eq-eqb, ne_eqb, le-ltb}
use Rattle.std.specs.Result.{result_unwrap_or}
use Rattle.lists.specs.FillLaws.{length_tabulate}
use Rattle.lists.specs.Fill.{overwritten}
use Rattle.pitch_settings.specs.declared.Settings.{Settings}
use Rattle.track_settings.specs.declared.TrackSettings.{TrackSettings}
use Rattle.track_settings.specs.TrackSettings.{stored_settings, track_settings_no}
use Rattle.recording_head.specs.declared.Head.{Head}
use Rattle.recording_head.specs.Head.{head_settings}
use Rattle.pitch_text.specs.Text.{refused_text}
use Rattle.track_paper.specs.Paper.{F, track_limit, paper_no, joined_by, joined_samples, no_previous, paper_row, paper_table}
use Rattle.pitch_track.specs.Step.{start_call, deliver_call, DeliveryOutcome}
use Rattle.track_chain.specs.Chain.{Left, chain, final_samples}
use Rattle.track_chain.proofs.OnPaper.{equation}
use Rattle.sheet_sections.specs.declared.Section.TheVariants.{Pairs}
use Rattle.sheet_sections.specs.SheetLaws.{length_sheet, section_entries_le}
use Rattle.refusals.specs.declared.Refusal.{Refusal}
use Rattle.refusals.specs.Refusals.{refusal_number, told}
use Rattle.pitch_sheet.specs.Calls.{WriteOutcome, wrote, write_call}
use Rattle.track_sheet.specs.Accepted.{paper_rows, paper_sheet}
use Rattle.track_sheet.proofs.AcceptedLaws.{accepted_by_write}
use Rattle.pitch_recording.specs.Recording.{program_frames, recording_numbers, samples_in, recording_no}
use Rattle.sheet_write_bytes.specs.Program.{longest_program_sheet, sheet_written}
use Rattle.pitch_table.specs.Row.{row_size, most_frames}

-- ---- the bytes

module _ (head : Head) (b : List ℕ) where
  pub written_refused : (n : ℕ) → n ≡ recording_no head b → (n ≡ 0 → ⊥) → refused_text n ≡ sheet_written head b
  unfolding sheet_written
  written_refused n e h = rw (← e, ne_eqb n 0 h)

  pub written_sheet : recording_no head b ≡ 0 → paper_sheet (head_settings head b) (samples_in head b) ≡ sheet_written head b
  unfolding sheet_written
  written_sheet e = rw (eq-eqb (recording_no head b) 0 e)

-- an answer that was told so
written_count : (r : Result ℕ Refusal) (n : ℕ) → told r ≡ Ok n → result_unwrap_or r 0 ≡ n
written_count (Ok m) n e = cc
written_count (Err m) n e = cc

-- ---- start, deliver, write: a recording that the track on paper accepts, and a page that has room for its sheet

module _ (k : TrackSettings) (t x : List ℤ) (page : List ℕ) (h : track_settings_no k (pos 0) ≡ 0) (taken : paper_no track_limit (stored_settings k) (length t / row_size) [] x ≡ 0) (room : length (paper_sheet k x) ≤ length page)
    (d : DeliveryOutcome) (e : d ≡ deliver_call (start_call k).track t x) where
  whole : final_samples k t (x ∷ []) ≡ x
  unfolding joined_samples joined_by
  whole = rw (eq-eqb (paper_no track_limit (stored_settings k) (length t / row_size) [] x) 0 taken)

  -- the rows are in the table
  pub rows_left : d.table ≡ paper_table k t x
  unfolding chain
  rows_left = ap (λ (v : DeliveryOutcome). v.table) e ∙ ap (λ (l : Left). l.table) (equation k h t (x ∷ [])) ∙ ap (paper_table k t) whole

  module _ (r : Result ℕ Refusal) (p : List ℕ) (w : wrote (told r) p ≡ write_call (stored_settings k) d.delivered.track.frames d.table page) where
    put : wrote (told r) p ≡ wrote (Ok (length (paper_sheet k x))) (overwritten (paper_sheet k x) page)
    unfolding chain overwritten
    put =
        w
        ∙ ap (λ (v : DeliveryOutcome). write_call (stored_settings k) v.delivered.track.frames v.table page) e
        ∙ (accepted_by_write k h t (x ∷ [])).written page (rw whole room)
        ∙ ap (λ (j : List ℤ). wrote (Ok (length (paper_sheet k j))) (paper_sheet k j ++ drop (length (paper_sheet k j)) page)) whole

    -- nothing is refused
    pub never_refused : (n : Refusal) → r ≡ Err n → ⊥
    never_refused n q =
        let a : Err (refusal_number n) ≡ Ok (length (paper_sheet k x)) = sym (ap told q) ∙ ap (λ (o : WriteOutcome). o.answer) put in
        cc

    -- and the sheet is put
    pub sheet_put : (result_unwrap_or r 0 ≡ length (paper_sheet k x)) × (p ≡ overwritten (paper_sheet k x) page)
    sheet_put = (written_count r _ (ap (λ (o : WriteOutcome). o.answer) put), ap (λ (o : WriteOutcome). o.page) put)

-- ---- a track of at most the frames that a program takes

either_way : (b : Bool) → ◌≡◌ {A = ℕ} (cond b 0 0) 0
either_way true = refl
either_way false = refl

module _ (k : TrackSettings) (x : List ℤ) (few : F (stored_settings k) (length x) ≤ program_frames) where
  abbrev s : Settings
  s = stored_settings k

  -- its sheet is no longer than the longest
  pub small_sheet : length (paper_sheet k x) ≤ longest_program_sheet
  unfolding paper_sheet paper_rows
  small_sheet = omega (arith, length_sheet (stored_settings k) (paper_rows k x), section_entries_le Pairs (paper_rows k x), length_tabulate (paper_row k x no_previous) (F s (length x)))

  -- the paper accepts it, with a table that has a row for each
  pub few_taken : (t : List ℤ) → recording_numbers ≤ length t → paper_no track_limit (stored_settings k) (length t / row_size) [] x ≡ 0
  unfolding paper_no
  few_taken t rows =
      let a : F s (length x) ≤ most_frames = omega arith in
      let b : F s (length x) ≤ length t / row_size = omega arith in
      rw (zero-add (length x), le-ltb most_frames (F s (length x)) a, le-ltb (length t / row_size) (F s (length x)) b) (either_way (ltb (F s 0) (F s (length x))))
