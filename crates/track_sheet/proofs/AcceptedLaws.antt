-- Writing accepts what every chain of deliveries leaves.
use Rattle.std.proofs.Common.{◌∙◌, ⊎_elim, arith, take_at, SFits, Ok, ◌≡◌, refl, true, List, [], ◌∷◌, ◌++◌, ℕ, zero, suc, ◌*◌, ◌≤◌, ◌<◌, ℤ, length, get_or, take, drop, sym, ap, length-drop, length-take-le, w32}
use Rattle.lists.specs.Fill.{tabulate}
use Rattle.lists.specs.FillLaws.{length_tabulate, get_d_tabulate, tabulate_ext}
use Rattle.track_settings.specs.declared.TrackSettings.{TrackSettings}
use Rattle.track_settings.specs.TrackSettings.{stored_settings, row_settings}
use Rattle.track_settings.specs.TrackSettingsLaws.{known, row_no, row_length}
use Rattle.pitch_track.specs.Step.{start_no}
use Rattle.pitch_settings.specs.Settings.{settings_no, held_no, frame_length, hop_length}
use Rattle.pitch_settings.specs.SettingsLaws.{analysed_held, accepted_settings}
use Rattle.pitch_table.specs.declared.Row.{Row}
use Rattle.pitch_table.specs.Row.{row_size, most_frames, numbers, row_at, pair_lag, voiced_row}
use Rattle.track_paper.specs.Paper.{no_previous, window, previous, paper_row, paper_numbers, frames_done}
use Rattle.track_chain.specs.Chain.{run_from_start, final_samples}
use Rattle.track_paper.specs.FramesLaws.{lt_or_le, fits}
use Rattle.track_paper.specs.RowsLaws.{row_read}
use Rattle.track_chain.proofs.OnPaper.{reached, on_paper}
use Rattle.sheet_rows.specs.Rows.{row_of, row_holds}
use Rattle.sheet_sections.specs.Sheet.{sheet, sheet_length, rows_of}
use Rattle.sheet_page.specs.Page.{numbers_of}
use Rattle.sheet_page.specs.PageLaws.{numbers_append}
use Rattle.pitch_sheet.specs.Calls.{whole_rows, rows_hold, wrote, write_call, WriteOutcome, got, read_call}
use Rattle.pitch_sheet.specs.CallsLaws.{hold_all, no_room, no_refusal, write_done}
use Rattle.pitch_sheet.specs.Holds.{no_row, Holds}
use Rattle.pitch_sheet.proofs.RoundTripLaws.{round_trip}
use Rattle.track_sheet.specs.Accepted.{paper_rows, paper_sheet, left_no, WrittenOn, AcceptedByWrite}
use Rattle.track_sheet.specs.RowLaws.{frame_holds, frame_correlation}

-- ---- the settings that are stored

module _ (k : TrackSettings) where
  -- a sheet can hold them where they are analysed
  stored_held : settings_no (stored_settings k) ≡ 0 → held_no (stored_settings k) ≡ 0
  stored_held h = analysed_held (stored_settings k) h

  -- and with them the rows that it can hold with the settings of a row's own frame
  stored_row : (type : ℤ) (r : Row) → row_holds (row_settings k type) r ≡ true → row_holds (stored_settings k) r ≡ true
  unfolding stored_settings row_settings row_holds row_of voiced_row pair_lag
  stored_row type r h = h

-- ---- the rows on paper

module _ (k : TrackSettings) (h : settings_no (stored_settings k) ≡ 0) (j : List ℤ) where
  window_length : (i : ℕ) → i < frames_done (stored_settings k) j → length (window (stored_settings k) j i) ≡ frame_length (stored_settings k)
  unfolding window
  window_length i l =
      let a = accepted_settings (stored_settings k) h in
      let inside = fits (frame_length (stored_settings k)) (hop_length (stored_settings k)) a.some a.within (length j) i l in
      length-take-le (frame_length (stored_settings k)) (drop (i * hop_length (stored_settings k)) j) (omega (arith, length-drop (i * hop_length (stored_settings k)) j, inside))

  row_paper_holds : (i : ℕ) → i < frames_done (stored_settings k) j → row_holds (stored_settings k) (paper_row k j no_previous i) ≡ true
  unfolding paper_row
  row_paper_holds i l =
      let p = previous k j no_previous i in
      stored_row k p.signal (paper_row k j no_previous i)
      (frame_holds (row_settings k p.signal) (window (stored_settings k) j i) p.lag p.correlation (row_no k p.signal ∙ h) (window_length i l ∙ sym (row_length k p.signal)))

  row_paper_fits : (i : ℕ) → i < frames_done (stored_settings k) j → SFits w32 (paper_row k j no_previous i).correlation
  unfolding paper_row
  row_paper_fits i l =
      let p = previous k j no_previous i in
      frame_correlation (row_settings k p.signal) (window (stored_settings k) j i) p.lag p.correlation (row_no k p.signal ∙ h) (window_length i l ∙ sym (row_length k p.signal))

  count : length (paper_rows k j) ≡ frames_done (stored_settings k) j
  unfolding paper_rows
  count = length_tabulate _ (frames_done (stored_settings k) j)

  row_is : (i : ℕ) → i < frames_done (stored_settings k) j → get_or (paper_rows k j) i no_row ≡ paper_row k j no_previous i
  unfolding paper_rows
  row_is i l = get_d_tabulate _ (frames_done (stored_settings k) j) i no_row l

  -- a sheet can hold them
  paper_holds : SFits w32 (stored_settings k).thres1 → SFits w32 (stored_settings k).thres2 → frames_done (stored_settings k) j ≤ most_frames → Holds (stored_settings k) (paper_rows k j)
  paper_holds a b few =
      record {
        settings = stored_held k h;
        thres1 = a;
        thres2 = b;
        few = omega (arith, count);
        rows = λ i l. let k : i < frames_done (stored_settings k) j = omega (arith, count) in rw (row_is i k) (row_paper_holds i k);
        correlations = λ i l. let k : i < frames_done (stored_settings k) j = omega (arith, count) in rw (row_is i k) (row_paper_fits i k);
      }

-- their numbers, row after row
numbers_are : (k : TrackSettings) (j : List ℤ) (n : ℕ) → numbers_of (tabulate (paper_row k j no_previous) n) ≡ paper_numbers k j no_previous n
unfolding tabulate numbers_of paper_numbers
numbers_are k j zero = refl
numbers_are k j (suc n) = numbers_append (tabulate (paper_row k j no_previous) n) (paper_row k j no_previous n ∷ []) ∙ ap (λ (l : List ℤ). l ++ numbers (paper_row k j no_previous n)) (numbers_are k j n)

-- the sheet on paper reads back to them
paper_reads : (k : TrackSettings) (h : settings_no (stored_settings k) ≡ 0) (j into : List ℤ) → SFits w32 (stored_settings k).thres1 → SFits w32 (stored_settings k).thres2 → frames_done (stored_settings k) j ≤ most_frames → frames_done (stored_settings k) j ≤ whole_rows into
    → read_call (paper_sheet k j) into ≡ got (Ok (stored_settings k, frames_done (stored_settings k) j)) (paper_numbers k j no_previous (frames_done (stored_settings k) j) ++ drop (frames_done (stored_settings k) j * row_size) into)
unfolding paper_sheet paper_rows
paper_reads k h j into a b few room =
    let c = count k h j in
    let n = numbers_are k j (frames_done (stored_settings k) j) in
    round_trip.sheet_reads (stored_settings k) (tabulate (paper_row k j no_previous) (frames_done (stored_settings k) j)) into (paper_holds k h j a b few) (omega (arith, c))
    ∙ (λ u. got (Ok (stored_settings k, c u)) (n u ++ drop (c u * row_size) into))

-- ---- what a chain of deliveries leaves

module _ (k : TrackSettings) (right : start_no k ≡ 0) (t : List ℤ) (ds : List (List ℤ)) where
  h : settings_no (stored_settings k) ≡ 0
  h = known k no_previous.signal right

  abbrev J : List ℤ
  J = final_samples k t ds

  abbrev frames : ℕ
  frames = (run_from_start k t ds).track.frames

  abbrev left : List ℤ
  left = (run_from_start k t ds).table

  done : frames ≡ frames_done (stored_settings k) J
  done = (on_paper k right t ds).frames

  few : frames ≤ most_frames
  few = omega (arith, done, (reached k right t ds).few)

  whole : frames ≤ whole_rows left
  whole = let m : length left ≡ length t = (on_paper k right t ds).size in omega (arith, done, (reached k right t ds).fit)

  row_left : (i : ℕ) → i < frames → row_at left i ≡ paper_row k J no_previous i
  row_left i l = row_read left i (paper_row k J no_previous i) ((on_paper k right t ds).rows i (omega (arith, done)))

  rows_left : rows_of left frames ≡ paper_rows k J
  unfolding rows_of paper_rows
  rows_left = tabulate_ext frames row_left ∙ ap (tabulate (paper_row k J no_previous)) done

  sheet_left : sheet (stored_settings k) (rows_of left frames) ≡ paper_sheet k J
  unfolding paper_sheet
  sheet_left = ap (sheet (stored_settings k)) rows_left

  hold : rows_hold (stored_settings k) left frames ≡ true
  hold = hold_all (stored_settings k) left frames (λ i l. ap (row_holds (stored_settings k)) (row_left i l) ∙ row_paper_holds k h J i (omega (arith, done)))

  enough : (room : ℕ) → length (paper_sheet k J) ≤ room → left_no k t ds room ≡ 0
  enough room l = no_refusal (stored_settings k) frames left room (stored_held k h) few {m = frames} (omega (arith, whole)) hold whole (omega (arith, ap length sheet_left))

  short_page : (room : ℕ) → room < length (paper_sheet k J) → left_no k t ds room ≡ 8
  short_page room l = no_room (stored_settings k) frames left room (stored_held k h) few {m = frames} (omega (arith, whole)) hold whole (omega (arith, ap length sheet_left))

  written : (page : List ℕ) → length (paper_sheet k J) ≤ length page → WrittenOn k t ds page
  written page l =
      write_done (stored_settings k) frames left page (enough (length page) l)
      ∙ ap (λ (b : List ℕ). wrote (Ok (length b)) (b ++ drop (length b) page)) sheet_left

  longest : length (paper_sheet k J) ≤ sheet_length most_frames most_frames
  unfolding paper_sheet
  longest = round_trip.longest (stored_settings k) (paper_rows k J) (omega (arith, count k h J, (reached k right t ds).few))

  reads_back : SFits w32 (stored_settings k).thres1 → SFits w32 (stored_settings k).thres2 → (page : List ℕ) → length (paper_sheet k J) ≤ length page → (into : List ℤ) → frames_done (stored_settings k) J ≤ whole_rows into
      → read_call (take (length (paper_sheet k J)) (write_call (stored_settings k) frames left page).page) into ≡ got (Ok (stored_settings k, frames_done (stored_settings k) J)) (paper_numbers k J no_previous (frames_done (stored_settings k) J) ++ drop (frames_done (stored_settings k) J * row_size) into)
  reads_back a b page l into g =
      let bytes = paper_sheet k J in
      ap (λ (o : WriteOutcome). read_call (take (length bytes) o.page) into) (written page l)
      ∙ ap (λ (p : List ℕ). read_call p into) (take_at bytes (drop (length bytes) page) (length bytes) refl)
      ∙ paper_reads k h J into a b (reached k right t ds).few g

  pub accepted_by_write : AcceptedByWrite k t ds
  accepted_by_write = record {
    room_enough = enough;
    room_short = short_page;
    never_nine = λ room e.
        ⊎_elim (λ l. omega (arith, short_page room l)) (λ l. omega (arith, enough room l)) (lt_or_le room (length (paper_sheet k J)));
    written = written;
    written_on_longest = λ page l. written page (omega (arith, longest));
    reads_back = reads_back;
  }
