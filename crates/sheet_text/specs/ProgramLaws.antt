-- Laws of the program's text: a page that is longer than the longest sheet is none, what a reading finds is what the text tells, and the whole outcome.
use Rattle.std.specs.Prelude.{Result, Ok, Err, ◌≡◌, refl, Bool, true, false, ltb, ℤ, length, take, drop, List, [], ◌∷◌, ◌++◌, ℕ, ◌*◌, ◌/◌, ◌≤◌, ◌<◌}
use Rattle.std.proofs.Common.{ap₂, sym, ◌∙◌, ltb-true, ltb-false, length-append, ap, append-nil, arith}
use Rattle.lists.specs.FillLaws.{length_tabulate, get_d_tabulate}
use Rattle.lists.specs.Fill.{overwritten}
use Rattle.pitch_settings.specs.declared.Settings.{Settings}
use Rattle.pitch_settings.specs.Settings.{held_no}
use Rattle.pitch_table.specs.declared.Row.{Row}
use Rattle.pitch_table.specs.Row.{row_size, most_frames, row_at}
use Rattle.pitch_text.specs.Text.{refused_text}
use Rattle.pitch_text.specs.TextLaws.{rows_taken, lines_taken, lines_same}
use Rattle.sheet_sections.specs.Sheet.{sheet_length}
use Rattle.sheet_page.specs.Page.{sheet_settings, frames_in, row_in, row_found, well_formed, page_no, rows_in, numbers_of}
use Rattle.sheet_page.specs.PageLaws.{good, voiced_in_le}
use Rattle.pitch_sheet.specs.Calls.{got, read_call, ReadOutcome}
use Rattle.pitch_sheet.specs.CallsLaws.{sheet_page, read_malformed, read_done}
use Rattle.pitch_sheet.specs.Holds.{no_row}
use Rattle.pitch_sheet.proofs.RoundTripLaws.{row_back}
use Rattle.sheet_text.specs.Program.{sheet_head, sheet_report, sheet_text, sheet_printed, sheet_table_after, sheet_text_call}

-- ---- a page that is longer than the longest sheet
pub sheet_within : (p : List ℕ) → well_formed p ≡ true → length p ≤ sheet_length most_frames most_frames
sheet_within p h = let g = good p h in omega (arith, g.sizes.whole, g.head.few, voiced_in_le p)

pub text_refused : (p : List ℕ) → well_formed p ≡ false → refused_text 9 ≡ sheet_text p
unfolding sheet_text
text_refused p e = rw e

too_long : (p : List ℕ) → sheet_length most_frames most_frames < length p → well_formed p ≡ false
too_long p h = by (well_formed p) refl
  where
    by : (b : Bool) → well_formed p ≡ b → b ≡ false
    by true e = absurd (omega (arith, sheet_within p e))
    by false e = refl

-- bytes follow those of the longest sheet
pub no_sheet : (p rest : List ℕ) → sheet_length most_frames most_frames ≤ length p → ltb 0 (length rest) ≡ true → well_formed (p ++ rest) ≡ false
no_sheet p rest h e = too_long (p ++ rest) (omega (arith, length-append p rest, ltb-true 0 (length rest) e))

-- ---- the whole outcome: the text over the front of `out`, and the table
pub table_kept : (p : List ℕ) (t : List ℤ) → well_formed p ≡ false → t ≡ sheet_table_after p t
unfolding sheet_table_after
table_kept p t e = rw e

pub outcome : (p out : List ℕ) (t : List ℤ) {len : ℕ} {after : List ℕ} {u : List ℤ} → len ≡ length (sheet_text p) → after ≡ overwritten (sheet_text p) out → u ≡ sheet_table_after p t → sheet_printed len after u ≡ sheet_text_call p out t
unfolding sheet_text_call
outcome p out t count over left = λ i. sheet_printed (count i) (over i) (left i)

-- none follow
pub none_more : (p rest : List ℕ) → ltb 0 (length rest) ≡ false → p ++ rest ≡ p
none_more p [] e = append-nil p
none_more p (x ∷ rest) e = absurd (omega (arith, ltb-false 0 (length (x ∷ rest)) e))

-- ---- what a reading finds, in a table that has room for every sheet

-- the page is a sheet, and these are its settings, its frame count and its rows, in a table that was t before
pub record Found (p : List ℕ) (t : List ℤ) (s : Settings) (frames : ℕ) (after : List ℤ) : Type 0 where
  pub sound : well_formed p ≡ true
  pub settings : s ≡ sheet_settings p
  pub count : frames ≡ frames_in p
  pub rows : (i : ℕ) → i < frames → row_at after i ≡ row_found (row_in p i)
  pub left : after ≡ sheet_table_after p t

-- the page is no sheet, and the number says so; the table is as it was
pub record Refused (p : List ℕ) (t : List ℤ) (number : ℕ) (after : List ℤ) : Type 0 where
  pub bad : well_formed p ≡ false
  pub nine : number ≡ 9
  pub left : after ≡ sheet_table_after p t

module _ (p : List ℕ) (t : List ℤ) (room : most_frames * row_size ≤ length t) where
  -- 7 is never said
  sound_read : well_formed p ≡ true → read_call p t ≡ got (Ok (sheet_settings p, frames_in p)) (numbers_of (rows_in p) ++ drop (frames_in p * row_size) t)
  sound_read e = read_done p t (sheet_page p e) (omega (arith, (good p e).head.few))

  bad_read : well_formed p ≡ false → read_call p t ≡ got (Err 9) t
  unfolding page_no
  bad_read e =
      let n : page_no p ≡ 9 = rw e in
      let m : page_no p ≡ 0 → ⊥ = λ z. omega arith in
      read_malformed p t m ∙ ap (λ (k : ℕ). got (Err k) t) n

  row_read : (i : ℕ) → i < frames_in p → row_at (numbers_of (rows_in p) ++ drop (frames_in p * row_size) t) i ≡ row_found (row_in p i)
  unfolding rows_in
  row_read i h =
      let f : ℕ → Row = λ k. row_found (row_in p k) in
      row_back (rows_in p) (drop (frames_in p * row_size) t) i (omega (arith, length_tabulate f (frames_in p))) ∙ get_d_tabulate f (frames_in p) i no_row h

  table_read : well_formed p ≡ true → numbers_of (rows_in p) ++ drop (frames_in p * row_size) t ≡ sheet_table_after p t
  unfolding sheet_table_after
  table_read e = rw e

  module _ {r : Result (Settings × ℕ) ℕ} {after : List ℤ} (e : got r after ≡ read_call p t) where
    pub found : {s : Settings} {frames : ℕ} → r ≡ Ok (s, frames) → Found p t s frames after
    found {s} {frames} g = by (well_formed p) refl
      where
        by : (b : Bool) → well_formed p ≡ b → Found p t s frames after
        by true h =
            let o = e ∙ sound_read h in
            let q = sym g ∙ ap (λ (x : ReadOutcome). x.answer) o in
            let both : ◌≡◌ {A = Settings × ℕ} (s, frames) (sheet_settings p, frames_in p) = cc in
            let k : frames ≡ frames_in p = ap (λ (x : Settings × ℕ). x.1) both in
            record {
              sound = h;
              settings = ap (λ (x : Settings × ℕ). x.0) both;
              count = k;
              rows = λ i l. ap (λ (x : ReadOutcome). row_at x.table i) o ∙ row_read i (omega arith);
              left = ap (λ (x : ReadOutcome). x.table) o ∙ table_read h;
            }
        by false h =
            let q = sym g ∙ ap (λ (x : ReadOutcome). x.answer) (e ∙ bad_read h) in
            let z : ◌≡◌ {A = ℕ} 0 1 = cc in
            absurd (omega arith)

    pub refused : {number : ℕ} → r ≡ Err number → Refused p t number after
    refused {number} g = by (well_formed p) refl
      where
        by : (b : Bool) → well_formed p ≡ b → Refused p t number after
        by true h =
            let q = sym g ∙ ap (λ (x : ReadOutcome). x.answer) (e ∙ sound_read h) in
            let z : ◌≡◌ {A = ℕ} 0 1 = cc in
            absurd (omega arith)
        by false h =
            let o = e ∙ bad_read h in
            let q = sym g ∙ ap (λ (x : ReadOutcome). x.answer) o in
            record { bad = h; nine = cc; left = ap (λ (x : ReadOutcome). x.table) o ∙ table_kept p t h }

-- ---- the text of what was read

-- of the table's first rows, taken out of it
pub report_taken : (s : Settings) (t : List ℤ) (n : ℕ) → n * row_size ≤ length t → sheet_report s (row_at (take (n * row_size) t)) (length (take (n * row_size) t) / row_size) ≡ sheet_report s (row_at t) n
unfolding sheet_report
report_taken s t n h = ap₂ (λ (f : ℕ) (l : List ℕ). sheet_head s f ++ l) (rows_taken t n h) (lines_taken s.nb t n h)

module _ {p : List ℕ} {t : List ℤ} {s : Settings} {frames : ℕ} {after : List ℤ} (f : Found p t s frames after) where
  pub settings_known : held_no s ≡ 0
  settings_known = ap held_no f.settings ∙ (good p f.sound).head.settings

  pub few_frames : frames ≤ most_frames
  few_frames = omega (arith, f.count, (good p f.sound).head.few)

  pub text_report : sheet_report s (row_at after) frames ≡ sheet_text p
  unfolding sheet_text sheet_report
  text_report =
      rw f.sound
      (ap (λ (l : List ℕ). sheet_head s frames ++ l) (lines_same s.nb (row_at after) (λ i. row_found (row_in p i)) frames f.rows)
      ∙ (λ u. sheet_report (f.settings u) (λ i. row_found (row_in p i)) (f.count u)))
