-- The round trips and the sizes hold.
use Rattle.std.proofs.Common.{◌∙◌, eqb-true, leb-true, leb-false, length-append, take_at, take-add, drop-cons, length-take-le, SFits, Ok, Err, ◌≡◌, Bool, true, false, eqb, leb, pos, refl, sym, ap, ap₂, List, [], ◌∷◌, ◌++◌, append_assoc, ℕ, zero, suc, ◌+◌, ◌*◌, ◌≤◌, ◌<◌, arith, ℤ, length, get_or, take, drop, get_or-append-add, w32}
use Rattle.std.proofs.lemmas.Bool.{eqb-false}
use Rattle.std.proofs.Math.Seq.{split_at}
use Rattle.zint.specs.Equal.{eq_z}
use Rattle.lists.specs.Fill.{tabulate}
use Rattle.lists.specs.FillLaws.{length_tabulate, get_d_tabulate, tabulate_is as table_of}
use Rattle.pitch_settings.specs.declared.Settings.{Settings}
use Rattle.pitch_settings.specs.Settings.{held_no}
use Rattle.pitch_table.specs.declared.Row.{Row}
use Rattle.pitch_table.specs.Row.{row_size, most_frames, numbers, row_at, voiced_row, unpitched_row}
use Rattle.sheet_bytes.specs.Bytes.{Bytes}
use Rattle.sheet_rows.specs.Rows.{row_holds}
use Rattle.sheet_sections.specs.declared.Section.TheVariants.{Pairs}
use Rattle.sheet_sections.specs.Sheet.{has_entry, section_entries, sheet, sheet_length, rows_of}
use Rattle.sheet_sections.specs.SheetLaws.{length_rows, length_sheet, section_entries_le}
use Rattle.sheet_page.specs.Page.{sheet_settings, frames_in, well_formed, page_no, row_in, row_found, rows_in, numbers_of}
use Rattle.sheet_page.specs.PageLaws.{numbers_append, numbers_length}
use Rattle.pitch_sheet.specs.Calls.{whole_rows, rows_hold, write_no, wrote, write_call, got, read_call, WriteOutcome, ReadOutcome}
use Rattle.pitch_sheet.specs.CallsLaws.{writable, hold_all, no_refusal, write_refused, write_done, page_sheet, sheet_page, read_malformed, read_short, read_done, rows_in-length}
use Rattle.pitch_sheet.specs.Holds.{no_row, Holds}
use Rattle.pitch_sheet.specs.SheetReadLaws.{sheet_well_formed, settings_read, sheet_frames, sheet_rows}
use Rattle.pitch_sheet.specs.PageWrittenLaws as written
use Rattle.pitch_sheet.specs.RoundTrip.{Words, IsSheet, RoundTrip}

-- ---- rows and their numbers

onto : (x : ℤ) {l m : List ℤ} → l ≡ m → x ∷ l ≡ x ∷ m
onto x e = ap (λ (l : List ℤ). x ∷ l) e

module _ (t : List ℤ) where
  cell : (k a b : ℕ) → b ≡ suc a → a < length t → take (suc k) (drop a t) ≡ get_or t a (pos 0) ∷ take k (drop b t)
  cell k a b e h = ap (take (suc k)) (drop-cons t a (pos 0) h) ∙ ap (λ (j : ℕ). get_or t a (pos 0) ∷ take k (drop j t)) (sym e)

  row_numbers : (i : ℕ) → i * row_size + row_size ≤ length t → take row_size (drop (i * row_size) t) ≡ numbers (row_at t i)
  unfolding row_at
  row_numbers i h =
      let a = i * row_size in
      let x : ℕ → ℤ = λ j. get_or t j (pos 0) in
      cell 7 a (a + 1) (omega arith) (omega arith)
      ∙ onto (x a) (cell 6 (a + 1) (a + 2) (omega arith) (omega arith)
      ∙ onto (x (a + 1)) (cell 5 (a + 2) (a + 3) (omega arith) (omega arith)
      ∙ onto (x (a + 2)) (cell 4 (a + 3) (a + 4) (omega arith) (omega arith)
      ∙ onto (x (a + 3)) (cell 3 (a + 4) (a + 5) (omega arith) (omega arith)
      ∙ onto (x (a + 4)) (cell 2 (a + 5) (a + 6) (omega arith) (omega arith)
      ∙ onto (x (a + 5)) (cell 1 (a + 6) (a + 7) (omega arith) (omega arith)
      ∙ onto (x (a + 6)) (cell 0 (a + 7) (a + 8) (omega arith) (omega arith))))))))

  -- the numbers of a table's first rows are the table's first numbers
  rows_numbers : (n : ℕ) → n * row_size ≤ length t → numbers_of (rows_of t n) ≡ take (n * row_size) t
  unfolding rows_of tabulate numbers_of
  rows_numbers zero h = refl
  rows_numbers (suc i) h =
      let e : i * row_size + row_size ≡ suc i * row_size = omega arith in
      numbers_append (rows_of t i) (row_at t i ∷ [])
      ∙ ap₂ (λ (x : List ℤ) (y : List ℤ). x ++ y) (rows_numbers i (omega arith)) (append_one (row_at t i) ∙ sym (row_numbers i (omega arith)))
      ∙ sym (take-add (i * row_size) row_size t)
      ∙ ap (λ (j : ℕ). take j t) e
    where
      append_one : (r : Row) → numbers r ++ [] ≡ numbers r
      append_one r = refl

-- a table that begins with the numbers of rows has those rows
module _ (rs : List Row) (rest : List ℤ) where
  pub row_back : (i : ℕ) → i < length rs → row_at (numbers_of rs ++ rest) i ≡ get_or rs i no_row
  unfolding row_at numbers_of
  row_back i h =
      let r = get_or rs i no_row in
      let before = numbers_of (take i rs) in
      let after = numbers_of (drop (suc i) rs) ++ rest in
      let e : numbers_of rs ++ rest ≡ before ++ (numbers r ++ after) =
      ap (λ (l : List Row). numbers_of l ++ rest) (split_at rs i no_row h) ∙ ap (λ (l : List ℤ). l ++ rest) (numbers_append (take i rs) (r ∷ drop (suc i) rs)) ∙ append_assoc before (numbers r ++ numbers_of (drop (suc i) rs)) rest in
      let len : length before ≡ i * row_size = numbers_length (take i rs) ∙ ap (λ (m : ℕ). m * row_size) (length-take-le i rs (omega arith)) in
      let at : (j : ℕ) → get_or (numbers_of rs ++ rest) (i * row_size + j) (pos 0) ≡ get_or (numbers r ++ after) j (pos 0) =
      λ j. ap₂ (λ (l : List ℤ) (m : ℕ). get_or l (m + j) (pos 0)) e (sym len) ∙ get_or-append-add before (numbers r ++ after) j (pos 0) in
      let z : i * row_size ≡ i * row_size + 0 = omega arith in
      let x0 = ap (λ (m : ℕ). get_or (numbers_of rs ++ rest) m (pos 0)) z ∙ at 0 in
      let x1 = at 1 in
      let x2 = at 2 in
      let x3 = at 3 in
      let x4 = at 4 in
      let x5 = at 5 in
      let x6 = at 6 in
      let x7 = at 7 in
      λ u. record { verdict = x0 u; index = x1 u; contour = x2 u; correlation = x3 u; lag0 = x4 u; lag1 = x5 u; lag2 = x6 u; lag3 = x7 u }

  rows_back : rows_of (numbers_of rs ++ rest) (length rs) ≡ rs
  unfolding rows_of
  rows_back = table_of (row_at (numbers_of rs ++ rest)) (length rs) rs no_row refl row_back

-- ---- a sheet reads back

sheet_reads : (s : Settings) (rs : List Row) (t : List ℤ) → Holds s rs → length rs ≤ whole_rows t → read_call (sheet s rs) t ≡ got (Ok (s, length rs)) (numbers_of rs ++ drop (length rs * row_size) t)
sheet_reads s rs t h l =
    let p = sheet s rs in
    let a = settings_read s rs h in
    let n = sheet_frames s rs h in
    let r = sheet_rows s rs h in
    read_done p t (sheet_page p (sheet_well_formed s rs h)) (omega (arith, n))
    ∙ (λ u. got (Ok (a u, n u)) (numbers_of (r u) ++ drop (n u * row_size) t))

-- a table that has fewer rows
sheet_short : (s : Settings) (rs : List Row) (t : List ℤ) → Holds s rs → whole_rows t < length rs → read_call (sheet s rs) t ≡ got (Err 7) t
sheet_short s rs t h l = let p = sheet s rs in let n = sheet_frames s rs h in read_short p t (sheet_page p (sheet_well_formed s rs h)) (omega (arith, n))

-- ---- what was written

module _ (s : Settings) (n : ℕ) (t : List ℤ) (page : List ℕ) (k : ℕ) (after : List ℕ) (done : write_call s n t page ≡ wrote (Ok k) after) where
  not_refused : write_no s n t (length page) ≡ 0
  not_refused = by (eqb (write_no s n t (length page)) 0) refl
    where
      by : (b : Bool) → eqb (write_no s n t (length page)) 0 ≡ b → write_no s n t (length page) ≡ 0
      by true e = eqb-true (write_no s n t (length page)) 0 e
      by false e =
          let q = ap (λ (o : WriteOutcome). o.answer) (sym (write_refused s n t page (eqb-false (write_no s n t (length page)) 0 e)) ∙ done) in
          let z : ◌≡◌ {A = ℕ} 0 1 = cc in
          absurd (omega arith)

  length_written : length (sheet s (rows_of t n)) ≡ k
  length_written =
      let q = ap (λ (o : WriteOutcome). o.answer) (sym (write_done s n t page not_refused) ∙ done) in
      cc

  front_written : take k after ≡ sheet s (rows_of t n)
  front_written =
      let bytes = sheet s (rows_of t n) in
      ap (take k) (sym (ap (λ (o : WriteOutcome). o.page) (sym (write_done s n t page not_refused) ∙ done))) ∙ take_at bytes (drop (length bytes) page) k length_written

  rows_written : SFits w32 s.thres1 → SFits w32 s.thres2 → Words t → Holds s (rows_of t n)
  unfolding rows_of row_at
  rows_written a b w =
      let g = writable s n t (length page) not_refused in
      let at : (i : ℕ) → i < n → get_or (rows_of t n) i no_row ≡ row_at t i = λ i l. get_d_tabulate (row_at t) n i no_row l in
      record {
        settings = g.settings;
        thres1 = a;
        thres2 = b;
        few = rw (length_rows t n) g.few;
        rows = λ i l. let j : i < n = omega (arith, length_rows t n) in rw (at i j) (g.rows i j);
        correlations = λ i l. let j : i < n = omega (arith, length_rows t n) in rw (at i j) (w (i * row_size + 3));
      }

  written_reads : SFits w32 s.thres1 → SFits w32 s.thres2 → Words t → (into : List ℤ) → n ≤ whole_rows into → read_call (take k after) into ≡ got (Ok (s, n)) (take (n * row_size) t ++ drop (n * row_size) into)
  written_reads a b w into l =
      let rs = rows_of t n in
      let m = length_rows t n in
      let e = rows_numbers t n (writable s n t (length page) not_refused).whole in
      ap (λ (p : List ℕ). read_call p into) front_written
      ∙ sheet_reads s rs into (rows_written a b w) (omega (arith, m))
      ∙ (λ u. got (Ok (s, m u)) (e u ++ drop (m u * row_size) into))

-- ---- what was read

module _ (p : List ℕ) (t : List ℤ) (s : Settings) (n : ℕ) (after : List ℤ) (bytes : Bytes p) (done : read_call p t ≡ got (Ok (s, n)) after) where
  record Found : Type 0 where
    fine : page_no p ≡ 0
    room : frames_in p ≤ whole_rows t

  found : Found
  found = by (eqb (page_no p) 0) (leb (frames_in p) (whole_rows t)) refl refl
    where
      by : (a b : Bool) → eqb (page_no p) 0 ≡ a → leb (frames_in p) (whole_rows t) ≡ b → Found
      by true true e f = record { fine = eqb-true (page_no p) 0 e; room = leb-true (frames_in p) (whole_rows t) f }
      by true false e f =
          let q = ap (λ (o : ReadOutcome). o.answer) (sym (read_short p t (eqb-true (page_no p) 0 e) (leb-false (frames_in p) (whole_rows t) f)) ∙ done) in
          let z : ◌≡◌ {A = ℕ} 0 1 = cc in
          absurd (omega arith)
      by false b e f =
          let q = ap (λ (o : ReadOutcome). o.answer) (sym (read_malformed p t (eqb-false (page_no p) 0 e)) ∙ done) in
          let z : ◌≡◌ {A = ℕ} 0 1 = cc in
          absurd (omega arith)

  outcome : got (Ok (sheet_settings p, frames_in p)) (numbers_of (rows_in p) ++ drop (frames_in p * row_size) t) ≡ got (Ok (s, n)) after
  outcome = sym (read_done p t found.fine found.room) ∙ done

  answer_is : ◌≡◌ {A = Settings × ℕ} (sheet_settings p, frames_in p) (s, n)
  answer_is = let q = ap (λ (o : ReadOutcome). o.answer) outcome in cc

  settings_are : sheet_settings p ≡ s
  settings_are = ap (λ (a : Settings × ℕ). a.0) answer_is

  frames_are : frames_in p ≡ n
  frames_are = ap (λ (a : Settings × ℕ). a.1) answer_is

  table_is : numbers_of (rows_in p) ++ drop (frames_in p * row_size) t ≡ after
  table_is = ap (λ (o : ReadOutcome). o.table) outcome

  rows_length : length (rows_in p) ≡ frames_in p
  unfolding rows_in
  rows_length = length_tabulate (λ i. row_found (row_in p i)) (frames_in p)

  -- the rows of the table are those read
  rows_read : rows_of after n ≡ rows_in p
  rows_read =
      ap₂ (λ (l : List ℤ) (m : ℕ). rows_of l m) (sym table_is) (sym (rows_length ∙ frames_are)) ∙ rows_back (rows_in p) (drop (frames_in p * row_size) t)

  row_read : (i : ℕ) → i < n → row_at after i ≡ get_or (rows_in p) i no_row
  row_read i l = ap (λ (x : List ℤ). row_at x i) (sym table_is) ∙ row_back (rows_in p) (drop (frames_in p * row_size) t) i (omega (arith, rows_length, frames_are))

  after_long : n ≤ whole_rows after
  after_long =
      let a = ap length (sym table_is) ∙ length-append (numbers_of (rows_in p)) (drop (frames_in p * row_size) t) in
      omega (arith, a, rows_in-length p, frames_are)

  bytes_back : sheet s (rows_of after n) ≡ p
  bytes_back = (λ u. sheet (sym settings_are u) (rows_read u)) ∙ written.page_sheet p bytes (page_sheet p found.fine)

  read_writes : (page : List ℕ) → length p ≤ length page → write_call s n after page ≡ wrote (Ok (length p)) (p ++ drop (length p) page)
  read_writes page l =
      let h = written.page_holds p bytes (page_sheet p found.fine) in
      let a : held_no s ≡ 0 = ap held_no (sym settings_are) ∙ h.settings in
      let b : n ≤ most_frames = omega (arith, h.few, rows_length, frames_are) in
      let r : rows_hold s after n ≡ true =
      hold_all s after n (λ i k. (λ u. row_holds (sym settings_are u) (row_read i k u)) ∙ h.rows i (omega (arith, rows_length, frames_are))) in
      let e = bytes_back in
      let no = no_refusal s n after (length page) a b {m = n} (omega (arith, after_long)) r after_long (omega (arith, ap length e)) in
      write_done s n after page no ∙ ap (λ (x : List ℕ). wrote (Ok (length x)) (x ++ drop (length x) page)) e

-- ---- which pages are read

nine_no_sheet : (p : List ℕ) (t : List ℤ) → (read_call p t).answer ≡ Err 9 → IsSheet p → ⊥
nine_no_sheet p t e w =
    let fine : page_no p ≡ 0 = ap page_no w.same ∙ sheet_page (sheet w.settings w.rows) (sheet_well_formed w.settings w.rows w.holds) in
    by fine (leb (frames_in p) (whole_rows t)) refl
  where
    by : page_no p ≡ 0 → (b : Bool) → leb (frames_in p) (whole_rows t) ≡ b → ⊥
    by fine true f =
        let q = ap (λ (o : ReadOutcome). o.answer) (read_done p t fine (leb-true (frames_in p) (whole_rows t) f)) in
        let z : ◌≡◌ {A = ℕ} 0 1 = cc in
        omega arith
    by fine false f =
        let q = ap (λ (o : ReadOutcome). o.answer) (read_short p t fine (leb-false (frames_in p) (whole_rows t) f)) in
        let z : ◌≡◌ {A = ℕ} 7 9 = cc in
        omega arith

no_sheet_nine : (p : List ℕ) (t : List ℤ) → Bytes p → (IsSheet p → ⊥) → (read_call p t).answer ≡ Err 9
unfolding page_no
no_sheet_nine p t bytes g = by (well_formed p) refl
  where
    by : (b : Bool) → well_formed p ≡ b → (read_call p t).answer ≡ Err 9
    by true e = absurd (g (record { settings = sheet_settings p; rows = rows_in p; holds = written.page_holds p bytes e; same = sym (written.page_sheet p bytes e) }))
    by false e =
        let n : page_no p ≡ 9 = rw e in
        let m : page_no p ≡ 0 → ⊥ = λ z. omega arith in
        ap (λ (o : ReadOutcome). o.answer) (read_malformed p t m) ∙ ap Err n

one_meaning : (s s' : Settings) (rs rs' : List Row) → Holds s rs → Holds s' rs' → sheet s rs ≡ sheet s' rs' → (s ≡ s') × (rs ≡ rs')
one_meaning s s' rs rs' h h' e =
    (sym (settings_read s rs h) ∙ ap sheet_settings e ∙ settings_read s' rs' h', sym (sheet_rows s rs h) ∙ ap rows_in e ∙ sheet_rows s' rs' h')

-- ---- sizes

longest : (s : Settings) (rs : List Row) → length rs ≤ most_frames → length (sheet s rs) ≤ sheet_length most_frames most_frames
longest s rs h = omega (arith, length_sheet s rs, section_entries_le Pairs rs)

length_is : (s : Settings) (rs : List Row) → length (sheet s rs) ≡ sheet_length (length rs) (length (section_entries Pairs rs))
length_is s rs = length_sheet s rs

no_frames : (s : Settings) → length (sheet s []) ≡ 36
unfolding section_entries
no_frames s = length_sheet s []

one_unvoiced : (s : Settings) → length (sheet s (unpitched_row (pos 1) ∷ [])) ≡ 37
unfolding section_entries has_entry unpitched_row eq_z
one_unvoiced s = length_sheet s (unpitched_row (pos 1) ∷ [])

one_voiced : (s : Settings) (index contour correlation : ℤ) → length (sheet s (voiced_row s index contour correlation ∷ [])) ≡ 44
unfolding section_entries has_entry voiced_row eq_z
one_voiced s index contour correlation = length_sheet s (voiced_row s index contour correlation ∷ [])

pub round_trip : RoundTrip
round_trip = record {
  written_reads = λ s n t page k after a b w done into l. written_reads s n t page k after done a b w into l;
  read_writes = λ p t s n after bytes done page l. read_writes p t s n after bytes done page l;
  sheet_reads = sheet_reads;
  sheet_short = sheet_short;
  nine_no_sheet = nine_no_sheet;
  no_sheet_nine = no_sheet_nine;
  one_meaning = one_meaning;
  length_is = length_is;
  no_frames = no_frames;
  one_unvoiced = one_unvoiced;
  one_voiced = one_voiced;
  longest = longest;
}
