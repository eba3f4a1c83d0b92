-- A page that is accepted is the sheet of the settings and rows that it reads as.
use Rattle.std.specs.Prelude.{Some, ◌≡◌, Bool, true, false, ◌⊎◌, eqb, ℤ, pos, drop, refl, List, [], ◌∷◌, ◌++◌, map, ℕ, zero, suc, ◌+◌, ◌*◌, ◌≤◌, ◌<◌, nat_abs, length, get_or, take}
use Rattle.std.proofs.Common.{◌∙◌, inl, inr, add-one, mul-zero, eqb-true, length-drop, take-add, drop-drop, drop-cons, length-take-le, SFits, sym, ap, ap₂, ⊎_elim, arith, take_all}
use Rattle.std.proofs.lemmas.Bool.{eqb-false}
use Rattle.std.specs.Int.{w32}
use Rattle.zint.specs.WrapLaws.{wrap_fits}
use Rattle.lists.specs.Fill.{tabulate}
use Rattle.lists.specs.FillLaws.{length_tabulate, get_d_tabulate}
use Rattle.pitch_table.specs.declared.Row.{Row}
use Rattle.sheet_bytes.specs.Bytes.{Bytes, low_bytes, number_at, signed, signed_at}
use Rattle.sheet_bytes.specs.BytesLaws.{bytes_at, signed_bytes_at, unsigned_bytes_at}
use Rattle.sheet_rows.specs.Rows.{row_of, row_holds}
use Rattle.sheet_rows.specs.RowsLaws.{stands, stands_pair, stands_again, holds_yes}
use Rattle.sheet_sections.specs.declared.Section.{Section}
use Rattle.sheet_sections.specs.declared.Section.TheVariants.{Verdicts, Pairs, Correlations}
use Rattle.sheet_sections.specs.Sheet.{settings_count, count_bytes, setting_bytes, index_bytes, entry_bytes, section_bytes, setting_place, frames_at, verdicts_at, pairs_count_at, pairs_at, correlations_count_at, correlations_at, sheet_length, entry, section_entries, setting_numbers, setting_entries, concat, section, sheet, row_bytes}
use Rattle.sheet_sections.specs.SheetLaws.{rows_bytes, rows_bytes-append, rows_bytes_one, rows_bytes-length, verdicts_count, correlations_count}
use Rattle.sheet_sections.specs.RowBytesLaws.{has_verdict, has_pair, has_correlation, no_pair, no_correlation, bytes_entry, bytes_none}
use Rattle.sheet_page.specs.Page.{sheet_settings, frames_in, verdict_in, voiced_before, voiced_in, pairs_from, pair_place, correlations_from, correlation_place, row_in, row_found, rows_in, well_formed}
use Rattle.sheet_page.specs.PageLaws.{Good, good, places, verdict_within, voiced_yes, voiced_no, row_voiced, row_quiet, row_verdict, first_rows}
use Rattle.pitch_sheet.specs.SheetReadLaws.{quiet_zero}
use Rattle.pitch_sheet.specs.Holds.{no_row, Holds}

module _ (p : List ℕ) where
  -- two stretches of a page, one after the other
  glue : (a b m : ℕ) → take b (drop a p) ++ take m (drop (a + b) p) ≡ take (b + m) (drop a p)
  glue a b m = ap (λ (l : List ℕ). take b (drop a p) ++ take m l) (sym (drop-drop b a p)) ∙ sym (take-add b m (drop a p))

  one_byte : (a : ℕ) → a < length p → get_or p a 0 ∷ [] ≡ take 1 (drop a p)
  one_byte a h = sym (ap (take 1) (drop-cons p a 0 h))

times_next : (w m : ℕ) → w * (m + 1) ≡ w * m + w
times_next w m = omega arith

module _ (p : List ℕ) (bytes : Bytes p) (fine : well_formed p ≡ true) where
  abbrev g : Good p
  g = good p fine

  abbrev n : ℕ
  n = frames_in p

  abbrev v : ℕ
  v = voiced_in p

  abbrev row : ℕ → Row
  row i = row_found (row_in p i)

  row_is : (i : ℕ) → i < frames_in p → row_in p i ≡ Some (row_found (row_in p i))
  row_is i l = g.rows i l

  decide : (i : ℕ) → (verdict_in p i ≡ 0) ⊎ (verdict_in p i ≡ 0 → ⊥)
  decide i = by (eqb (verdict_in p i) 0) refl
    where
      by : (t : Bool) → eqb (verdict_in p i) 0 ≡ t → (verdict_in p i ≡ 0) ⊎ (verdict_in p i ≡ 0 → ⊥)
      by true e = inl (eqb-true (verdict_in p i) 0 e)
      by false e = inr (eqb-false (verdict_in p i) 0 e)

  -- ---- one row's numbers

  module _ (i : ℕ) (l : i < frames_in p) where
    verdict_is : (row i).verdict ≡ pos (verdict_in p i)
    verdict_is = row_verdict p i (row i) (row_is i l)

    voiced : verdict_in p i ≡ 0 → (row i).verdict ≡ pos 0
    voiced z = verdict_is ∙ ap pos z

    not_voiced : (verdict_in p i ≡ 0 → ⊥) → (row i).verdict ≡ pos 0 → ⊥
    not_voiced o e = o (ap nat_abs (sym verdict_is ∙ e))

    row_stands : row_of (sheet_settings p) (row i).verdict (row i).index (row i).contour (row i).correlation ≡ Some (row i)
    row_stands =
        ⊎_elim
        (λ z.
        let a = pos (number_at index_bytes p (pair_place p i)) in
        let b = pos (get_or p (pair_place p i + index_bytes) 0) in
        let c = signed_at p (correlation_place p i) in
        stands_again (sheet_settings p) (pos 0) a b c (row i) (stands (sheet_settings p) (pos 0) a b c (row i) (sym (row_voiced p i z) ∙ row_is i l)))
        (λ o.
        let d = pos (verdict_in p i) in
        stands_again (sheet_settings p) d (pos 0) (pos 0) (pos 0) (row i) (stands (sheet_settings p) d (pos 0) (pos 0) (pos 0) (row i) (sym (row_quiet p i o) ∙ row_is i l)))
        (decide i)

    row_fine : row_holds (sheet_settings p) (row i) ≡ true
    row_fine = holds_yes (sheet_settings p) (row i) row_stands

    numbers : verdict_in p i ≡ 0
        → ((row i).index ≡ pos (number_at index_bytes p (pair_place p i))) × ((row i).contour ≡ pos (get_or p (pair_place p i + index_bytes) 0)) × ((row i).correlation ≡ signed_at p (correlation_place p i))
    numbers z =
        let a = pos (number_at index_bytes p (pair_place p i)) in
        let b = pos (get_or p (pair_place p i + index_bytes) 0) in
        let c = signed_at p (correlation_place p i) in
        stands_pair (sheet_settings p) (pos 0) a b c (row i) (stands (sheet_settings p) (pos 0) a b c (row i) (sym (row_voiced p i z) ∙ row_is i l)) refl

    correlation_fits : SFits w32 (row i).correlation
    unfolding signed_at
    correlation_fits =
        ⊎_elim
        (λ z. rw (numbers z).2 (wrap_fits w32 (pos (number_at 4 p (correlation_place p i)))))
        (λ o. rw (quiet_zero (sheet_settings p) (row i) row_fine (not_voiced o)).2 (record { sfits = omega arith }))
        (decide i)

    -- ---- one row's bytes

    verdict_part : row_bytes Verdicts (row i) ≡ take (entry_bytes Verdicts) (drop (verdicts_at + i) p)
    unfolding entry verdict_in
    verdict_part = bytes_entry Verdicts (row i) (has_verdict (row i)) ∙ ap (λ (x : ℕ). x ∷ []) (ap nat_abs verdict_is) ∙ one_byte p (verdicts_at + i) (verdict_within p g.sizes i l)

    pair_part : verdict_in p i ≡ 0 → row_bytes Pairs (row i) ≡ take (entry_bytes Pairs) (drop (pair_place p i) p)
    unfolding entry
    pair_part z =
        let w = places p g.sizes i l z in
        let a = pair_place p i in
        bytes_entry Pairs (row i) (has_pair (row i) (voiced z))
        ∙ ap₂ (λ (x : List ℕ) (y : List ℕ). x ++ y)
        (ap (λ (k : ℤ). low_bytes index_bytes (nat_abs k)) (numbers z).0 ∙ bytes_at index_bytes p a bytes (omega (arith, w.pair_within)))
        (ap (λ (k : ℤ). nat_abs k ∷ []) (numbers z).1 ∙ one_byte p (a + index_bytes) (omega (arith, w.pair_within)))
        ∙ glue p a index_bytes 1

    correlation_part : verdict_in p i ≡ 0 → row_bytes Correlations (row i) ≡ take (entry_bytes Correlations) (drop (correlation_place p i) p)
    unfolding entry
    correlation_part z =
        let w = places p g.sizes i l z in
        bytes_entry Correlations (row i) (has_correlation (row i) (voiced z)) ∙ ap signed (numbers z).2 ∙ signed_bytes_at p (correlation_place p i) bytes w.correlation_within

  -- ---- a section's bytes, row by row

  rows_bytes_next : (k : Section) (i : ℕ) → rows_bytes k (first_rows p (suc i)) ≡ rows_bytes k (first_rows p i) ++ row_bytes k (row i)
  unfolding tabulate
  rows_bytes_next k i = rows_bytes-append k (first_rows p i) (row i ∷ []) ∙ ap (λ (l : List ℕ). rows_bytes k (first_rows p i) ++ l) (rows_bytes_one k (row i))

  stretch : (k : Section) (a m d i t : ℕ) → rows_bytes k (first_rows p i) ≡ take m (drop a p) → row_bytes k (row i) ≡ take d (drop (a + m) p) → m + d ≡ t → rows_bytes k (first_rows p (suc i)) ≡ take t (drop a p)
  stretch k a m d i t e f q = rows_bytes_next k i ∙ ap₂ (λ (x : List ℕ) (y : List ℕ). x ++ y) e f ∙ glue p a m d ∙ ap (λ (j : ℕ). take j (drop a p)) q

  verdict_bytes : (i : ℕ) → i ≤ frames_in p → rows_bytes Verdicts (first_rows p i) ≡ take (entry_bytes Verdicts * i) (drop verdicts_at p)
  unfolding tabulate section_entries concat
  verdict_bytes zero l = refl
  verdict_bytes (suc i) l =
      let e : verdicts_at + i ≡ verdicts_at + entry_bytes Verdicts * i = omega arith in
      stretch Verdicts verdicts_at (entry_bytes Verdicts * i) (entry_bytes Verdicts) i (entry_bytes Verdicts * suc i)
      (verdict_bytes i (omega arith))
      (verdict_part i (omega arith) ∙ ap (λ (a : ℕ). take (entry_bytes Verdicts) (drop a p)) e)
      (omega arith)

  -- one more verdict
  voiced_suc : (i : ℕ) → verdict_in p i ≡ 0 → voiced_before p (suc i) ≡ voiced_before p i + 1
  voiced_suc i z = ap (voiced_before p) (sym (add-one i)) ∙ voiced_yes p i z

  quiet_suc : (i : ℕ) → (verdict_in p i ≡ 0 → ⊥) → voiced_before p (suc i) ≡ voiced_before p i
  quiet_suc i o = ap (voiced_before p) (sym (add-one i)) ∙ voiced_no p i o

  -- a section with an entry for every voiced frame: its entries stand one after the other from `a` on
  module _ (k : Section) (a : ℕ)
      (some : (i : ℕ) → i < frames_in p → verdict_in p i ≡ 0 → row_bytes k (row i) ≡ take (entry_bytes k) (drop (a + entry_bytes k * voiced_before p i) p))
      (none : (i : ℕ) → i < frames_in p → (verdict_in p i ≡ 0 → ⊥) → row_bytes k (row i) ≡ []) where
    voiced_step : (i : ℕ) → i < frames_in p → rows_bytes k (first_rows p i) ≡ take (entry_bytes k * voiced_before p i) (drop a p) → rows_bytes k (first_rows p (suc i)) ≡ take (entry_bytes k * voiced_before p (suc i)) (drop a p)
    voiced_step i l e =
        let w = entry_bytes k in
        let m = voiced_before p i in
        ⊎_elim
        (λ z. stretch k a (w * m) w i (w * voiced_before p (suc i)) e (some i l z) (sym (ap (λ (j : ℕ). w * j) (voiced_suc i z) ∙ times_next w m)))
        (λ o. stretch k a (w * m) 0 i (w * voiced_before p (suc i)) e (none i l o) (omega (arith, ap (λ (j : ℕ). w * j) (quiet_suc i o))))
        (decide i)

    voiced_bytes : (i : ℕ) → i ≤ frames_in p → rows_bytes k (first_rows p i) ≡ take (entry_bytes k * voiced_before p i) (drop a p)
    unfolding tabulate section_entries concat voiced_before
    voiced_bytes zero l = ap (λ (j : ℕ). take j (drop a p)) (sym (mul-zero (entry_bytes k)))
    voiced_bytes (suc i) l = voiced_step i (omega arith) (voiced_bytes i (omega arith))

  -- ---- the sections

  abbrev rs : List Row
  rs = rows_in p

  long : length p ≡ sheet_length n v
  long = g.sizes.whole

  rows_length : length (rows_in p) ≡ frames_in p
  unfolding rows_in
  rows_length = length_tabulate row (frames_in p)

  pairs_are : rows_bytes Pairs (rows_in p) ≡ take (entry_bytes Pairs * v) (drop (pairs_at n) p)
  unfolding rows_in voiced_in
  pairs_are =
      voiced_bytes Pairs (pairs_at n)
      (λ i l z. pair_part i l z ∙ ap (λ (a : ℕ). take (entry_bytes Pairs) (drop a p)) (places p g.sizes i l z).pair_is)
      (λ i l o. bytes_none Pairs (row i) (no_pair (row i) (not_voiced i l o)))
      n (omega arith)

  correlations_are : rows_bytes Correlations (rows_in p) ≡ take (entry_bytes Correlations * v) (drop (correlations_at n v) p)
  unfolding rows_in voiced_in
  correlations_are =
      voiced_bytes Correlations (correlations_at n v)
      (λ i l z. correlation_part i l z ∙ ap (λ (a : ℕ). take (entry_bytes Correlations) (drop a p)) (places p g.sizes i l z).correlation_is)
      (λ i l o. bytes_none Correlations (row i) (no_correlation (row i) (not_voiced i l o)))
      n (omega arith)

  pairs_count : length (section_entries Pairs (rows_in p)) ≡ v
  pairs_count =
      let a = rows_bytes-length Pairs (rows_in p) in
      let b : length (take (entry_bytes Pairs * v) (drop (pairs_at n) p)) ≡ entry_bytes Pairs * v = length-take-le (entry_bytes Pairs * v) (drop (pairs_at n) p) (rw length-drop (omega (arith, long))) in
      omega (arith, a, ap length pairs_are, b)

  -- a section, from `a` on
  section_taken : (k : Section) (a m : ℕ) → length (section_entries k (rows_in p)) ≡ number_at count_bytes p a → a + count_bytes ≤ length p → rows_bytes k (rows_in p) ≡ take m (drop (a + count_bytes) p) → section (section_entries k (rows_in p)) ≡ take (count_bytes + m) (drop a p)
  unfolding section
  section_taken k a m e l f = ap₂ (λ (x : List ℕ) (y : List ℕ). x ++ y) (ap (low_bytes count_bytes) e ∙ bytes_at count_bytes p a bytes l) f ∙ glue p a count_bytes m

  verdicts_section : section (section_entries Verdicts (rows_in p)) ≡ take (section_bytes (entry_bytes Verdicts) n) (drop frames_at p)
  unfolding frames_in rows_in
  verdicts_section = section_taken Verdicts frames_at (entry_bytes Verdicts * n) (verdicts_count (rows_in p) ∙ rows_length) (omega (arith, long)) (verdict_bytes n (omega arith))

  pairs_section : section (section_entries Pairs (rows_in p)) ≡ take (section_bytes (entry_bytes Pairs) v) (drop (pairs_count_at n) p)
  unfolding pairs_from
  pairs_section = section_taken Pairs (pairs_count_at n) (entry_bytes Pairs * v) (pairs_count ∙ sym g.sizes.pairs) (omega (arith, long)) pairs_are

  correlations_section : section (section_entries Correlations (rows_in p)) ≡ take (section_bytes (entry_bytes Correlations) v) (drop (correlations_count_at n v) p)
  unfolding correlations_from
  correlations_section =
      section_taken Correlations (correlations_count_at n v) (entry_bytes Correlations * v) (correlations_count (rows_in p) ∙ pairs_count ∙ sym g.sizes.correlations) (omega (arith, long)) correlations_are

  -- signed numbers that stand one after the other from `a` on
  numbers_taken : (zs : List ℤ) (a : ℕ) → ((k : ℕ) → k < length zs → signed (get_or zs k (pos 0)) ≡ take setting_bytes (drop (a + setting_bytes * k) p)) → concat (map signed zs) ≡ take (setting_bytes * length zs) (drop a p)
  unfolding concat
  numbers_taken [] a each = refl
  numbers_taken (z ∷ zs) a each =
      let none : a + setting_bytes * 0 ≡ a = omega arith in
      let next : (k : ℕ) → a + setting_bytes * suc k ≡ a + setting_bytes + setting_bytes * k = λ k. omega arith in
      let all : setting_bytes + setting_bytes * length zs ≡ setting_bytes * suc (length zs) = omega arith in
      ap₂ (λ (x : List ℕ) (y : List ℕ). x ++ y)
      (each 0 (omega arith) ∙ ap (λ (m : ℕ). take setting_bytes (drop m p)) none)
      (numbers_taken zs (a + setting_bytes) (λ k l. each (suc k) (omega arith) ∙ ap (λ (m : ℕ). take setting_bytes (drop m p)) (next k)))
      ∙ glue p a setting_bytes (setting_bytes * length zs)
      ∙ ap (λ (m : ℕ). take m (drop a p)) all

  -- each setting's bytes
  setting_part : (k : ℕ) → k < length (setting_numbers (sheet_settings p)) → signed (get_or (setting_numbers (sheet_settings p)) k (pos 0)) ≡ take setting_bytes (drop (setting_place k) p)
  unfolding setting_numbers sheet_settings
  setting_part zero l = unsigned_bytes_at p (setting_place 0) bytes (omega (arith, g.head.long))
  setting_part (suc zero) l = unsigned_bytes_at p (setting_place 1) bytes (omega (arith, g.head.long))
  setting_part (suc (suc zero)) l = unsigned_bytes_at p (setting_place 2) bytes (omega (arith, g.head.long))
  setting_part (suc (suc (suc zero))) l = signed_bytes_at p (setting_place 3) bytes (omega (arith, g.head.long))
  setting_part (suc (suc (suc (suc zero)))) l = signed_bytes_at p (setting_place 4) bytes (omega (arith, g.head.long))
  setting_part (suc (suc (suc (suc (suc k))))) l = absurd (omega arith)

  settings_section : section (setting_entries (sheet_settings p)) ≡ take frames_at (drop 0 p)
  unfolding section setting_numbers
  settings_section =
      let zs = setting_numbers (sheet_settings p) in
      ap₂ (λ (x : List ℕ) (y : List ℕ). x ++ y)
      (ap (low_bytes count_bytes) (sym g.head.count) ∙ bytes_at count_bytes p 0 bytes (omega (arith, g.head.long)))
      (numbers_taken zs count_bytes setting_part)
      ∙ glue p 0 count_bytes (setting_bytes * settings_count)

  -- ---- the page

  pub page_sheet : sheet (sheet_settings p) (rows_in p) ≡ p
  unfolding sheet
  page_sheet =
      let a = section_bytes (entry_bytes Verdicts) n in
      let b = section_bytes (entry_bytes Pairs) v in
      let c = section_bytes (entry_bytes Correlations) v in
      let d : pairs_count_at n ≡ 0 + (frames_at + a) = omega arith in
      let e : correlations_count_at n v ≡ 0 + (frames_at + a + b) = omega arith in
      let ab = ap₂ (λ (x : List ℕ) (y : List ℕ). x ++ y) settings_section verdicts_section ∙ glue p 0 frames_at a in
      let abc = ap₂ (λ (x : List ℕ) (y : List ℕ). x ++ y) ab (pairs_section ∙ ap (λ (m : ℕ). take b (drop m p)) d) ∙ glue p 0 (frames_at + a) b in
      ap₂ (λ (x : List ℕ) (y : List ℕ). x ++ y) abc (correlations_section ∙ ap (λ (m : ℕ). take c (drop m p)) e)
      ∙ glue p 0 (frames_at + a + b) c
      ∙ take_all (frames_at + a + b + c) p (omega (arith, long))

  pub page_holds : Holds (sheet_settings p) (rows_in p)
  unfolding rows_in sheet_settings signed_at
  page_holds =
      let at : (i : ℕ) → i < frames_in p → get_or (rows_in p) i no_row ≡ row i = λ i l. get_d_tabulate row (frames_in p) i no_row l in
      record {
        settings = g.head.settings;
        thres1 = wrap_fits w32 (pos (number_at 4 p (setting_place 3)));
        thres2 = wrap_fits w32 (pos (number_at 4 p (setting_place 4)));
        few = rw rows_length g.head.few;
        rows = λ i l. let k : i < frames_in p = omega (arith, rows_length) in rw (at i k) (row_fine i k);
        correlations = λ i l. let k : i < frames_in p = omega (arith, rows_length) in rw (at i k) (correlation_fits i k);
      }
