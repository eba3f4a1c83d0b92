-- What a page that is a sheet says, place by place, and the steps by which the code reads it.
use Rattle.std.specs.Prelude.{◌≡◌, Bool, ◌&&◌, ℕ, zero, suc, ◌+◌, ◌-◌, ◌*◌, ◌≤◌, ◌<◌, ℤ, pos, get_or, take, drop, count_by, ◌==◌, Option, Some, None, refl, true, false, cond, List, [], ◌∷◌, ◌++◌, eqb, leb, length}
use Rattle.std.proofs.Common.{◌∙◌, ap₂, add-one, length-drop, length-append, of_z, sym, ap, append_assoc, add-zero, arith, eqb-true, leb-true, eq-eqb, ne_eqb, le-leb, get_or-drop}
use Rattle.std.proofs.lemmas.Bool.{false≢true, eqb-false}
use Rattle.std.proofs.Math.Seq.{sets}
use Rattle.std.proofs.lemmas.List.Sums.{sum_by_more}
use Rattle.std.specs.Int.{w32}
use Rattle.best.specs.BestLaws.{every_true, every_false}
use Rattle.lists.specs.Fill.{tabulate}
use Rattle.lists.specs.FillLaws.{length_tabulate}
use Rattle.zint.specs.BoolLaws.{and_left, and_right}
use Rattle.pitch_settings.specs.Settings.{held_no}
use Rattle.pitch_table.specs.declared.Row.{Row}
use Rattle.pitch_table.specs.Row.{row_size, most_frames, numbers}
use Rattle.sheet_bytes.specs.Bytes.{number_at, signed_at}
use Rattle.sheet_rows.specs.Rows.{row_of}
use Rattle.sheet_rows.specs.RowsLaws.{stands, stands_verdict}
use Rattle.sheet_sections.specs.declared.Section.TheVariants.{Pairs, Correlations}
use Rattle.sheet_sections.specs.Sheet.{settings_count, count_bytes, index_bytes, entry_bytes, verdicts_at, pairs_at, correlations_at, sheet_length}
use Rattle.lists.specs.PutLaws.{sets_append}
use Rattle.sheet_page.specs.Page.{sheet_settings, frames_in, verdict_in, voiced_before, voiced_in, pairs_from, pair_place, correlations_from, correlation_place, row_in, readable, head_good, sizes_good, rows_good, well_formed, row_found, numbers_of}

module _ (p : List ℕ) where
  -- ---- the tests

  pub record GoodHead : Type 0 where
    pub long : verdicts_at ≤ length p
    pub count : number_at count_bytes p 0 ≡ settings_count
    pub settings : held_no (sheet_settings p) ≡ 0
    pub few : frames_in p ≤ most_frames

  pub head_means : head_good p ≡ true → GoodHead
  unfolding head_good
  head_means h =
      let c = eqb (held_no (sheet_settings p)) 0 && leb (frames_in p) most_frames in
      let b = eqb (number_at count_bytes p 0) settings_count && c in
      let k = and_right (leb verdicts_at (length p)) b h in
      let l = and_right (eqb (number_at count_bytes p 0) settings_count) c k in
      record {
        long = leb-true verdicts_at (length p) (and_left (leb verdicts_at (length p)) b h);
        count = eqb-true (number_at count_bytes p 0) settings_count (and_left (eqb (number_at count_bytes p 0) settings_count) c k);
        settings = eqb-true (held_no (sheet_settings p)) 0 (and_left (eqb (held_no (sheet_settings p)) 0) (leb (frames_in p) most_frames) l);
        few = leb-true (frames_in p) most_frames (and_right (eqb (held_no (sheet_settings p)) 0) (leb (frames_in p) most_frames) l);
      }

  pub head_yes : GoodHead → head_good p ≡ true
  unfolding head_good
  head_yes g = rw (le-leb verdicts_at (length p) g.long, eq-eqb (number_at count_bytes p 0) settings_count g.count, eq-eqb (held_no (sheet_settings p)) 0 g.settings) (le-leb (frames_in p) most_frames g.few)

  pub record GoodSizes : Type 0 where
    pub whole : length p ≡ sheet_length (frames_in p) (voiced_in p)
    pub pairs : number_at count_bytes p (pairs_from p) ≡ voiced_in p
    pub correlations : number_at count_bytes p (correlations_from p) ≡ voiced_in p

  pub sizes_means : sizes_good p ≡ true → GoodSizes
  unfolding sizes_good
  sizes_means h =
      let a = eqb (length p) (sheet_length (frames_in p) (voiced_in p)) in
      let b = eqb (number_at count_bytes p (pairs_from p)) (voiced_in p) in
      let c = eqb (number_at count_bytes p (correlations_from p)) (voiced_in p) in
      let k = and_right a (b && c) h in
      record {
        whole = eqb-true (length p) (sheet_length (frames_in p) (voiced_in p)) (and_left a (b && c) h);
        pairs = eqb-true (number_at count_bytes p (pairs_from p)) (voiced_in p) (and_left b c k);
        correlations = eqb-true (number_at count_bytes p (correlations_from p)) (voiced_in p) (and_right b c k);
      }

  pub sizes_yes : GoodSizes → sizes_good p ≡ true
  unfolding sizes_good
  sizes_yes g =
      rw (eq-eqb (length p) (sheet_length (frames_in p) (voiced_in p)) g.whole, eq-eqb (number_at count_bytes p (pairs_from p)) (voiced_in p) g.pairs)
      (eq-eqb (number_at count_bytes p (correlations_from p)) (voiced_in p) g.correlations)

  -- ---- voiced verdicts

  pub voiced_none : voiced_before p 0 ≡ 0
  unfolding voiced_before
  voiced_none = refl

  pub voiced_yes : (i : ℕ) → verdict_in p i ≡ 0 → voiced_before p (i + 1) ≡ voiced_before p i + 1
  unfolding voiced_before
  voiced_yes i e = rw (add-one i) (ap (λ (t : Bool). voiced_before p i + cond t 1 0) (eq-eqb (verdict_in p i) 0 e))

  pub voiced_no : (i : ℕ) → (verdict_in p i ≡ 0 → ⊥) → voiced_before p (i + 1) ≡ voiced_before p i
  unfolding voiced_before
  voiced_no i g = rw (add-one i) (ap (λ (t : Bool). voiced_before p i + cond t 1 0) (ne_eqb (verdict_in p i) 0 g) ∙ add-zero (voiced_before p i))

  step : (i : ℕ) → (voiced_before p i ≤ voiced_before p (suc i)) × (voiced_before p (suc i) ≤ voiced_before p i + 1)
  unfolding voiced_before
  step i = by (eqb (verdict_in p i) 0)
    where
      by : (t : Bool) → (voiced_before p i ≤ voiced_before p i + cond t 1 0) × (voiced_before p i + cond t 1 0 ≤ voiced_before p i + 1)
      by true = (omega arith, omega arith)
      by false = (omega arith, omega arith)

  pub voiced_le : (i : ℕ) → voiced_before p i ≤ i
  voiced_le zero = omega (arith, voiced_none)
  voiced_le (suc i) = omega (arith, voiced_le i, (step i).1)

  grows : (i d : ℕ) → voiced_before p i ≤ voiced_before p (i + d)
  grows i zero = rw (add-zero i) (omega arith)
  grows i (suc d) = let e : i + suc d ≡ suc (i + d) = omega arith in rw e (omega (arith, grows i d, (step (i + d)).0))

  pub voiced_room : (i n : ℕ) → i < n → verdict_in p i ≡ 0 → voiced_before p i + 1 ≤ voiced_before p n
  voiced_room i n h e =
      let d = n - (i + 1) in
      let m : i + 1 + d ≡ n = omega arith in
      let l : voiced_before p (i + 1) ≤ voiced_before p n = rw m at (grows (i + 1) d) in
      omega (arith, l, voiced_yes i e)

  -- they number the verdicts that are 0, among the bytes that hold them
  pub voiced_counted : (n : ℕ) → verdicts_at + n ≤ length p → count_by (λ v. v == 0) (take n (drop verdicts_at p)) ≡ voiced_before p n
  unfolding voiced_before verdict_in
  voiced_counted zero h = refl
  voiced_counted (suc n) h =
      let vs = drop verdicts_at p in
      let l : n < length vs = omega (arith, length-drop verdicts_at p) in
      let e : suc n ≡ n + 1 = omega arith in
      ap (λ (m : ℕ). count_by (λ v. v == 0) (take m vs)) e
      ∙ sum_by_more (λ v. cond (v == 0) 1 0) vs n 0 l
      ∙ ap₂ (λ (m v : ℕ). m + cond (v == 0) 1 0) (voiced_counted n (omega arith)) (get_or-drop verdicts_at p n 0)

  pub voiced_in_le : voiced_in p ≤ frames_in p
  unfolding voiced_in
  voiced_in_le = voiced_le (frames_in p)

  -- ---- the places of a voiced frame lie within the page

  pub record Places (i : ℕ) : Type 0 where
    pub pair_is : pair_place p i ≡ pairs_at (frames_in p) + entry_bytes Pairs * voiced_before p i
    pub pair_within : pair_place p i + entry_bytes Pairs ≤ length p
    pub correlation_is : correlation_place p i ≡ correlations_at (frames_in p) (voiced_in p) + entry_bytes Correlations * voiced_before p i
    pub correlation_within : correlation_place p i + entry_bytes Correlations ≤ length p

  pub places : GoodSizes → (i : ℕ) → i < frames_in p → verdict_in p i ≡ 0 → Places i
  unfolding voiced_in pairs_from pair_place correlations_from correlation_place
  places g i h e =
      let r = voiced_room i (frames_in p) h e in
      let w = g.whole in
      record {
        pair_is = omega arith;
        pair_within = omega arith;
        correlation_is = omega arith;
        correlation_within = omega arith;
      }

  pub small : GoodHead → GoodSizes → length p ≤ sheet_length most_frames most_frames
  small g z = omega (arith, g.few, z.whole, voiced_in_le)

  pub verdict_within : GoodSizes → (i : ℕ) → i < frames_in p → verdicts_at + i < length p
  verdict_within z i h = omega (arith, z.whole)

  -- ---- rows

  pub row_voiced : (i : ℕ) → verdict_in p i ≡ 0
      → row_in p i ≡ row_of (sheet_settings p) (pos 0) (pos (number_at index_bytes p (pair_place p i))) (pos (get_or p (pair_place p i + index_bytes) 0)) (signed_at p (correlation_place p i))
  unfolding row_in
  row_voiced i e = rw (eq-eqb (verdict_in p i) 0 e)

  pub row_quiet : (i : ℕ) → (verdict_in p i ≡ 0 → ⊥) → row_in p i ≡ row_of (sheet_settings p) (pos (verdict_in p i)) (pos 0) (pos 0) (pos 0)
  unfolding row_in
  row_quiet i g = rw (ne_eqb (verdict_in p i) 0 g)

  pub row_verdict : (i : ℕ) (r : Row) → row_in p i ≡ Some r → r.verdict ≡ pos (verdict_in p i)
  row_verdict i r h = by (eqb (verdict_in p i) 0) refl
    where
      from : (v index contour correlation : ℤ) → row_of (sheet_settings p) v index contour correlation ≡ Some r → r.verdict ≡ v
      from v index contour correlation q = stands_verdict (sheet_settings p) v index contour correlation r (stands (sheet_settings p) v index contour correlation r q)

      by : (t : Bool) → eqb (verdict_in p i) 0 ≡ t → r.verdict ≡ pos (verdict_in p i)
      by true e =
          let z : verdict_in p i ≡ 0 = eqb-true (verdict_in p i) 0 e in
          from (pos 0) (pos (number_at index_bytes p (pair_place p i))) (pos (get_or p (pair_place p i + index_bytes) 0)) (signed_at p (correlation_place p i)) (sym (row_voiced i z) ∙ h) ∙ ap pos (sym z)
      by false e = from (pos (verdict_in p i)) (pos 0) (pos 0) (pos 0) (sym (row_quiet i (eqb-false (verdict_in p i) 0 e)) ∙ h)

  -- the voiced verdicts counted so far, and the row that was read: one more where it is voiced
  module _ (i : ℕ) (r : Row) (h : row_in p i ≡ Some r) where
    bits : of_z w32 r.verdict ≡ verdict_in p i
    bits = ap (of_z w32) (row_verdict i r h)

    pub counted_voiced : {before after : ℕ} → before ≡ voiced_before p i → after ≡ before + 1 → of_z w32 r.verdict ≡ 0 → after ≡ voiced_before p (i + 1)
    counted_voiced counted n e = n ∙ ap (λ (m : ℕ). m + 1) counted ∙ sym (voiced_yes i (sym bits ∙ e))

    pub counted_quiet : {before after : ℕ} → before ≡ voiced_before p i → after ≡ before → (of_z w32 r.verdict ≡ 0 → ⊥) → after ≡ voiced_before p (i + 1)
    counted_quiet counted n g = n ∙ counted ∙ sym (voiced_no i (λ e. g (bits ∙ e)))

  pub rows_yes : ((i : ℕ) → i < frames_in p → readable (row_in p i) ≡ true) → rows_good p ≡ true
  unfolding rows_good
  rows_yes h = every_true (frames_in p) (λ i. readable (row_in p i)) h

  pub rows_no : (i : ℕ) → i < frames_in p → row_in p i ≡ None → rows_good p ≡ false
  unfolding rows_good readable
  rows_no i h e = every_false (frames_in p) (λ i. readable (row_in p i)) i h (ap readable e)

  pub rows_means : rows_good p ≡ true → (i : ℕ) → i < frames_in p → row_in p i ≡ Some (row_found (row_in p i))
  unfolding row_found
  rows_means h i l = by (row_in p i) refl
    where
      by : (q : Option Row) → row_in p i ≡ q → q ≡ Some (row_found q)
      by (Some r) e = refl
      by None e = absurd (false≢true (sym (rows_no i l e) ∙ h))

  -- ---- a sheet

  pub record Good : Type 0 where
    pub head : GoodHead
    pub sizes : GoodSizes
    pub rows : (i : ℕ) → i < frames_in p → row_in p i ≡ Some (row_found (row_in p i))

  pub good : well_formed p ≡ true → Good
  unfolding well_formed
  good h =
      let k = and_right (head_good p) (sizes_good p && rows_good p) h in
      record {
        head = head_means (and_left (head_good p) (sizes_good p && rows_good p) h);
        sizes = sizes_means (and_left (sizes_good p) (rows_good p) k);
        rows = rows_means (and_right (sizes_good p) (rows_good p) k);
      }

  pub good_tests : well_formed p ≡ true → (head_good p ≡ true) × (sizes_good p ≡ true)
  good_tests h = let g = good h in (head_yes g.head, sizes_yes g.sizes)

  pub never_bad : rows_good p ≡ true → (i : ℕ) → i < frames_in p → row_in p i ≡ None → ⊥
  never_bad h i l e = false≢true (sym (rows_no i l e) ∙ h)

  -- ---- the rows, one by one

  -- the first i rows
  abbrev pub first_rows : ℕ → List Row
  first_rows i = tabulate (λ k. row_found (row_in p k)) i

-- ---- the numbers of rows

pub numbers_append : (xs ys : List Row) → numbers_of (xs ++ ys) ≡ numbers_of xs ++ numbers_of ys
unfolding numbers_of
numbers_append [] ys = refl
numbers_append (r ∷ xs) ys = ap (λ (l : List ℤ). numbers r ++ l) (numbers_append xs ys) ∙ sym (append_assoc (numbers r) (numbers_of xs) (numbers_of ys))

pub numbers_length : (rs : List Row) → length (numbers_of rs) ≡ length rs * row_size
unfolding numbers_of
numbers_length [] = refl
numbers_length (r ∷ rs) = length-append (numbers r) (numbers_of rs) ∙ omega (arith, numbers_length rs)

module _ (p : List ℕ) (t : List ℤ) where
  pub put_none : t ≡ sets t 0 (numbers_of (first_rows p 0))
  unfolding tabulate numbers_of
  put_none = refl

  pub put_next : (i : ℕ) {l : List ℤ} {r : Row} → l ≡ sets t 0 (numbers_of (first_rows p i)) → row_in p i ≡ Some r → sets l (i * row_size) (numbers r) ≡ sets t 0 (numbers_of (first_rows p (i + 1)))
  unfolding tabulate numbers_of row_found
  put_next i {l} {r} e h =
      let q : r ≡ row_found (row_in p i) = sym (ap row_found h) in
      let n : i * row_size ≡ 0 + length (numbers_of (first_rows p i)) = omega (arith, numbers_length (first_rows p i), length_tabulate (λ k. row_found (row_in p k)) i) in
      let m : numbers_of (first_rows p i) ++ numbers r ≡ numbers_of (first_rows p (i + 1)) =
      ap (λ (x : Row). numbers_of (first_rows p i) ++ numbers x) q
      ∙ sym (numbers_append (first_rows p i) (row_found (row_in p i) ∷ []))
      ∙ ap (λ (j : ℕ). numbers_of (first_rows p j)) (sym (add-one i)) in
      ap (λ (s : List ℤ). sets s (i * row_size) (numbers r)) e ∙ sets_append t (numbers_of (first_rows p i)) (numbers r) 0 (i * row_size) n ∙ ap (sets t 0) m
