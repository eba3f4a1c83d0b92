-- A page that is the sheet of settings and rows reads back to them.
use Rattle.std.specs.Prelude.{Some, ◌≡◌, refl, Bool, true, false, cond, ◌⊎◌, eqb, ℤ, pos, take, drop, List, [], ◌∷◌, ◌++◌, map, ℕ, zero, suc, ◌+◌, ◌*◌, ◌^◌, ◌≤◌, ◌<◌, nat_abs, length, get_or}
use Rattle.std.proofs.Common.{◌∙◌, inl, inr, ⊎_elim, add-zero, add-one, eqb-true, length-append, take-suc, get_or-append-add, length-take-le, sym, ap, ap₂, append_assoc, append-nil, arith}
use Rattle.std.proofs.lemmas.Bool.{eqb-false}
use Rattle.std.proofs.Math.Seq.{split_at, drop-append-add, get_or-append_seam, take-length}
use Rattle.std.specs.Int.{w32}
use Rattle.zint.specs.Wrap.{wrap}
use Rattle.lists.specs.FillLaws.{tabulate_is}
use Rattle.pitch_settings.specs.declared.Settings.{Settings}
use Rattle.pitch_settings.specs.Settings.{held_no}
use Rattle.pitch_settings.specs.SettingsLaws.{held_settings}
use Rattle.pitch_table.specs.declared.Row.{Row}
use Rattle.pitch_table.specs.Row.{most_frames}
use Rattle.sheet_bytes.specs.Bytes.{low_bytes, number, number_at, word, signed, signed_at}
use Rattle.sheet_bytes.specs.BytesLaws.{length_bytes, length_signed, number_at_bytes, word_lt, word_nat, signed_word}
use Rattle.pitch_table.specs.Row.{unpitched_row}
use Rattle.sheet_rows.specs.Rows.{FieldsFit, row_of, row_holds}
use Rattle.sheet_rows.specs.RowsLaws.{Stands, voiced, unpitched, stands, holds_means, holds_fit}
use Rattle.sheet_sections.specs.declared.Section.{Section}
use Rattle.sheet_sections.specs.declared.Section.TheVariants.{Verdicts, Pairs, Correlations}
use Rattle.sheet_sections.specs.Sheet.{settings_count, count_bytes, setting_bytes, index_bytes, entry_bytes, setting_place, frames_at, verdicts_at, pairs_count_at, correlations_count_at, correlations_at, sheet_length, has_entry, entry, section_entries, setting_numbers, setting_entries, concat, section, sheet, row_bytes}
use Rattle.sheet_sections.specs.SheetLaws.{section_entries-append, rows_bytes, rows_bytes-append, rows_bytes_one, rows_bytes-length, verdicts_count, correlations_count, section_entries_le, section_length, settings_length, length_sheet}
use Rattle.sheet_sections.specs.RowBytesLaws.{has_verdict, has_pair, has_correlation, no_pair, bytes_entry}
use Rattle.sheet_page.specs.Page.{sheet_settings, frames_in, verdict_in, voiced_before, voiced_in, pairs_from, pair_place, correlations_from, correlation_place, row_in, readable, row_found, rows_in, well_formed}
use Rattle.sheet_page.specs.PageLaws.{head_yes, sizes_yes, rows_yes, voiced_none, voiced_yes, voiced_no, row_voiced, row_quiet}
use Rattle.pitch_sheet.specs.Holds.{no_row, Holds}

-- ---- reading past the front of a list

skip : (k : ℕ) (xs ys : List ℕ) (a b : ℕ) → length xs ≡ a → number_at k (xs ++ ys) (a + b) ≡ number_at k ys b
unfolding number_at number
skip k xs ys a b e = ap (λ (n : ℕ). number (take k (drop (n + b) (xs ++ ys)))) (sym e) ∙ ap (λ (l : List ℕ). number (take k l)) (drop-append-add xs ys b)

here : (k n : ℕ) (ys : List ℕ) → n < 256 ^ k → number_at k (low_bytes k n ++ ys) 0 ≡ n
here k n ys h = number_at_bytes [] ys 0 refl k n h

here_signed : (z : ℤ) (ys : List ℕ) → number_at 4 (signed z ++ ys) 0 ≡ word z
unfolding signed
here_signed z ys = here count_bytes (word z) ys (word_lt z)

get_or_skip : (xs ys : List ℕ) (a b : ℕ) → length xs ≡ a → get_or (xs ++ ys) (a + b) 0 ≡ get_or ys b 0
get_or_skip xs ys a b e = ap (λ (n : ℕ). get_or (xs ++ ys) (n + b) 0) (sym e) ∙ get_or-append-add xs ys b 0

-- setting k of those that stand one after the other
setting_at : (zs : List ℤ) (rest : List ℕ) (k : ℕ) → k < length zs → number_at setting_bytes (concat (map signed zs) ++ rest) (setting_bytes * k) ≡ word (get_or zs k (pos 0))
unfolding concat
setting_at [] rest k h = absurd (omega arith)
setting_at (z ∷ zs) rest zero h =
    ap (λ (l : List ℕ). number_at setting_bytes l 0) (append_assoc (signed z) (concat (map signed zs)) rest) ∙ here_signed z (concat (map signed zs) ++ rest)
setting_at (z ∷ zs) rest (suc k) h =
    let e : setting_bytes * suc k ≡ setting_bytes + setting_bytes * k = omega arith in
    ap₂ (λ (l : List ℕ) (m : ℕ). number_at setting_bytes l m) (append_assoc (signed z) (concat (map signed zs)) rest) e
    ∙ skip setting_bytes (signed z) (concat (map signed zs) ++ rest) setting_bytes (setting_bytes * k) (length_signed z)
    ∙ setting_at zs rest k (omega arith)

-- ---- one row's bytes among those of all

module _ (k : Section) (rs : List Row) where
  pub rows_bytes_split : (i : ℕ) → i < length rs → rows_bytes k rs ≡ rows_bytes k (take i rs) ++ (row_bytes k (get_or rs i no_row) ++ rows_bytes k (drop (suc i) rs))
  rows_bytes_split i h =
      let r = get_or rs i no_row in
      ap (rows_bytes k) (split_at rs i no_row h)
      ∙ rows_bytes-append k (take i rs) (r ∷ drop (suc i) rs)
      ∙ ap (λ (l : List ℕ). rows_bytes k (take i rs) ++ l) (rows_bytes-append k (r ∷ []) (drop (suc i) rs) ∙ ap (λ (l : List ℕ). l ++ rows_bytes k (drop (suc i) rs)) (rows_bytes_one k r))

  -- entries of one row more
  next : (i : ℕ) → i < length rs → length (section_entries k (take (suc i) rs)) ≡ length (section_entries k (take i rs)) + length (section_entries k (get_or rs i no_row ∷ []))
  next i h =
      ap (λ (l : List Row). length (section_entries k l)) (take-suc rs i no_row h)
      ∙ ap length (section_entries-append k (take i rs) (get_or rs i no_row ∷ []))
      ∙ length-append (section_entries k (take i rs)) (section_entries k (get_or rs i no_row ∷ []))

one : (k : Section) (r : Row) (t : Bool) → has_entry k r ≡ t → length (section_entries k (r ∷ [])) ≡ cond t 1 0
unfolding section_entries
one k r true e = rw e
one k r false e = rw e

-- a row that is not voiced has no pair and no correlation
pub quiet_zero : (s : Settings) (r : Row) → row_holds s r ≡ true → (r.verdict ≡ pos 0 → ⊥) → (r.index ≡ pos 0) × (r.contour ≡ pos 0) × (r.correlation ≡ pos 0)
unfolding unpitched_row
quiet_zero s r h g = by (stands s r.verdict r.index r.contour r.correlation r (holds_means s r h))
  where
    by : Stands s r.verdict r.index r.contour r.correlation r → (r.index ≡ pos 0) × (r.contour ≡ pos 0) × (r.correlation ≡ pos 0)
    by (voiced e k q) = absurd (g e)
    by (unpitched e q) = (ap (λ (x : Row). x.index) q, ap (λ (x : Row). x.contour) q, ap (λ (x : Row). x.correlation) q)

long_enough : (n v : ℕ) → verdicts_at ≤ sheet_length n v
long_enough n v = omega arith

-- ---- the sections of a sheet, where they stand

module _ (s : Settings) (rs : List Row) where
  abbrev head_part : List ℕ
  head_part = section (setting_entries s)

  abbrev verdicts_part : List ℕ
  verdicts_part = section (section_entries Verdicts rs)

  abbrev pairs_part : List ℕ
  pairs_part = section (section_entries Pairs rs)

  abbrev correlations_part : List ℕ
  correlations_part = section (section_entries Correlations rs)

  abbrev after_head : List ℕ
  after_head = verdicts_part ++ (pairs_part ++ correlations_part)

  -- the settings' count, and the settings
  settings_first : sheet s rs ≡ low_bytes count_bytes settings_count ++ (concat (map signed (setting_numbers s)) ++ after_head)
  unfolding sheet section setting_numbers
  settings_first = simp append_assoc

  verdicts_split : sheet s rs ≡ head_part ++ (low_bytes count_bytes (length (section_entries Verdicts rs)) ++ (rows_bytes Verdicts rs ++ (pairs_part ++ correlations_part)))
  unfolding sheet section
  verdicts_split = simp append_assoc

  pairs_split : sheet s rs ≡ (head_part ++ verdicts_part) ++ (low_bytes count_bytes (length (section_entries Pairs rs)) ++ (rows_bytes Pairs rs ++ correlations_part))
  unfolding sheet section
  pairs_split = simp append_assoc

  correlations_split : sheet s rs ≡ (head_part ++ verdicts_part ++ pairs_part) ++ (low_bytes count_bytes (length (section_entries Correlations rs)) ++ (rows_bytes Correlations rs ++ []))
  unfolding sheet section
  correlations_split = simp (append_assoc, append-nil)

  -- how long what stands before them is
  before_pairs : length (head_part ++ verdicts_part) ≡ pairs_count_at (length rs)
  before_pairs = length-append head_part verdicts_part ∙ omega (arith, settings_length s, section_length Verdicts rs, verdicts_count rs)

  before_correlations : length (head_part ++ verdicts_part ++ pairs_part) ≡ correlations_count_at (length rs) (length (section_entries Pairs rs))
  before_correlations = length-append (head_part ++ verdicts_part) pairs_part ∙ omega (arith, before_pairs, section_length Pairs rs)

module _ (s : Settings) (rs : List Row) (h : Holds s rs) where
  abbrev p : List ℕ
  p = sheet s rs

  abbrev n : ℕ
  n = length rs

  abbrev v : ℕ
  v = length (section_entries Pairs rs)

  -- ---- the settings

  few_voiced : v ≤ most_frames
  few_voiced = omega (arith, section_entries_le Pairs rs, h.few)

  counted : number_at count_bytes p 0 ≡ settings_count
  counted =
      ap (λ (l : List ℕ). number_at count_bytes l 0) (settings_first s rs)
      ∙ here count_bytes settings_count (concat (map signed (setting_numbers s)) ++ after_head s rs) (omega arith)

  setting_is : (k : ℕ) → k < length (setting_numbers s) → number_at setting_bytes p (setting_place k) ≡ word (get_or (setting_numbers s) k (pos 0))
  setting_is k l =
      let zs = setting_numbers s in
      ap (λ (x : List ℕ). number_at setting_bytes x (setting_place k)) (settings_first s rs)
      ∙ skip setting_bytes (low_bytes count_bytes settings_count) (concat (map signed zs) ++ after_head s rs) count_bytes (setting_bytes * k) (length_bytes count_bytes settings_count)
      ∙ setting_at zs (after_head s rs) k l

  settings_are : sheet_settings p ≡ s
  unfolding sheet_settings signed_at setting_numbers
  settings_are =
      let a = held_settings s h.settings in
      let u : number_at setting_bytes p (setting_place 0) ≡ s.rate = setting_is 0 (omega arith) ∙ word_nat s.rate (omega (arith, a.rate_high)) in
      let w : number_at setting_bytes p (setting_place 1) ≡ s.nb = setting_is 1 (omega arith) ∙ word_nat s.nb (omega (arith, a.nb_high)) in
      let x : number_at setting_bytes p (setting_place 2) ≡ s.complexity = setting_is 2 (omega arith) ∙ word_nat s.complexity (omega (arith, a.complexity)) in
      let y : wrap w32 (pos (number_at 4 p (setting_place 3))) ≡ s.thres1 = ap (λ (m : ℕ). wrap w32 (pos m)) (setting_is 3 (omega arith)) ∙ signed_word s.thres1 h.thres1 in
      let z : wrap w32 (pos (number_at 4 p (setting_place 4))) ≡ s.thres2 = ap (λ (m : ℕ). wrap w32 (pos m)) (setting_is 4 (omega arith)) ∙ signed_word s.thres2 h.thres2 in
      λ i. record { rate = u i; nb = w i; complexity = x i; thres1 = y i; thres2 = z i }

  frames_are : frames_in p ≡ n
  unfolding frames_in
  frames_are =
      let rest = rows_bytes Verdicts rs ++ (pairs_part s rs ++ correlations_part s rs) in
      ap (λ (l : List ℕ). number_at count_bytes l frames_at) (verdicts_split s rs)
      ∙ skip count_bytes (head_part s rs) (low_bytes count_bytes (length (section_entries Verdicts rs)) ++ rest) frames_at 0 (settings_length s)
      ∙ here count_bytes (length (section_entries Verdicts rs)) rest (omega (arith, verdicts_count rs, h.few))
      ∙ verdicts_count rs

  whole : length p ≡ sheet_length n v
  whole = length_sheet s rs

  -- ---- a frame's row

  module _ (i : ℕ) (l : i < length rs) where
    abbrev r : Row
    r = get_or rs i no_row

    fine : row_holds s r ≡ true
    fine = h.rows i l

    small : FieldsFit r
    small = holds_fit s r fine

    take_length_i : length (take i rs) ≡ i
    take_length_i = length-take-le i rs (omega arith)

    verdict_is : verdict_in p i ≡ nat_abs r.verdict
    unfolding verdict_in entry
    verdict_is =
        let before = rows_bytes Verdicts (take i rs) in
        let after = rows_bytes Verdicts (drop (suc i) rs) in
        let rest = pairs_part s rs ++ correlations_part s rs in
        let vs : rows_bytes Verdicts rs ≡ before ++ nat_abs r.verdict ∷ after =
        rows_bytes_split Verdicts rs i l ∙ ap (λ (x : List ℕ). before ++ (x ++ after)) (bytes_entry Verdicts r (has_verdict r)) in
        let len : length before ≡ i = rows_bytes-length Verdicts (take i rs) ∙ omega (arith, verdicts_count (take i rs), take_length_i) in
        let q : get_or (rows_bytes Verdicts rs ++ rest) i 0 ≡ nat_abs r.verdict =
        ap (λ (x : List ℕ). get_or (x ++ rest) i 0) vs
        ∙ ap (λ (x : List ℕ). get_or x i 0) (append_assoc before (nat_abs r.verdict ∷ after) rest)
        ∙ ap (λ (m : ℕ). get_or (before ++ nat_abs r.verdict ∷ (after ++ rest)) m 0) (sym len)
        ∙ get_or-append_seam before (nat_abs r.verdict) (after ++ rest) 0 in
        let e : verdicts_at + i ≡ frames_at + (count_bytes + i) = omega arith in
        ap₂ (λ (x : List ℕ) (m : ℕ). get_or x m 0) (verdicts_split s rs) e
        ∙ get_or_skip (head_part s rs) (low_bytes count_bytes (length (section_entries Verdicts rs)) ++ (rows_bytes Verdicts rs ++ rest)) frames_at (count_bytes + i) (settings_length s)
        ∙ get_or_skip (low_bytes count_bytes (length (section_entries Verdicts rs))) (rows_bytes Verdicts rs ++ rest) count_bytes i (length_bytes count_bytes (length (section_entries Verdicts rs)))
        ∙ q

    is_voiced : verdict_in p i ≡ 0 → r.verdict ≡ pos 0
    is_voiced e = small.verdict ∙ ap pos (sym verdict_is ∙ e)

    not_voiced : (verdict_in p i ≡ 0 → ⊥) → r.verdict ≡ pos 0 → ⊥
    not_voiced g e = g (verdict_is ∙ ap nat_abs e)

    decide : (verdict_in p i ≡ 0) ⊎ (verdict_in p i ≡ 0 → ⊥)
    decide = by (eqb (verdict_in p i) 0) refl
      where
        by : (t : Bool) → eqb (verdict_in p i) 0 ≡ t → (verdict_in p i ≡ 0) ⊎ (verdict_in p i ≡ 0 → ⊥)
        by true e = inl (eqb-true (verdict_in p i) 0 e)
        by false e = inr (eqb-false (verdict_in p i) 0 e)

    -- one more verdict
    voiced_next : voiced_before p i ≡ length (section_entries Pairs (take i rs)) → voiced_before p (suc i) ≡ length (section_entries Pairs (take (suc i) rs))
    voiced_next e =
        let a : suc i ≡ i + 1 = sym (add-one i) in
        ap (voiced_before p) a
        ∙ ⊎_elim
        (λ z. voiced_yes p i z ∙ ap (λ (m : ℕ). m + 1) e ∙ sym (next Pairs rs i l ∙ ap (λ (m : ℕ). length (section_entries Pairs (take i rs)) + m) (one Pairs r true (has_pair r (is_voiced z)))))
        (λ g. voiced_no p i g ∙ e ∙ sym (next Pairs rs i l ∙ ap (λ (m : ℕ). length (section_entries Pairs (take i rs)) + m) (one Pairs r false (no_pair r (not_voiced g))) ∙ add-zero (length (section_entries Pairs (take i rs)))))
        decide

  voiced_are : (i : ℕ) → i ≤ length rs → voiced_before p i ≡ length (section_entries Pairs (take i rs))
  unfolding section_entries
  voiced_are zero l = voiced_none p
  voiced_are (suc i) l = voiced_next i (omega arith) (voiced_are i (omega arith))

  all_voiced : voiced_in p ≡ v
  unfolding voiced_in
  all_voiced = ap (voiced_before p) frames_are ∙ voiced_are n (omega arith) ∙ ap (λ (l : List Row). length (section_entries Pairs l)) (take-length rs)

  pairs_counted : number_at count_bytes p (pairs_from p) ≡ voiced_in p
  unfolding pairs_from
  pairs_counted =
      let rest = rows_bytes Pairs rs ++ correlations_part s rs in
      let e : pairs_count_at (frames_in p) ≡ pairs_count_at n + 0 = omega (arith, frames_are) in
      ap₂ (λ (x : List ℕ) (m : ℕ). number_at count_bytes x m) (pairs_split s rs) e
      ∙ skip count_bytes (head_part s rs ++ verdicts_part s rs) (low_bytes count_bytes v ++ rest) (pairs_count_at n) 0 (before_pairs s rs)
      ∙ here count_bytes v rest (omega (arith, few_voiced))
      ∙ sym all_voiced

  correlations_counted : number_at count_bytes p (correlations_from p) ≡ voiced_in p
  unfolding correlations_from
  correlations_counted =
      let m = length (section_entries Correlations rs) in
      let rest = rows_bytes Correlations rs ++ [] in
      let e : correlations_count_at (frames_in p) (voiced_in p) ≡ correlations_count_at n v + 0 = omega (arith, frames_are, all_voiced) in
      ap₂ (λ (x : List ℕ) (k : ℕ). number_at count_bytes x k) (correlations_split s rs) e
      ∙ skip count_bytes (head_part s rs ++ verdicts_part s rs ++ pairs_part s rs) (low_bytes count_bytes m ++ rest) (correlations_count_at n v) 0 (before_correlations s rs)
      ∙ here count_bytes m rest (omega (arith, few_voiced, correlations_count rs))
      ∙ correlations_count rs
      ∙ sym all_voiced

  -- ---- a voiced frame's pair and correlation

  module _ (i : ℕ) (l : i < length rs) (z : verdict_in p i ≡ 0) where
    abbrev q : Row
    q = get_or rs i no_row

    abbrev m : ℕ
    m = length (section_entries Pairs (take i rs))

    abbrev rest_pairs : List ℕ
    rest_pairs = rows_bytes Pairs (drop (suc i) rs) ++ correlations_part s rs

    -- the page, taken apart at the pair
    pair_split : sheet s rs ≡ (head_part s rs ++ verdicts_part s rs) ++ (low_bytes count_bytes v ++ (rows_bytes Pairs (take i rs) ++ (low_bytes index_bytes (nat_abs q.index) ++ (nat_abs q.contour ∷ rest_pairs))))
    unfolding entry
    pair_split =
        let e : rows_bytes Pairs rs ≡ rows_bytes Pairs (take i rs) ++ ((low_bytes index_bytes (nat_abs q.index) ++ (nat_abs q.contour ∷ [])) ++ rows_bytes Pairs (drop (suc i) rs)) =
        rows_bytes_split Pairs rs i l ∙ ap (λ (x : List ℕ). rows_bytes Pairs (take i rs) ++ (x ++ rows_bytes Pairs (drop (suc i) rs))) (bytes_entry Pairs q (has_pair q (is_voiced i l z))) in
        pairs_split s rs ∙ ap (λ (x : List ℕ). (head_part s rs ++ verdicts_part s rs) ++ (low_bytes count_bytes v ++ (x ++ correlations_part s rs))) e ∙ simp append_assoc

    pair_at_is : pair_place p i ≡ pairs_count_at n + (count_bytes + (entry_bytes Pairs * m + 0))
    unfolding pair_place
    pair_at_is = omega (arith, frames_are, voiced_are i (omega arith))

    pairs_before : length (rows_bytes Pairs (take i rs)) ≡ entry_bytes Pairs * m
    pairs_before = rows_bytes-length Pairs (take i rs)

    index_is : number_at index_bytes p (pair_place p i) ≡ nat_abs q.index
    index_is =
        let t3 = low_bytes index_bytes (nat_abs q.index) ++ (nat_abs q.contour ∷ rest_pairs) in
        let t2 = rows_bytes Pairs (take i rs) ++ t3 in
        ap₂ (λ (x : List ℕ) (k : ℕ). number_at index_bytes x k) pair_split pair_at_is
        ∙ skip index_bytes (head_part s rs ++ verdicts_part s rs) (low_bytes count_bytes v ++ t2) (pairs_count_at n) (count_bytes + (entry_bytes Pairs * m + 0)) (before_pairs s rs)
        ∙ skip index_bytes (low_bytes count_bytes v) t2 count_bytes (entry_bytes Pairs * m + 0) (length_bytes count_bytes v)
        ∙ skip index_bytes (rows_bytes Pairs (take i rs)) t3 (entry_bytes Pairs * m) 0 pairs_before
        ∙ here index_bytes (nat_abs q.index) (nat_abs q.contour ∷ rest_pairs) (omega (arith, (small i l).index_le))

    contour_is : get_or p (pair_place p i + index_bytes) 0 ≡ nat_abs q.contour
    contour_is =
        let t4 = nat_abs q.contour ∷ rest_pairs in
        let t3 = low_bytes index_bytes (nat_abs q.index) ++ t4 in
        let t2 = rows_bytes Pairs (take i rs) ++ t3 in
        let e : pair_place p i + index_bytes ≡ pairs_count_at n + (count_bytes + (entry_bytes Pairs * m + (index_bytes + 0))) = omega (arith, pair_at_is) in
        ap₂ (λ (x : List ℕ) (k : ℕ). get_or x k 0) pair_split e
        ∙ get_or_skip (head_part s rs ++ verdicts_part s rs) (low_bytes count_bytes v ++ t2) (pairs_count_at n) (count_bytes + (entry_bytes Pairs * m + (index_bytes + 0))) (before_pairs s rs)
        ∙ get_or_skip (low_bytes count_bytes v) t2 count_bytes (entry_bytes Pairs * m + (index_bytes + 0)) (length_bytes count_bytes v)
        ∙ get_or_skip (rows_bytes Pairs (take i rs)) t3 (entry_bytes Pairs * m) (index_bytes + 0) pairs_before
        ∙ get_or_skip (low_bytes index_bytes (nat_abs q.index)) t4 index_bytes 0 (length_bytes index_bytes (nat_abs q.index))

    abbrev rest_correlations : List ℕ
    rest_correlations = rows_bytes Correlations (drop (suc i) rs) ++ []

    correlation_split : sheet s rs ≡ (head_part s rs ++ verdicts_part s rs ++ pairs_part s rs) ++ (low_bytes count_bytes (length (section_entries Correlations rs)) ++ (rows_bytes Correlations (take i rs) ++ (signed q.correlation ++ rest_correlations)))
    unfolding entry
    correlation_split =
        let c = length (section_entries Correlations rs) in
        let e : rows_bytes Correlations rs ≡ rows_bytes Correlations (take i rs) ++ (signed q.correlation ++ rows_bytes Correlations (drop (suc i) rs)) =
        rows_bytes_split Correlations rs i l ∙ ap (λ (x : List ℕ). rows_bytes Correlations (take i rs) ++ (x ++ rows_bytes Correlations (drop (suc i) rs))) (bytes_entry Correlations q (has_correlation q (is_voiced i l z))) in
        correlations_split s rs ∙ ap (λ (x : List ℕ). (head_part s rs ++ verdicts_part s rs ++ pairs_part s rs) ++ (low_bytes count_bytes c ++ (x ++ []))) e ∙ simp append_assoc

    correlation_is : signed_at p (correlation_place p i) ≡ q.correlation
    unfolding signed_at correlation_place
    correlation_is =
        let c = length (section_entries Correlations rs) in
        let t3 = signed q.correlation ++ rest_correlations in
        let t2 = rows_bytes Correlations (take i rs) ++ t3 in
        let e : correlations_at (frames_in p) (voiced_in p) + entry_bytes Correlations * voiced_before p i ≡ correlations_count_at n v + (count_bytes + (entry_bytes Correlations * m + 0)) = omega (arith, frames_are, all_voiced, voiced_are i (omega arith)) in
        let len : length (rows_bytes Correlations (take i rs)) ≡ entry_bytes Correlations * m = rows_bytes-length Correlations (take i rs) ∙ ap (λ (k : ℕ). entry_bytes Correlations * k) (correlations_count (take i rs)) in
        ap (λ (k : ℕ). wrap w32 (pos k))
        (ap₂ (λ (x : List ℕ) (k : ℕ). number_at 4 x k) correlation_split e
        ∙ skip 4 (head_part s rs ++ verdicts_part s rs ++ pairs_part s rs) (low_bytes count_bytes c ++ t2) (correlations_count_at n v) (count_bytes + (entry_bytes Correlations * m + 0)) (before_correlations s rs)
        ∙ skip 4 (low_bytes count_bytes c) t2 count_bytes (entry_bytes Correlations * m + 0) (length_bytes count_bytes c)
        ∙ skip 4 (rows_bytes Correlations (take i rs)) t3 (entry_bytes Correlations * m) 0 len
        ∙ here_signed q.correlation rest_correlations)
        ∙ signed_word q.correlation (h.correlations i l)

  -- ---- the rows

  row_is : (i : ℕ) → i < length rs → row_in p i ≡ Some (get_or rs i no_row)
  row_is i l = ⊎_elim when_voiced when_quiet (decide i l)
    where
      when_voiced : verdict_in p i ≡ 0 → row_in p i ≡ Some (get_or rs i no_row)
      when_voiced z =
          let r = get_or rs i no_row in
          let a = index_is i l z in
          let b = contour_is i l z in
          let c = correlation_is i l z in
          let k = small i l in
          let w = is_voiced i l z in
          row_voiced p i z
          ∙ (λ t. row_of (settings_are t) (pos 0) (pos (a t)) (pos (b t)) (c t))
          ∙ (λ t. row_of s (sym w t) (sym k.index t) (sym k.contour t) r.correlation)
          ∙ holds_means s r (fine i l)

      when_quiet : (verdict_in p i ≡ 0 → ⊥) → row_in p i ≡ Some (get_or rs i no_row)
      when_quiet g =
          let r = get_or rs i no_row in
          let d = verdict_is i l in
          let o = quiet_zero s r (fine i l) (not_voiced i l g) in
          let k = small i l in
          row_quiet p i g
          ∙ (λ t. row_of (settings_are t) (pos (d t)) (pos 0) (pos 0) (pos 0))
          ∙ (λ t. row_of s (sym k.verdict t) (sym o.0 t) (sym o.1 t) (sym o.2 t))
          ∙ holds_means s r (fine i l)

  pub sheet_well_formed : well_formed p ≡ true
  unfolding well_formed readable
  sheet_well_formed =
      let a = head_yes p (record { long = rw whole (long_enough n v); count = counted; settings = ap held_no settings_are ∙ h.settings; few = rw frames_are h.few }) in
      let b = sizes_yes p (record { whole = whole ∙ ap₂ sheet_length (sym frames_are) (sym all_voiced); pairs = pairs_counted; correlations = correlations_counted }) in
      let c = rows_yes p (λ i l. ap readable (row_is i (omega (arith, frames_are)))) in
      rw (a, b) c

  pub settings_read : sheet_settings p ≡ s
  settings_read = settings_are

  pub sheet_frames : frames_in p ≡ length rs
  sheet_frames = frames_are

  pub sheet_rows : rows_in p ≡ rs
  unfolding rows_in row_found
  sheet_rows = tabulate_is (λ i. row_found (row_in p i)) (frames_in p) rs no_row frames_are (λ i l. ap row_found (row_is i (omega (arith, frames_are))))
