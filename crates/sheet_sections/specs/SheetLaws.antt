-- Laws of a sheet's bytes: sections grow row by row, lengths, and writing one run of bytes after another.
use Rattle.std.specs.Prelude.{◌≡◌, refl, Bool, true, false, cond, List, [], ◌∷◌, ◌++◌, map, ℕ, zero, suc, ◌+◌, ◌-◌, ◌*◌, ◌≤◌, ◌<◌, ℤ, pos, nat_abs, get_or, take, count_by, length, filter}
use Rattle.std.proofs.Common.{ap₂, sym, ◌∙◌, append_assoc, append-nil, add-one, arith, length-append, ap, add-zero}
use Rattle.std.proofs.lemmas.List.Edits.{sets}
use Rattle.std.proofs.lemmas.List.Sums.{sum_by_more, length-filter}
use Rattle.std.proofs.lemmas.List.FromFn.{length-range_with_len, get_or-range_with_len}
use Rattle.std.proofs.Math.Seq.{take-length}
use Rattle.std.specs.List.{range_with_len}
use Rattle.zint.specs.Equal.{eq_z}
use Rattle.lists.specs.Fill.{tabulate}
use Rattle.lists.specs.FillLaws.{length_tabulate}
use Rattle.lists.specs.Put.{Put}
use Rattle.lists.specs.PutLaws.{put_then}
use Rattle.pitch_settings.specs.declared.Settings.{Settings}
use Rattle.pitch_table.specs.declared.Row.{Row}
use Rattle.pitch_table.specs.Row.{row_at}
use Rattle.sheet_bytes.specs.Bytes.{low_bytes, signed}
use Rattle.sheet_bytes.specs.BytesLaws.{length_bytes, length_signed}
use Rattle.sheet_sections.specs.declared.Section.{Section}
use Rattle.sheet_sections.specs.declared.Section.TheVariants.{Verdicts, Pairs, Correlations}
use Rattle.sheet_sections.specs.Sheet.{count_bytes, entry_bytes, section_bytes, setting_bytes, settings_count, sheet_length, has_entry, entry, section_entries, setting_numbers, setting_entries, concat, section, sheet, rows_of, row_bytes}

-- ---- sections, row by row

concat_append : {A : Type 0} (xs ys : List (List A)) → concat (xs ++ ys) ≡ concat xs ++ concat ys
unfolding concat
concat_append [] ys = refl
concat_append {A} (x ∷ xs) ys = ap (λ (l : List A). x ++ l) (concat_append xs ys) ∙ sym (append_assoc x (concat xs) (concat ys))

pub section_entries-append : (k : Section) (xs ys : List Row) → section_entries k (xs ++ ys) ≡ section_entries k xs ++ section_entries k ys
unfolding section_entries
section_entries-append k [] ys = refl
section_entries-append k (r ∷ xs) ys = by (has_entry k r) (section_entries-append k xs ys)
  where
    by : (t : Bool) → section_entries k (xs ++ ys) ≡ section_entries k xs ++ section_entries k ys → cond t (entry k r ∷ section_entries k (xs ++ ys)) (section_entries k (xs ++ ys)) ≡ cond t (entry k r ∷ section_entries k xs) (section_entries k xs) ++ section_entries k ys
    by true e = ap (λ (l : List (List ℕ)). entry k r ∷ l) e
    by false e = e

-- the bytes of a section's entries
abbrev pub rows_bytes : Section → List Row → List ℕ
rows_bytes k rs = concat (section_entries k rs)

pub rows_bytes-append : (k : Section) (xs ys : List Row) → rows_bytes k (xs ++ ys) ≡ rows_bytes k xs ++ rows_bytes k ys
rows_bytes-append k xs ys = ap concat (section_entries-append k xs ys) ∙ concat_append (section_entries k xs) (section_entries k ys)

pub rows_bytes_one : (k : Section) (r : Row) → rows_bytes k (r ∷ []) ≡ row_bytes k r
unfolding row_bytes section_entries concat
rows_bytes_one k r = by (has_entry k r)
  where
    by : (t : Bool) → concat (cond t (entry k r ∷ []) []) ≡ cond t (entry k r) []
    by true = append-nil (entry k r)
    by false = refl

pub rows_next : (t : List ℤ) (n : ℕ) → rows_of t (n + 1) ≡ rows_of t n ++ (row_at t n ∷ [])
unfolding rows_of tabulate
rows_next t n = ap (tabulate (row_at t)) (add-one n)

pub rows_bytes_next : (k : Section) (t : List ℤ) (n : ℕ) → rows_bytes k (rows_of t (n + 1)) ≡ rows_bytes k (rows_of t n) ++ row_bytes k (row_at t n)
rows_bytes_next k t n = ap (rows_bytes k) (rows_next t n) ∙ rows_bytes-append k (rows_of t n) (row_at t n ∷ []) ∙ ap (λ (l : List ℕ). rows_bytes k (rows_of t n) ++ l) (rows_bytes_one k (row_at t n))

-- as many rows as asked, and a section of more rows is as long or longer
pub length_rows : (t : List ℤ) (n : ℕ) → length (rows_of t n) ≡ n
unfolding rows_of
length_rows t n = length_tabulate (row_at t) n

longer : (k : Section) (t : List ℤ) (i d : ℕ) → length (rows_bytes k (rows_of t i)) ≤ length (rows_bytes k (rows_of t (i + d)))
longer k t i zero = rw (add-zero i) (omega arith)
longer k t i (suc d) =
    let e : i + suc d ≡ i + d + 1 = omega arith in
    rw (e, rows_bytes_next k t (i + d)) (omega (arith, longer k t i d, length-append (rows_bytes k (rows_of t (i + d))) (row_bytes k (row_at t (i + d)))))

pub rows_bytes_room : (k : Section) (t : List ℤ) (i n : ℕ) → i < n → length (rows_bytes k (rows_of t i)) + length (row_bytes k (row_at t i)) ≤ length (rows_bytes k (rows_of t n))
rows_bytes_room k t i n h =
    let d = n - (i + 1) in
    let e : i + 1 + d ≡ n = omega arith in
    let l : length (rows_bytes k (rows_of t (i + 1))) ≤ length (rows_bytes k (rows_of t n)) = rw e at (longer k t (i + 1) d) in
    omega (arith, l, ap length (rows_bytes_next k t i), length-append (rows_bytes k (rows_of t i)) (row_bytes k (row_at t i)))

-- ---- lengths

pub entry_length : (k : Section) (r : Row) → length (entry k r) ≡ entry_bytes k
unfolding entry
entry_length Verdicts r = refl
entry_length Pairs r = length-append (low_bytes 2 (nat_abs r.index)) (nat_abs r.contour ∷ []) ∙ omega (arith, length_bytes 2 (nat_abs r.index))
entry_length Correlations r = length_signed r.correlation

pub rows_bytes-length : (k : Section) (rs : List Row) → length (rows_bytes k rs) ≡ entry_bytes k * length (section_entries k rs)
unfolding section_entries concat
rows_bytes-length k [] = omega arith
rows_bytes-length k (r ∷ rs) = by (has_entry k r) (rows_bytes-length k rs)
  where
    by : (t : Bool) → length (rows_bytes k rs) ≡ entry_bytes k * length (section_entries k rs) → length (concat (cond t (entry k r ∷ section_entries k rs) (section_entries k rs))) ≡ entry_bytes k * length (cond t (entry k r ∷ section_entries k rs) (section_entries k rs))
    by true e = length-append (entry k r) (rows_bytes k rs) ∙ omega (arith, e, entry_length k r)
    by false e = e

-- a verdict for every frame, and a correlation for every pair
pub verdicts_count : (rs : List Row) → length (section_entries Verdicts rs) ≡ length rs
unfolding section_entries has_entry
verdicts_count [] = refl
verdicts_count (r ∷ rs) = ap suc (verdicts_count rs)

pub correlations_count : (rs : List Row) → length (section_entries Correlations rs) ≡ length (section_entries Pairs rs)
unfolding section_entries has_entry
correlations_count [] = refl
correlations_count (r ∷ rs) = by (eq_z r.verdict (pos 0)) (correlations_count rs)
  where
    by : (t : Bool) → length (section_entries Correlations rs) ≡ length (section_entries Pairs rs) → length (cond t (entry Correlations r ∷ section_entries Correlations rs) (section_entries Correlations rs)) ≡ length (cond t (entry Pairs r ∷ section_entries Pairs rs) (section_entries Pairs rs))
    by true e = ap suc e
    by false e = e

-- no more entries than frames
pub section_entries_le : (k : Section) (rs : List Row) → length (section_entries k rs) ≤ length rs
unfolding section_entries
section_entries_le k [] = omega arith
section_entries_le k (r ∷ rs) = by (has_entry k r) (section_entries_le k rs)
  where
    by : (t : Bool) → length (section_entries k rs) ≤ length rs → length (cond t (entry k r ∷ section_entries k rs) (section_entries k rs)) ≤ suc (length rs)
    by true e = omega arith
    by false e = omega arith

pub section_length : (k : Section) (rs : List Row) → length (section (section_entries k rs)) ≡ section_bytes (entry_bytes k) (length (section_entries k rs))
unfolding section
section_length k rs = length-append (low_bytes 4 (length (section_entries k rs))) (rows_bytes k rs) ∙ omega (arith, length_bytes 4 (length (section_entries k rs)), rows_bytes-length k rs)

-- signed numbers, 4 bytes each
pub signed_length : (zs : List ℤ) → length (concat (map signed zs)) ≡ setting_bytes * length zs
unfolding concat
signed_length [] = refl
signed_length (z ∷ zs) = length-append (signed z) (concat (map signed zs)) ∙ omega (arith, length_signed z, signed_length zs)

pub settings_length : (s : Settings) → length (section (setting_entries s)) ≡ section_bytes setting_bytes settings_count
unfolding section setting_numbers
settings_length s =
    let zs = setting_numbers s in
    length-append (low_bytes count_bytes settings_count) (concat (map signed zs)) ∙ omega (arith, length_bytes count_bytes settings_count, signed_length zs)

-- the length of a sheet
pub length_sheet : (s : Settings) (rs : List Row) → length (sheet s rs) ≡ sheet_length (length rs) (length (section_entries Pairs rs))
unfolding sheet
length_sheet s rs =
    simp (length-append, settings_length s, section_length, verdicts_count rs, correlations_count rs) (omega arith)

-- ---- counts, row by row

module _ (k : Section) (t : List ℤ) (n : ℕ) where
  counts : length (section_entries k (rows_of t (n + 1))) ≡ length (section_entries k (rows_of t n)) + length (section_entries k (row_at t n ∷ []))
  counts = ap (λ (rs : List Row). length (section_entries k rs)) (rows_next t n) ∙ ap length (section_entries-append k (rows_of t n) (row_at t n ∷ [])) ∙ length-append (section_entries k (rows_of t n)) (section_entries k (row_at t n ∷ []))

  pub count_entry : has_entry k (row_at t n) ≡ true → length (section_entries k (rows_of t (n + 1))) ≡ length (section_entries k (rows_of t n)) + 1
  unfolding section_entries
  count_entry e =
      let one : length (cond (has_entry k (row_at t n)) (entry k (row_at t n) ∷ []) []) ≡ 1 = rw e in
      counts ∙ ap (λ (m : ℕ). length (section_entries k (rows_of t n)) + m) one

  pub count_none : has_entry k (row_at t n) ≡ false → length (section_entries k (rows_of t (n + 1))) ≡ length (section_entries k (rows_of t n))
  unfolding section_entries
  count_none e =
      let none : length (cond (has_entry k (row_at t n)) (entry k (row_at t n) ∷ []) []) ≡ 0 = rw e in
      counts ∙ ap (λ (m : ℕ). length (section_entries k (rows_of t n)) + m) none ∙ add-zero (length (section_entries k (rows_of t n)))

-- the voiced rows, picked out of all by their number
module _ (t : List ℤ) (n : ℕ) where
  more : (i : ℕ) (b : Bool) → has_entry Pairs (row_at t i) ≡ b → length (section_entries Pairs (rows_of t i)) + cond b 1 0 ≡ length (section_entries Pairs (rows_of t (i + 1)))
  more i true e = sym (count_entry Pairs t i e)
  more i false e = add-zero (length (section_entries Pairs (rows_of t i))) ∙ sym (count_none Pairs t i e)

  so_far : (i : ℕ) → i ≤ n → count_by (λ k. has_entry Pairs (row_at t k)) (take i (range_with_len 0 n)) ≡ length (section_entries Pairs (rows_of t i))
  unfolding rows_of tabulate section_entries
  so_far zero h = refl
  so_far (suc i) h =
      let voiced : ℕ → Bool = λ k. has_entry Pairs (row_at t k) in
      let e : suc i ≡ i + 1 = omega arith in
      let z : 0 + i ≡ i = omega arith in
      ap (λ (m : ℕ). count_by voiced (take m (range_with_len 0 n))) e
      ∙ sum_by_more (λ k. cond (voiced k) 1 0) (range_with_len 0 n) i 0 (omega (arith, length-range_with_len 0 n))
      ∙ ap₂ (λ (m k : ℕ). m + cond (voiced k) 1 0) (so_far i (omega arith)) (get_or-range_with_len 0 n i 0 h ∙ z)
      ∙ more i (voiced i) refl
      ∙ ap (λ (m : ℕ). length (section_entries Pairs (rows_of t m))) (sym e)

  pub voiced_picked : length (filter (λ k. has_entry Pairs (row_at t k)) (range_with_len 0 n)) ≡ length (section_entries Pairs (rows_of t n))
  voiced_picked =
      let voiced : ℕ → Bool = λ k. has_entry Pairs (row_at t k) in
      let xs = range_with_len 0 n in
      length-filter voiced xs
      ∙ sym (ap (λ (l : List ℕ). count_by voiced l) (ap (λ (m : ℕ). take m xs) (sym (length-range_with_len 0 n)) ∙ take-length xs))
      ∙ so_far n (omega arith)

-- ---- a count and a row of signed numbers that were written

pub put_word : {p q : List ℕ} {at n m : ℕ} → q ≡ sets p at (low_bytes count_bytes n) → n ≡ m → Put p at (low_bytes count_bytes m) (at + count_bytes) q
put_word {p} {q} {at} {n} {m} e f = record {
  ends = ap (λ (k : ℕ). at + k) (sym (length_bytes count_bytes m));
  holds = e ∙ ap (λ (k : ℕ). sets p at (low_bytes count_bytes k)) f;
}

-- the first i of them
abbrev pub signed_first : List ℤ → ℕ → List ℕ
signed_first zs i = concat (map signed (take i zs))

signed_next : (zs : List ℤ) (i : ℕ) → i < length zs → signed_first zs (i + 1) ≡ signed_first zs i ++ signed (get_or zs i (pos 0))
unfolding concat
signed_next [] i h = absurd (omega arith)
signed_next (z ∷ zs) zero h = append-nil (signed z)
signed_next (z ∷ zs) (suc i) h =
    let e : suc i + 1 ≡ suc (i + 1) = omega arith in
    ap (signed_first (z ∷ zs)) e ∙ ap (λ (l : List ℕ). signed z ++ l) (signed_next zs i (omega arith)) ∙ sym (append_assoc (signed z) (signed_first zs i) (signed (get_or zs i (pos 0))))

pub put_signed : {p q r : List ℕ} {at end : ℕ} {x : ℤ} (zs : List ℤ) (i : ℕ) → i < length zs → Put p at (signed_first zs i) end q → r ≡ sets q end (signed x) → x ≡ get_or zs i (pos 0)
    → Put p at (signed_first zs (i + 1)) (end + setting_bytes) r
put_signed {q = q} {end = end} zs i h before e f =
    let z = get_or zs i (pos 0) in
    rw (signed_next zs i h)
    (put_then before (record { ends = ap (λ (k : ℕ). end + k) (sym (length_signed z)); holds = e ∙ ap (λ (y : ℤ). sets q end (signed y)) f }))
