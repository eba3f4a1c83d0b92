-- A row's bytes in a section by the section and the verdict, and the page after it was written.
use Rattle.std.specs.Prelude.{◌≡◌, refl, true, false, List, [], ◌∷◌, ℕ, ◌+◌, ℤ, pos, nat_abs, length, set}
use Rattle.std.proofs.Common.{sym, ◌∙◌, arith, ap}
use Rattle.std.proofs.Math.Seq.{sets}
use Rattle.zint.specs.EqualLaws.{eq_z_yes, eq_z_true, eq_z_no}
use Rattle.pitch_table.specs.declared.Row.{Row}
use Rattle.sheet_bytes.specs.Bytes.{low_bytes, signed}
use Rattle.sheet_bytes.specs.BytesLaws.{length_bytes, length_signed}
use Rattle.sheet_sections.specs.declared.Section.{Section}
use Rattle.sheet_sections.specs.declared.Section.TheVariants.{Verdicts, Pairs, Correlations}
use Rattle.lists.specs.Put.{Put}
use Rattle.lists.specs.PutLaws.{put_none, put_then}
use Rattle.sheet_sections.specs.Sheet.{entry_bytes, index_bytes, has_entry, entry, row_bytes}
use Rattle.sheet_sections.specs.SheetLaws.{entry_length}

-- which rows have an entry in a section
pub has_verdict : (r : Row) → has_entry Verdicts r ≡ true
unfolding has_entry
has_verdict r = refl

pub has_pair : (r : Row) → r.verdict ≡ pos 0 → has_entry Pairs r ≡ true
unfolding has_entry
has_pair r e = eq_z_yes e

pub has_correlation : (r : Row) → r.verdict ≡ pos 0 → has_entry Correlations r ≡ true
unfolding has_entry
has_correlation r e = eq_z_yes e

-- a row with a pair or a correlation is voiced
pub pair_voiced : (r : Row) → has_entry Pairs r ≡ true → r.verdict ≡ pos 0
unfolding has_entry
pair_voiced r e = eq_z_true r.verdict (pos 0) e

pub correlation_voiced : (r : Row) → has_entry Correlations r ≡ true → r.verdict ≡ pos 0
unfolding has_entry
correlation_voiced r e = eq_z_true r.verdict (pos 0) e

pub no_pair : (r : Row) → (r.verdict ≡ pos 0 → ⊥) → has_entry Pairs r ≡ false
unfolding has_entry
no_pair r g = eq_z_no g

pub no_correlation : (r : Row) → (r.verdict ≡ pos 0 → ⊥) → has_entry Correlations r ≡ false
unfolding has_entry
no_correlation r g = eq_z_no g

module _ (k : Section) (r : Row) where
  pub bytes_entry : has_entry k r ≡ true → row_bytes k r ≡ entry k r
  unfolding row_bytes
  bytes_entry e = rw e

  pub bytes_none : has_entry k r ≡ false → row_bytes k r ≡ []
  unfolding row_bytes
  bytes_none e = rw e

  pub row_bytes-length : has_entry k r ≡ true → length (row_bytes k r) ≡ entry_bytes k
  row_bytes-length e = ap length (bytes_entry e) ∙ entry_length k r

  -- a row without an entry leaves the page
  pub put_no_entry : (p : List ℕ) (at : ℕ) → has_entry k r ≡ false → Put p at (row_bytes k r) at p
  put_no_entry p at e = rw (bytes_none e) (put_none p at)

module _ (r : Row) (p : List ℕ) (at : ℕ) where
  put_entry : (k : Section) {end : ℕ} {q : List ℕ} → has_entry k r ≡ true → Put p at (entry k r) end q → Put p at (row_bytes k r) end q
  put_entry k e h = rw (bytes_entry k r e) h

  pub put_verdict : {x : ℕ} → x ≡ nat_abs r.verdict → Put p at (row_bytes Verdicts r) (at + entry_bytes Verdicts) (set p at x)
  unfolding entry
  put_verdict e = put_entry Verdicts (has_verdict r) (record { ends = refl; holds = ap (set p at) e })

  pub put_pair : {n x : ℕ} {q : List ℕ} → r.verdict ≡ pos 0 → q ≡ sets p at (low_bytes index_bytes n) → n ≡ nat_abs r.index → x ≡ nat_abs r.contour → Put p at (row_bytes Pairs r) (at + entry_bytes Pairs) (set q (at + index_bytes) x)
  unfolding entry
  put_pair {n} {x} {q} v eq en ex =
      let a : Put p at (low_bytes index_bytes (nat_abs r.index)) (at + index_bytes) q =
      record { ends = ap (λ (m : ℕ). at + m) (sym (length_bytes index_bytes (nat_abs r.index))); holds = eq ∙ ap (λ (m : ℕ). sets p at (low_bytes index_bytes m)) en } in
      let b : Put q (at + index_bytes) (nat_abs r.contour ∷ []) (at + entry_bytes Pairs) (set q (at + index_bytes) x) = record { ends = omega arith; holds = ap (set q (at + index_bytes)) ex } in
      put_entry Pairs (has_pair r v) (put_then a b)

  pub put_correlation : {z : ℤ} {q : List ℕ} → r.verdict ≡ pos 0 → q ≡ sets p at (signed z) → z ≡ r.correlation → Put p at (row_bytes Correlations r) (at + entry_bytes Correlations) q
  unfolding entry
  put_correlation v eq ez =
      put_entry Correlations (has_correlation r v)
      (record { ends = ap (λ (m : ℕ). at + m) (sym (length_signed r.correlation)); holds = eq ∙ ap (λ (y : ℤ). sets p at (signed y)) ez })
