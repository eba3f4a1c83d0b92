-- `silk_tables::codebook::Codebook::lag_first` meets its contract.
use Rattle.std.proofs.Common.{◌≡◌, ap, ◌∙◌, ℕ, ◌<◌, ◌≤◌, ℤ, pos, nat_abs, ◌+ℤ◌, w32, w64, to_z, of_z, arith}
use Rattle.zint.specs.BoundLaws.{fits_abs}
use Rattle.zint.specs.ShiftLaws.{nonneg_abs}
use Rattle.zint.specs.ReadLaws.{Reads, r_nat, r_is, r_add, f_add, as_unsigned}
use Rattle.silk_tables.specs.Tables.{TableSettings, range_low, first_lag}
use Rattle.silk_tables.proofs.TableLaws.{low_fits, first_fits, first_nonneg}
use Rattle.silk_tables.proofs.codebook.Codebook.lag_first.Goals as goal

-- the first lag tried, the range's start, and their sum, as they are read
module _ {nb cx k start : ℕ} (s : TableSettings nb cx) (h : (k < nb) × ((24 ≤ start) × (start ≤ 288))) {l : ℤ} (e : l ≡ range_low nb cx k) where
  from : Reads w32 start (pos start)
  from = r_nat w32 start (omega arith)

  lower : Reads w32 (of_z w32 l) (range_low nb cx k)
  lower = r_is e (low_fits s h.0)

  sum : Reads w32 (of_z w32 (to_z w32 start +ℤ to_z w32 (of_z w32 l))) (pos start +ℤ range_low nb cx k)
  sum = r_add from lower (first_fits s h.0 start h.1.0 h.1.1)

pub overflow_add-result : goal.overflow_add-result
overflow_add-result c =
    let s = c.args.self.settings in
    let h = c.requires in
    let e = c.lag_range.ensures.low in
    f_add (from s h e) (lower s h e) (first_fits s h.0 c.args.start_lag h.1.0 h.1.1)

pub overflow_cast-result-2 : goal.overflow_cast-result-2
overflow_cast-result-2 c =
    let a = c.args in
    let s = a.self.settings in
    let h = c.requires in
    let r = sum s h c.lag_range.ensures.low in
    let z = pos a.start_lag +ℤ range_low a.self.nb a.self.complexity a.k in
    as_unsigned w64 (nat_abs z) (r.val ∙ nonneg_abs z (first_nonneg s h.0 a.start_lag h.1.0)) (omega (arith, fits_abs r.fit))

pub returns : goal.returns
unfolding first_lag
returns c = ap nat_abs (sum c.args.self.settings c.requires c.lag_range.ensures.low).val
