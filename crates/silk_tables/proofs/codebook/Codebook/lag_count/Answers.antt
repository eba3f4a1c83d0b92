-- `silk_tables::codebook::Codebook::lag_count` meets its contract.
use Rattle.std.proofs.Common.{◌≡◌, sym, ap₂, ◌∙◌, subst, ℕ, ◌+◌, ◌<◌, ℤ, pos, nat_abs, ◌-ℤ◌, ◌≤ℤ◌, w32, to_z, of_z, arith}
use Rattle.zint.specs.BoundLaws.{fits_abs}
use Rattle.zint.specs.ReadLaws.{Reads, r_is, f_sub}
use Rattle.silk_tables.specs.Tables.{TableSettings, range_low, range_high, range_count}
use Rattle.silk_tables.proofs.TableLaws.{low_fits, high_fits, span_fits, span_nonneg}
use Rattle.silk_tables.proofs.codebook.Codebook.lag_count.Goals as goal

-- the two ends, as they are read
module _ {nb cx k : ℕ} (s : TableSettings nb cx) (h : k < nb) {l u : ℤ} (e : l ≡ range_low nb cx k) (f : u ≡ range_high nb cx k) where
  lower : Reads w32 (of_z w32 l) (range_low nb cx k)
  lower = r_is e (low_fits s h)

  upper : Reads w32 (of_z w32 u) (range_high nb cx k)
  upper = r_is f (high_fits s h)

  span : nat_abs (to_z w32 (of_z w32 u) -ℤ to_z w32 (of_z w32 l)) ≡ nat_abs (range_high nb cx k -ℤ range_low nb cx k)
  span = ap₂ (λ (x y : ℤ). nat_abs (x -ℤ y)) upper.val lower.val

pub unsigned_diff-requires : goal.unsigned_diff-requires
unsigned_diff-requires c =
    let s = c.args.self.settings in
    let h = c.requires in
    let r = c.lag_range-range.ensures in
    let u = upper s h r.low r.high in
    let l = lower s h r.low r.high in
    (f_sub u l (span_fits s h), subst (λ (z : ℤ). pos 0 ≤ℤ z) (sym (ap₂ ◌-ℤ◌ u.val l.val)) (span_nonneg s h))

pub overflow_add-result : goal.overflow_add-result
overflow_add-result c =
    let s = c.args.self.settings in
    let h = c.requires in
    let e = c.unsigned_diff.ensures ∙ span s h c.lag_range-range.ensures.low c.lag_range-range.ensures.high in
    omega (arith, e, fits_abs (span_fits s h))

pub returns : goal.returns
unfolding range_count
returns c = ap₂ ◌+◌ (c.unsigned_diff.ensures ∙ span c.args.self.settings c.requires c.lag_range-range.ensures.low c.lag_range-range.ensures.high) (λ i. 1)
