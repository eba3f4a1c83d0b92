-- `silk_tables::rebuild::lag_of` meets its contract: the sum is read step by step, and the two tests are those of the hold.
use Rattle.std.proofs.Common.{ap, ◌∙◌, arith, pos, ◌+ℤ◌, w32, to_z, of_z, ◌≤ℤ◌}
use Rattle.std.specs.Int.{int_min, int_max}
use Rattle.zint.specs.ClampLaws.{clamp_of_std}
use Rattle.zint.specs.DiffLaws.{le_of}
use Rattle.zint.specs.ReadLaws.{Reads, r_nat, r_as, r_var, r_got, r_add, f_add}
use Rattle.silk_tables.specs.Rebuild.{lag_min, lag_max, primary, book, rebuilt}
use Rattle.silk_tables.specs.RebuildLaws.{primary_fits}
use Rattle.silk_tables.proofs.BookLaws.{sum_fits}
use Rattle.silk_tables.proofs.rebuild.lag_of.Goals as goal

-- the least lag, and the primary lag that is counted from it
module _ (c : goal.After-lag_max-greatest) where
  least : Reads w32 c.least_lag-least.result (pos (lag_min c.args.fs_khz))
  least = r_as (r_nat w32 c.least_lag-least.result (omega arith)) (ap pos c.least_lag-least.ensures)

  greatest : Reads w32 c.lag_max-greatest.result (pos (lag_max c.args.fs_khz))
  greatest = r_as (r_nat w32 c.lag_max-greatest.result (omega arith)) (ap pos c.lag_max-greatest.ensures)

  first : Reads w32 (of_z w32 (to_z w32 c.least_lag-least.result +ℤ to_z w32 (of_z w32 c.args.lag_index))) (pos (lag_min c.args.fs_khz) +ℤ c.args.lag_index)
  first = r_add least (r_var c.ranges.lag_index) (primary_fits c.requires)

-- the sum that is held
module _ (c : goal.After-codebook_offset) where
  offset : Reads w32 (of_z w32 c.codebook_offset.result) (book c.args.fs_khz c.args.nb_subfr c.args.k c.args.contour_index)
  offset = r_got w32 c.codebook_offset.type_inv c.codebook_offset.ensures

pub overflow_add-primary : goal.overflow_add-primary
overflow_add-primary c = f_add (least c) (r_var c.ranges.lag_index) (primary_fits c.requires)

pub overflow_add-lag : goal.overflow_add-lag
overflow_add-lag c = f_add (first c.before) (offset c) (sum_fits c.requires)

pub returns : goal.returns
unfolding rebuilt primary
returns c =
    let q = c.before in
    let l = least q.before in
    let g = greatest q.before in
    let z = r_add (first q.before) (offset q) (sum_fits c.requires) in
    let fs = c.args.fs_khz in
    let h : pos (lag_min fs) ≤ℤ pos (lag_max fs) = le_of (pos (lag_min fs)) (pos (lag_max fs)) (omega arith) in
    (r_got w32 c.clamp.type_inv (
    c.clamp.ensures.value
    ∙ (λ i. int_max (l.val i) (int_min (z.val i) (g.val i)))
    ∙ clamp_of_std (pos (lag_min fs)) (pos (lag_max fs)) (primary fs c.args.lag_index +ℤ book fs c.args.nb_subfr c.args.k c.args.contour_index) h
    )).val
