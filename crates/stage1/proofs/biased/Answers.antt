-- `stage1::biased` meets its contract.
use Rattle.std.proofs.Common.{ℕ, ◌*◌, ◌≤◌, arith, pos, ◌-ℤ◌, w16, w32, SFits}
use Rattle.zint.specs.DiffLaws.{n, ◌⊖◌, sfits_by}
use Rattle.zint.specs.BoundLaws.{add_32}
use Rattle.zint.specs.Wrap.{wrap}
use Rattle.zint.specs.ReadLaws.{wide_32, r_add, r_lit, r_nat, r_sub, f_sub, r_call1, r_call3}
use Rattle.silk_macros.specs.Macros.{smlawb}
use Rattle.stage1.specs.Stage1.{biased1}
use Rattle.stage1.proofs.biased.Goals as goal

-- what the sum is marked down by
small : (d : ℕ) → d ≤ 72 → SFits w32 (pos 0 -ℤ pos (16 * d))
small d h = sfits_by w32 (n 0 ⊖ n (16 * d)) (omega arith) (omega arith)

pub overflow_sub-lag : goal.overflow_sub-lag
overflow_sub-lag c = f_sub (r_lit w32 0 tt) (r_nat w32 (16 * c.args.lag) (omega arith)) (small c.args.lag c.requires)

pub returns : goal.returns
unfolding biased1
returns c =
    let d = c.args.lag in
    let r = r_add (wide_32 c.ranges.first) (wide_32 c.ranges.second) (add_32 c.ranges.first c.ranges.second) in
    let m = r_sub (r_lit w32 0 tt) (r_nat w32 (16 * d) (omega arith)) (small d c.requires) in
    let x = r_call3 w32 smlawb c.silk_smlawb.type_inv r r m c.silk_smlawb.ensures in
    (r_call1 w16 (wrap w16) c.as_i16.type_inv x c.as_i16.ensures).val
