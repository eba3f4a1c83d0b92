-- `silk_pitch_analysis::working::voiced` meets its contract.
use Rattle.std.proofs.Common.{arith, ◌*◌, w32}
use Rattle.zint.specs.DiffLaws.{n, ◌⊖◌, sfits_by}
use Rattle.zint.specs.ReadLaws.{r_nat, r_var, r_sub, f_sub}
use Rattle.silk_pitch_analysis.specs.declared.Verdict.TheVariants.{Voiced}
use Rattle.silk_pitch_analysis.proofs.working.voiced.Goals as goal

pub overflow_sub-index : goal.overflow_sub-index
overflow_sub-index c =
    f_sub (r_nat w32 c.args.lag (omega arith)) (r_nat w32 (2 * c.args.fs_khz) (omega arith))
    (sfits_by w32 (n c.args.lag ⊖ n (2 * c.args.fs_khz)) (omega arith) (omega arith))

pub returns : goal.returns
returns c =
    let l = r_nat w32 c.args.lag (omega arith) in
    let m = r_nat w32 (2 * c.args.fs_khz) (omega arith) in
    let i = (r_sub l m (sfits_by w32 (n c.args.lag ⊖ n (2 * c.args.fs_khz)) (omega arith) (omega arith))).val in
    let j = (r_nat w32 c.args.contour (omega arith)).val in
    let k = (r_var c.ranges.correlation).val in
    λ t. Voiced (i t) (j t) (k t)
