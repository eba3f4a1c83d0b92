-- `stage2::previous_8khz` meets its contract.
use Rattle.std.proofs.Common.{◌≡◌, ap, ◌∙◌, true, ℕ, arith, ℤ, pos, nat_abs, ◌*ℤ◌, w32, SFits, to_z, of_z}
use Rattle.std.specs.Int.Signed.{lt_z, quot_z}
use Rattle.zint.specs.BoundLaws.{abs_fits}
use Rattle.zint.specs.Wrap.{wrap}
use Rattle.zint.specs.WrapLaws.{wrap_fits}
use Rattle.zint.specs.ReadLaws.{r_var, r_shl, r_shr, r_call1, r_holds, t_above}
use Rattle.stage2.specs.ScoreLaws.{prev_none, prev_12, prev_16, prev_8, third_le}
use Rattle.stage2.proofs.previous_8khz.Goals as goal

pub silk_div32_16-requires : goal.silk_div32_16-requires
silk_div32_16-requires c =
    let p = c.args.prev_lag in
    r_holds (λ (x : ℤ). (pos 3 ≡ pos 0 → ⊥) × SFits w32 (quot_z x (pos 3))) (r_shl 2 (r_var c.ranges.prev_lag))
    (λ e. let z : ◌≡◌ {A = ℕ} 3 0 = ap nat_abs e in omega arith, abs_fits (quot_z (wrap w32 (p *ℤ pos 2)) (pos 3)) tt (third_le (wrap w32 (p *ℤ pos 2)) (wrap_fits w32 (p *ℤ pos 2))))

positive : {x : ℤ} → SFits w32 x → lt_z (pos 0) (to_z w32 (of_z w32 x)) ≡ true → lt_z (pos 0) x ≡ true
positive f e = t_above (pos 0) (r_var f) e

pub returns-then-fs_khz-eq12 : goal.returns-then-fs_khz-eq12
returns-then-fs_khz-eq12 c =
    (r_call1 w32 (λ (x : ℤ). quot_z x (pos 3)) c.silk_div32_16.type_inv (r_shl 2 (r_var c.ranges.prev_lag)) c.silk_div32_16.ensures).val
    ∙ prev_12 _ _ (positive c.ranges.prev_lag c.if-prev_lag-gt0.true) c.if-fs_khz-eq12.true

pub returns-then-fs_khz-eq16 : goal.returns-then-fs_khz-eq16
returns-then-fs_khz-eq16 c = (r_shr 2 (r_var c.ranges.prev_lag)).val ∙ prev_16 _ _ (positive c.ranges.prev_lag c.if-prev_lag-gt0.true) c.if-fs_khz-eq12.false c.if-fs_khz-eq16.true

pub returns-else-fs_khz-eq16 : goal.returns-else-fs_khz-eq16
returns-else-fs_khz-eq16 c = (r_var c.ranges.prev_lag).val ∙ prev_8 _ _ (positive c.ranges.prev_lag c.if-prev_lag-gt0.true) c.if-fs_khz-eq12.false c.if-fs_khz-eq16.false

pub returns-else-prev_lag-gt0 : goal.returns-else-prev_lag-gt0
returns-else-prev_lag-gt0 c = let f = r_var c.ranges.prev_lag in f.val ∙ prev_none _ _ (t_above (pos 0) f c.if-prev_lag-gt0.false)
