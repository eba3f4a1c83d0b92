-- `stage1::HalfFrame::first_normalizer` meets its contract: three sums that wrap are one.
use Rattle.std.proofs.Common.{ap, ◌∙◌, ℕ, ◌-◌, ℤ, ◌+ℤ◌, drop, w32}
use Rattle.zint.specs.Wrap.{wrap}
use Rattle.zint.specs.ReadLaws.{r_got, r_lit, r_call2}
use Rattle.silk_macros.specs.Macros.{smulbb}
use Rattle.silk_sigproc.specs.Dot.{dot}
use Rattle.stage1.specs.ScoreLaws.{divisor_first}
use Rattle.stage1.proofs.half_frame.HalfFrame.first_normalizer.Goals as goal

pub returns : goal.returns
returns c =
    let t = c.target-target in
    let f = c.args.self.frame_4khz.now in
    let e = c.energy_of_40-normalizer in
    let g = c.energy_of_40 in
    let w = c.wrapping_add_i32-normalizer in
    let m = c.silk_smulbb in
    let x = r_got w32 e.type_inv (e.ensures ∙ ap (λ (n : ℕ). wrap w32 (dot (drop n f) (drop n f) 40)) t.ensures) in
    let y = r_got w32 g.type_inv (g.ensures ∙ ap (λ (n : ℕ). wrap w32 (dot (drop (n - 8) f) (drop (n - 8) f) 40)) t.ensures) in
    let z = r_call2 w32 (λ (x y : ℤ). wrap w32 (x +ℤ y)) w.type_inv x y w.ensures in
    let k = r_call2 w32 smulbb m.type_inv (r_lit w32 40 tt) (r_lit w32 4000 tt) m.ensures in
    (r_call2 w32 (λ (x y : ℤ). wrap w32 (x +ℤ y)) c.wrapping_add_i32.type_inv z k c.wrapping_add_i32.ensures).val ∙ divisor_first f c.args.self.h
