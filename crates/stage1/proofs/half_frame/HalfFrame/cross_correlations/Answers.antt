-- `stage1::HalfFrame::cross_correlations` meets its contract: the kernel's list starts at the last lag.
use Rattle.std.proofs.Common.{ap, ap₂, ◌∙◌, List, ℕ, ◌-◌, ℤ, pos, drop, replicate, w32}
use Rattle.zint.specs.Wrap.{wrap}
use Rattle.lists.specs.Fill.{filled}
use Rattle.lists.specs.FillLaws.{tail_part}
use Rattle.silk_sigproc.specs.Dot.{dot}
use Rattle.stage1.specs.ScoreLaws.{cross_all}
use Rattle.stage1.proofs.half_frame.HalfFrame.cross_correlations.Goals as goal

pub returns : goal.returns
returns c =
    let f = c.silk_pitch_xcorr in
    let w = c.args.self.frame_4khz.now in
    let t = c.target-target in
    f.ensures
    ∙ ap₂ (λ (x y : List ℤ). filled (λ (k : ℕ). wrap w32 (dot x (drop k y) 40)) 65 (replicate 65 (pos 0))) (tail_part t.result w) (tail_part (t.result - 72) w)
    ∙ ap (λ (n : ℕ). filled (λ (k : ℕ). wrap w32 (dot (drop n w) (drop k (drop (n - 72) w)) 40)) 65 (replicate 65 (pos 0))) t.ensures
    ∙ cross_all w c.args.self.h
