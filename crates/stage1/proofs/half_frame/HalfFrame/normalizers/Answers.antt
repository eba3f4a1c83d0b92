-- `stage1::HalfFrame::normalizers` meets its contract. The invariant: the array is filled below i, and the normaliser is the last one stored.
use Rattle.std.proofs.Common.{◌≡◌, ap, ◌∙◌, ℕ, ◌+◌, ◌-◌, arith, lit<, lit≤, ℤ, pos, ◌+ℤ◌, ◌-ℤ◌, ◌*ℤ◌, replicate, w16, w32}
use Rattle.zint.specs.Wrap.{wrap}
use Rattle.zint.specs.ReadLaws.{r_got, r_elem}
use Rattle.lists.specs.Signal.{sample}
use Rattle.lists.specs.Fill.{filled}
use Rattle.lists.specs.FillLaws.{filled_none, filled_turn, filled_all}
use Rattle.stage1.specs.Stage1.{divisor1}
use Rattle.stage1.specs.ScoreLaws.{divisor_next}
use Rattle.stage1.proofs.half_frame.HalfFrame.normalizers.Goals as goal

pub loop-i-init : goal.loop-i-init
loop-i-init c =
    let f = c.first_normalizer-normalizer in
    let a = c.args in
    let w = a.self.frame_4khz.now in
    let v = (r_got w32 f.type_inv f.ensures).val in
    (omega arith, (omega arith, (omega arith, (v, filled_turn (λ (k : ℕ). divisor1 w a.self.h (8 + k)) 0 (replicate 65 (pos 0)) (filled_none _ _) v (lit< tt)))))

pub loop-i-preserved : goal.loop-i-preserved
unfolding sample
loop-i-preserved c =
    let a = c.args in
    let w = a.self.frame_4khz.now in
    let i = c.loop-i.i in
    let b = c.loop-i.invariant.1.1.0 in
    let e = c.loop-i.invariant.1.1.1.0 in
    let x = (r_elem w16 _ c.come-1.given).val ∙ ap (λ (m : ℕ). sample w (m - i)) b in
    let y = (r_elem w16 _ c.gone-1.given).val ∙ ap (λ (m : ℕ). sample w (m - i + 40)) b in
    let v = (r_got w32 c.slide-normalizer.type_inv (c.slide-normalizer.ensures ∙ (λ t. wrap w32 (e t -ℤ y t *ℤ y t +ℤ x t *ℤ x t)) ∙ divisor_next w a.self.h i (omega arith) (omega arith))).val in
    let q : i ≡ i + 1 - 1 = omega arith in (
      omega arith,
      (omega arith, (b, (v ∙ ap (λ (m : ℕ). divisor1 w a.self.h (8 + m)) q, filled_turn (λ (k : ℕ). divisor1 w a.self.h (8 + k)) i (replicate 65 (pos 0)) c.loop-i.invariant.1.1.1.1 v (omega arith)))),
    )

pub returns : goal.returns
returns c =
    let a = c.args in
    let g : ℕ → ℤ = λ k. divisor1 a.self.frame_4khz.now a.self.h (8 + k) in
    let e : c.loop-i.i ≡ 65 = omega arith in
    c.loop-i.invariant.1.1.1.1 ∙ ap (λ (m : ℕ). filled g m (replicate 65 (pos 0))) e ∙ filled_all g 65 (replicate 65 (pos 0)) (lit≤ tt)
