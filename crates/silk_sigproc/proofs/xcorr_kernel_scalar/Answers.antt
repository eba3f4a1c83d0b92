-- `silk_sigproc::xcorr_kernel_scalar` meets its contract.
use Rattle.std.proofs.Common.{◌≡◌, ℕ, ◌+◌, ◌<◌, ◌^◌, List, [], ◌∷◌, ap, ◌∙◌, arith, get_or, ℤ, pos, ◌+ℤ◌, ◌*ℤ◌, Fits, to_z, of_z, w16, w32}
use Rattle.std.specs.Int.Signed.{mag}
use Rattle.zint.specs.ReadLaws.{r_lit}
use Rattle.zint.specs.Wrap.{wrap, mod_z}
use Rattle.zint.specs.WrapLaws.{wrap_fits}
use Rattle.lists.specs.Fill.{tabulate}
use Rattle.silk_sigproc.specs.Dot.{dot}
use Rattle.silk_sigproc.specs.DotLaws.{mac_turn, lag_dot}
use Rattle.silk_sigproc.proofs.xcorr_kernel_scalar.Goals as goal

-- one sum, one product on
turn : (x y : List ℤ) (k j m : ℕ) → k + j ≡ m → (s : ℕ) (r : ℤ) → to_z w32 s ≡ lag_dot x y j k → Fits w32 s → mag r < 2 ^ 31
    → mag (get_or x j (pos 0)) < 2 ^ 15 → mag (get_or y m (pos 0)) < 2 ^ 15
    → r ≡ wrap w32 (to_z w32 s +ℤ to_z w16 (of_z w16 (get_or x j (pos 0))) *ℤ to_z w16 (of_z w16 (get_or y m (pos 0))))
    → to_z w32 (of_z w32 r) ≡ lag_dot x y (j + 1) k
turn x y k j m e s r p f l lx ly h = (mac_turn x y k j m e (record { val = p; fit = wrap_fits w32 _; room = f }) l lx ly h).val

pub loop-j-init : goal.loop-j-init
unfolding dot wrap mod_z
loop-j-init c = let z = (r_lit w32 0 tt).val in (z, (z, (z, z)))

pub loop-j-preserved : goal.loop-j-preserved
loop-j-preserved c =
    let x = c.args.x.now in
    let y = c.args.y.now in
    let j = c.loop-j.j in
    let i = c.loop-j.invariant in
    let f = c.loop-j.auto in
    let l = c.tmp-1.given in (
      turn x y 0 j j (omega arith) _ _ i.0 f.sum0 c.mac16_16-sum0.type_inv l c.mac16_16-arg-1.given c.mac16_16-sum0.ensures,
      (
        turn x y 1 j (j + 1) (omega arith) _ _ i.1.0 f.sum1 c.mac16_16-sum1.type_inv l c.mac16_16-arg-in-loop-j-1.given c.mac16_16-sum1.ensures,
        (
          turn x y 2 j (j + 2) (omega arith) _ _ i.1.1.0 f.sum2 c.mac16_16-sum2.type_inv l c.mac16_16-arg-in-loop-j-2-1.given c.mac16_16-sum2.ensures,
          turn x y 3 j (j + 3) (omega arith) _ _ i.1.1.1 f.sum3 c.mac16_16-sum3.type_inv l c.mac16_16-arg-in-loop-j-3-1.given c.mac16_16-sum3.ensures,
        ),
      ),
    )

pub returns : goal.returns
unfolding tabulate
returns c =
    let x = c.args.x.now in
    let y = c.args.y.now in
    let i = c.loop-j.invariant in
    let e : c.loop-j.j ≡ c.args.len = omega arith in
    let to = λ (k : ℕ). ap (λ (n : ℕ). lag_dot x y n k) e in
    λ t. (i.0 ∙ to 0) t ∷ (i.1.0 ∙ to 1) t ∷ (i.1.1.0 ∙ to 2) t ∷ (i.1.1.1 ∙ to 3) t ∷ []
