-- `frame_signals::frame_4khz` meets its contract: the part that is summed holds the signal at half the rate.
use Rattle.std.proofs.Common.{◌≡◌, refl, sym, ap, ap₂, ◌∙◌, arith, ℕ, ◌/◌, List, ◌++◌, ℤ, length, drop, take, drop_at}
use Rattle.lists.specs.Fill.{filled, overwritten}
use Rattle.lists.specs.FillLaws.{filled_all}
use Rattle.lists.specs.Signal.{sample}
use Rattle.silk_resampler.specs.Down2.{down2}
use Rattle.silk_resampler.specs.Down2Laws.{down2_length}
use Rattle.frame_signals.specs.Signals.{two_tap, down_to_4khz}
use Rattle.frame_signals.specs.SignalLaws.{take_overwritten, length_four}
use Rattle.frame_signals.proofs.frame_4khz.Goals as goal

summed : (e : List ℤ) {part : List ℤ} → part ≡ down2 e → filled (two_tap (sample part)) (length part) part ≡ down_to_4khz e
unfolding down_to_4khz
summed e p = ap (λ (t : List ℤ). filled (two_tap (sample t)) (length t) t) p ∙ filled_all (two_tap (sample (down2 e))) (length (down2 e)) (down2 e) (omega arith)

rest : (e l : List ℤ) {out : List ℤ} (n : ℕ) → out ≡ overwritten (down2 e) l → length e / 2 ≡ n → drop n out ≡ drop (length (down_to_4khz e)) l
unfolding overwritten
rest e l n h k =
    ap (drop n) h ∙ drop_at (down2 e) (drop (length (down2 e)) l) n (down2_length e ∙ k) ∙ ap (λ (m : ℕ). drop m l) (down2_length e ∙ sym (length_four e))

pub returns : goal.returns
unfolding overwritten
returns c =
    let e = c.args.frame.now in
    let l = c.args.out.now in
    let h = c.halve_into.ensures in
    let n = length e / 2 in
    ap₂ (λ (s t : List ℤ). s ++ t) (c.two_tap_sum.ensures ∙ summed e (ap (take n) h ∙ take_overwritten (down2 e) l n (down2_length e))) (rest e l n h refl)
