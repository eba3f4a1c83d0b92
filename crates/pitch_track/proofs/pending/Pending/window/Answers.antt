-- `Pending::window` meets its contract: what is copied is laid over the zeros, from the held samples and then the delivered, or from the delivered alone.
use Rattle.std.proofs.Common.{◌≡◌, ℕ, ◌+◌, ◌-◌, ◌≤◌, ◌<◌, min, List, ◌++◌, ℤ, length, take, drop, ap, ◌∙◌, arith, length-append}
use Rattle.pitch_track.specs.Step.{zeros, padded}
use Rattle.pitch_track.proofs.Lists.{length_part, over, laid, part_within, part_after}
use Rattle.pitch_track.proofs.pending.Pending.window.Goals as goal

-- what two copies leave
within : (h s : List ℤ) (from size kept : ℕ) {x y : List ℤ} → kept ≡ min (length h - from) size → from < length h → from + size ≤ length h + length s
    → x ≡ take (from + kept - from) (drop from h) → y ≡ take (size - kept) s
    → take kept (x ++ drop kept zeros) ++ (y ++ drop (size - kept) (drop kept (x ++ drop kept zeros))) ≡ padded (take size (drop from (h ++ s)))
within h s from size kept {x} {y} k lt fits ex ey =
    let e : from + kept - from ≡ kept = omega arith in
    let lx : length x ≡ kept = ap length ex ∙ length_part h from (from + kept - from) (omega arith) ∙ e in
    laid x y zeros kept size lx (omega arith)
    ∙ ap (λ (l : List ℤ). l ++ drop size zeros) ((λ i. ex i ++ ey i) ∙ part_within h s from size kept k lt)
    ∙ over (take size (drop from (h ++ s))) size (length_part (h ++ s) from size (omega (arith, length-append h s)))

pub returns-then-from-held : goal.returns-then-from-held
unfolding zeros
returns-then-from-held c =
    let a = c.args in
    let kept = c.min-kept.result in
    let k : c.min-kept.result ≡ min (length a.self.held.now - a.from) a.size = omega (arith, c.min-kept.ensures) in
    within a.self.held.now a.self.samples.now a.from a.size kept k c.if-from-held.true c.requires.0 c.copy_from_slice.ensures.after c.copy_from_slice-then-from-held.ensures.after

pub returns-else-from-held : goal.returns-else-from-held
unfolding zeros
returns-else-from-held c =
    let a = c.args in
    let h = a.self.held.now in
    let s = a.self.samples.now in
    ap (λ (l : List ℤ). l ++ drop a.size zeros) (c.copy_from_slice-else-from-held.ensures.after ∙ part_after h s a.from a.size c.if-from-held.false)
    ∙ over (take a.size (drop a.from (h ++ s))) a.size (length_part (h ++ s) a.from a.size (omega (arith, length-append h s, c.requires.0)))
