-- `frame_signals::frame_8khz` meets its contract: each way fills the buffer with the signal of its rate.
use Rattle.std.proofs.Common.{◌≡◌, sym, ap, ◌∙◌, List, ◌++◌, ℕ, ◌≤◌, arith, ℤ, length, drop, length-take-le}
use Rattle.lists.specs.Fill.{overwritten}
use Rattle.silk_resampler.specs.Down2Laws.{down2_length}
use Rattle.silk_resampler.specs.Down23Laws.{down2_3-length}
use Rattle.silk_resampler.specs.Down23.{FilterNumbers, filter_numbers}
use Rattle.frame_signals.specs.Signals.{down_to_8khz}
use Rattle.frame_signals.specs.SignalLaws.{eight_16, eight_12, eight_8}
use Rattle.frame_signals.proofs.frame_8khz.Goals as goal

pub halve_into-requires : goal.halve_into-requires
halve_into-requires c =
    let w = c.args.frame.now in
    omega (arith, c.requires.0, ap length (eight_16 (filter_numbers c.args.filter) c.args.fs_khz w c.if-fs_khz-eq16.true), down2_length w)

pub two_thirds_into-requires : goal.two_thirds_into-requires
two_thirds_into-requires c =
    let w = c.args.frame.now in
    let h = c.if-fs_khz-eq12.true in
    (omega (arith, c.requires.0, ap length (eight_12 (filter_numbers c.args.filter) c.args.fs_khz w h), down2_3-length (filter_numbers c.args.filter) w), c.requires.1 h)

-- at 8 kHz the buffer has room for the frame itself
room : (F : FilterNumbers) (fs : ℕ) (x out : List ℤ) → length (down_to_8khz F fs x) ≤ length out → (fs ≡ 16 → ⊥) → (fs ≡ 12 → ⊥) → length x ≤ length out
room F fs x out h g k = omega (arith, h, ap length (eight_8 F fs x g k))

pub slice_bounds-copy_from_slice-end : goal.slice_bounds-copy_from_slice-end
slice_bounds-copy_from_slice-end c = room (filter_numbers c.args.filter) _ c.args.frame.now _ c.requires.0 c.if-fs_khz-eq16.false c.if-fs_khz-eq12.false

pub slice_bounds-copy_from_slice-end-else-fs_khz-eq12 : goal.slice_bounds-copy_from_slice-end-else-fs_khz-eq12
slice_bounds-copy_from_slice-end-else-fs_khz-eq12 c = sym (length-take-le _ _ (room (filter_numbers c.args.filter) _ c.args.frame.now _ c.requires.0 c.if-fs_khz-eq16.false c.if-fs_khz-eq12.false))

pub copy_from_slice-requires : goal.copy_from_slice-requires
copy_from_slice-requires c = length-take-le _ _ (room (filter_numbers c.args.filter) _ c.args.frame.now _ c.requires.0 c.if-fs_khz-eq16.false c.if-fs_khz-eq12.false)

-- a buffer that holds e, by the signal that it is at its rate
held : (old : List ℤ) {signal e out : List ℤ} → out ≡ overwritten e old → signal ≡ e → out ≡ overwritten signal old
held old h q = h ∙ ap (λ (t : List ℤ). overwritten t old) (sym q)

pub returns-then-fs_khz-eq16 : goal.returns-then-fs_khz-eq16
returns-then-fs_khz-eq16 c = held c.args.out.now c.halve_into.ensures (eight_16 (filter_numbers c.args.filter) c.args.fs_khz c.args.frame.now c.if-fs_khz-eq16.true)

pub returns-then-fs_khz-eq12 : goal.returns-then-fs_khz-eq12
returns-then-fs_khz-eq12 c = held c.args.out.now c.two_thirds_into.ensures (eight_12 (filter_numbers c.args.filter) c.args.fs_khz c.args.frame.now c.if-fs_khz-eq12.true)

pub returns-else-fs_khz-eq12 : goal.returns-else-fs_khz-eq12
unfolding overwritten
returns-else-fs_khz-eq12 c =
    let a = c.args in
    held a.out.now (ap (λ (t : List ℤ). t ++ drop (length a.frame.now) a.out.now) c.copy_from_slice.ensures.after)
    (eight_8 (filter_numbers a.filter) a.fs_khz a.frame.now c.if-fs_khz-eq16.false c.if-fs_khz-eq12.false)
