-- `track_text::put_head` meets its contract.
use Rattle.std.proofs.Common.{ℕ, ◌+◌, ◌≤◌, Fits, w32, ◌≡◌, arith, length, length-set}
use Rattle.pitch_text.specs.Decimal.{digits}
use Rattle.pitch_text.specs.DecimalLaws.{digits_word}
use Rattle.pitch_text.specs.TextLaws.{put_then, put_byte}
use Rattle.track_text.specs.Program.{track_head}
use Rattle.track_text.proofs.put_head.Goals as goal

pub put_digits-p-requires : goal.put_digits-p-requires
put_digits-p-requires c = omega (arith, digits_word _ c.ranges.frames, c.requires)

pub bounds-out-p : goal.bounds-out-p
bounds-out-p c = omega (arith, c.put_digits-p.ensures.ends, digits_word _ c.ranges.frames, c.put_digits-p.auto.out, c.requires)

pub overflow_add-p : goal.overflow_add-p
overflow_add-p c = omega (arith, c.put_digits-p.ensures.ends, digits_word _ c.ranges.frames)

pub put_digits-q-requires : goal.put_digits-q-requires
put_digits-q-requires c =
    rw length-set (omega (arith, c.put_digits-p.ensures.ends, digits_word _ c.ranges.frames, c.put_digits-p.auto.out, digits_word _ c.ranges.left, c.requires))

-- the place after the second number, from that after the first
second : {p q : ℕ} (frames left : ℕ) → p ≡ 0 + length (digits frames) → q ≡ (p + 1) + length (digits left) → Fits w32 frames → Fits w32 left → q ≤ 21
second frames left e f m n = omega (arith, digits_word _ m, digits_word _ n)

pub bounds-out-q : goal.bounds-out-q
bounds-out-q c =
    let p = second _ _ c.put_digits-p.ensures.ends c.put_digits-q.ensures.ends c.ranges.frames c.ranges.left in
    omega (arith, simp length-set at c.put_digits-q.auto.out, c.put_digits-p.auto.out, c.requires)

pub overflow_add-result : goal.overflow_add-result
overflow_add-result c =
    let p = second _ _ c.put_digits-p.ensures.ends c.put_digits-q.ensures.ends c.ranges.frames c.ranges.left in
    omega arith

pub returns : goal.returns
unfolding track_head
returns c = (
  put_then c.put_digits-p.ensures (put_then (put_byte _ _ 32) (put_then c.put_digits-q.ensures (put_byte _ _ 10))),
  (let p = second _ _ c.put_digits-p.ensures.ends c.put_digits-q.ensures.ends c.ranges.frames c.ranges.left in
      omega arith),
)
