-- `pitch_text::put_number` meets its contract: the sign, then the digits of the size.
use Rattle.std.proofs.Common.{◌≡◌, sym, ap, ◌∙◌, ◌∷◌, ℕ, arith, pos, nat_abs, length, length-set}
use Rattle.zint.specs.ReadLaws.{r_var, t_below}
use Rattle.pitch_text.specs.Decimal.{digits, decimal}
use Rattle.pitch_text.specs.TextLaws.{put_then, put_as, put_byte, decimal_minus, decimal_plus}
use Rattle.pitch_text.proofs.put_number.Goals as goal
use Rattle.pitch_text.proofs.put_number.Goals.{Then-z-lt0, Else-z-lt0, After-abs_u32, After-abs_u32-else-z-lt0}

minus : (c : Then-z-lt0) → decimal c.args.z ≡ 45 ∷ digits (nat_abs c.args.z)
minus c = decimal_minus _ (t_below (pos 0) (r_var c.ranges.z) c.if-z-lt0.true)

plus : (c : Else-z-lt0) → decimal c.args.z ≡ digits (nat_abs c.args.z)
plus c = decimal_plus _ (t_below (pos 0) (r_var c.ranges.z) c.if-z-lt0.false)

size : (c : After-abs_u32) → c.abs_u32.result ≡ nat_abs c.args.z
size c = c.abs_u32.ensures ∙ ap nat_abs (r_var c.ranges.z).val

size-2 : (c : After-abs_u32-else-z-lt0) → c.abs_u32-else-z-lt0.result ≡ nat_abs c.args.z
size-2 c = c.abs_u32-else-z-lt0.ensures ∙ ap nat_abs (r_var c.ranges.z).val

pub bounds-out-at : goal.bounds-out-at
bounds-out-at c = omega (arith, ap length (minus (goal.at.bounds-out-at c).Then-z-lt0), c.requires)

pub put_digits-requires : goal.put_digits-requires
put_digits-requires c =
    let p = goal.at.put_digits-requires c in
    rw (size p.After-abs_u32, length-set) (omega (arith, ap length (minus p.Then-z-lt0), c.requires))

pub put_digits-requires-else-z-lt0 : goal.put_digits-requires-else-z-lt0
put_digits-requires-else-z-lt0 c =
    let p = goal.at.put_digits-requires-else-z-lt0 c in
    rw (size-2 p.After-abs_u32-else-z-lt0) (omega (arith, ap length (plus p.Else-z-lt0), c.requires))

pub returns-then-z-lt0 : goal.returns-then-z-lt0
returns-then-z-lt0 c =
    let p = goal.at.returns-then-z-lt0 c in
    put_as (put_then (put_byte c.args.out.now c.args.at 45) c.put_digits.ensures) (ap (λ (k : ℕ). 45 ∷ digits k) (size p.After-abs_u32) ∙ sym (minus p.Then-z-lt0))

pub returns-else-z-lt0 : goal.returns-else-z-lt0
returns-else-z-lt0 c =
    let p = goal.at.returns-else-z-lt0 c in
    put_as c.put_digits-else-z-lt0.ensures (ap digits (size-2 p.After-abs_u32-else-z-lt0) ∙ sym (plus p.Else-z-lt0))
