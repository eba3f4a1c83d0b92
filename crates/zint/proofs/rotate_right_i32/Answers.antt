-- `zint::rotate_right_i32` meets its contract: std's method turns the number's bits.
use Rattle.std.proofs.Common.{ℕ, ◌%◌, ◌^◌, ◌<◌, ◌∙◌, ap, sym, arith, of_z, to_z, ◌≡◌, mod-eq_of_lt, lit<, w32}
use Rattle.std.specs.Int as std
use Rattle.zint.specs.ReadLaws.{r_got}
use Rattle.zint.specs.Rotate.{rotate_right, rotate_right_i32}
use Rattle.zint.specs.RotateLaws.{or_turned, turned_lt}
use Rattle.zint.specs.Wrap.{mod_z, wrap}
use Rattle.zint.specs.WrapLaws.{mod_z_lt, read_mod}
use Rattle.zint.proofs.rotate_right_i32.Goals as goal

pub returns : goal.returns
unfolding rotate_right_i32 rotate_right wrap mod_z
returns c =
    let l : c.args.s % 32 < 32 = omega arith in
    let b : of_z w32 (to_z w32 (of_z w32 c.args.a)) ≡ mod_z c.args.a (2 ^ 32) = read_mod w32 c.args.a c.ranges.a in
    let m = mod_z c.args.a (2 ^ 32) in
    let r : std.rotate_right w32 (of_z w32 (to_z w32 (of_z w32 c.args.a))) c.args.s ≡ rotate_right m c.args.s = or_turned _ (c.args.s % 32) (omega (arith, b, mod_z_lt c.args.a (2 ^ 32) (lit< tt))) l ∙ ap (λ (x : ℕ). rotate_right x c.args.s) b in
    (r_got w32 c.rotate_right.type_inv (c.rotate_right.ensures ∙ ap (to_z w32) (r ∙ sym (mod-eq_of_lt (turned_lt m (c.args.s % 32) (mod_z_lt c.args.a (2 ^ 32) (lit< tt)) l))))).val
