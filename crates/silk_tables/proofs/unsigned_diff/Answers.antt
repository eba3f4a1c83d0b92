-- `silk_tables::unsigned_diff` meets its contract.
use Rattle.std.proofs.Common.{ap, ◌∙◌, nat_abs, ◌-ℤ◌, w32, w64, to_z, of_z, arith}
use Rattle.zint.specs.BoundLaws.{fits_abs}
use Rattle.zint.specs.ReadLaws.{Reads, r_var, r_sub, f_sub, as_unsigned}
use Rattle.zint.specs.ShiftLaws.{nonneg_abs}
use Rattle.silk_tables.proofs.unsigned_diff.Goals as goal

pub overflow_sub-result : goal.overflow_sub-result
overflow_sub-result c = f_sub (r_var c.ranges.a) (r_var c.ranges.b) c.requires.0

diff : (c : goal.Start) → Reads w32 (of_z w32 (to_z w32 (of_z w32 c.args.a) -ℤ to_z w32 (of_z w32 c.args.b))) (c.args.a -ℤ c.args.b)
diff c = r_sub (r_var c.ranges.a) (r_var c.ranges.b) c.requires.0

pub overflow_cast-result : goal.overflow_cast-result
overflow_cast-result c =
    let z = c.args.a -ℤ c.args.b in
    as_unsigned w64 (nat_abs z) ((diff c).val ∙ nonneg_abs z c.requires.1) (omega (arith, fits_abs c.requires.0))

pub returns : goal.returns
returns c = ap nat_abs (diff c).val
