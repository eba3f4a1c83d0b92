-- `silk_sigproc::mac16_16` meets its contract.
use Rattle.std.proofs.Common.{ℤ, ◌+ℤ◌, w32}
use Rattle.zint.specs.BoundLaws.{mul_32}
use Rattle.zint.specs.ReadLaws.{wide_32, r_var, r_mul, f_mul, r_call2}
use Rattle.zint.specs.Wrap.{wrap}
use Rattle.silk_sigproc.proofs.mac16_16.Goals as goal

pub overflow_mul-b : goal.overflow_mul-b
overflow_mul-b c = f_mul (wide_32 c.ranges.b) (wide_32 c.ranges.c) (mul_32 c.ranges.b c.ranges.c)

pub returns : goal.returns
returns c =
    let f = c.ranges in
    let p = r_mul (wide_32 f.b) (wide_32 f.c) (mul_32 f.b f.c) in
    (r_call2 w32 (λ (s t : ℤ). wrap w32 (s +ℤ t)) c.wrapping_add_i32.type_inv (r_var f.a) p c.wrapping_add_i32.ensures).val
