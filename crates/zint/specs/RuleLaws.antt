-- The sets of lemmas that answer what a function of signed integers leaves: `search zneeds` at each need.
use Rattle.std.proofs.Common.{rules}
use Rattle.zint.specs.BoundLaws.{widen_16_32, widen_16_64, widen_32_64, add_32, add_64, sub_32, sub_64, mul_32, mul_64, shr_fits}
use Rattle.zint.specs.WrapLaws.{wrap_fits}
use Rattle.zint.specs.ReadLaws.{reading}
use Rattle.zint.specs.TestLaws.{sel_yes, sel_no}
use Rattle.zint.specs.ClampLaws.{clamp_hi, clamp_lo, clamp_in, in_16, in_32}

pub ruleset zneeds = (rules, reading, widen_16_32, widen_16_64, widen_32_64, add_32, add_64, sub_32, sub_64, mul_32, mul_64, shr_fits, wrap_fits, sel_yes, sel_no, clamp_hi, clamp_lo, clamp_in, in_16, in_32)
