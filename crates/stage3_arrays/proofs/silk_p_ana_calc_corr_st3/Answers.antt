-- `stage3_arrays::silk_p_ana_calc_corr_st3` meets its contract.
use Rattle.std.proofs.Common.{◌∙◌}
use Rattle.stage3_arrays.specs.ArrayLaws.{cross_array}
use Rattle.stage3_arrays.proofs.silk_p_ana_calc_corr_st3.Goals as goal

pub returns : goal.returns
returns c = c.by_subframe.ensures ∙ cross_array _ _ _ _ _ c.args.at.in_frame
