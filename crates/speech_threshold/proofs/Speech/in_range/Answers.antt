-- `Speech::in_range` meets its contract: by which of the tests answered first.
use Rattle.std.proofs.Common.{rules}
use Rattle.speech_threshold.specs.Threshold.{in_range}
use Rattle.speech_threshold.proofs.Speech.in_range.Goals as goal
use Rattle.speech_threshold.proofs.Speech.in_range.Goals.{then-within, else-within, then-within-2, else-within-2}

pub returns-else-within-3 : goal.returns-else-within-3
unfolding in_range
returns-else-within-3 c =
    elim c.if-within.branch [
      | then-within v ↦ elim c.if-within-2.branch [ then-within-2 w ↦ search rules | else-within-2 w ↦ search rules ]
      | else-within v ↦ elim c.if-within-2.branch [ then-within-2 w ↦ search rules | else-within-2 w ↦ search rules ]
    ]
