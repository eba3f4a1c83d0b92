-- `Kind::try_from` meets its contract.
use Rattle.std.proofs.Common.{ap, sym, arith}
use Rattle.recording_head.specs.Head.{kind_of}
use Rattle.recording_head.specs.HeadLaws.{kind_none}
use Rattle.recording_head.proofs.KindTryFromU8.try_from.Goals as goal

pub returns-in-0 : goal.returns-in-0
unfolding kind_of
returns-in-0 c = ap kind_of (sym c.in-0.is)

pub returns-in-1 : goal.returns-in-1
unfolding kind_of
returns-in-1 c = ap kind_of (sym c.in-1.is)

pub returns-in_default : goal.returns-in_default
returns-in_default c = sym (kind_none c.args.number (omega arith))
