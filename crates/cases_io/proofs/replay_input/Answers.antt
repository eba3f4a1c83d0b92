-- `cases_io::replay_input` meets its contract: no head and no count of kinds is too long for memory.
use Rattle.std.proofs.Common.{arith}
use Rattle.cases_io.proofs.replay_input.Goals as goal

pub whole_as_slice-read_full : goal.whole_as_slice-read_full
whole_as_slice-read_full g c = omega (arith, g.met.T.Records.few.0)

pub kind-requires : goal.kind-requires
kind-requires g c = omega (arith, g.met.T.Records.few.0)

pub agrees-requires : goal.agrees-requires
agrees-requires g c = omega (arith, g.met.T.Records.few.0)
