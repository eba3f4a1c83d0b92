-- `recording_io::count_rest` meets its contract: each read is counted on top of those before it.
use Rattle.std.proofs.Common.{arith, refl}
use Rattle.recording_io.specs.FilledLaws.{lost_more}
use Rattle.recording_io.proofs.count_rest.Goals as goal

pub loop-preserved : goal.loop-preserved
loop-preserved g c =
    let l = c.loop in
    record {
      few = omega (arith, c.in-Ok.ensures.bound.0);
      each = omega arith;
      bytes = lost_more _ _ _ _ _ _ _ l.invariant.bytes c.in-Ok.ensures.bytes.0 refl c.in-Ok.ensures.bound.0;
    }
