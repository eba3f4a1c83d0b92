-- `frames::print_frames` meets its contract: each record's line stands behind those before it.
use Rattle.std.proofs.Common.{◌+◌, ◌-◌, arith, rules}
use Rattle.recording_io.specs.ReadAnswer.{most_reads}
use Rattle.frames.specs.OutputLaws.{front_none, front_line, front_all, front_full}
use Rattle.frames.proofs.print_frames.Goals as goal

pub loop-init : goal.loop-init
loop-init g c = record { counted = search rules; printed = front_none most_reads _ _ }

pub loop-preserved : goal.loop-preserved
loop-preserved g c = record {
  counted = omega arith;
  printed = front_line most_reads (most_reads - c.loop.counter) (most_reads - (c.loop.counter + 1)) _ _ _ _ _ _ (omega arith) c.loop.invariant.printed (c.in_ok-printed.ensures.more _ c.in-Continue.is);
}

pub returns-in-Break : goal.returns-in-Break
returns-in-Break g c =
    front_all most_reads (most_reads - c.loop.counter) (most_reads - (c.loop.counter + 1)) _ _ _ _ _ (omega arith) c.loop.invariant.printed (c.in_ok-printed.ensures.last _ c.in-Break.is)

pub returns : goal.returns
returns g c = front_full most_reads (most_reads - c.loop.counter) _ _ _ _ (omega arith) c.loop.invariant.printed
