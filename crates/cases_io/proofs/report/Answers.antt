-- `cases_io::report` meets its contract: what was written so far, and then the kind's line.
use Rattle.std.proofs.Common.{arith, length, ◌≡◌, refl}
use Rattle.std.proofs.KnownBytes.{Appends-nil}
use Rattle.cases_io.specs.LinesLaws.{kinds_none, kinds_next, report_done}
use Rattle.cases_io.proofs.report.Goals as goal

pub loop-kind-init : goal.loop-kind-init
loop-kind-init g c = rw kinds_none (Appends-nil _)

pub loop-kind-preserved : goal.loop-kind-preserved
loop-kind-preserved g c = kinds_next _ _ _ _ _ _ _ c.loop-kind.invariant c.in_ok-write.ensures.bytes c.in_ok-print.ensures refl

pub returns : goal.returns
returns g c =
    let e : c.loop-kind.kind-counter ≡ length c.args.tallies.now = omega arith in
    report_done c.print-2.result _ _ _ _ _ c.totals.result c.loop-kind.invariant e c.print-2.ensures c.totals.ensures
