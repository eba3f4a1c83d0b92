-- The invariant of `deliver_parts`: the whole chain leaves what the rest of it leaves from here, with i answers before it.
use Rattle.std.proofs.Common.{◌≡◌, ◌≤◌, length, drop}
use Rattle.track_chain.specs.Chain.{chain}
use Rattle.track_run.specs.Run.{parts}
use Rattle.track_run.proofs.Ahead.{Ahead}
use Rattle.track_run.proofs.deliver_parts.Given as goal

abbrev pub invariant-loop-i : goal.invariant-loop-i
invariant-loop-i l =
    (l.at ≤ length l.samples)
    × (length l.table ≡ length l.initial.table)
    × (length l.said ≡ length l.initial.said)
    × Ahead (chain l.initial.track l.initial.table (parts l.cuts l.samples)) l.said l.i (chain l.track l.table (parts (drop l.i l.cuts) (drop l.at l.samples)))
