-- The invariant of `put_rows`: i rows are written, and `q` is what the last of them left.
use Rattle.std.proofs.Common.{◌≡◌, ◌++◌}
use Rattle.track_paper.specs.Paper.{previous}
use Rattle.track_paper.specs.RowsLaws.{written}
use Rattle.pitch_track.proofs.put_rows.Given as goal

abbrev pub invariant-loop-i : goal.invariant-loop-i
invariant-loop-i l =
    (l.q ≡ previous l.k.settings (l.pending.held.now ++ l.pending.samples.now) l.initial.q l.i)
    × (l.table ≡ written l.k.settings (l.pending.held.now ++ l.pending.samples.now) l.initial.q l.initial.table l.frames l.i)
