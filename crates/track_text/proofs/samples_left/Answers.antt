-- `track_text::samples_left` meets its contract.
use Rattle.std.proofs.Common.{sym, ◌∙◌, arith, eq-eqb, ne_eqb}
use Rattle.track_paper.specs.Paper.{F}
use Rattle.track_text.specs.Program.{samples_left}
use Rattle.pitch_recording.specs.RecordingLaws.{last_frame}
use Rattle.track_text.proofs.samples_left.Goals as goal

pub returns-then-frames-eq0 : goal.returns-then-frames-eq0
unfolding samples_left
returns-then-frames-eq0 c = rw (eq-eqb (F c.args.s.settings c.args.n) 0 (sym c.requires ∙ c.if-frames-eq0.true))

-- the last frame lies within the samples
pub overflow_mul-result : goal.overflow_mul-result
overflow_mul-result c =
    let l = last_frame c.args.s.settings c.args.s.analysed c.args.n c.args.frames c.requires c.if-frames-eq0.false in
    rw c.hop_length.ensures (omega (arith, l, c.ranges.n))

pub overflow_add-result : goal.overflow_add-result
overflow_add-result c =
    let l = last_frame c.args.s.settings c.args.s.analysed c.args.n c.args.frames c.requires c.if-frames-eq0.false in
    rw (c.hop_length.ensures, c.frame_length.ensures) (omega (arith, l, c.ranges.n))

pub overflow_sub-result-2 : goal.overflow_sub-result-2
overflow_sub-result-2 c =
    rw (c.hop_length.ensures, c.frame_length.ensures) (last_frame c.args.s.settings c.args.s.analysed c.args.n c.args.frames c.requires c.if-frames-eq0.false)

pub returns : goal.returns
unfolding samples_left
returns c = rw (c.hop_length.ensures, c.frame_length.ensures, ← c.requires, ne_eqb c.args.frames 0 c.if-frames-eq0.false)
