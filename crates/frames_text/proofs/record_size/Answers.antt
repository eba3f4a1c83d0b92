-- `frames_text::record_size` meets its contract.
use Rattle.std.proofs.Common.{◌≡◌, ◌+◌, ◌*◌, ◌≤◌, arith}
use Rattle.frames_text.specs.Frames.{record_head, longest_record, record_size}
use Rattle.frames_text.specs.FramesLaws.{sized}
use Rattle.frames_text.proofs.record_size.Goals as goal

size : (c : goal.After-frame_length) → (record_head + 2 * c.frame_length.result ≡ record_size c.args.s.settings) × (record_head ≤ record_head + 2 * c.frame_length.result) × (record_head + 2 * c.frame_length.result ≤ longest_record)
size c = sized c.args.s.settings c.frame_length.result c.args.s.analysed c.frame_length.ensures

pub overflow_mul-result : goal.overflow_mul-result
overflow_mul-result c = omega (arith, size c)

pub overflow_add-result : goal.overflow_add-result
overflow_add-result c = omega (arith, size c)

pub returns : goal.returns
returns c = size c
