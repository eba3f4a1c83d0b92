-- `frames::read_record` meets its contract: the head, and then as many bytes as it asks for, are the record that the input begins with.
use Rattle.std.proofs.Common.{◌≡◌, ◌-◌, ◌≤◌, ◌++◌, length, take, drop, ◌∙◌, length-take-le, length-append, length-drop, arith}
use Rattle.frames_text.specs.Frames.{record_head}
use Rattle.frames.specs.OutputLaws.{two_reads}
use Rattle.frames.proofs.read_record.Goals as goal

pub returns-clause-record : goal.returns-clause-record
returns-clause-record g c =
    let start = c.in_ok-head.ensures in
    let rest = c.in_ok-rest.ensures in
    let said = c.record_length-end.ensures in
    let all = c.args.bytes.now in
    let count = c.in_ok-head.head in
    let after = drop record_head all in
    let whole = c.read_input.new.buf ++ after in
    let head : length c.read_input.new.buf ≡ record_head = c.read_input.auto.buf ∙ length-take-le record_head all (omega arith) in
    let long : length whole ≡ length all = length-append c.read_input.new.buf after ∙ omega (arith, head, length-drop record_head all) in
    let few : length (take count whole) ≡ count = length-take-le count whole (omega (arith, start.prefix_len.0)) in
    let reach : count ≤ c.record_length-end.result = omega (arith, said.1, few) in
    let tail : length c.read_input-2.new.buf ≡ c.record_length-end.result - count =
    c.read_input-2.auto.buf ∙ length-take-le _ _ (omega (arith, said.2, long, length-drop count whole)) in
    two_reads _ _ _ _ _ _ _ after _ start.bytes start.prefix_len.0 head start.end said.0 reach rest.bytes rest.prefix_len.0 tail rest.end
