-- The first bytes that a program's call leaves are the text that it is to write.
use Rattle.std.specs.Prelude.{◌≡◌, List, ℕ, length, take, ℤ}
use Rattle.std.proofs.Common.{sym, ap, ◌∙◌}
use Rattle.lists.specs.PushLaws.{take_overwritten}
use Rattle.pitch_recording.specs.Recording.{RecordingPrinted, recording_printed, printed_for}
use Rattle.recording_head.specs.declared.Head.{Head}

pub printed_text : (head : Head) (b text out : List ℕ) (x t : List ℤ) (r : ℕ) (after : List ℕ) (y u : List ℤ) → recording_printed r after y u ≡ printed_for head b text out x t → take r after ≡ text
unfolding printed_for
printed_text head b text out x t r after y u e =
    let n : length text ≡ r = sym (ap (λ (p : RecordingPrinted). p.len) e) in
    ap (take r) (ap (λ (p : RecordingPrinted). p.out) e) ∙ take_overwritten text out r n
