-- `recording_head::speech_in` meets its contract.
use Rattle.std.proofs.Common.{refl, ◌∙◌, ◌+◌, ◌<◌, arith, get_or, w16, w32}
use Rattle.std.proofs.lemmas.Int.{to_z_pos}
use Rattle.zint.specs.ReadLaws.{r_got, wide_32}
use Rattle.recording_head.specs.Head.{speech_in}
use Rattle.recording_head.proofs.speech_in.Goals as goal

pub returns : goal.returns
unfolding speech_in
returns c =
    let b = c.args.bytes.now in
    let at = c.args.at in
    let o : get_or b at 0 < 256 = omega (arith, c.type_inv.bytes at) in
    let a : get_or b (at + 1) 0 < 256 = omega (arith, c.type_inv.bytes (at + 1)) in
    rw (to_z_pos w32 (get_or b at 0) (omega arith), to_z_pos w32 (get_or b (at + 1) 0) (omega arith), (wide_32 (r_got w16 c.sample_at.type_inv refl).fit).val ∙ c.sample_at.ensures)
