-- `pitch_text::put_fields` meets its contract.
use Rattle.std.proofs.Common.{refl, sym, ap, ◌∙◌, ℕ, add-one, arith, pos, get_or, take, length-set, w32, SFits}
use Rattle.zint.specs.ReadLaws.{r_var}
use Rattle.zint.specs.RuleLaws.{zneeds}
use Rattle.pitch_text.specs.Decimal.{decimal}
use Rattle.pitch_text.specs.Text.{fields}
use Rattle.pitch_text.specs.TextLaws.{put_then, put_as, put_byte, put_none, fields_next, decimal_few}
use Rattle.pitch_text.proofs.put_fields.Goals as goal

pub loop-value-init : goal.loop-value-init
unfolding fields
loop-value-init c = (omega arith, refl, omega arith, put_none c.args.out.now c.args.at)

pub put_number-end-requires : goal.put_number-end-requires
put_number-end-requires c =
    let f : SFits w32 (get_or c.args.values.now c.loop-value.value-index (pos 0)) = search zneeds in
    rw ((r_var f).val, length-set) (omega (arith, decimal_few _ f))

pub loop-value-preserved : goal.loop-value-preserved
loop-value-preserved c =
    let l = c.loop-value in
    let f : SFits w32 (get_or c.args.values.now l.value-index (pos 0)) = search zneeds in
    let put = put_as c.put_number-end.ensures (ap decimal (r_var f).val) in (
      omega arith,
      c.put_number-end.auto.out ∙ length-set l.out l.end 32 ∙ l.invariant.1,
      omega (arith, put.ends, decimal_few _ f),
      put_as (put_then l.invariant.3 (put_then (put_byte _ _ 32) put)) (sym (fields_next c.args.values.now l.value-index (omega arith)) ∙ ap (λ (m : ℕ). fields (take m c.args.values.now)) (sym (add-one l.value-index))),
    )
