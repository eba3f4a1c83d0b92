-- `pitch_text::put_row_text` meets its contract.
use Rattle.std.proofs.Common.{◌≡◌, ap, ap₂, ◌∙◌, List, [], ◌∷◌, ◌++◌, ℕ, ◌+◌, ◌-◌, arith, ℤ, take, drop, w32, SFits}
use Rattle.zint.specs.ReadLaws.{r_var}
use Rattle.zint.specs.RuleLaws.{zneeds}
use Rattle.pitch_text.specs.Text.{fields, letter_of, values_of, row_text}
use Rattle.pitch_text.specs.TextLaws.{put_then, put_as, put_byte}
use Rattle.pitch_text.proofs.put_row_text.Goals as goal

pub returns : goal.returns
unfolding row_text values_of
returns c =
    let f = c.put_fields-p.ensures in
    let n : 4 + c.args.nb - 1 ≡ 3 + c.args.nb = omega arith in
    let g : SFits w32 c.args.r.verdict = search zneeds in
    let v = c.letter.ensures ∙ ap letter_of (r_var g).val in
    let values = ap₂ (λ (m : ℕ) (l : List ℤ). fields (take m (drop 1 l))) n c.numbers.ensures in (
      put_as (put_then (put_byte c.args.out.now c.args.at c.letter.result) (put_then f.0 (put_byte _ _ 10))) (ap₂ (λ (x : ℕ) (l : List ℕ). x ∷ (l ++ (10 ∷ []))) v values),
      omega (arith, f.1),
    )
