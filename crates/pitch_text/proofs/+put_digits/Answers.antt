-- `pitch_text::put_digits` meets its contract: the call of itself leaves the same length, and the place after the digits that it wrote.
use Rattle.std.proofs.Common.{refl, sym, ap, ap₂, ◌∙◌, List, [], ◌∷◌, ℕ, ◌+◌, ◌/◌, ◌%◌, arith, length, set}
use Rattle.std.proofs.Math.Seq.{sets}
use Rattle.lists.specs.PutLaws.{sets_append}
use Rattle.pitch_text.specs.Decimal.{digits}
use Rattle.pitch_text.specs.DecimalLaws.{digits_one, digits_more, length_one, length_more}
use Rattle.pitch_text.proofs.+put_digits.Goals as goal

pub bounds-out-at : goal.bounds-out-at
bounds-out-at t c = omega (arith, length_one _ c.if-n-lt10.true)

pub put_digits-last-requires : goal.put_digits-last-requires
put_digits-last-requires t c = (omega arith, omega (arith, length_more _ c.if-n-lt10.false))

pub bounds-out-last : goal.bounds-out-last
bounds-out-last t c = omega (arith, length_more _ c.if-n-lt10.false)

pub overflow_add-result-else-n-lt10 : goal.overflow_add-result-else-n-lt10
overflow_add-result-else-n-lt10 t c = omega (arith, length_more _ c.if-n-lt10.false)

pub returns-then-n-lt10 : goal.returns-then-n-lt10
returns-then-n-lt10 t c = record { ends = omega (arith, length_one _ c.if-n-lt10.true); holds = rw (digits_one _ c.if-n-lt10.true) }

pub returns-else-n-lt10 : goal.returns-else-n-lt10
returns-else-n-lt10 t c =
    let a = c.args in
    let d = c.put_digits-last.ensures in
    record {
      ends = omega (arith, length_more _ c.if-n-lt10.false);
      holds =
          ap₂ (λ (l : List ℕ) (k : ℕ). set l k (48 + a.n % 10)) d.holds d.ends
          ∙ sets_append a.out.now (digits (a.n / 10)) ((48 + a.n % 10) ∷ []) a.at (a.at + length (digits (a.n / 10))) refl
          ∙ ap (sets a.out.now a.at) (sym (digits_more a.n c.if-n-lt10.false));
    }
