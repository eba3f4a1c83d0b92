-- `pitch_sheet::rows_hold` meets its contract: to ask each row in turn is to ask every row below a number.
use Rattle.std.proofs.Common.{◌≡◌, refl, sym, ◌∙◌, ap, arith, rules, tests, ℕ, zero, suc, ◌+◌, Bool, ◌&&◌}
use Rattle.std.proofs.Math.Bool.{and-true, and_assoc}
use Rattle.std.specs.List.{range_with_len, list_all}
use Rattle.std.proofs.lemmas.Iterator.{YieldsList-from_range}
use Rattle.std.proofs.lemmas.Iterator.Search.{all_from_yields_List}
use Rattle.best.specs.Best.{every}
use Rattle.pitch_table.specs.Row.{row_at}
use Rattle.sheet_rows.specs.Rows.{row_holds}
use Rattle.pitch_sheet.specs.Calls.{rows_hold}
use Rattle.pitch_sheet.proofs.rows_hold.Goals as goal

-- the first number asked by itself
every_front : (n : ℕ) (test : ℕ → Bool) → every (suc n) test ≡ (test 0 && every n (λ i. test (suc i)))
unfolding every
every_front zero test = sym (and-true (test 0))
every_front (suc n) test = ap (λ (b : Bool). b && test (suc n)) (every_front n test) ∙ and_assoc (test 0) (every n (λ i. test (suc i))) (test (suc n))

all_every : (test : ℕ → Bool) (a n : ℕ) → list_all test (range_with_len a n) ≡ every n (λ i. test (a + i))
unfolding every
all_every test a zero = refl
all_every test a (suc n) =
    let z : a ≡ a + 0 = omega arith in
    let e : (i : ℕ) → a + 1 + i ≡ a + suc i = λ i. omega arith in
    ap (λ (b : Bool). test a && b) (all_every test (a + 1) n) ∙ (λ t. test (z t) && every n (λ i. test (e i t))) ∙ sym (every_front n (λ i. test (a + i)))

pub returns : goal.returns
unfolding rows_hold
returns c =
    let s = c.args.settings.settings in
    let t = c.args.table.now in
    let n = c.args.rows in
    let z : (i : ℕ) → 0 + i ≡ i = λ i. omega arith in
    let test : ℕ → Bool = λ i. row_holds s (row_at t i) in
    all_from_yields_List test _ _ _ c.all.ensures.ran (YieldsList-from_range 0 n n (cc) (omega arith)) (λ x b q k. search (rules, tests))
    ∙ all_every test 0 n ∙ (λ u. every n (λ i. test (z i u)))
