-- Pairs by number: of n rows with m columns each, the p-th pair is row p / m and column p % m, so that the pairs come row by row.
use Rattle.std.specs.Prelude.{◌≡◌, refl, Bool, true, false, ℕ, ◌+◌, ◌*◌, ◌/◌, ◌%◌, ◌<◌}
use Rattle.std.proofs.Common.{ap₂, ◌∙◌, div-lt_iff_lt-mul, mod-lt}
use Rattle.std.proofs.Math.Arith.{digits_div, digits_mod, digits_lt}
use Rattle.best.specs.Best.{some}
use Rattle.best.specs.BestLaws.{some_true, some_false, some_find, some_none}

-- some pair passes the test exactly where some column of some row does
pub some_pairs : (n m : ℕ) (t : ℕ → ℕ → Bool) → 0 < m → some (n * m) (λ p. t (p / m) (p % m)) ≡ some n (λ k. some m (t k))
some_pairs n m t h = by (some n (λ k. some m (t k))) refl
  where
    by : (b : Bool) → some n (λ k. some m (t k)) ≡ b → some (n * m) (λ p. t (p / m) (p % m)) ≡ b
    by true e =
        let k = some_find n (λ k. some m (t k)) e in
        let j = some_find m (t k.0) k.2 in
        some_true (n * m) (λ p. t (p / m) (p % m)) (k.0 * m + j.0) (digits_lt k.1 j.1) (ap₂ t (digits_div k.0 j.1) (digits_mod k.0 j.1) ∙ j.2)
    by false e =
        some_false (n * m) (λ p. t (p / m) (p % m)) (λ p l.
        some_none m (t (p / m)) (some_none n (λ k. some m (t k)) e (p / m) ((div-lt_iff_lt-mul {k = m} {x = p} {y = n} h).1 l)) (p % m) (mod-lt p h))
