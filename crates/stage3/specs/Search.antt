-- The search from the front, as the code goes: what one pair more makes of it, and what is known after n pairs. The contracts of private functions cite it; nothing here is
-- part of what stage 3 means.
use Rattle.std.specs.Prelude.{Option, Some, None, ◌≡◌, Bool, true, false, ◌&&◌, cond, List, [], ℕ, ◌-◌, ◌<◌, ℤ, pos, get_or}
use Rattle.std.specs.Int.Signed.{lt_z}
use Rattle.zint.specs.Minus.{minus}
use Rattle.best.specs.Best.{Place}
use Rattle.best.proofs.BestOfLaws as laws
use Rattle.stage3.specs.Pick.{Pair, Choice, first_tried, quotient_of, biased, zero_no, candidate_no, score_no, pair_at}
use Rattle.stage3.specs.declared.BestSoFar.{BestSoFar}
use Rattle.stage3.specs.declared.pair_search.PairSearch.{PairSearch}
use Rattle.stage3.specs.Stage3.{sat_sum}

-- a place of a nested array, and the sum over the subframes at a lag and a contour
abbrev pub at3 : List (List (List ℤ)) → ℕ → ℕ → ℕ → ℤ
at3 a k j m = get_or (get_or (get_or a k []) j []) m (pos 0)

unfoldable pub summed : ℤ → List (List (List ℤ)) → ℕ → ℕ → ℕ → ℕ → ℤ
summed e a nb start d j = sat_sum e (λ k. at3 a k j (d - start)) nb

-- what is chosen from where two nested arrays hold the cross-correlations X and the energies E, which are added to e
abbrev pub array_choice : List (List (List ℤ)) → List (List (List ℤ)) → ℤ → PairSearch → Choice
array_choice X E e by =
    record {
      fs = by.fs;
      nb = by.codebook.nb;
      cx = by.codebook.complexity;
      lag = by.lag;
      cross = summed (pos 0) X by.codebook.nb (first_tried by.fs by.lag);
      energy = summed e E by.codebook.nb (first_tried by.fs by.lag);
    }

-- one pair more: the quotient is taken where the cross-correlation is positive
abbrev pub with_quotient : BestSoFar → ℤ → ℕ → ℕ → Bool → Option ℤ → Option BestSoFar
with_quotient b bias d j reach None = None
with_quotient b bias d j reach (Some q) =
    cond (reach && lt_z b.top (biased q bias j)) (Some (record { top = biased q bias j; lag = d; contour = j })) (Some b)

unfoldable pub with_pair : BestSoFar → ℤ → ℤ → ℤ → ℕ → ℕ → Bool → Option BestSoFar
with_pair b x e bias d j reach = cond (lt_z (pos 0) x) (with_quotient b bias d j reach (quotient_of x e)) (Some b)

-- after n pairs: b has the best of them, and no divisor was zero
pub record BestOfFirst (c : Choice) (n : ℕ) (b : BestSoFar) : Type 0 where
  pub place : Place
  pub state : laws.Search (minus 2147483648) (candidate_no c) (score_no c) n b.top place
  pub pair : pair_at c place ≡ Pair b.lag b.contour
  pub no_zero : (q : ℕ) → q < n → zero_no c q ≡ false

-- that, or one of them had a zero divisor
abbrev pub AfterFirst : Choice → ℕ → Option BestSoFar → Type 0
AfterFirst c n (Some b) = BestOfFirst c n b
AfterFirst c n None = (q : ℕ) × (q < n) × (zero_no c q ≡ true)
