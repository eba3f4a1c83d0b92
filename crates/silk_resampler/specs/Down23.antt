-- Two thirds of the rate (`silk_resampler_private_ar2` and one batch of `silk_resampler_down2_3`, resampler.rs): a second-order recursion into a buffer, then two outputs for
-- every three values of it. What differs between the source and the RFC's reference code is a parameter, four numbers. Definitions only.
use Rattle.std.specs.Prelude.{cond, List, ◌∷◌, ◌++◌, ℕ, zero, suc, ◌+◌, ◌-◌, ◌*◌, ◌/◌, ◌%◌, ltb, eqb, ℤ, pos, ◌+ℤ◌, ◌*ℤ◌, length, drop, replicate}
use Rattle.std.specs.Int.{w16, w32}
use Rattle.zint.specs.Clamp.{sat}
use Rattle.zint.specs.Wrap.{wrap}
use Rattle.silk_macros.specs.Macros.{smulwb, smlawb, rshift_round}
use Rattle.lists.specs.Fill.{tabulate}
use Rattle.lists.specs.Signal.{sample}
use Rattle.zint.specs.Minus.{minus}
use Rattle.silk_resampler.specs.declared.filter.Filter.{Filter}
use Rattle.std.proofs.Common.{lit<}

-- in what the filters differ, any four numbers: by what the recursion's output is multiplied before a coefficient, how often it is itself added to the first state, and the bits
-- by which the first and the second output of a pair are rounded
pub record FilterNumbers : Type 0 where
  pub factor : ℕ
  pub adds : ℕ
  pub round_even : ℕ
  pub round_odd : ℕ

-- those of a filter of the code
abbrev pub filter_numbers : Filter → FilterNumbers
filter_numbers F = record { factor = F.factor; adds = F.adds; round_even = F.round_even; round_odd = F.round_odd }

-- the source's: no factor 4, the output added, and 9 and 8 bits
unfoldable pub source_filter : Filter
source_filter = record {
  factor = 1;
  adds = 1;
  round_even = 9;
  round_odd = 8;
  factor_fits = lit< tt;
  adds_fits = lit< tt;
  even_rounds = lit< tt;
  even_below = lit< tt;
  odd_rounds = lit< tt;
  odd_below = lit< tt;
}

-- ---- the recursion, with the coefficients a and b

pub record States : Type 0 where
  pub first : ℤ
  pub second : ℤ

-- the output of the first state s and the sample v
unfoldable pub ar2_out : ℤ → ℤ → ℤ
ar2_out s v = wrap w32 (s +ℤ v *ℤ pos 256)

-- what the output o feeds back by a coefficient
unfoldable pub feedback : FilterNumbers → ℤ → ℤ → ℤ
feedback F a o = smulwb (wrap w32 (o *ℤ pos F.factor)) a

-- the first state after the output o, t the second
unfoldable pub first_next : FilterNumbers → ℤ → ℤ → ℤ → ℤ
first_next F a t o = wrap w32 (t +ℤ o *ℤ pos F.adds +ℤ feedback F a o)

-- the states before sample k
unfoldable pub ar2_states : FilterNumbers → ℤ → ℤ → States → (ℕ → ℤ) → ℕ → States
ar2_states F a b s x zero = s
ar2_states F a b s x (suc k) =
    let p = ar2_states F a b s x k in
    let o = ar2_out p.first (x k) in
    record { first = first_next F a p.second o; second = feedback F b o }

-- output k
unfoldable pub filtered : FilterNumbers → ℤ → ℤ → States → (ℕ → ℤ) → ℕ → ℤ
filtered F a b s x k = ar2_out (ar2_states F a b s x k).first (x k)

-- the two states in the first places of a list, and the list with others there
unfoldable pub states_of : List ℤ → States
states_of l = record { first = sample l 0; second = sample l 1 }

unfoldable pub with_states : States → List ℤ → List ℤ
with_states s l = s.first ∷ s.second ∷ drop 2 l

-- ---- the outputs, of a buffer b

-- four neighbours from p on by four coefficients, in the source's order
unfoldable pub weighted : ℤ → ℤ → ℤ → ℤ → (ℕ → ℤ) → ℕ → ℤ
weighted c d e f b p = smlawb (smlawb (smlawb (smulwb (b p) c) (b (p + 1)) d) (b (p + 2)) e) (b (p + 3)) f

-- rounded by s bits, held within 16
unfoldable pub rounded : ℕ → ℤ → ℤ
rounded s z = sat w16 (rshift_round z s)

-- outputs 2m and 2m + 1: the same coefficients from the other end
unfoldable pub even_out : FilterNumbers → (ℕ → ℤ) → ℕ → ℤ
even_out F b m = rounded F.round_even (weighted (pos 4697) (pos 10739) (pos 8276) (pos 1567) b (3 * m))

unfoldable pub odd_out : FilterNumbers → (ℕ → ℤ) → ℕ → ℤ
odd_out F b m = rounded F.round_odd (weighted (pos 1567) (pos 8276) (pos 10739) (pos 4697) b (3 * m + 1))

-- output j
unfoldable pub decimated : FilterNumbers → (ℕ → ℤ) → ℕ → ℤ
decimated F b j = cond (eqb (j % 2) 0) (even_out F b (j / 2)) (odd_out F b (j / 2))

-- ---- one batch

-- the buffer: the four values of history h, then the recursion's outputs
unfoldable pub after_history : (ℕ → ℤ) → (ℕ → ℤ) → ℕ → ℤ
after_history h y k = cond (ltb k 4) (h k) (y (k - 4))

-- the buffer of a batch over the signal x, the six states s lent: four values of history, and the recursion's two states
unfoldable pub buffer : FilterNumbers → List ℤ → (ℕ → ℤ) → ℕ → ℤ
buffer F s x = after_history (sample s) (filtered F (minus 2797) (minus 6507) (states_of (drop 4 s)) x)

-- the lent states after n samples: the buffer's last four values, the recursion's states, and the rest of the list
unfoldable pub down2_3_states : FilterNumbers → List ℤ → (ℕ → ℤ) → ℕ → List ℤ
down2_3_states F s x n =
    tabulate (λ i. buffer F s x (n + i)) 4 ++ with_states (ar2_states F (minus 2797) (minus 6507) (states_of (drop 4 s)) x n) (drop 4 s)

-- a whole frame from states of 0, as the pitch analyser takes it from 12 to 8 kHz
unfoldable pub down2_3 : FilterNumbers → List ℤ → List ℤ
down2_3 F xs = tabulate (decimated F (buffer F (replicate 6 (pos 0)) (sample xs))) (2 * (length xs / 3))
