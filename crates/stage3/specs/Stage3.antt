-- Stage 3 of the pitch analyser: what it answers for a working frame w at the rate fs, with nb subframes, the complexity cx and the scaled winner lag of stage 2.
use Rattle.std.specs.Prelude.{cond, List, [], ◌∷◌, ℕ, zero, suc, ◌-◌, ◌*◌, ℤ, pos, ◌+ℤ◌}
use Rattle.std.specs.Int.{w32}
use Rattle.zint.specs.Clamp.{sat}
use Rattle.zint.specs.Wrap.{wrap}
use Rattle.silk_sigproc.specs.Dot.{energy_sum}
use Rattle.best.specs.Best.{Place, none, at}
use Rattle.stage3_arrays.specs.Arrays.{cross_at, energy_at, LagInFrame}
use Rattle.stage3.specs.Pick.{Found, Pair, ZeroDivisor, Choice, first_tried, lag_no, contour_no, zero3, best3, pick}

-- f 0, f 1, .., f (n - 1) added to e, held to 32 bits each time
unfoldable pub sat_sum : ℤ → (ℕ → ℤ) → ℕ → ℤ
sat_sum e f zero = e
sat_sum e f (suc n) = sat w32 (sat_sum e f n +ℤ f n)

-- the energy of all subframes, with the 1 that the source adds to it: the sum, and its word
abbrev pub target_energy3 : List ℤ → ℕ → ℕ → ℤ
target_energy3 w fs nb = energy_sum w (20 * fs) (nb * (5 * fs)) +ℤ pos 1

unfoldable pub energy_target : List ℤ → ℕ → ℕ → ℤ
energy_target w fs nb = wrap w32 (target_energy3 w fs nb)

-- a pair's sums over the subframes
unfoldable pub cross3 : List ℤ → ℕ → ℕ → ℕ → ℕ → ℤ
cross3 w fs nb d j = sat_sum (pos 0) (λ k. cross_at w fs nb k j d) nb

unfoldable pub energy3 : List ℤ → ℕ → ℕ → ℕ → ℕ → ℕ → ℕ → ℤ
energy3 w fs nb cx lag d j =
    sat_sum (energy_target w fs nb) (λ k. energy_at w fs nb cx (first_tried fs lag) k j (d - first_tried fs lag)) nb

-- what stage 3 chooses from, and its choice
abbrev pub choice : List ℤ → ℕ → ℕ → ℕ → ℕ → Choice
choice w fs nb cx lag = record { fs = fs; nb = nb; cx = cx; lag = lag; cross = cross3 w fs nb; energy = energy3 w fs nb cx lag }

unfoldable pub stage3 : List ℤ → ℕ → ℕ → ℕ → ℕ → Found
stage3 w fs nb cx lag = pick (choice w fs nb cx lag)

-- ---- the answer in numbers

-- the answer's cases: a pair is verdict 0 with its lag and contour, a zero divisor verdict 2
abbrev pub found_numbers : Found → List ℤ
found_numbers (Pair d j) = pos 0 ∷ pos d ∷ pos j ∷ []
found_numbers ZeroDivisor = pos 2 ∷ []

-- the values from the place of the best candidate; where there is none, the scaled winner and contour 0
abbrev pub pair_values : Choice → Place → List ℤ
pair_values c none = pos c.lag ∷ pos 0 ∷ []
pair_values c (at p) = pos (lag_no c p) ∷ pos (contour_no c p) ∷ []

-- stage 3's verdict, and the values that come with verdict 0
unfoldable pub stage3_verdict : List ℤ → ℕ → ℕ → ℕ → ℕ → ℕ
stage3_verdict w fs nb cx lag = cond (zero3 (choice w fs nb cx lag)) 2 0

unfoldable pub stage3_values : List ℤ → ℕ → ℕ → ℕ → ℕ → List ℤ
stage3_values w fs nb cx lag = pair_values (choice w fs nb cx lag) (best3 (choice w fs nb cx lag))

-- what stage 3 is handed
abbrev pub Handed : List ℤ → ℕ → ℕ → ℕ → ℕ → Type 0
Handed w fs nb cx lag = LagInFrame w fs nb cx lag
