-- Stage 1 of the pitch analyser: which lags at 4 kHz go on to stage 2 (docs/SCOPE.md, Stages; pitch_analysis.rs, lines 201 to 290).
-- f is the frame's 4 kHz signal, nb the subframe count, cx the complexity, thres1 the first threshold. A best is named by comparison (`best`, `silk_sort`): no search runs here.
-- Definitions only.
use Rattle.std.specs.Prelude.{Result, Ok, Err, Option, ◌≡◌, Bool, cond, List, [], ◌∷◌, ◌⊎◌, ℕ, ◌+◌, ◌-◌, ◌*◌, ◌/◌, ◌%◌, ◌≤◌, ◌<◌, eqb, ℤ, pos, ◌+ℤ◌, ◌-ℤ◌, ◌*ℤ◌, length, drop, replicate}
use Rattle.std.specs.Int.Signed.{lt_z, le_z}
use Rattle.std.specs.Int.{w16, w32}
use Rattle.zint.specs.Wrap.{wrap}
use Rattle.lists.specs.Signal.{sample}
use Rattle.lists.specs.Fill.{tabulate, filled}
use Rattle.best.specs.Best.{some, Place, none, at, first_from}
use Rattle.silk_macros.specs.Macros.{smulwb, smlawb}
use Rattle.silk_macros.specs.Divide.{quotient, by_zero, low16_of}
use Rattle.silk_sigproc.specs.Dot.{dot, energy_sum}
use Rattle.silk_sort.specs.Rank.{ranked}
use Rattle.answers.specs.declared.NoPitch.{NoPitch}
use Rattle.answers.specs.declared.NoPitch.TheVariants.{Unvoiced as HasNone, ZeroDivisor as ByZero}
use Rattle.stage1.specs.declared.candidates.Candidates.{Candidates}

-- ---- the lags 8 to 72 at 4 kHz

-- half-frame h, one for each two subframes, is the 40 samples from here on; lag d compares it with the 40 samples d earlier
unfoldable pub target1 : ℕ → ℕ
target1 h = 80 + 40 * h

-- ---- the sums in whole numbers

-- the products of the half-frame's samples with those d earlier
unfoldable pub cross_sum1 : List ℤ → ℕ → ℕ → ℤ
cross_sum1 f h d = dot (drop (target1 h) f) (drop (target1 h - d) f) 40

-- the energy of the half-frame, and that of the samples d earlier
unfoldable pub target_energy1 : List ℤ → ℕ → ℤ
target_energy1 f h = energy_sum f (target1 h) 40

unfoldable pub basis_energy1 : List ℤ → ℕ → ℕ → ℤ
basis_energy1 f h d = energy_sum f (target1 h - d) 40

-- the two energies and 40 * 4000
unfoldable pub divisor_sum1 : List ℤ → ℕ → ℕ → ℤ
divisor_sum1 f h d = target_energy1 f h +ℤ basis_energy1 f h d +ℤ pos 160000

-- ---- what is divided: the sums, wrapped to 32 bits

unfoldable pub cross1 : List ℤ → ℕ → ℕ → ℤ
cross1 f h d = wrap w32 (cross_sum1 f h d)

unfoldable pub divisor1 : List ℤ → ℕ → ℕ → ℤ
divisor1 f h d = wrap w32 (divisor_sum1 f h d)

-- the quotient at Q14, or a zero divisor
unfoldable pub quotient1 : List ℤ → ℕ → ℕ → Option ℤ
quotient1 f h d = quotient (cross1 f h d) (divisor1 f h d) (pos 14)

-- ---- the divisors by number, in the source's order: half-frames, and in each the lags 8 to 72 rising. All of them are reached

unfoldable pub divisors1 : ℕ → ℕ
divisors1 nb = nb / 2 * 65

unfoldable pub half_no : ℕ → ℕ
half_no p = p / 65

unfoldable pub lag_no1 : ℕ → ℕ
lag_no1 p = 8 + p % 65

-- some quotient that is reached has divisor zero
unfoldable pub zero1 : List ℤ → ℕ → Bool
zero1 f nb = some (divisors1 nb) (λ p. by_zero (quotient1 f (half_no p) (lag_no1 p)))

-- ---- the scores, by the source's steps

-- the quotient's low 16 bits (where it has none the stage ends, and the 0 is not read)
unfoldable pub corr1 : List ℤ → ℕ → ℕ → ℤ
corr1 f h d = low16_of (quotient1 f h d)

-- both half-frames, or the only one twice
unfoldable pub sum1 : List ℤ → ℕ → ℕ → ℤ
sum1 f nb d = cond (eqb nb 4) (corr1 f 0 d +ℤ corr1 f 1 d) (pos 2 *ℤ corr1 f 0 d)

-- marked down by d / 4096 of itself, and cut to 16 bits
unfoldable pub biased1 : ℤ → ℕ → ℤ
biased1 s d = wrap w16 (smlawb s s (pos 0 -ℤ pos (16 * d)))

unfoldable pub score1 : List ℤ → ℕ → ℕ → ℤ
score1 f nb d = biased1 (sum1 f nb d) d

-- the scores of the lags 8, 9, .., 72
unfoldable pub scores1 : List ℤ → ℕ → List ℤ
scores1 f nb = tabulate (λ i. score1 f nb (8 + i)) 65

-- ---- the lags that go on, from the scores xs

-- the lag at place r of the ranking, falling, of equals the earlier lag first; and its score
unfoldable pub lag_at : List ℤ → ℕ → ℕ
lag_at xs r = 8 + ranked xs r

unfoldable pub score_at : List ℤ → ℕ → ℤ
score_at xs r = sample xs (ranked xs r)

-- 4 + 2 × complexity: so many places of the ranking are searched
unfoldable pub search_length : ℕ → ℕ
search_length cx = 4 + 2 * cx

-- the threshold is a share thres1 of the best: the best is the score at the first place
unfoldable pub threshold1 : List ℤ → ℤ → ℤ
threshold1 xs thres1 = smulwb thres1 (score_at xs 0)

-- the ranking is read up to the first score that is not strictly above the threshold: how many come before that one
unfoldable pub place_or : ℕ → Place → ℕ
place_or n none = n
place_or n (at p) = p

unfoldable pub kept_count : List ℤ → ℕ → ℤ → ℕ
kept_count xs cx thres1 = place_or (search_length cx) (first_from 0 (search_length cx) (λ r. le_z (score_at xs r) (threshold1 xs thres1)))

-- ---- the answer

-- whether the frame goes on
pub data Screen : Type 0 where
  ZeroDivisor : Screen
  Unvoiced : Screen
  Goes : Screen

-- and the lags that go on, the first `count` of them, the best first; the other places are 0
pub record Stage1 : Type 0 where
  pub screen : Screen
  pub lags : List ℕ
  pub count : ℕ

-- nothing goes on
unfoldable pub stopped : Screen → Stage1
stopped s = record { screen = s; lags = replicate 8 0; count = 0 }

-- a best under 3277 is unvoiced, and 3277 itself goes on
unfoldable pub screened : List ℤ → ℕ → ℤ → Stage1
screened xs cx thres1 =
    cond (lt_z (score_at xs 0) (pos 3277)) (stopped Unvoiced)
    (record { screen = Goes; lags = filled (lag_at xs) (kept_count xs cx thres1) (replicate 8 0); count = kept_count xs cx thres1 })

unfoldable pub stage1 : List ℤ → ℕ → ℕ → ℤ → Stage1
stage1 f nb cx thres1 = cond (zero1 f nb) (stopped ZeroDivisor) (screened (scores1 f nb) cx thres1)

-- the code's answer: the lags that go on, or why there is no pitch
abbrev pub answer_of : Result Candidates NoPitch → Stage1
answer_of (Ok c) = record { screen = Goes; lags = c.lags; count = c.count }
answer_of (Err HasNone) = stopped Unvoiced
answer_of (Err ByZero) = stopped ZeroDivisor

-- which way it goes in numbers: 2 a zero divisor, 1 unvoiced, 0 goes on; and which of them comes
abbrev pub screen_numbers : Screen → List ℤ
screen_numbers ZeroDivisor = pos 2 ∷ []
screen_numbers Unvoiced = pos 1 ∷ []
screen_numbers Goes = pos 0 ∷ []

unfoldable pub screen_number : List ℤ → ℕ → ℕ
screen_number f nb = cond (zero1 f nb) 2 (cond (lt_z (score_at (scores1 f nb) 0) (pos 3277)) 1 0)

-- the kept lags in order, which stage 2 marks where stage 1 goes on
unfoldable pub kept_lags : List ℤ → ℕ → ℕ → ℤ → List ℕ
kept_lags f nb cx thres1 = tabulate (lag_at (scores1 f nb)) (kept_count (scores1 f nb) cx thres1)

-- what stage 1 is handed: two or four subframes, complexity 0, 1 or 2, and the frame's 4 kHz signal
pub record Handed1 (f : List ℤ) (nb cx : ℕ) : Type 0 where
  pub subframes : (nb ≡ 2) ⊎ (nb ≡ 4)
  pub complexity : cx < 3
  pub long : (20 + 5 * nb) * 4 ≤ length f
