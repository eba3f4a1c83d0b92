-- What stage 1's answer is, in words: a zero divisor where some half-frame and lag have one; unvoiced where none has and the greatest score is under 3277; otherwise the
-- lags that go on, in the ranking's order. `MeaningLaws` shows that this holds of the answer and of no other.
use Rattle.std.specs.Prelude.{◌≡◌, List, ◌⊎◌, ℕ, ◌+◌, ◌-◌, ◌*◌, ◌/◌, ◌≤◌, ◌<◌, ℤ, pos, length, get_or, replicate, ◌≤ℤ◌, ◌<ℤ◌}
use Rattle.silk_macros.specs.Macros.{smulwb}
use Rattle.silk_sort.specs.Rank.{rank}
use Rattle.stage1.specs.Stage1.{Screen, ZeroDivisor, Unvoiced, Goes, Stage1, divisor1, score1, scores1}

-- "lags 8 to 72"
pub record Lag (d : ℕ) : Type 0 where
  pub at_least : 8 ≤ d
  pub at_most : d ≤ 72

module _ (f : List ℤ) (nb : ℕ) where
  -- a half-frame and a lag whose divisor is zero: all of them are reached
  pub record ZeroReached1 (h d : ℕ) : Type 0 where
    pub half : h < nb / 2
    pub lag : Lag d
    pub no_divisor : divisor1 f h d ≡ pos 0

  -- lag e ranks before lag d: it scores higher, or the same and is smaller
  abbrev pub RanksBefore : ℕ → ℕ → Type 0
  RanksBefore e d = (score1 f nb d <ℤ score1 f nb e) ⊎ ((score1 f nb e ≡ score1 f nb d) × (e < d))

  -- how many lags rank before d (`MeaningLaws`: place1 e < place1 d exactly where e ranks before d)
  abbrev pub place1 : ℕ → ℕ
  place1 d = rank (scores1 f nb) (d - 8)

  -- the greatest score
  pub record Top (t : ℤ) : Type 0 where
    pub of : (d : ℕ) × (Lag d × (score1 f nb d ≡ t))
    pub highest : (d : ℕ) → Lag d → score1 f nb d ≤ℤ t

  module _ (cx : ℕ) (thres1 : ℤ) where
    -- a lag that goes on: it is among the 4 + 2 × complexity best, and strictly above the threshold `silk_smulwb(thres1, best)`. The scores fall along the ranking, so no
    -- lag before it stops the scan
    pub record LagGoesOn (t : ℤ) (d : ℕ) : Type 0 where
      pub lag : Lag d
      pub among : place1 d < 4 + 2 * cx
      pub above : smulwb thres1 t <ℤ score1 f nb d

    -- the lags that go on and no others, each at the place that says how many rank before it; 0 in the places after them
    pub record KeptLags (t : ℤ) (lags : List ℕ) (count : ℕ) : Type 0 where
      pub size : length lags ≡ 8
      pub each : (p : ℕ) → p < count → LagGoesOn t (get_or lags p 0) × (place1 (get_or lags p 0) ≡ p)
      pub all : (d : ℕ) → LagGoesOn t d → place1 d < count
      pub rest : (p : ℕ) → count ≤ p → get_or lags p 0 ≡ 0

    abbrev pub Said : Screen → List ℕ → ℕ → Type 0
    Said ZeroDivisor lags count = ((h : ℕ) × (d : ℕ) × ZeroReached1 h d) × (lags ≡ replicate 8 0) × (count ≡ 0)
    Said Unvoiced lags count = ((h d : ℕ) → ZeroReached1 h d → ⊥) × ((t : ℤ) × Top t × (t <ℤ pos 3277)) × (lags ≡ replicate 8 0) × (count ≡ 0)
    Said Goes lags count = ((h d : ℕ) → ZeroReached1 h d → ⊥) × ((t : ℤ) × Top t × (pos 3277 ≤ℤ t) × KeptLags t lags count)

    abbrev pub Meaning1 : Stage1 → Type 0
    Meaning1 x = Said x.screen x.lags x.count
