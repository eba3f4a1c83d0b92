-- What a frame's verdict is, in words (docs/SCOPE.md, Stages): unvoiced exactly where no divisor reached is zero and either stage 1's best is under 3277
-- or no lag passes stage 2; a zero divisor exactly where a divisor reached is zero; a voiced frame's pair is the last stage's best by comparison or, where stage 3 has no candidate, the
-- scaled winner with contour 0. `VerdictExactly` is the claim, and `MeaningLaws` shows it.
use Rattle.std.specs.Prelude.{◌≡◌, List, ◌⊎◌, ℕ, ◌*◌, ℤ, pos, ◌-ℤ◌, ◌≤ℤ◌, ◌<ℤ◌}
use Rattle.pitch_settings.specs.declared.Settings.{Settings}
use Rattle.frame_signals.specs.Scale.{scaled}
use Rattle.stage1.specs.Stage1.{score1, kept_lags}
use Rattle.stage1.specs.Meaning.{Lag, ZeroReached1}
use Rattle.stage2.specs.Stage2.{search_of}
use Rattle.stage2.specs.Meaning.{ZeroReached2, Passes, Wins}
use Rattle.stage3.specs.Meaning.{ZeroReached as ZeroReached3, BestPair, Candidate}
use Rattle.silk_pitch_analysis.specs.declared.Verdict.{Verdict}
use Rattle.silk_pitch_analysis.specs.declared.Verdict.TheVariants.{Voiced, Unvoiced, ZeroDivisor}
use Rattle.silk_pitch_analysis.specs.Frame.{signal8, signal4, scaled_lag, verdict_of}

module _ (s : Settings) (x : List ℤ) (prev corr : ℤ) where
  -- the working frame, its 8 kHz and 4 kHz forms, and the lags that stage 1 keeps
  abbrev pub w : List ℤ
  w = scaled x

  abbrev pub e : List ℤ
  e = signal8 s w

  abbrev pub f : List ℤ
  f = signal4 s w

  abbrev pub lags : List ℕ
  lags = kept_lags f s.nb s.complexity s.thres1

  -- ---- the divisors that each stage reaches

  abbrev pub Zero1 : Type 0
  Zero1 = (h : ℕ) × (d : ℕ) × ZeroReached1 f s.nb h d

  abbrev pub Zero2 : Type 0
  Zero2 = (k : ℕ) × (d : ℕ) × ZeroReached2 e lags s.nb k d

  -- of stage 3, from stage 2's winner
  abbrev pub Zero3 : ℕ → Type 0
  Zero3 lag = (d : ℕ) × (j : ℕ) × ZeroReached3 w s.rate s.nb s.complexity (scaled_lag s.rate lag) d j

  -- ---- stage 1's best is under 3277, or it goes on

  abbrev pub UnderBest : Type 0
  UnderBest = (d : ℕ) → Lag d → score1 f s.nb d <ℤ pos 3277

  abbrev pub GoesOn : Type 0
  GoesOn = (d : ℕ) × (Lag d × (pos 3277 ≤ℤ score1 f s.nb d))

  -- ---- stage 2: no lag passes, or the winner: it passes, scores at least as high as every passing lag and higher than every lower one

  abbrev pub NonePasses : Type 0
  NonePasses = (d : ℕ) → Passes (search_of e lags s.rate s.nb s.complexity s.thres2 prev corr) d → ⊥

  abbrev pub Won : ℕ → ℕ → ℤ → Type 0
  Won d j r = Wins (search_of e lags s.rate s.nb s.complexity s.thres2 prev corr) d j r

  -- ---- the last stage's pair: at 8 kHz the winner's; else stage 3's candidate that scores at least as high as every other and higher than every earlier one, or the scaled winner
  -- with contour 0 where there is no candidate

  abbrev pub Best3 : ℕ → ℕ → ℕ → Type 0
  Best3 lag d j =
      BestPair w s.rate s.nb s.complexity (scaled_lag s.rate lag) d j
      ⊎ (((d' j' : ℕ) → Candidate w s.rate s.nb s.complexity (scaled_lag s.rate lag) d' j' → ⊥) × (d ≡ scaled_lag s.rate lag) × (j ≡ 0))

  abbrev pub Last : ℕ → ℕ → ℕ → ℕ → Type 0
  Last lag contour d j = ((s.rate ≡ 8) × ((d ≡ lag) × (j ≡ contour))) ⊎ ((s.rate ≡ 8 → ⊥) × ((Zero3 lag → ⊥) × Best3 lag d j))

  -- ---- the verdicts

  -- no divisor reached is zero, and stage 1's best is under 3277 or no lag passes stage 2; stage 2 is entered only where stage 1 goes on
  abbrev pub UnvoicedWhen : Type 0
  UnvoicedWhen = (Zero1 → ⊥) × (UnderBest ⊎ (GoesOn × ((Zero2 → ⊥) × NonePasses)))

  -- a divisor reached is zero: in stage 1; in stage 2, which is entered where stage 1 goes on; in stage 3, which is entered at 12 and 16 kHz with stage 2's winner
  pub data ZeroWhen : Type 0 where
    stage1_zero : Zero1 → ZeroWhen
    stage2_zero : GoesOn → Zero2 → ZeroWhen
    stage3_zero : GoesOn → (s.rate ≡ 8 → ⊥) → (winner winner_contour : ℕ) (r : ℤ) → Won winner winner_contour r → Zero3 winner → ZeroWhen

  -- the pair's lag d and contour j, and the winner's correlation
  pub record VoicedWhen (index contour r : ℤ) : Type 0 where
    pub no_zero1 : Zero1 → ⊥
    pub goes : GoesOn
    pub no_zero2 : Zero2 → ⊥
    pub winner : ℕ
    pub winner_contour : ℕ
    pub won : Won winner winner_contour r
    pub lag : ℕ
    pub lag_contour : ℕ
    pub last : Last winner winner_contour lag lag_contour
    pub index_is : index ≡ pos lag -ℤ pos (2 * s.rate)
    pub contour_is : contour ≡ pos lag_contour

  abbrev pub Means : Verdict → Type 0
  Means (Voiced index contour r) = VoicedWhen index contour r
  Means Unvoiced = UnvoicedWhen
  Means ZeroDivisor = ZeroWhen

  -- the claim: each verdict comes exactly where it has its meaning
  abbrev pub VerdictExactly : Type 0
  VerdictExactly = (v : Verdict) → (verdict_of s x prev corr ≡ v → Means v) × (Means v → verdict_of s x prev corr ≡ v)
