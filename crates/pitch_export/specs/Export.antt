-- What `pitch_frame` answers and leaves in the lent places: the frame call's outcome in numbers. Definitions only.
use Rattle.std.specs.Prelude.{Result, Ok, Err, List, [], ◌∷◌, ℕ, ℤ}
use Rattle.pitch_settings.specs.declared.Settings.{Settings}
use Rattle.silk_pitch_analysis.specs.declared.Verdict.{Verdict}
use Rattle.silk_pitch_analysis.specs.Frame.{frame_call, verdict_numbers}

abbrev pub export_settings : ℕ → ℕ → ℕ → ℤ → ℤ → Settings
export_settings rate nb complexity thres1 thres2 = record { rate = rate; nb = nb; complexity = complexity; thres1 = thres1; thres2 = thres2 }

-- the four lent numbers: verdict, lag index, contour index, correlation
abbrev pub lent_numbers : ℤ → ℤ → ℤ → ℤ → List ℤ
lent_numbers v i c q = v ∷ i ∷ c ∷ q ∷ []

-- the number that is returned, the lag places and the four numbers at exit
pub record Exported : Type 0 where
  pub number : ℕ
  pub lags : List ℤ
  pub numbers : List ℤ

abbrev pub exported : ℕ → List ℤ → List ℤ → Exported
exported k l t = record { number = k; lags = l; numbers = t }

-- a verdict is given by the four numbers; a refusal leaves those that were there
abbrev pub export_answer : Result Verdict ℕ → List ℤ → List ℤ → Exported
export_answer (Ok v) l old = exported 0 l (verdict_numbers v)
export_answer (Err k) l old = exported k l old

unfoldable pub export_call : Settings → List ℤ → List ℤ → ℤ → ℤ → List ℤ → Exported
export_call s x l prev corr old = export_answer (frame_call s x l prev corr).answer (frame_call s x l prev corr).lags old
