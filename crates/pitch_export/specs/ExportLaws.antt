-- Laws of the exported frame call: it follows from the frame call's outcome, and its number is the refusal's.
use Rattle.std.specs.Prelude.{Result, Err, ◌≡◌, refl, Bool, true, false, cond, List, ℕ, eqb, ℤ, length, take}
use Rattle.std.proofs.Common.{sym, ap, eqb-true}
use Rattle.pitch_settings.specs.declared.Settings.{Settings}
use Rattle.pitch_settings.specs.Settings.{frame_length}
use Rattle.silk_pitch_analysis.specs.declared.Verdict.{Verdict}
use Rattle.silk_pitch_analysis.specs.Frame.{FrameOutcome, frame_outcome, analysed, verdict_of, frame_no, frame_call}
use Rattle.pitch_export.specs.Export.{export_answer, export_call}

pub export_is : (s : Settings) (x l : List ℤ) (prev corr : ℤ) (old : List ℤ) (a : Result Verdict ℕ) (m : List ℤ) → frame_outcome a m ≡ frame_call s x l prev corr → export_answer a m old ≡ export_call s x l prev corr old
unfolding export_call
export_is s x l prev corr old a m e = ap (λ (o : FrameOutcome). export_answer o.answer o.lags old) e

number_by : (s : Settings) (v : Verdict) (l : List ℤ) (old : List ℤ) (k : ℕ) (b : Bool) → eqb k 0 ≡ b
    → (export_answer (cond b (analysed s v l) (frame_outcome (Err k) l)).answer (cond b (analysed s v l) (frame_outcome (Err k) l)).lags old).number ≡ k
unfolding analysed
number_by s v l old k true e = sym (eqb-true k 0 e)
number_by s v l old k false e = refl

-- the number is the refusal's, and 0 where there is none
pub export_number : (s : Settings) (x l : List ℤ) (prev corr : ℤ) (old : List ℤ) → (export_call s x l prev corr old).number ≡ frame_no s (length x) (length l)
unfolding export_call frame_call
export_number s x l prev corr old = number_by s (verdict_of s (take (frame_length s) x) prev corr) l old (frame_no s (length x) (length l)) (eqb (frame_no s (length x) (length l)) 0) refl
