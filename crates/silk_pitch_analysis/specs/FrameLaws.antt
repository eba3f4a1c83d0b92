-- Laws of a frame: its verdict's pair is one that the index code carries, what the stages are handed, and the answers in numbers.
use Rattle.std.specs.Prelude.{Result, Ok, Err, ◌≡◌, refl, Bool, true, false, cond, List, [], ◌∷◌, ℕ, ◌+◌, ◌-◌, ◌*◌, ◌/◌, ◌≤◌, ◌<◌, eqb, ltb, ℤ, pos, ◌-ℤ◌, take, length}
use Rattle.std.specs.Prelude.{IsErr}
use Rattle.std.proofs.Common.{◌∙◌, subst, arith, eq-eqb, ne_eqb, le-ltb, eqb-true, ltb-false, take_all, ap, ⊎_elim}
use Rattle.std.proofs.lemmas.Bool.{eqb-false}
use Rattle.zint.specs.DiffLaws.{eq_of, sub_ud'}
use Rattle.refusals.specs.declared.Refusal.{Refusal}
use Rattle.refusals.specs.Refusals.{told, number_told}
use Rattle.refusals.specs.RefusalsLaws.{refused_positive}
use Rattle.pitch_settings.specs.declared.Settings.{Settings}
use Rattle.pitch_settings.specs.Settings.{settings_no, held_no, frame_length}
use Rattle.pitch_settings.specs.SettingsLaws.{accepted_settings, analysed_held}
use Rattle.pitch_table.specs.declared.Row.{Row}
use Rattle.pitch_table.specs.Row.{numbers, voiced_row, unpitched_row}
use Rattle.silk_tables.specs.Tables.{contours, in_use, greatest_lag, greatest_index}
use Rattle.silk_tables.proofs.TableLaws.{in_use_bounds}
use Rattle.silk_tables.specs.Rebuild.{carried, CarriedPair}
use Rattle.silk_tables.specs.CarriedLaws.{carried_pair, carried_yes}
use Rattle.silk_resampler.specs.Down23.{filter_numbers, source_filter}
use Rattle.frame_signals.specs.Signals.{down_to_8khz, down_to_4khz}
use Rattle.frame_signals.specs.SignalLaws.{length_eight, length_four}
use Rattle.stage3.specs.Stage3.{stage3, Handed}
use Rattle.stage3.specs.Meaning.{Meaning}
use Rattle.stage3.specs.MeaningLaws.{stage3_means}
use Rattle.stage3.specs.Pick.{Pair}
use Rattle.silk_pitch_analysis.specs.declared.Verdict.{Verdict}
use Rattle.silk_pitch_analysis.specs.declared.Verdict.TheVariants.{Voiced, Unvoiced, ZeroDivisor}
use Rattle.silk_pitch_analysis.specs.Steps.{WinnerRange, VerdictCarried, voiced, unvoiced, zero_divisor, pair_carried_in}
use Rattle.silk_pitch_analysis.specs.Frame.{from_pair, verdict_of, row_from, frame_row, frame_no, FrameOutcome, frame_outcome, analysed, frame_call, row_answer, verdict_numbers, frame_answer_numbers, row_answer_in_numbers, frame_in_numbers, row_in_numbers}

-- the test holds of a verdict whose pair is carried
pub carried_test : {s : Settings} {v : Verdict} → VerdictCarried s v → pair_carried_in s v ≡ true
carried_test (voiced q) = q
carried_test unvoiced = refl
carried_test zero_divisor = refl

-- the pair of a voiced verdict, at settings that are analysed: a sheet can hold them, and the code carries it
pub pair_of : {s : Settings} {v : Verdict} {index contour corr : ℤ} → settings_no s ≡ 0 → VerdictCarried s v → v ≡ Voiced index contour corr
    → (held_no s ≡ 0) × (carried s.rate s.nb s.complexity index contour ≡ true)
pair_of {s} {v} {index} {contour} {corr} h p e = (analysed_held s h, by (subst (VerdictCarried s) e p))
  where
    by : VerdictCarried s (Voiced index contour corr) → carried s.rate s.nb s.complexity index contour ≡ true
    by (voiced q) = q

pub pair_carried : (s : Settings) (corr : ℤ) (lag contour : ℕ) → 2 * s.rate ≤ lag → lag ≤ 2 * s.rate + greatest_index s.rate → contour < contours s.rate s.nb s.complexity
    → VerdictCarried s (from_pair s.rate corr (Pair lag contour))
pair_carried s corr lag contour l h c =
    let e : pos (lag - 2 * s.rate) ≡ pos lag -ℤ pos (2 * s.rate) = eq_of _ _ (omega (arith, sub_ud' (pos lag) (pos (2 * s.rate)))) in
    voiced (carried_yes (subst (λ (i : ℤ). CarriedPair s.rate s.nb s.complexity i (pos contour)) e (carried_pair (omega arith) c)))

-- ---- the scaled winner lies within 2 fs to 18 fs, so stage 3 is handed what it asks

module _ (s : Settings) (w : List ℤ) (h : settings_no s ≡ 0) (len : length w ≡ frame_length s) (lag contour : ℕ) (won : WinnerRange s lag contour) where
  pub handed : (s.rate ≡ 8 → ⊥) → Handed w s.rate s.nb s.complexity (lag * s.rate / 8)
  unfolding frame_length
  handed g =
      let a = accepted_settings s h in
      let r : 12 ≤ s.rate = ⊎_elim (λ e. absurd (g e)) (λ k. ⊎_elim (λ e. omega arith) (λ e. omega arith) k) a.rate in
      record {
        settings = record { subframes = a.subframes; at_least = a.nb_low; at_most = a.nb_high; complexity = omega (arith, a.complexity) };
        rate_low = r;
        rate_high = a.rate_high;
        long = ⊎_elim (λ e. let m : length w ≡ (20 + 5 * 2) * s.rate = len ∙ ap (λ (k : ℕ). (20 + 5 * k) * s.rate) e in rw e (omega arith)) (λ e. let m : length w ≡ (20 + 5 * 4) * s.rate = len ∙ ap (λ (k : ℕ). (20 + 5 * k) * s.rate) e in rw e (omega arith)) a.subframes;
        lag_low = ⊎_elim (λ e. absurd (g e)) (λ k. ⊎_elim (λ e. rw e (omega (arith, won.low))) (λ e. rw e (omega (arith, won.low))) k) a.rate;
        lag_high = ⊎_elim (λ e. absurd (g e)) (λ k. ⊎_elim (λ e. rw e (omega (arith, won.high))) (λ e. rw e (omega (arith, won.high))) k) a.rate;
      }

  -- stage 3's pair: a lag within the least and the greatest, a contour in use
  pub stage3_range : (g : s.rate ≡ 8 → ⊥) (d j : ℕ) → stage3 w s.rate s.nb s.complexity (lag * s.rate / 8) ≡ Pair d j
      → (2 * s.rate ≤ d) × ((d ≤ greatest_lag s.rate) × (j < in_use s.nb s.complexity))
  stage3_range g d j e =
      let r = handed g in
      let m : Meaning w s.rate s.nb s.complexity (lag * s.rate / 8) (Pair d j) = subst (Meaning w s.rate s.nb s.complexity (lag * s.rate / 8)) e (stage3_means w s.rate s.nb s.complexity (lag * s.rate / 8) r) in
      ⊎_elim
      (λ b. (b.candidate.tried.at_least, (b.candidate.tried.at_most, b.candidate.used)))
      (λ z. let u = in_use_bounds r.settings in (omega (arith, z.1, r.lag_low), (omega (arith, z.1, r.lag_high), omega (arith, z.2))))
      m.1

-- ---- the signals of a working frame

module _ (s : Settings) (w : List ℤ) (h : settings_no s ≡ 0) (len : length w ≡ frame_length s) where
  pub eight_length : length (down_to_8khz (filter_numbers source_filter) s.rate w) ≡ (20 + 5 * s.nb) * 8
  unfolding frame_length
  eight_length = length_eight (filter_numbers source_filter) (record { rate = (accepted_settings s h).rate; size = len })

  pub four_length : length (down_to_4khz (down_to_8khz (filter_numbers source_filter) s.rate w)) ≡ (20 + 5 * s.nb) * 4
  four_length = length_four (down_to_8khz (filter_numbers source_filter) s.rate w) ∙ omega (arith, eight_length)

  -- at 12 kHz a frame has at most 480 samples
  pub at_12 : s.rate ≡ 12 → length w ≤ 480
  unfolding frame_length
  at_12 e = rw (len, e) (omega (arith, (accepted_settings s h).nb_high))

-- ---- a frame that is not refused

pub record Taken (s : Settings) (n m : ℕ) : Type 0 where
  pub settings : settings_no s ≡ 0
  pub samples : frame_length s ≤ n
  pub places : s.nb ≤ m

pub taken : (s : Settings) (n m : ℕ) → frame_no s n m ≡ 0 → Taken s n m
unfolding frame_no
taken s n m h = by (eqb (settings_no s) 0) (ltb n (frame_length s)) (ltb m s.nb) refl refl refl h
  where
    by : (t u v : Bool) → eqb (settings_no s) 0 ≡ t → ltb n (frame_length s) ≡ u → ltb m s.nb ≡ v
        → ◌≡◌ {A = ℕ} (cond t (cond u 4 (cond v 5 0)) (settings_no s)) 0 → Taken s n m
    by true true v p q r e = absurd (omega arith)
    by true false true p q r e = absurd (omega arith)
    by true false false p q r e = record { settings = eqb-true (settings_no s) 0 p; samples = ltb-false n (frame_length s) q; places = ltb-false m s.nb r }
    by false u v p q r e = absurd (eqb-false (settings_no s) 0 p e)

-- accepted settings and enough samples: the row is said
pub row_taken : (s : Settings) (x : List ℤ) (prev corr : ℤ) → settings_no s ≡ 0 → frame_length s ≤ length x → row_answer s x prev corr ≡ Ok (frame_row s (take (frame_length s) x) prev corr)
unfolding row_answer frame_no
row_taken s x prev corr h l = rw (eq-eqb _ 0 h, le-ltb (length x) (frame_length s) l, le-ltb 4 s.nb (accepted_settings s h).nb_high)

pub row_whole : (s : Settings) (x : List ℤ) (prev corr : ℤ) → settings_no s ≡ 0 → length x ≡ frame_length s → row_answer s x prev corr ≡ Ok (frame_row s x prev corr)
row_whole s x prev corr h l =
    row_taken s x prev corr h (omega arith) ∙ ap (λ (y : List ℤ). Ok (frame_row s y prev corr)) (take_all (frame_length s) x (omega arith))

-- an answer has one row, and an answer with a row is no refusal
pub one_row : (o : Result Row ℕ) (r q : Row) → o ≡ Ok r → o ≡ Ok q → r ≡ q
one_row o r q e h = cc

pub no_refusal : (o : Result Row ℕ) (r : Row) (n : ℕ) → o ≡ Ok r → o ≡ Err n → ⊥
no_refusal o r n e h = let z : ◌≡◌ {A = ℕ} 0 1 = cc in omega arith

-- ---- the answers in numbers

-- a verdict's numbers are the row's first four
verdict_told : (s : Settings) (v : Verdict) → verdict_numbers v ≡ take 4 (numbers (row_from s v))
unfolding row_from voiced_row unpitched_row
verdict_told s (Voiced index contour corr) = refl
verdict_told s Unvoiced = refl
verdict_told s ZeroDivisor = refl

frame_told : (s : Settings) (v : Verdict) (l : List ℤ) (k : ℕ) (t : Bool) → eqb k 0 ≡ t
    → frame_answer_numbers (cond t (analysed s v l) (frame_outcome (Err k) l)).answer ≡ (pos k ∷ cond t (take 4 (numbers (row_from s v))) [])
unfolding analysed
frame_told s v l k true e = rw (eqb-true k 0 e) (ap (λ (n : List ℤ). pos 0 ∷ n) (verdict_told s v))
frame_told s v l k false e = refl

-- so an outcome that is the defined one is told by the defined numbers
pub answer_told : (s : Settings) (x l : List ℤ) (prev corr : ℤ) (a : Result Verdict ℕ) (m : List ℤ) → frame_outcome a m ≡ frame_call s x l prev corr
    → (frame_outcome a m ≡ frame_call s x l prev corr) × (frame_answer_numbers a ≡ frame_in_numbers s x (length l) prev corr)
unfolding frame_call frame_in_numbers frame_row
answer_told s x l prev corr a m e = (
  e,
  ap (λ (o : FrameOutcome). frame_answer_numbers o.answer) e
      ∙ frame_told s (verdict_of s (take (frame_length s) x) prev corr) l (frame_no s (length x) (length l)) (eqb (frame_no s (length x) (length l)) 0) refl,
)

row_told : (r : Row) (k : ℕ) (t : Bool) → eqb k 0 ≡ t → row_answer_in_numbers (cond t (Ok r) (Err k)) ≡ (pos k ∷ cond t (numbers r) [])
row_told r k true e = rw (eqb-true k 0 e)
row_told r k false e = refl

pub row_answer_told : (s : Settings) (x : List ℤ) (prev corr : ℤ) (a : Result Row ℕ) → a ≡ row_answer s x prev corr
    → (a ≡ row_answer s x prev corr) × (row_answer_in_numbers a ≡ row_in_numbers s x prev corr)
unfolding row_answer row_in_numbers
row_answer_told s x prev corr a e =
    (e, ap row_answer_in_numbers e ∙ row_told (frame_row s (take (frame_length s) x) prev corr) (frame_no s (length x) 4) (eqb (frame_no s (length x) 4) 0) refl)

-- ---- a refusal of the settings or the sizes is the answer's

pub row_refused : (s : Settings) (x : List ℤ) (prev corr : ℤ) (r : Result Row Refusal) → IsErr r → number_told r ≡ frame_no s (length x) 4 → told r ≡ row_answer s x prev corr
unfolding row_answer
row_refused s x prev corr (Err r) h e = rw (ne_eqb _ 0 (refused_positive r e)) (ap Err e)
row_refused s x prev corr (Ok r) h e = cc

pub frame_refused : (s : Settings) (x l : List ℤ) (prev corr : ℤ) (r : Result Verdict Refusal) → IsErr r → number_told r ≡ frame_no s (length x) (length l) → frame_outcome (told r) l ≡ frame_call s x l prev corr
unfolding frame_call
frame_refused s x l prev corr (Err r) h e = rw (ne_eqb _ 0 (refused_positive r e)) (ap (λ (n : ℕ). frame_outcome (Err n) l) e)
frame_refused s x l prev corr (Ok r) h e = cc

-- a frame that is taken is called so
pub frame_taken : (s : Settings) (x l : List ℤ) (prev corr : ℤ) → settings_no s ≡ 0 → frame_length s ≤ length x → s.nb ≤ length l → frame_call s x l prev corr ≡ analysed s (verdict_of s (take (frame_length s) x) prev corr) l
unfolding frame_call frame_no
frame_taken s x l prev corr h n m = rw (eq-eqb _ 0 h, le-ltb (length x) (frame_length s) n, le-ltb (length l) s.nb m)
