-- `WorkingFrame::verdict` meets its contract.
use Rattle.std.proofs.Common.{◌≡◌, sym, ap, ◌∙◌, List, ◌+◌, ◌*◌, arith, ℤ, pos, length, take, replicate, Result, Ok, Err, MatchResult}
use Rattle.lists.specs.Fill.{overwritten}
use Rattle.pitch_settings.specs.declared.Settings.{Settings}
use Rattle.pitch_settings.specs.Settings.{settings_no, frame_length}
use Rattle.pitch_settings.specs.SettingsLaws.{accepted_settings}
use Rattle.silk_resampler.specs.declared.Filter.{Filter}
use Rattle.silk_resampler.specs.Down23.{filter_numbers, source_filter}
use Rattle.frame_signals.specs.Signals.{down_to_8khz, down_to_4khz}
use Rattle.frame_signals.specs.SignalLaws.{take_overwritten}
use Rattle.stage1.specs.Stage1.{stage1}
use Rattle.silk_pitch_analysis.specs.declared.Verdict.{Verdict}
use Rattle.answers.specs.declared.NoPitch.{NoPitch}
use Rattle.silk_pitch_analysis.specs.Steps.{verdict_without, verdict_from}
use Rattle.silk_pitch_analysis.specs.Frame.{signal8, signal4, from_screen, staged}
use Rattle.silk_pitch_analysis.specs.FrameLaws.{eight_length, four_length, at_12}
use Rattle.silk_pitch_analysis.proofs.working.WorkingFrame.verdict.Goals as goal

module _ (s : Settings) (w : List ℤ) (h : settings_no s ≡ 0) (len : length w ≡ frame_length s) where
  -- the 8 kHz signal, in the front of its buffer
  eight_front : {F : Filter} {buf : List ℤ} → F ≡ source_filter → buf ≡ overwritten (down_to_8khz (filter_numbers F) s.rate w) (replicate 320 (pos 0)) → take ((20 + 5 * s.nb) * 8) buf ≡ signal8 s w
  eight_front f e =
      ap (take ((20 + 5 * s.nb) * 8)) (e ∙ ap (λ (F : Filter). overwritten (down_to_8khz (filter_numbers F) s.rate w) (replicate 320 (pos 0))) f)
      ∙ take_overwritten _ _ ((20 + 5 * s.nb) * 8) (eight_length s w h len)

  -- and the 4 kHz signal
  four_front : {e buf : List ℤ} → e ≡ signal8 s w → buf ≡ overwritten (down_to_4khz e) (replicate 160 (pos 0)) → take ((20 + 5 * s.nb) * 4) buf ≡ signal4 s w
  four_front q e =
      ap (take ((20 + 5 * s.nb) * 4)) (e ∙ ap (λ (l : List ℤ). overwritten (down_to_4khz l) (replicate 160 (pos 0))) q)
      ∙ take_overwritten (signal4 s w) (replicate 160 (pos 0)) ((20 + 5 * s.nb) * 4) (four_length s w h len)

pub overflow_mul-n8 : goal.overflow_mul-n8
overflow_mul-n8 c = omega (arith, (accepted_settings _ c.args.self.settings.analysed).nb_high)

pub overflow_add-n8 : goal.overflow_add-n8
overflow_add-n8 c = omega (arith, (accepted_settings _ c.args.self.settings.analysed).nb_high)

pub overflow_mul-n8-2 : goal.overflow_mul-n8-2
overflow_mul-n8-2 c = omega (arith, (accepted_settings _ c.args.self.settings.analysed).nb_high)

pub overflow_mul-n4 : goal.overflow_mul-n4
overflow_mul-n4 c = omega (arith, (accepted_settings _ c.args.self.settings.analysed).nb_high)

pub overflow_add-n4 : goal.overflow_add-n4
overflow_add-n4 c = omega (arith, (accepted_settings _ c.args.self.settings.analysed).nb_high)

pub overflow_mul-n4-2 : goal.overflow_mul-n4-2
overflow_mul-n4-2 c = omega (arith, (accepted_settings _ c.args.self.settings.analysed).nb_high)

pub frame_8khz-requires : goal.frame_8khz-requires
frame_8khz-requires c =
    let a = c.args in
    let l : length (down_to_8khz (filter_numbers c.source_filter.result) a.self.settings.settings.rate a.self.samples.now) ≡ (20 + 5 * a.self.settings.settings.nb) * 8 =
    ap (λ (F : Filter). length (down_to_8khz (filter_numbers F) a.self.settings.settings.rate a.self.samples.now)) c.source_filter.ensures ∙ eight_length a.self.settings.settings a.self.samples.now c.args.self.settings.analysed c.args.self.whole in
    (omega (arith, l, (accepted_settings _ c.args.self.settings.analysed).nb_high), at_12 a.self.settings.settings a.self.samples.now c.args.self.settings.analysed c.args.self.whole)

pub slice_bounds-buf_8khz-end : goal.slice_bounds-buf_8khz-end
slice_bounds-buf_8khz-end c = omega (arith, c.frame_8khz.auto.out, (accepted_settings _ c.args.self.settings.analysed).nb_high)

pub slice_bounds-frame_4khz-end : goal.slice_bounds-frame_4khz-end
slice_bounds-frame_4khz-end c =
    let a = c.args in
    sym (ap length (eight_front a.self.settings.settings a.self.samples.now c.args.self.settings.analysed c.args.self.whole c.source_filter.ensures c.frame_8khz.ensures) ∙ eight_length a.self.settings.settings a.self.samples.now c.args.self.settings.analysed c.args.self.whole)

pub slice_bounds-buf_8khz-end-2 : goal.slice_bounds-buf_8khz-end-2
slice_bounds-buf_8khz-end-2 c = omega (arith, c.frame_8khz.auto.out, (accepted_settings _ c.args.self.settings.analysed).nb_high)

pub slice_bounds-stages-end : goal.slice_bounds-stages-end
slice_bounds-stages-end c =
    let a = c.args in
    sym (ap length (eight_front a.self.settings.settings a.self.samples.now c.args.self.settings.analysed c.args.self.whole c.source_filter.ensures c.frame_8khz.ensures) ∙ eight_length a.self.settings.settings a.self.samples.now c.args.self.settings.analysed c.args.self.whole)

pub slice_bounds-buf_4khz-end : goal.slice_bounds-buf_4khz-end
slice_bounds-buf_4khz-end c = omega (arith, c.frame_4khz.auto.out, (accepted_settings _ c.args.self.settings.analysed).nb_high)

pub slice_bounds-stages-end-2 : goal.slice_bounds-stages-end-2
slice_bounds-stages-end-2 c =
    let a = c.args in
    sym (ap length (four_front a.self.settings.settings a.self.samples.now c.args.self.settings.analysed c.args.self.whole (eight_front a.self.settings.settings a.self.samples.now c.args.self.settings.analysed c.args.self.whole c.source_filter.ensures c.frame_8khz.ensures) c.frame_4khz.ensures) ∙ four_length a.self.settings.settings a.self.samples.now c.args.self.settings.analysed c.args.self.whole)

pub stages-requires : goal.stages-requires
stages-requires c =
    let a = c.args in
    let e = eight_front a.self.settings.settings a.self.samples.now c.args.self.settings.analysed c.args.self.whole c.source_filter.ensures c.frame_8khz.ensures in
    let f = four_front a.self.settings.settings a.self.samples.now c.args.self.settings.analysed c.args.self.whole e c.frame_4khz.ensures in
    record { eight = ap length e ∙ eight_length a.self.settings.settings a.self.samples.now c.args.self.settings.analysed c.args.self.whole; four = ap length f ∙ four_length a.self.settings.settings a.self.samples.now c.args.self.settings.analysed c.args.self.whole }

-- the verdict of the stages' answer
said : (r : Result Verdict NoPitch) (v : Verdict) → MatchResult r (λ x. v ≡ x) (λ e. v ≡ verdict_without e) → v ≡ verdict_from r
said (Ok x) v h = h
said (Err e) v h = h

pub returns : goal.returns
unfolding staged
returns c =
    let a = c.args in
    let e = eight_front a.self.settings.settings a.self.samples.now c.args.self.settings.analysed c.args.self.whole c.source_filter.ensures c.frame_8khz.ensures in
    let f = four_front a.self.settings.settings a.self.samples.now c.args.self.settings.analysed c.args.self.whole e c.frame_4khz.ensures in
    let run : List ℤ → List ℤ → ℤ → ℤ → Verdict = λ x y pl pc. from_screen a.self.settings.settings a.self.samples.now x y pl pc (stage1 y a.self.settings.settings.nb a.self.settings.settings.complexity a.self.settings.settings.thres1).screen in
    said c.stages.result c.unwrap_or_else.result c.unwrap_or_else.ensures ∙ c.stages.ensures ∙ (λ i. run (e i) (f i) a.prev.lag a.prev.correlation)
