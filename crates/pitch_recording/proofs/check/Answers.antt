-- `pitch_recording::check` meets its contract.
use Rattle.std.proofs.Common.{◌≡◌, List, ℕ, sym, ap, ◌∙◌, rules, Bool, false, ltb, pos}
use Rattle.pitch_settings.specs.declared.Settings.{Settings}
use Rattle.refusals.specs.Refusals.{number_told}
use Rattle.track_settings.specs.declared.TrackSettings.{TrackSettings}
use Rattle.track_settings.specs.TrackSettings.{stored_settings, track_settings_no}
use Rattle.track_paper.specs.Paper.{F}
use Rattle.recording_head.specs.declared.Head.{Head}
use Rattle.recording_head.specs.Head.{head_settings, head_known}
use Rattle.pitch_recording.specs.Recording.{program_frames, first_recording_refusal}
use Rattle.pitch_recording.specs.RecordingLaws.{no_short, no_half, no_refused, even_more, even_all}
use Rattle.pitch_recording.proofs.check.Goals as goal

-- settings k that the head at the front of b names, where they are not refused
module _ (head : Head) (b : List ℕ) {k : TrackSettings} (named : k ≡ head_settings head b) where
  right : 0 ≡ track_settings_no k (pos 0) → track_settings_no (head_settings head b) (pos 0) ≡ 0
  right e = ap (λ (t : TrackSettings). track_settings_no t (pos 0)) (sym named) ∙ sym e

  -- whether n samples have too many frames
  long : (n : ℕ) {l : Bool} {s : Settings} {t : TrackSettings} → l ≡ ltb program_frames (F s n) → s ≡ stored_settings t → t ≡ k → ltb program_frames (F (stored_settings (head_settings head b)) n) ≡ l
  long n e stored same = sym (e ∙ ap (λ (v : Settings). ltb program_frames (F v n)) (stored ∙ ap stored_settings (same ∙ named)))

pub returns-then-len-size : goal.returns-then-len-size
returns-then-len-size c rest e =
    no_short c.args.input.head c.args.input.bytes.now rest c.head_size-size.result c.args.input.more c.head_size-size.ensures e c.args.input.full c.if-len-size.true

pub returns-then-half : goal.returns-then-half
returns-then-half c rest e =
    no_half c.args.input.head c.args.input.bytes.now rest c.head_size-size.result c.args.input.more c.head_size-size.ensures e c.args.input.full c.if-len-size.false c.if-half.true

pub returns-in_err-track : goal.returns-in_err-track
returns-in_err-track c rest e =
    let n : number_told c.from_residual.result ≡ track_settings_no c.head_settings.result (pos 0) = search rules in
    no_refused c.args.input.head c.args.input.bytes.now rest c.head_size-size.result c.args.input.more c.head_size-size.ensures e c.args.input.full c.if-len-size.false c.if-half.false
    c.from_residual.result c.from_residual.ensures.0 (n ∙ ap (λ (t : TrackSettings). track_settings_no t (pos 0)) c.head_settings.ensures)

pub returns-then-more-gt0 : goal.returns-then-more-gt0
returns-then-more-gt0 c rest e =
    even_more c.args.input.head c.args.input.bytes.now rest c.head_size-size.result c.args.input.more c.head_size-size.ensures e c.args.input.full c.if-len-size.false c.if-half.false (right _ _ c.head_settings.ensures c.in_ok-track.ensures.number) c.if-more-gt0.true

pub returns-then-long : goal.returns-then-long
unfolding first_recording_refusal
returns-then-long c rest e =
    ap (λ (l : Bool). first_recording_refusal false 0 l (head_known c.args.input.head c.args.input.bytes.now)) (sym (long c.args.input.head c.args.input.bytes.now c.head_settings.ensures _ c.is_long-long.ensures c.stored.ensures c.in_ok-track.ensures.settings ∙ c.if-long.true))
    ∙ even_all c.args.input.head c.args.input.bytes.now rest c.head_size-size.result c.args.input.more c.head_size-size.ensures e c.args.input.full c.if-len-size.false c.if-half.false (right _ _ c.head_settings.ensures c.in_ok-track.ensures.number) c.if-more-gt0.false

pub returns-then-not-known : goal.returns-then-not-known
unfolding first_recording_refusal
returns-then-not-known c rest e =
    ap (λ (k : Bool). first_recording_refusal false 0 false k) (sym c.if-not-known.true ∙ c.head_known-known.ensures)
    ∙ ap (λ (l : Bool). first_recording_refusal false 0 l (head_known c.args.input.head c.args.input.bytes.now)) (sym (long c.args.input.head c.args.input.bytes.now c.head_settings.ensures _ c.is_long-long.ensures c.stored.ensures c.in_ok-track.ensures.settings ∙ c.if-long.false))
    ∙ even_all c.args.input.head c.args.input.bytes.now rest c.head_size-size.result c.args.input.more c.head_size-size.ensures e c.args.input.full c.if-len-size.false c.if-half.false (right _ _ c.head_settings.ensures c.in_ok-track.ensures.number) c.if-more-gt0.false

pub returns : goal.returns
unfolding first_recording_refusal
returns c rest e =
    ap (λ (k : Bool). first_recording_refusal false 0 false k) (sym c.if-not-known.false ∙ c.head_known-known.ensures)
    ∙ ap (λ (l : Bool). first_recording_refusal false 0 l (head_known c.args.input.head c.args.input.bytes.now)) (sym (long c.args.input.head c.args.input.bytes.now c.head_settings.ensures _ c.is_long-long.ensures c.stored.ensures c.in_ok-track.ensures.settings ∙ c.if-long.false))
    ∙ even_all c.args.input.head c.args.input.bytes.now rest c.head_size-size.result c.args.input.more c.head_size-size.ensures e c.args.input.full c.if-len-size.false c.if-half.false (right _ _ c.head_settings.ensures c.in_ok-track.ensures.number) c.if-more-gt0.false
