-- `frames_text::record_row` meets its contract.
use Rattle.std.proofs.Common.{◌≡◌, refl, List, ℕ, ℤ, ◌++◌, ◌+◌, ◌*◌, ◌≤◌, length, take, drop, length-append, length-take-le, take_all, sym, ap, ◌∙◌, arith, w32}
use Rattle.zint.specs.ReadLaws.{r_got}
use Rattle.lists.specs.Fill.{overwritten}
use Rattle.refusals.specs.Refusals.{refusal_number}
use Rattle.refusals.specs.RefusalsLaws.{refused_positive}
use Rattle.pitch_settings.specs.declared.Settings.{Settings}
use Rattle.pitch_settings.specs.Settings.{settings_no, frame_length, longest_frame}
use Rattle.pitch_settings.specs.SettingsLaws.{accepted_settings}
use Rattle.pitch_table.specs.declared.Row.{Row}
use Rattle.sheet_bytes.specs.Bytes.{signed_at}
use Rattle.silk_pitch_analysis.specs.Frame.{frame_row}
use Rattle.pitch_input.specs.Input.{head_size, input_settings, samples_from}
use Rattle.pitch_input.specs.InputLaws.{loaded, loaded_over, length_samples}
use Rattle.frames_text.specs.Frames.{record_head, record_size, record_no, record_samples, record_row}
use Rattle.frames_text.specs.FramesLaws.{Whole, whole, samples_stay, samples_taken}
use Rattle.frames_text.proofs.record_row.Goals as goal

-- a record b that is not refused, its settings s, its frame's length n and the lent samples x
module _ (b : List ℕ) (right : 0 ≡ record_no b) where
  all : Whole b
  all = whole b right

  module _ {s : Settings} (t : s ≡ input_settings b) where
    known : settings_no s ≡ 0
    known = ap settings_no t ∙ all.known

    module _ {n : ℕ} (e : n ≡ frame_length s) where
      size : n ≡ frame_length (input_settings b)
      size = e ∙ ap frame_length t

      whole_frame : record_head + 2 * n ≤ length b
      unfolding record_size
      whole_frame = omega (arith, size, all.full)

      module _ (x : List ℤ) (long : longest_frame ≤ length x) where
        room : n ≤ length x
        room = omega (arith, e, (accepted_settings _ known).small)

        -- the samples that are loaded, out, and what is then in the lent list
        module _ {out : List ℤ} (l : out ≡ samples_from b record_head (length (take n x))) where
          filled : n ≤ length (out ++ drop n x)
          filled = rw length-append (omega (arith, ap length l, length_samples b record_head (length (take n x)), length-take-le n x room))

          x_is : take n (out ++ drop n x) ≡ samples_from b record_head (frame_length (input_settings b))
          x_is = loaded b record_head n x out room l ∙ ap (samples_from b record_head) size

          whole_is : out ++ drop n x ≡ overwritten (record_samples b) x
          unfolding record_samples
          whole_is = loaded_over b record_head n x out room l ∙ ap (λ (m : ℕ). overwritten (samples_from b record_head m) x) size

          -- what is said of the frame: the record's row
          said : {lag correlation : ℤ} {r : Row} → lag ≡ signed_at b head_size → correlation ≡ signed_at b (head_size + 4)
              → r ≡ frame_row s (take (frame_length s) (take n (out ++ drop n x))) lag correlation → r ≡ record_row b
          unfolding record_row record_samples
          said {lag} {correlation} el ec er =
              let m = length_samples b record_head (frame_length (input_settings b)) in
              er
              ∙ (λ i. frame_row (t i) (take (frame_length (t i)) (x_is i)) (el i) (ec i))
              ∙ ap (λ (y : List ℤ). frame_row (input_settings b) y (signed_at b head_size) (signed_at b (head_size + 4))) (take_all (frame_length (input_settings b)) (samples_from b record_head (frame_length (input_settings b))) (omega (arith, m)))

pub returns-in_err-s-clause-samples : goal.returns-in_err-s-clause-samples
returns-in_err-s-clause-samples c =
    let r = c.in_err-s.field-0.0 in
    samples_stay c.args.bytes.now c.args.samples.now (refusal_number r) c.in_err-s.ensures.number (refused_positive r refl)

pub slice_bounds-load_samples-end : goal.slice_bounds-load_samples-end
slice_bounds-load_samples-end c = room c.args.bytes.now c.in_ok-s.ensures.number c.in_ok-s.ensures.settings c.frame_length-n.ensures c.args.samples.now c.requires

pub slice_bounds-load_samples-end-2 : goal.slice_bounds-load_samples-end-2
slice_bounds-load_samples-end-2 c = sym (length-take-le _ c.args.samples.now (room c.args.bytes.now c.in_ok-s.ensures.number c.in_ok-s.ensures.settings c.frame_length-n.ensures c.args.samples.now c.requires))

pub load_samples-requires : goal.load_samples-requires
load_samples-requires c =
    let r = room c.args.bytes.now c.in_ok-s.ensures.number c.in_ok-s.ensures.settings c.frame_length-n.ensures c.args.samples.now c.requires in
    rw (length-take-le _ c.args.samples.now r) (whole_frame c.args.bytes.now c.in_ok-s.ensures.number c.in_ok-s.ensures.settings c.frame_length-n.ensures)

pub i32_at-lag-requires : goal.i32_at-lag-requires
i32_at-lag-requires c = omega (arith, (all c.args.bytes.now c.in_ok-s.ensures.number).enough)

pub i32_at-correlation-requires : goal.i32_at-correlation-requires
i32_at-correlation-requires c = omega (arith, (all c.args.bytes.now c.in_ok-s.ensures.number).enough)

pub slice_bounds-analysed_row-end : goal.slice_bounds-analysed_row-end
slice_bounds-analysed_row-end c = filled c.args.bytes.now c.in_ok-s.ensures.number c.in_ok-s.ensures.settings c.frame_length-n.ensures c.args.samples.now c.requires c.load_samples.ensures

pub slice_bounds-analysed_row-end-2 : goal.slice_bounds-analysed_row-end-2
slice_bounds-analysed_row-end-2 c = sym (length-take-le _ _ (filled c.args.bytes.now c.in_ok-s.ensures.number c.in_ok-s.ensures.settings c.frame_length-n.ensures c.args.samples.now c.requires c.load_samples.ensures))

pub analysed_row-requires : goal.analysed_row-requires
analysed_row-requires c = rw (length-take-le _ _ (filled c.args.bytes.now c.in_ok-s.ensures.number c.in_ok-s.ensures.settings c.frame_length-n.ensures c.args.samples.now c.requires c.load_samples.ensures)) (omega (arith, c.frame_length-n.ensures))

pub returns-clause-row : goal.returns-clause-row
returns-clause-row c =
    let row = said c.args.bytes.now c.in_ok-s.ensures.number c.in_ok-s.ensures.settings c.frame_length-n.ensures c.args.samples.now c.requires c.load_samples.ensures (r_got w32 c.i32_at-lag.type_inv c.i32_at-lag.ensures).val (r_got w32 c.i32_at-correlation.type_inv c.i32_at-correlation.ensures).val c.analysed_row.ensures in
    (ap (λ (s : Settings). s.nb) c.in_ok-s.ensures.settings, row)

pub returns-clause-samples : goal.returns-clause-samples
returns-clause-samples c = samples_taken c.args.bytes.now c.args.samples.now c.in_ok-s.ensures.number (whole_is c.args.bytes.now c.in_ok-s.ensures.number c.in_ok-s.ensures.settings c.frame_length-n.ensures c.args.samples.now c.requires c.load_samples.ensures)
