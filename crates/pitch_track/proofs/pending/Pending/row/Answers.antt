-- `Pending::row` meets its contract: the front of the window is the frame.
use Rattle.std.proofs.Common.{◌≡◌, ℕ, ◌+◌, ◌≤◌, List, ◌++◌, ℤ, length, take, drop, w32, SFits, to_z, of_z, ap, sym, ◌∙◌, rules, arith, length-append, take_all}
use Rattle.zint.specs.ReadLaws.{r_var}
use Rattle.pitch_settings.specs.declared.Settings.{Settings}
use Rattle.pitch_settings.specs.Settings.{frame_length}
use Rattle.pitch_settings.specs.SettingsLaws.{accepted_settings}
use Rattle.silk_pitch_analysis.specs.Frame.{frame_row}
use Rattle.track_paper.specs.declared.Prev.{Prev}
use Rattle.pitch_track.specs.Step.{padded}
use Rattle.pitch_track.proofs.Lists.{length_part, padded_front, length_padded}
use Rattle.pitch_track.proofs.pending.Pending.row.Goals as goal

-- the frame of n samples that starts at `from`, in the window: the samples are those held and those delivered
module _ (s : Settings) (held samples : List ℤ) (from n : ℕ) (is_length : n ≡ frame_length s) (fits : from + frame_length s ≤ length held + length samples) {window : List ℤ}
    (is : window ≡ padded (take n (drop from (held ++ samples)))) where
  within : from + n ≤ length (held ++ samples)
  within = omega (arith, length-append held samples)

  long : n ≤ 640 → length window ≡ 640
  long h = ap length is ∙ length_padded (take n (drop from (held ++ samples))) (omega (arith, length_part (held ++ samples) from n within))

  front : take n window ≡ take n (drop from (held ++ samples))
  front = ap (take n) is ∙ padded_front (take n (drop from (held ++ samples))) n (length_part (held ++ samples) from n within)

  size : length (take n window) ≡ n
  size = ap length front ∙ length_part (held ++ samples) from n within

  row_is : (p : Prev) → SFits w32 p.lag → SFits w32 p.correlation
      → frame_row s (take (frame_length s) (take n window)) (to_z w32 (of_z w32 p.lag)) (to_z w32 (of_z w32 p.correlation))
      ≡ frame_row s (take (frame_length s) (drop from (held ++ samples))) p.lag p.correlation
  row_is p f g =
      let t = take_all (frame_length s) (take n window) (omega (arith, size)) in
      let w = t ∙ front ∙ ap (λ (m : ℕ). take m (drop from (held ++ samples))) is_length in
      λ i. frame_row s (w i) ((r_var f).val i) ((r_var g).val i)

pub window-frame-requires : goal.window-frame-requires
window-frame-requires c =
    let z = accepted_settings _ c.args.s.analysed in
    (omega (arith, c.frame_length-length.ensures, c.requires), omega (arith, c.frame_length-length.ensures, z.small))

pub slice_bounds-frame-end : goal.slice_bounds-frame-end
slice_bounds-frame-end c =
    let a = c.args in
    let z = accepted_settings _ a.s.analysed in
    let small : c.frame_length-length.result ≤ 640 = omega (arith, c.frame_length-length.ensures, z.small) in
    omega (arith, small, long a.s.settings a.self.held.now a.self.samples.now a.from c.frame_length-length.result c.frame_length-length.ensures c.requires c.window-frame.ensures small)

pub slice_bounds-analysed_row-end : goal.slice_bounds-analysed_row-end
slice_bounds-analysed_row-end c =
    let a = c.args in
    sym (size a.s.settings a.self.held.now a.self.samples.now a.from c.frame_length-length.result c.frame_length-length.ensures c.requires c.window-frame.ensures)

pub analysed_row-requires : goal.analysed_row-requires
analysed_row-requires c =
    let a = c.args in
    omega (arith, c.frame_length-length.ensures, size a.s.settings a.self.held.now a.self.samples.now a.from c.frame_length-length.result c.frame_length-length.ensures c.requires c.window-frame.ensures)

pub returns : goal.returns
returns c =
    let a = c.args in
    let f : SFits w32 a.before.lag = search rules in
    let g : SFits w32 a.before.correlation = search rules in
    c.analysed_row.ensures ∙ row_is a.s.settings a.self.held.now a.self.samples.now a.from c.frame_length-length.result c.frame_length-length.ensures c.requires c.window-frame.ensures a.before f g
