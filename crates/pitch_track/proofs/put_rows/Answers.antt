-- `pitch_track::put_rows` meets its contract. The invariant: i rows are written, and `q` is what the last of them left.
use Rattle.std.proofs.Common.{w32, SFits, to_z, of_z, ap, ◌∙◌, add-one, rules, arith, ◌≡◌, refl, ℕ, ◌+◌, ◌*◌, ◌≤◌, ◌<◌, List, ◌++◌, ℤ, length, take, drop}
use Rattle.std.proofs.lemmas.List.Edits.{sets}
use Rattle.zint.specs.ReadLaws.{r_var}
use Rattle.pitch_settings.specs.declared.Settings.{Settings}
use Rattle.pitch_settings.specs.Settings.{settings_no, frame_length, hop_length}
use Rattle.pitch_settings.specs.SettingsLaws.{accepted_settings}
use Rattle.pitch_table.specs.declared.Row.{Row}
use Rattle.pitch_table.specs.Row.{row_size, numbers}
use Rattle.silk_pitch_analysis.specs.Frame.{frame_row}
use Rattle.track_settings.specs.declared.TrackSettings.{TrackSettings}
use Rattle.track_settings.specs.TrackSettings.{stored_settings, row_settings}
use Rattle.track_settings.specs.TrackSettingsLaws.{row_length}
use Rattle.track_paper.specs.declared.Prev.{Prev}
use Rattle.track_paper.specs.Paper.{frame_count, after, previous, paper_row}
use Rattle.track_paper.specs.FramesLaws.{fits}
use Rattle.track_paper.specs.RowsLaws.{write_none, write_more, row_is, before_suc}
use Rattle.pitch_track.proofs.put_rows.Goals as goal

-- the frame lies within the samples
inside : (s : Settings) (n i new hop : ℕ) → settings_no s ≡ 0 → new ≡ frame_count (frame_length s) (hop_length s) n → i < new → hop ≡ hop_length s → i * hop + frame_length s ≤ n
inside s n i new hop h e l g =
    let z = accepted_settings s h in
    let m : i * hop ≡ i * hop_length s = ap (λ (k : ℕ). i * k) g in
    omega (arith, m, fits _ _ z.some z.within n i (omega (arith, e)))

-- the row's settings, as its type is read
row-settings : (k : TrackSettings) {t : ℤ} {s : Settings} → SFits w32 t → s ≡ row_settings k (to_z w32 (of_z w32 t)) → s ≡ row_settings k t
row-settings k f e = e ∙ ap (row_settings k) (r_var f).val

-- the row of the frame
row : (k : TrackSettings) (x : List ℤ) (p q : Prev) (i from : ℕ) {s : Settings} {r : Row} → s ≡ row_settings k q.signal → from ≡ i * hop_length (stored_settings k) → q ≡ previous k x p i
    → r ≡ frame_row s (take (frame_length s) (drop from x)) q.lag q.correlation → r ≡ paper_row k x p i
row k x p q i from e f g h =
    h
    ∙ (λ u. frame_row (e u) (take (frame_length (e u)) (drop from x)) q.lag q.correlation)
    ∙ ap (λ (n : ℕ). frame_row (row_settings k q.signal) (take n (drop from x)) q.lag q.correlation) (row_length k q.signal)
    ∙ row_is k x p i from q f g

pub loop-i-init : goal.loop-i-init
unfolding previous
loop-i-init c =
    let a = c.args in
    (refl, write_none a.k.settings (a.pending.held.now ++ a.pending.samples.now) a.p a.table.now a.frames)

pub overflow_mul-i : goal.overflow_mul-i
overflow_mul-i c =
    let a = c.args in
    let h = c.hop_length-hop.ensures ∙ ap hop_length c.stored-s.ensures in
    let n = length a.pending.held.now + length a.pending.samples.now in
    let fit = inside (stored_settings a.k.settings) (length a.pending.held.now + length a.pending.samples.now) c.loop-i.i a.new c.hop_length-hop.result a.k.analysed c.requires.0 c.loop-i-test.true h in
    omega (arith, fit, c.well_formed)

pub row-row-requires : goal.row-row-requires
row-row-requires c =
    let a = c.args in
    let f : SFits w32 c.loop-i.q.signal = search rules in
    let h = c.hop_length-hop.ensures ∙ ap hop_length c.stored-s.ensures in
    let len = ap frame_length (row-settings a.k.settings f c.of_row-of_row.ensures) ∙ row_length a.k.settings c.loop-i.q.signal in
    let fit = inside (stored_settings a.k.settings) (length a.pending.held.now + length a.pending.samples.now) c.loop-i.i a.new c.hop_length-hop.result a.k.analysed c.requires.0 c.loop-i-test.true h in
    omega (arith, fit, len)

pub loop-i-preserved : goal.loop-i-preserved
loop-i-preserved c =
    let a = c.args in
    let k = a.k.settings in
    let l = c.loop-i in
    let x = a.pending.held.now ++ a.pending.samples.now in
    let f : SFits w32 c.loop-i.q.signal = search rules in
    let h = c.hop_length-hop.ensures ∙ ap hop_length c.stored-s.ensures in
    let e = c.stored-s.ensures in
    let r = row k x a.p l.q l.i (l.i * c.hop_length-hop.result) (row-settings k f c.of_row-of_row.ensures) (ap (λ (n : ℕ). l.i * n) h) l.invariant.0 c.row-row.ensures in (
      rw add-one (c.left_by-q.ensures ∙ (λ u. after (e u) (r u)) ∙ before_suc k x a.p l.i),
      rw add-one
          (c.put_row.ensures
          ∙ ap (λ (v : Row). sets l.table ((a.frames + l.i) * row_size) (numbers v)) r
          ∙ ap (λ (t : List ℤ). sets t ((a.frames + l.i) * row_size) (numbers (paper_row k x a.p l.i))) l.invariant.1
          ∙ write_more k x a.p a.table.now a.frames l.i (omega (arith, c.requires.1 (omega (arith, c.loop-i-test.true)), c.loop-i-test.true))),
    )
