-- `Track::deliver` meets its contract: a refusal is the second case of `deliver_call`, and any other delivery the first: the rows are the track's on paper, and what is left of the samples is held.
use Rattle.std.proofs.Common.{w32, SFits, to_z, of_z, Result, Ok, Err, sym, ap, ◌∙◌, rules, arith, length-append, ◌≡◌, refl, ℕ, ◌+◌, ◌-◌, ◌*◌, ◌≤◌, List, ◌++◌, ℤ, length, take, drop, length-take-le}
use Rattle.zint.specs.ReadLaws.{r_var}
use Rattle.refusals.specs.Refusals.{refusal_number}
use Rattle.refusals.specs.RefusalsLaws.{refused_positive}
use Rattle.pitch_settings.specs.declared.Settings.{Settings}
use Rattle.pitch_settings.specs.Settings.{frame_length, longest_frame, hop_length}
use Rattle.pitch_settings.specs.SettingsLaws.{Accepted as Sized, accepted_settings}
use Rattle.pitch_table.specs.Row.{row_size}
use Rattle.track_settings.specs.declared.TrackSettings.{TrackSettings}
use Rattle.track_settings.specs.TrackSettings.{stored_settings}
use Rattle.track_paper.specs.declared.Limit.{Limit}
use Rattle.track_paper.specs.Paper.{frame_count, F, previous, paper_numbers, track_limit}
use Rattle.track_paper.specs.FramesLaws.{rest, starts}
use Rattle.track_paper.specs.PaperLaws.{limit_refuses}
use Rattle.track_refusal.specs.Refusal.{delivery_refusal}
use Rattle.track_refusal.specs.RefusalLaws.{Passed, passed}
use Rattle.pitch_track.specs.declared.Track.{Track}
use Rattle.pitch_track.specs.Step.{padded, pending, delivery_no, DeliveryOutcome, accepted_delivery}
use Rattle.pitch_track.proofs.Deliver.{delivers, refuses, accepts, made, kept}
use Rattle.pitch_track.proofs.Track.deliver.Goals as goal

-- the delivery is not refused: what is known of its numbers, of the new frames, and of where what follows them starts
module _ (tr : Track) (table given : List ℤ) (number : delivery_no tr table given ≡ 0) where
  abbrev s : Settings
  s = stored_settings tr.settings

  abbrev all : ℕ
  all = tr.count + length given

  pass : Passed track_limit (stored_settings tr.settings) tr.frames tr.count (length given) (length table)
  pass = passed track_limit tr.settings tr.prev.signal _ _ _ _ limit_refuses number

  sized : Sized (stored_settings tr.settings)
  sized = accepted_settings _ pass.ok

  held_fits : length tr.held ≡ longest_frame → tr.count ≤ length tr.held
  held_fits e = omega (arith, pass.few, sized.small)

  length_held : length tr.held ≡ longest_frame → length (take tr.count tr.held) ≡ tr.count
  length_held e = length-take-le tr.count tr.held (held_fits e)

  from_fits : (f : ℕ) → f ≡ F (stored_settings tr.settings) (tr.count + length given) * hop_length (stored_settings tr.settings) → f ≤ tr.count + length given
  from_fits f e = omega (arith, e, starts (frame_length s) (hop_length s) sized.some sized.within all)

  left_fits : (f : ℕ) → f ≡ F (stored_settings tr.settings) (tr.count + length given) * hop_length (stored_settings tr.settings) → tr.count + length given - f ≤ longest_frame
  left_fits f e = omega (arith, e, rest (frame_length s) (hop_length s) sized.some sized.within all, sized.small)

-- the number of the refusal, or 0, as the track's type is read
module _ (tr : Track) (t d : List ℤ) (f : SFits w32 tr.prev.signal) {l : Limit ℕ} (e : l ≡ track_limit) where
  read : {n : ℕ} → n ≡ delivery_refusal l tr.settings (to_z w32 (of_z w32 tr.prev.signal)) tr.frames tr.count (length d) (length t) → n ≡ delivery_no tr t d
  read h = h ∙ (λ i. delivery_refusal (e i) tr.settings ((r_var f).val i) tr.frames tr.count (length d) (length t))

  zero : 0 ≡ delivery_refusal l tr.settings (to_z w32 (of_z w32 tr.prev.signal)) tr.frames tr.count (length d) (length t) → delivery_no tr t d ≡ 0
  zero h = sym (read h)

-- the new frames and the samples between their starts, by the settings that were judged
module _ (k : TrackSettings) {s : Settings} {a : TrackSettings} {len hop : ℕ} (sizes : (len ≡ frame_length s) × (hop ≡ hop_length s)) (stores : s ≡ stored_settings a) (same : a ≡ k) where
  stored : s ≡ stored_settings k
  stored = stores ∙ ap stored_settings same

  hop-is : hop ≡ hop_length (stored_settings k)
  hop-is = sizes.1 ∙ ap hop_length stored

  new-is : (n new : ℕ) → new ≡ frame_count len hop n → new ≡ F (stored_settings k) n
  new-is n new e = e ∙ (λ i. frame_count (sizes.0 i) (sizes.1 i) n) ∙ ap (λ (v : Settings). F v n) stored

  from-is : (n new : ℕ) → new ≡ frame_count len hop n → new * hop ≡ F (stored_settings k) n * hop_length (stored_settings k)
  from-is n new e = λ i. new-is n new e i * hop-is i

-- what follows the new frames: where it starts, and how much it is
module _ (tr : Track) (t d : List ℤ) (number : delivery_no tr t d ≡ 0) {s : Settings} {a : TrackSettings} {len hop new : ℕ} (sizes : (len ≡ frame_length s) × (hop ≡ hop_length s)) (stores : s ≡ stored_settings a)
    (same : a ≡ tr.settings) (counted : new ≡ frame_count len hop (tr.count + length d)) where
  start : new * hop ≡ F (stored_settings tr.settings) (tr.count + length d) * hop_length (stored_settings tr.settings)
  start = from-is tr.settings sizes stores same (tr.count + length d) new counted

  starts_within : new * hop ≤ tr.count + length d
  starts_within = from_fits tr t d number (new * hop) start

  rest_fits : tr.count + length d - new * hop ≤ longest_frame
  rest_fits = left_fits tr t d number (new * hop) start

pub overflow_add-n : goal.overflow_add-n
overflow_add-n c =
    let a = c.args in
    let number = zero a.self a.table.now a.samples.now (search rules) c.track_limit.ensures c.in-Ok.ensures.number in
    omega (arith, (pass a.self a.table.now a.samples.now number).few, (sized a.self a.table.now a.samples.now number).small, c.well_formed)

pub overflow_mul-from : goal.overflow_mul-from
overflow_mul-from c =
    let a = c.args in
    let number = zero a.self a.table.now a.samples.now (search rules) c.track_limit.ensures c.in-Ok.ensures.number in
    let within = starts_within a.self a.table.now a.samples.now number c.from-framing.ensures c.stored.ensures c.in-Ok.ensures.settings c.frames_in-new.ensures in
    omega (arith, within, (pass a.self a.table.now a.samples.now number).few, (sized a.self a.table.now a.samples.now number).small, c.well_formed)

pub slice_bounds-held-end : goal.slice_bounds-held-end
slice_bounds-held-end c =
    let a = c.args in
    let number = zero a.self a.table.now a.samples.now (search rules) c.track_limit.ensures c.in-Ok.ensures.number in
    let full : length a.self.held ≡ longest_frame = search rules in
    held_fits a.self a.table.now a.samples.now number full

pub slice_bounds-pending-end : goal.slice_bounds-pending-end
slice_bounds-pending-end c =
    let a = c.args in
    let number = zero a.self a.table.now a.samples.now (search rules) c.track_limit.ensures c.in-Ok.ensures.number in
    let full : length a.self.held ≡ longest_frame = search rules in
    sym (length_held a.self a.table.now a.samples.now number full)

pub put_rows-prev-requires : goal.put_rows-prev-requires
put_rows-prev-requires c =
    let a = c.args in
    let number = zero a.self a.table.now a.samples.now (search rules) c.track_limit.ensures c.in-Ok.ensures.number in
    let tr = a.self in
    let full : length a.self.held ≡ longest_frame = search rules in
    let k = c.in-Ok.k.settings in
    let n = tr.count + length a.samples.now in
    let own = new-is k c.from-framing.ensures c.stored.ensures refl n c.frames_in-new.result c.frames_in-new.ensures in
    let new = new-is tr.settings c.from-framing.ensures c.stored.ensures c.in-Ok.ensures.settings n c.frames_in-new.result c.frames_in-new.ensures in
    let p = pass tr a.table.now a.samples.now number in
    (own ∙ ap (λ (m : ℕ). F (stored_settings k) (m + length a.samples.now)) (sym (length_held tr a.table.now a.samples.now number full)), λ h. omega (arith, new, p.room (omega (arith, new))))

pub overflow_sub-left : goal.overflow_sub-left
overflow_sub-left c =
    let a = c.args in
    let number = zero a.self a.table.now a.samples.now (search rules) c.track_limit.ensures c.in-Ok.ensures.number in
    starts_within a.self a.table.now a.samples.now number c.from-framing.ensures c.stored.ensures c.in-Ok.ensures.settings c.frames_in-new.ensures

pub window-rest-requires : goal.window-rest-requires
window-rest-requires c =
    let a = c.args in
    let number = zero a.self a.table.now a.samples.now (search rules) c.track_limit.ensures c.in-Ok.ensures.number in
    let full : length a.self.held ≡ longest_frame = search rules in
    let within = starts_within a.self a.table.now a.samples.now number c.from-framing.ensures c.stored.ensures c.in-Ok.ensures.settings c.frames_in-new.ensures in
    (omega (arith, within, length_held a.self a.table.now a.samples.now number full), rest_fits a.self a.table.now a.samples.now number c.from-framing.ensures c.stored.ensures c.in-Ok.ensures.settings c.frames_in-new.ensures)

pub overflow_add-self : goal.overflow_add-self
overflow_add-self c =
    let a = c.args in
    let number = zero a.self a.table.now a.samples.now (search rules) c.track_limit.ensures c.in-Ok.ensures.number in
    let tr = a.self in
    let new = new-is tr.settings c.from-framing.ensures c.stored.ensures c.in-Ok.ensures.settings (tr.count + length a.samples.now) c.frames_in-new.result c.frames_in-new.ensures in
    omega (arith, new, (pass tr a.table.now a.samples.now number).fits)

-- a call's outcome, from its parts
abbrev outcome : Result ℕ ℕ → Track → List ℤ → DeliveryOutcome
outcome a tr t = record { delivered = record { answer = a; track = tr }; table = t }

pub returns-in-Err : goal.returns-in-Err
returns-in-Err c =
    let a = c.args in
    let t = a.table.now in
    let d = a.samples.now in
    let no = refusal_number c.in-Err.refusal in
    let e : no ≡ delivery_no a.self t d = read a.self t d (search rules) c.track_limit.ensures c.in-Err.ensures.number in
    let r = ap (λ (n : ℕ). outcome (Err n) a.self t) e ∙ sym (refuses a.self t d (refused_positive c.in-Err.refusal e)) in
    let both = delivers a.self t d (record { answer = Err c.in-Err.refusal; track = a.self }) t r in
    record { table_after = both.0; answer_value = both.1 }

pub returns : goal.returns
unfolding pending
returns c =
    let a = c.args in
    let number = zero a.self a.table.now a.samples.now (search rules) c.track_limit.ensures c.in-Ok.ensures.number in
    let tr = a.self in
    let t = a.table.now in
    let d = a.samples.now in
    let full : length a.self.held ≡ longest_frame = search rules in
    let same = c.in-Ok.ensures.settings in
    let k = c.frames_in-new.result in
    let hop = c.from-framing.result.hop in
    let n = tr.count + length d in
    let new = new-is tr.settings c.from-framing.ensures c.stored.ensures same n k c.frames_in-new.ensures in
    let within = starts_within tr t d number c.from-framing.ensures c.stored.ensures same c.frames_in-new.ensures in
    let h = hop-is tr.settings c.from-framing.ensures c.stored.ensures same in
    let x = take tr.count tr.held ++ d in
    let left = tr.count + length d - k * hop in
    let size : length (take tr.count tr.held ++ d) ≡ k * hop + (tr.count + length d - k * hop) =
    omega (arith, length-append (take tr.count tr.held) d, length_held tr t d number full, within) in
    let prev = c.put_rows-prev.result in
    let r = made tr t d k (tr.frames + k) c.window-rest.result left prev c.put_rows-prev.new.table
    refl
    (c.window-rest.ensures ∙ ap padded (kept x (k * hop) left size ∙ ap (λ (m : ℕ). drop (k * m) x) h))
    (ap (λ (m : ℕ). tr.count + length d - k * m) h)
    (c.put_rows-prev.ensures.value ∙ ap (λ (v : TrackSettings). previous v x tr.prev k) same)
    (c.put_rows-prev.ensures.table_after ∙ ap (λ (v : TrackSettings). take (tr.frames * row_size) t ++ paper_numbers v x tr.prev k ++ drop ((tr.frames + k) * row_size) t) same)
    ∙ ap (accepted_delivery tr t d) new ∙ sym (accepts tr t d number) in
    let both = delivers tr t d (record { answer = Ok (tr.frames + k); track = record { settings = tr.settings; frames = tr.frames + k; held = c.window-rest.result; count = left; prev = prev } }) c.put_rows-prev.new.table r in
    record { table_after = both.0; answer_value = both.1 }
