-- `Delivery::judge` meets its contract: a law of `RefusalLaws` for each `return`.
use Rattle.std.proofs.Common.{◌≡◌, ℕ, ◌+◌, ◌/◌, ◌<◌, ◌≤◌, ℤ, w32, SFits, to_z, of_z, sym, ap, ◌∙◌, subst, rules}
use Rattle.zint.specs.ReadLaws.{r_var}
use Rattle.refusals.specs.Refusals.{refusal_number}
use Rattle.refusals.specs.RefusalsLaws.{refused_positive}
use Rattle.pitch_settings.specs.declared.Settings.{Settings}
use Rattle.pitch_settings.specs.Settings.{frame_length}
use Rattle.pitch_table.specs.Row.{row_size}
use Rattle.track_settings.specs.declared.TrackSettings.{TrackSettings}
use Rattle.track_settings.specs.TrackSettings.{stored_settings, track_settings_no}
use Rattle.track_paper.specs.declared.Limit.{Limit}
use Rattle.track_paper.specs.Paper.{F}
use Rattle.track_refusal.specs.Refusal.{limit, number_by, delivery_refusal}
use Rattle.track_refusal.specs.RefusalLaws.{bad, over, nine, seven, room, none}
use Rattle.track_refusal.proofs.Delivery.judge.Goals as goal
use Rattle.track_refusal.proofs.Delivery.judge.Goals.{else-new-gt0-via-then-new-gt0+else-self-new, else-new-gt0-via-else-new-gt0}

-- the number of the settings, as it is read
read : (k : TrackSettings) {t : ℤ} → SFits w32 t → {n : ℕ} → n ≡ track_settings_no k (to_z w32 (of_z w32 t)) → n ≡ track_settings_no k t
read k f e = e ∙ ap (track_settings_no k) (r_var f).val

module _ (l : Limit ℕ) (k : TrackSettings) (type : ℤ) (f h d n : ℕ) {s : Settings} {a : TrackSettings} (stores : s ≡ stored_settings a) (same : a ≡ k)
    (fits_type : SFits w32 type) (number : 0 ≡ track_settings_no k (to_z w32 (of_z w32 type))) where
  stored : s ≡ stored_settings k
  stored = stores ∙ ap stored_settings same

  ok : 0 ≡ track_settings_no k type
  ok = read k fits_type number

  limit-is : l.frames < f + F s (h + d) → l.refusal ≡ delivery_refusal l k type f h d n
  limit-is p = sym (over l k type f h d n (sym ok) (subst (λ (v : Settings). l.frames < f + F v (h + d)) stored p))

  module _ {new : ℕ} (counted : (new ≡ F s (h + d)) × (f + new ≤ l.frames)) where
    new-is : new ≡ F (stored_settings k) (h + d)
    new-is = counted.0 ∙ ap (λ (v : Settings). F v (h + d)) stored

    fits : f + F (stored_settings k) (h + d) ≤ l.frames
    fits = subst (λ (m : ℕ). f + m ≤ l.frames) new-is counted.1

    module _ {len : ℕ} (length-is : len ≡ frame_length s) where
      full-is : len ≤ h → 9 ≡ delivery_refusal l k type f h d n
      full-is p = sym (nine l k type f h d n (sym ok) fits (subst (λ (m : ℕ). m ≤ h) (length-is ∙ ap frame_length stored) p))

      module _ (few : h < len) where
        few-is : h < frame_length (stored_settings k)
        few-is = subst (λ (m : ℕ). h < m) (length-is ∙ ap frame_length stored) few

        some-is : 0 < new → 0 < F (stored_settings k) (h + d)
        some-is p = subst (λ (m : ℕ). 0 < m) new-is p

        short-is : 0 < new → n / row_size < f + new → 7 ≡ delivery_refusal l k type f h d n
        short-is p q = sym (seven l k type f h d n (sym ok) fits few-is (some-is p) (subst (λ (m : ℕ). n / row_size < f + m) new-is q))

        room-is : 0 < new → f + new ≤ n / row_size → 0 ≡ delivery_refusal l k type f h d n
        room-is p q = sym (room l k type f h d n (sym ok) fits few-is (some-is p) (subst (λ (m : ℕ). f + m ≤ n / row_size) new-is q))

        none-is : new ≤ 0 → 0 ≡ delivery_refusal l k type f h d n
        none-is p = sym (none l k type f h d n (sym ok) fits few-is (subst (λ (m : ℕ). m ≤ 0) new-is p))

pub returns-in_err-track-clause-number : goal.returns-in_err-track-clause-number
returns-in_err-track-clause-number c =
    let a = c.args in
    let q = a.self in
    let f : SFits w32 q.signal_type = search rules in
    let said : (over : ℕ) → number_by over c.from_residual.result ≡ track_settings_no a.k (to_z w32 (of_z w32 q.signal_type)) = search rules in
    λ over. read a.k f (said over) ∙ sym (bad (limit a.most over) a.k q.signal_type q.frames q.count q.samples q.numbers (refused_positive c.in_err-track.field-0.0 (read a.k f c.in_err-track.ensures.number)))

pub returns-in_default-clause-number : goal.returns-in_default-clause-number
returns-in_default-clause-number c =
    let q = c.args.self in
    let f : SFits w32 q.signal_type = search rules in
    let o = c.in_ok-track.ensures in
    λ over. limit-is (limit c.args.most over) c.args.k q.signal_type q.frames q.count q.samples q.numbers c.stored-s.ensures o.settings f o.number c.in_default.ensures

pub returns-then-self-frame_length-clause-number : goal.returns-then-self-frame_length-clause-number
returns-then-self-frame_length-clause-number c =
    let q = c.args.self in
    let f : SFits w32 q.signal_type = search rules in
    let o = c.in_ok-track.ensures in
    λ over. full-is (limit c.args.most over) c.args.k q.signal_type q.frames q.count q.samples q.numbers c.stored-s.ensures o.settings f o.number c.in-Some.ensures c.frame_length.ensures c.if-self-frame_length.true

pub returns-then-self-new-clause-number : goal.returns-then-self-new-clause-number
returns-then-self-new-clause-number c =
    let q = c.args.self in
    let f : SFits w32 q.signal_type = search rules in
    let o = c.in_ok-track.ensures in
    λ over. short-is (limit c.args.most over) c.args.k q.signal_type q.frames q.count q.samples q.numbers c.stored-s.ensures o.settings f o.number c.in-Some.ensures c.frame_length.ensures c.if-self-frame_length.false c.if-new-gt0.true c.if-self-new.true

pub returns-clause-number : goal.returns-clause-number
returns-clause-number c =
    let q = c.args.self in
    let k = c.args.k in
    let f : SFits w32 q.signal_type = search rules in
    let o = c.in_ok-track.ensures in
    λ over.
    let l = limit c.args.most over in
    elim c.else-new-gt0.branch [
      | else-new-gt0-via-then-new-gt0+else-self-new w ↦
          room-is l k q.signal_type q.frames q.count q.samples q.numbers c.stored-s.ensures o.settings f o.number c.in-Some.ensures c.frame_length.ensures c.if-self-frame_length.false w.if-new-gt0.true w.if-self-new.false
      | else-new-gt0-via-else-new-gt0 w ↦
          none-is l k q.signal_type q.frames q.count q.samples q.numbers c.stored-s.ensures o.settings f o.number c.in-Some.ensures c.frame_length.ensures c.if-self-frame_length.false w.if-new-gt0.false
    ]
