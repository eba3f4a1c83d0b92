-- `silk_pitch_analysis::analyse` meets its contract.
use Rattle.std.proofs.Common.{take_all, ◌≡◌, sym, ap, ◌∙◌, subst, List, ℕ, ◌≤◌, arith, ℤ, length, take, length-take-le}
use Rattle.lists.specs.Fill.{filled}
use Rattle.pitch_settings.specs.declared.Settings.{Settings}
use Rattle.pitch_settings.specs.Settings.{frame_length}
use Rattle.pitch_settings.specs.SettingsLaws.{accepted_settings}
use Rattle.frame_signals.specs.Scale.{scaled, down_shift, shifted_at, moved_count, holder}
use Rattle.frame_signals.specs.ScaleLaws.{length_scaled, working_scaled}
use Rattle.silk_pitch_analysis.specs.Frame.{staged, verdict_of}
use Rattle.silk_pitch_analysis.specs.declared.Verdict.{Verdict}
use Rattle.silk_pitch_analysis.specs.Steps.{VerdictCarried}
use Rattle.silk_pitch_analysis.specs.VerdictLaws.{first_carried}
use Rattle.silk_pitch_analysis.proofs.analyse.Goals as goal

-- the samples handed on are as many as the frame needs
sized : (x : List ℤ) {n m : ℕ} → n ≡ m → m ≤ length x → length (take n x) ≡ m
sized x {n} e h = length-take-le n x (omega (arith, e, h)) ∙ e

pub frame_shift-shift-requires : goal.frame_shift-shift-requires
frame_shift-shift-requires c =
    let a = accepted_settings _ c.args.s.analysed in
    let e = sized c.args.frame.now c.frame_length.ensures c.requires in
    (omega (arith, a.some, a.within, e), omega (arith, e, a.small))

pub scale_into-requires : goal.scale_into-requires
scale_into-requires c =
    (omega (arith, sized c.args.frame.now c.frame_length.ensures c.requires, (accepted_settings _ c.args.s.analysed).small), c.frame_shift-shift.ensures.1)

pub working_frame-requires : goal.working_frame-requires
working_frame-requires c =
    omega (arith, sized c.args.frame.now c.frame_length.ensures c.requires, (accepted_settings _ c.args.s.analysed).small, c.scale_into.auto.scratch)

-- the working frame w, of the samples y, with the shift k and the scratch as they were computed
working : (s : Settings) (x l : List ℤ) {n k : ℕ} {scratch w : List ℤ} → n ≡ frame_length s → k ≡ down_shift (take n x) → scratch ≡ filled (shifted_at (take n x) k) (moved_count k (length (take n x))) l
    → w ≡ take (length (take n x)) (holder k (take n x) scratch) → w ≡ scaled (take (frame_length s) x)
working s x l {n} e f g q =
    let y = take n x in
    let whole : take (length y) y ≡ y = take_all (length y) y (omega arith) in
    q ∙ working_scaled y l (length y) (omega arith) (f ∙ ap down_shift (sym whole)) g ∙ ap scaled whole ∙ ap (λ (m : ℕ). scaled (take m x)) e

pub invariant_of-working : goal.invariant_of-working
invariant_of-working c =
    let e = working c.args.s.settings c.args.frame.now _ c.frame_length.ensures c.frame_shift-shift.ensures.0 c.scale_into.ensures c.working_frame.ensures in
    record { whole = ap length e ∙ length_scaled (take (frame_length c.args.s.settings) c.args.frame.now) ∙ length-take-le (frame_length c.args.s.settings) c.args.frame.now c.requires }

-- the verdict of the working frame
verdict : (s : Settings) (x : List ℤ) {w : List ℤ} (prev corr : ℤ) {v : Verdict} → w ≡ scaled (take (frame_length s) x) → v ≡ staged s w prev corr → v ≡ verdict_of s (take (frame_length s) x) prev corr
unfolding verdict_of
verdict s x prev corr e h = h ∙ (λ i. staged s (e i) prev corr)

pub returns : goal.returns
returns c =
    let a = c.args in
    let w = working a.s.settings a.frame.now _ c.frame_length.ensures c.frame_shift-shift.ensures.0 c.scale_into.ensures c.working_frame.ensures in
    let v = verdict a.s.settings a.frame.now a.prev.lag a.prev.correlation w c.verdict.ensures in
    record { verdict = v; carried = subst (VerdictCarried a.s.settings) (sym v) (first_carried a.s.settings a.frame.now a.s.analysed c.requires a.prev.lag a.prev.correlation) }
