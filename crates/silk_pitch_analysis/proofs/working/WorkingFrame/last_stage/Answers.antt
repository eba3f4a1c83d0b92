-- `WorkingFrame::last_stage` meets its contract.
use Rattle.std.proofs.Common.{◌≡◌, refl, sym, ap, ◌∙◌, List, ℕ, ◌*◌, ◌/◌, mul-le-mul, arith, eq-eqb, ne_eqb, ℤ, Option, Some, None, Ok, Err, ok_or}
use Rattle.std.proofs.lemmas.Result.{err_from_is_err_and}
use Rattle.answers.specs.declared.NoPitch.{NoPitch}
use Rattle.answers.specs.declared.NoPitch.TheVariants.{ZeroDivisor as ByZero}
use Rattle.zint.specs.RuleLaws.{zneeds}
use Rattle.pitch_settings.specs.declared.Settings.{Settings}
use Rattle.pitch_settings.specs.SettingsLaws.{accepted_settings}
use Rattle.silk_tables.specs.Stage2Laws.{contours2_bounds}
use Rattle.silk_tables.proofs.TableLaws.{in_use_bounds}
use Rattle.silk_tables.specs.ContourLaws.{greatest_lag_le}
use Rattle.stage3.specs.Stage3.{stage3}
use Rattle.stage3.specs.declared.LagContour.{LagContour}
use Rattle.stage3.specs.Pick.{Found, Pair, ZeroDivisor, answer_of}
use Rattle.silk_pitch_analysis.specs.Frame.{scaled_lag, from_pair, last_stage}
use Rattle.silk_pitch_analysis.specs.FrameLaws.{handed, stage3_range}
use Rattle.silk_pitch_analysis.proofs.working.WorkingFrame.last_stage.Goals as goal

-- the last stage is stage 3
last : (s : Settings) (w : List ℤ) (lag contour : ℕ) (corr : ℤ) {x : Found} → (s.rate ≡ 8 → ⊥) → stage3 w s.rate s.nb s.complexity (lag * s.rate / 8) ≡ x
    → last_stage s w lag contour corr ≡ from_pair s.rate corr x
unfolding last_stage scaled_lag
last s w lag contour corr g e = rw (ne_eqb _ 8 g) (ap (from_pair s.rate corr) e)

pub voiced-requires : goal.voiced-requires
voiced-requires c =
    let a = accepted_settings _ c.args.self.settings.analysed in
    let b = contours2_bounds c.args.self.settings.settings.rate c.args.self.settings.settings.nb c.args.self.settings.settings.complexity in
    (a.rate_high, (omega (arith, c.if-fs_khz-eq8.true, c.requires.high), omega (arith, b.1, c.requires.tried)))

pub returns-then-fs_khz-eq8 : goal.returns-then-fs_khz-eq8
unfolding last_stage
returns-then-fs_khz-eq8 c =
    rw (eq-eqb _ 8 c.if-fs_khz-eq8.true)
    (c.voiced.ensures ∙ ap (λ (k : ℤ). from_pair c.args.self.settings.settings.rate k (Pair c.args.winner.lag c.args.winner.contour)) (search zneeds))

pub overflow_mul-scaled : goal.overflow_mul-scaled
overflow_mul-scaled c =
    let a = accepted_settings _ c.args.self.settings.analysed in
    omega (arith, mul-le-mul c.requires.high a.rate_high)

pub search_stage3-requires : goal.search_stage3-requires
search_stage3-requires c = handed c.args.self.settings.settings c.args.self.samples.now c.args.self.settings.analysed c.args.self.whole c.args.winner.lag c.args.winner.contour c.requires c.if-fs_khz-eq8.false

-- what comes of stage 3's answer
no_pair : (o : Option LagContour) {x : NoPitch} → ok_or o ByZero ≡ Err x → (answer_of o ≡ ZeroDivisor) × (x ≡ ByZero)
no_pair None e = (refl, cc)
no_pair (Some p) e = cc

a_pair : (o : Option LagContour) {p : LagContour} → ok_or o ByZero ≡ Ok p → answer_of o ≡ Pair p.lag p.contour
a_pair None e = cc
a_pair (Some q) {p = p} e = let z : q ≡ p = cc in ap (λ (y : LagContour). Pair y.lag y.contour) z

pub returns-in_err-found : goal.returns-in_err-found
returns-in_err-found c =
    let a = c.args in
    let z = no_pair c.search_stage3.result (sym c.ok_or.ensures.value ∙ c.in_err-found.was) in
    let p = err_from_is_err_and c.from_residual.result c.from_residual.ensures.1 in
    rw (p.1, p.2, z.1) (sym (last a.self.settings.settings a.self.samples.now a.winner.lag a.winner.contour a.winner.correlation c.if-fs_khz-eq8.false (sym c.search_stage3.ensures.value ∙ z.0)))

pub voiced-requires-2 : goal.voiced-requires-2
voiced-requires-2 c =
    let a = c.args in
    let g = c.if-fs_khz-eq8.false in
    let h = handed a.self.settings.settings a.self.samples.now c.args.self.settings.analysed c.args.self.whole a.winner.lag a.winner.contour c.requires g in
    let e = sym c.search_stage3.ensures.value ∙ a_pair c.search_stage3.result (sym c.ok_or.ensures.value ∙ c.in_ok-found.was) in
    let p = stage3_range a.self.settings.settings a.self.samples.now c.args.self.settings.analysed c.args.self.whole a.winner.lag a.winner.contour c.requires g _ _ e in
    let u = in_use_bounds h.settings in
    (h.rate_high, (omega (arith, p.1.0, greatest_lag_le a.self.settings.settings.rate h.rate_low), omega (arith, p.1.1)))

pub returns : goal.returns
returns c =
    let a = c.args in
    let e = sym c.search_stage3.ensures.value ∙ a_pair c.search_stage3.result (sym c.ok_or.ensures.value ∙ c.in_ok-found.was) in
    c.voiced-2.ensures
    ∙ ap (λ (k : ℤ). from_pair a.self.settings.settings.rate k (Pair c.in_ok-found.found.lag c.in_ok-found.found.contour)) (search zneeds)
    ∙ sym (last a.self.settings.settings a.self.samples.now a.winner.lag a.winner.contour a.winner.correlation c.if-fs_khz-eq8.false e)
