-- `Delivery::refusal_number` meets its contract: what speaks against the delivery, by the limit's own number.
use Rattle.std.proofs.Common.{◌≡◌, ◌∙◌, ℕ, sym, ap, Err}
use Rattle.track_settings.specs.declared.AnalysedTrack.{AnalysedTrack}
use Rattle.track_refusal.specs.declared.Objection.{Objection}
use Rattle.track_refusal.specs.Refusal.{number_by}
use Rattle.track_refusal.proofs.Delivery.refusal_number.Goals as goal

-- the number of an objection
number-is : (over : ℕ) {x y : Objection} → x ≡ y → number_by {A = AnalysedTrack} over (Err y) ≡ number_by {A = AnalysedTrack} over (Err x)
number-is over e = ap (λ (o : Objection). number_by {A = AnalysedTrack} over (Err o)) (sym e)

pub returns-in-Ok : goal.returns-in-Ok
returns-in-Ok c = c.in-Ok.ensures.number c.args.limit.refusal

pub returns-in-Err-OverLimit : goal.returns-in-Err-OverLimit
returns-in-Err-OverLimit c = let o = c.in-Err-OverLimit in number-is c.args.limit.refusal o.field-0-is ∙ o.ensures.number c.args.limit.refusal

pub returns-in-Err-Refused : goal.returns-in-Err-Refused
returns-in-Err-Refused c = let o = c.in-Err-Refused in c.number.ensures ∙ number-is c.args.limit.refusal o.field-0-is ∙ o.ensures.number c.args.limit.refusal
