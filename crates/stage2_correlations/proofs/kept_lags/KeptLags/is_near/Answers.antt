-- `stage2_correlations::KeptLags::is_near` meets its contract.
use Rattle.std.proofs.Common.{◌≡◌, sym, arith, rules, length, ◌≤◌, ◌<◌, ◌*◌, ◌+◌, ℕ, List, Bool, true, false, tests, MatchBool, HoldsAt}
use Rattle.std.specs.List.{AllWithin}
use Rattle.std.proofs.lemmas.List.{get_or_default}
use Rattle.std.proofs.lemmas.Iterator.{YieldsList-from_slice, cases_from_any}
use Rattle.std.proofs.lemmas.Iterator.Adapters.{serves_from_places}
use Rattle.stage2_correlations.specs.Marks.{near}
use Rattle.stage2_correlations.specs.MarkLaws.{mark_yes, mark_no, near_yes, near_no}
use Rattle.stage2_correlations.proofs.kept_lags.KeptLags.is_near.Goals as goal

pub any-requires-clause-callable : goal.any-requires-clause-callable
any-requires-clause-callable c =
    serves_from_places (YieldsList-from_slice c.args.self.lags.now cc) (λ x q r. search rules)
    (λ x k l e. let h : x.now ≤ 72 = omega (arith, e, get_or_default c.args.self.lags.now k x.now 0 l, c.args.self.kept.high k l) in search rules)

-- whether d lies so for the double of one lag
module _ (d below above : ℕ) where
  abbrev Lies : ℕ → Type 0
  Lies l = (2 * l ≤ d + below) × (d ≤ 2 * l + above)

  near_by : (kept : List ℕ) (r : Bool) → MatchBool r ((k : ℕ) × (k < length kept) × HoldsAt Lies kept k) (AllWithin (λ l. Lies l → ⊥) kept 0 (length kept)) → r ≡ near kept below above d
  near_by kept true (k, l, h) = sym (near_yes kept below above d k l (mark_yes kept below above d k (h 0).0 (h 0).1))
  near_by kept false h = sym (near_no kept below above d (λ k l. mark_no kept below above d k (h k 0 (omega arith) l)))

pub returns : goal.returns
returns c =
    let a = c.args in
    near_by a.d a.below a.above a.self.lags.now c.any.result
    (cases_from_any _ _ c.any.result (Lies a.d a.below a.above) (λ l. Lies a.d a.below a.above l → ⊥) c.any.ensures.ran (YieldsList-from_slice a.self.lags.now cc)
    (λ x q k. search (rules, tests)) (λ x q k. search (rules, tests)))
