-- `silk_tables::greatest_index` meets its contract.
use Rattle.std.proofs.Common.{sym, ap, ap₂, ◌∙◌, subst, arith, ℕ, ◌-◌, ◌≤◌}
use Rattle.silk_tables.specs.Tables.{greatest_index, greatest_lag, least_lag}
use Rattle.silk_tables.specs.ContourLaws.{rate_span}
use Rattle.silk_tables.proofs.greatest_index.Goals as goal

pub greatest_lag-requires : goal.greatest_lag-requires
greatest_lag-requires c =
    let b = rate_span c.args.fs_khz in
    (omega (arith, c.known_rate-rate.ensures, b.0), omega (arith, c.known_rate-rate.ensures, b.1.0))

pub least_lag-requires : goal.least_lag-requires
least_lag-requires c = omega (arith, c.known_rate-rate.ensures, (rate_span c.args.fs_khz).1.0)

pub overflow_sub-result : goal.overflow_sub-result
overflow_sub-result c =
    let r = c.known_rate-rate in
    let p = subst (λ (n : ℕ). least_lag n ≤ greatest_lag n) (sym r.ensures) (rate_span c.args.fs_khz).1.1 in
    omega (arith, c.least_lag.ensures, c.greatest_lag.ensures, p)

pub returns : goal.returns
unfolding greatest_index
returns c = ap₂ ◌-◌ c.greatest_lag.ensures c.least_lag.ensures ∙ ap (λ (n : ℕ). greatest_lag n - least_lag n) c.known_rate-rate.ensures
