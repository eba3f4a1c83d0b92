-- `stage3::PairSearch::in_reach` meets its contract.
use Rattle.std.proofs.Common.{◌≡◌, ap, ap₂, ℕ, ◌<◌, ◌≤◌, pos, ◌+ℤ◌, w32, SFits, arith}
use Rattle.std.specs.Int.Signed.{le_z}
use Rattle.zint.specs.ReadLaws.{Reads, r_nat, r_as, r_got, r_add, f_add}
use Rattle.silk_tables.specs.Tables.{in_use, offset, greatest_lag}
use Rattle.silk_tables.specs.ContourLaws.{greatest_lag_le}
use Rattle.stage3.specs.PickLaws.{reach_fits}
use Rattle.stage3.specs.declared.pair_search.PairSearch.{PairSearch}
use Rattle.stage3.proofs.pair_search.PairSearch.in_reach.Goals as goal

-- the lag is small, and so is the greatest
module _ (by : PairSearch) where
  greatest_small : greatest_lag by.fs ≤ 288
  greatest_small = omega (arith, greatest_lag_le by.fs by.rate_low, by.rate_high)

  greatest : {n : ℕ} → n ≡ greatest_lag by.fs → Reads w32 n (pos (greatest_lag by.fs))
  greatest {n} e = r_as (r_nat w32 n (omega (arith, e, greatest_small))) (ap pos e)

  module _ {d j : ℕ} (h : (d ≤ greatest_lag by.fs) × (j < in_use by.codebook.nb by.codebook.complexity)) where
    lag : Reads w32 d (pos d)
    lag = r_nat w32 d (omega (arith, greatest_small, h.0))

    -- the lag moved by the offset fits
    moved : SFits w32 (pos d +ℤ offset by.codebook.nb 0 j)
    moved =
        let s = by.codebook.settings in
        let l : 0 < by.codebook.nb = omega (arith, s.at_least) in
        reach_fits s l d j (omega (arith, greatest_small, h.0)) h.1

pub overflow_cast-result : goal.overflow_cast-result
overflow_cast-result c = (lag c.args.self c.requires).fit

pub lag_cb-requires : goal.lag_cb-requires
lag_cb-requires c = (omega (arith, c.args.self.codebook.settings.at_least), c.requires.1)

pub overflow_add-result : goal.overflow_add-result
overflow_add-result c =
    let by = c.args.self in
    let h = c.requires in
    f_add (lag by h) (r_got w32 c.lag_cb.type_inv c.lag_cb.ensures) (moved by h)

pub overflow_cast-result-2 : goal.overflow_cast-result-2
overflow_cast-result-2 c = record { sfits = omega (arith, c.greatest_lag.ensures, greatest_small c.args.self) }

pub returns : goal.returns
returns c =
    let by = c.args.self in
    let h = c.requires in
    ap₂ le_z (r_add (lag by h) (r_got w32 c.lag_cb.type_inv c.lag_cb.ensures) (moved by h)).val (greatest by c.greatest_lag.ensures).val
