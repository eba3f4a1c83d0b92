-- `silk_resampler::source_filter` meets its contract: its four numbers are those of the definition, and any two proofs of an order are equal.
use Rattle.std.proofs.Common.{◌≡◌, ◌<◌, ◌^◌, lit<}
use Rattle.std.proofs.Math.Bridge.{le_prop}
use Rattle.silk_resampler.specs.declared.filter.Filter.{Filter}
use Rattle.silk_resampler.specs.Down23.{source_filter}
use Rattle.silk_resampler.proofs.source_filter.Goals as goal

by_numbers : (a b : 1 < 2 ^ 31) (c : 0 < 9) (d : 9 < 31) (e : 0 < 8) (f : 8 < 31)
    → ◌≡◌ {A = Filter} (record { factor = 1; adds = 1; round_even = 9; round_odd = 8; factor_fits = a; adds_fits = b; even_rounds = c; even_below = d; odd_rounds = e; odd_below = f }) source_filter
unfolding source_filter
by_numbers a b c d e f = λ i. record {
  factor = 1;
  adds = 1;
  round_even = 9;
  round_odd = 8;
  factor_fits = le_prop a (lit< tt) i;
  adds_fits = le_prop b (lit< tt) i;
  even_rounds = le_prop c (lit< tt) i;
  even_below = le_prop d (lit< tt) i;
  odd_rounds = le_prop e (lit< tt) i;
  odd_below = le_prop f (lit< tt) i;
}

pub returns : goal.returns
returns c = by_numbers _ _ _ _ _ _
