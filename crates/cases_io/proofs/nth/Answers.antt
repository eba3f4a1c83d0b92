-- `cases_io::nth` meets its contract: the place that is read is cut to the end.
use Rattle.std.proofs.Common.{◌≡◌, ℕ, ◌+◌, ◌-◌, ◌*◌, ◌^◌, ◌<◌, min, ◌∙◌, arith, mul_comm}
use Rattle.cases_io.proofs.nth.Goals as goal

-- a product past every number is past the end of every list
cut : (at i size s by from end : ℕ) → s ≡ size → by ≡ min (i * s) (2 ^ 64 - 1) → from ≡ min (at + by) end → end < 2 ^ 64 → from ≡ min (at + size * i) end
cut at i size s by from end d e f short = rw (← d, mul_comm s i) (omega arith)

pub returns : goal.returns
returns g c = c.at.ensures ∙ g.met.T.Little.cut c.args.bytes.now _ _ (cut _ _ _ _ _ _ _ c.SIZE.ensures c.saturating_mul.ensures c.skip.ensures (omega arith))
