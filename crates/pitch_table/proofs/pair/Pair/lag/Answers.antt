-- `Pair::lag` meets its contract.
use Rattle.std.proofs.Common.{sym, ap₂, ◌∙◌, arith, rules, SFits, ℤ, nat_abs, w32, w64}
use Rattle.zint.specs.BoundLaws.{fits_abs}
use Rattle.zint.specs.ReadLaws.{r_var, r_got, as_unsigned}
use Rattle.silk_tables.specs.Rebuild.{rebuilt}
use Rattle.silk_tables.specs.CarriedLaws.{carried_means, contour_abs, coded}
use Rattle.pitch_table.specs.RowLaws.{pair_lag_in, pair_lag_past}
use Rattle.pitch_table.proofs.pair.Pair.lag.Goals as goal

pub overflow_cast-self : goal.overflow_cast-self
overflow_cast-self c =
    let f : SFits w32 c.args.self.contour = search rules in
    as_unsigned w64 (nat_abs c.args.self.contour) ((r_var f).val ∙ contour_abs (carried_means c.args.self.carried)) (omega (arith, fits_abs f))

pub lag_of-requires : goal.lag_of-requires
lag_of-requires c =
    let s = c.args.self in
    let i : SFits w32 s.index = search rules in
    let j : SFits w32 s.contour = search rules in
    rw ((r_var i).val, (r_var j).val) (coded s.settings.settings s.settings.held (carried_means s.carried) c.args.k c.if-k-s.true)

pub returns-then-k-s : goal.returns-then-k-s
returns-then-k-s c =
    let s = c.args.self in
    let i : SFits w32 s.index = search rules in
    let j : SFits w32 s.contour = search rules in
    (r_got w32 c.lag_of.type_inv c.lag_of.ensures).val
    ∙ ap₂ (λ (x y : ℤ). rebuilt s.settings.settings.rate s.settings.settings.nb x (nat_abs y) c.args.k) (r_var i).val (r_var j).val
    ∙ sym (pair_lag_in s.settings.settings s.index s.contour c.args.k c.if-k-s.true)

pub returns-else-k-s : goal.returns-else-k-s
returns-else-k-s c = let s = c.args.self in sym (pair_lag_past s.settings.settings s.index s.contour c.args.k c.if-k-s.false)
