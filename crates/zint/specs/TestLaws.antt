-- What tests of order on signed numbers say: as an order, and as an order of naturals that `omega` reads (`ztests`); and the branches of a definition by a test.
use Rattle.std.specs.Prelude.{◌≡◌, Bool, true, false, not, ◌+◌, ◌<◌, ◌≤◌, T, ℤ, pos, negsuc, ◌≤ℤ◌, ◌<ℤ◌}
use Rattle.std.proofs.Common.{sym, ap, ◌∙◌, subst, lt→ltb, leb-false}
use Rattle.std.specs.Int.Signed.{lt_z, le_z, lt_z_yes, lt_z_no, le_z_yes}
use mir.Val.{sel}
use Rattle.zint.specs.DiffLaws.{up, dn, of_le, of_lt, zarith}

pub lt_true : (a b : ℤ) → lt_z a b ≡ true → a <ℤ b
lt_true a b e = lt_z_yes (subst T (sym e) tt)

pub lt_false : (a b : ℤ) → lt_z a b ≡ false → b ≤ℤ a
lt_false a b e = lt_z_no (subst (λ (t : Bool). T (not t)) (sym e) tt)

pub le_true : (a b : ℤ) → le_z a b ≡ true → a ≤ℤ b
le_true a b e = le_z_yes (subst T (sym e) tt)

le_no : (a b : ℤ) → le_z a b ≡ false → T (lt_z b a)
le_no (pos a) (pos b) e = lt→ltb b a (leb-false a b e)
le_no (pos a) (negsuc b) e = tt
le_no (negsuc a) (pos b) e = subst T e tt
le_no (negsuc a) (negsuc b) e = lt→ltb a b (leb-false b a e)

pub le_false : (a b : ℤ) → le_z a b ≡ false → b <ℤ a
le_false a b e = record { lt = le_no a b e }

pub lt_true_ud : (a b : ℤ) → lt_z a b ≡ true → up a + dn b < up b + dn a
lt_true_ud a b e = of_lt (lt_true a b e)

pub lt_false_ud : (a b : ℤ) → lt_z a b ≡ false → up b + dn a ≤ up a + dn b
lt_false_ud a b e = of_le (lt_false a b e)

pub le_true_ud : (a b : ℤ) → le_z a b ≡ true → up a + dn b ≤ up b + dn a
le_true_ud a b e = of_le (le_true a b e)

pub le_false_ud : (a b : ℤ) → le_z a b ≡ false → up b + dn a < up a + dn b
le_false_ud a b e = of_lt (le_false a b e)

-- `omega ztests` reads facts of ℤ in reach: orders, equations, fits and tests
pub ruleset ztests = (zarith, lt_true_ud, lt_false_ud, le_true_ud, le_false_ud)

-- a branch of the code and a branch of the definition, `sel test x y`
pub sel_yes : (t : Bool) (x y r : ℤ) → t ≡ true → r ≡ x → r ≡ sel t x y
sel_yes t x y r e p = p ∙ sym (ap (λ (u : Bool). sel u x y) e)

pub sel_no : (t : Bool) (x y r : ℤ) → t ≡ false → r ≡ y → r ≡ sel t x y
sel_no t x y r e p = p ∙ sym (ap (λ (u : Bool). sel u x y) e)
