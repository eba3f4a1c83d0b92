-- The order of the integers: the laws that `lib.Signed` does not have, and a test from a fact.
use Rattle.std.specs.Prelude.{◌≡◌, refl, Bool, true, false, ◌⊎◌, ◌<◌, ◌≤◌, T, ℤ, pos, negsuc, ◌≤ℤ◌, ◌<ℤ◌}
use Rattle.std.proofs.Common.{ap, inl, inr, ⊎_elim, arith, leb→le, le→leb, ltb→lt}
use Rattle.std.proofs.lemmas.Int.{by_lt_z}
use Rattle.std.specs.Int.Signed.{lt_z, le_z, lt_z_yes, le_z_yes, <ℤ-≤ℤ_trans, clash_ℤ}
use Rattle.zint.specs.TestLaws.{lt_true, lt_false, le_true, le_false}
use Rattle.zint.specs.ReadLaws.{via_lt, via_le}

-- of two integers, one is at most the other
pub order : (a b : ℤ) → (a <ℤ b) ⊎ (b ≤ℤ a)
order a b = by_lt_z a b (λ h. inl h) (λ h. inr h)

weak : (a b : ℤ) → T (lt_z a b) → T (le_z a b)
weak (pos a) (pos b) t = let h : a < b = ltb→lt a b t in le→leb a b (omega arith)
weak (pos a) (negsuc b) t = t
weak (negsuc a) (pos b) t = tt
weak (negsuc a) (negsuc b) t = let h : b < a = ltb→lt b a t in le→leb b a (omega arith)

pub <ℤ_weak : {a b : ℤ} → a <ℤ b → a ≤ℤ b
<ℤ_weak {a} {b} h = le_z_yes (weak a b h.lt)

pub ≤ℤ_trans : {a b c : ℤ} → a ≤ℤ b → b ≤ℤ c → a ≤ℤ c
≤ℤ_trans {a} {b} {c} h k = ⊎_elim (λ (l : c <ℤ a). clash_ℤ (<ℤ-≤ℤ_trans l h) k) (λ g. g) (order c a)

pub ≤ℤ-<ℤ_trans : {a b c : ℤ} → a ≤ℤ b → b <ℤ c → a <ℤ c
≤ℤ-<ℤ_trans {a} {b} {c} h k = ⊎_elim (λ g. g) (λ (l : c ≤ℤ a). clash_ℤ k (≤ℤ_trans l h)) (order a c)

pub <ℤ_trans : {a b c : ℤ} → a <ℤ b → b <ℤ c → a <ℤ c
<ℤ_trans h k = <ℤ-≤ℤ_trans h (<ℤ_weak k)

-- a test on two words that went through their bits, said of the words: the equations are those of `back16` and `back32`, or an invariant's
pub lt_read : {a a' b b' : ℤ} → a' ≡ a → b' ≡ b → lt_z a' b' ≡ true → a <ℤ b
lt_read {a} {a'} {b} {b'} p q e = lt_true a b (via_lt a' b' a b true e p q)

pub not_lt_read : {a a' b b' : ℤ} → a' ≡ a → b' ≡ b → lt_z a' b' ≡ false → b ≤ℤ a
not_lt_read {a} {a'} {b} {b'} p q e = lt_false a b (via_lt a' b' a b false e p q)

-- a test from a fact
is_true : (t : Bool) → T t → t ≡ true
is_true true h = refl
is_true false h = absurd h

is_false : (t : Bool) → (T t → ⊥) → t ≡ false
is_false true h = absurd (h tt)
is_false false h = refl

pub lt_yes : {a b : ℤ} → a <ℤ b → lt_z a b ≡ true
lt_yes {a} {b} h = is_true (lt_z a b) h.lt

pub lt_no : {a b : ℤ} → b ≤ℤ a → lt_z a b ≡ false
lt_no {a} {b} h = is_false (lt_z a b) (λ t. clash_ℤ (lt_z_yes t) h)

pub le_yes : {a b : ℤ} → a ≤ℤ b → le_z a b ≡ true
le_yes {a} {b} h = is_true (le_z a b) h.le

pub le_no : {a b : ℤ} → b <ℤ a → le_z a b ≡ false
le_no {a} {b} h = is_false (le_z a b) (λ t. clash_ℤ h (le_z_yes t))

anti : (a b : ℤ) → T (le_z a b) → T (le_z b a) → a ≡ b
anti (pos a) (pos b) h k = let p : a ≤ b = leb→le a b h in let q : b ≤ a = leb→le b a k in ap pos (omega arith)
anti (pos a) (negsuc b) h k = absurd h
anti (negsuc a) (pos b) h k = absurd k
anti (negsuc a) (negsuc b) h k = let p : b ≤ a = leb→le b a h in let q : a ≤ b = leb→le a b k in ap negsuc (omega arith)

pub ≤ℤ_antisym : {a b : ℤ} → a ≤ℤ b → b ≤ℤ a → a ≡ b
≤ℤ_antisym {a} {b} h k = anti a b h.le k.le

-- the same as an equation of the test
pub lt_z_by : {a a' b b' : ℤ} {t : Bool} → a' ≡ a → b' ≡ b → lt_z a' b' ≡ t → lt_z a b ≡ t
lt_z_by {a} {a'} {b} {b'} {t} p q e = via_lt a' b' a b t e p q

-- a test `a <= b`
pub le_read : {a a' b b' : ℤ} → a' ≡ a → b' ≡ b → le_z a' b' ≡ true → a ≤ℤ b
le_read {a} {a'} {b} {b'} p q e = le_true a b (via_le a' b' a b true e p q)

pub not_le_read : {a a' b b' : ℤ} → a' ≡ a → b' ≡ b → le_z a' b' ≡ false → b <ℤ a
not_le_read {a} {a'} {b} {b'} p q e = le_false a b (via_le a' b' a b false e p q)
