-- Settings with tables are so in one way only: what a struct that keeps them needs.
use Rattle.std.specs.Prelude.{◌≡◌, ◌⊎◌, ℕ}
use Rattle.std.proofs.Common.{inl, inr, ap, arith}
use Rattle.std.specs.Coded.{Coded-set, coded_ℕ, le_prop}
use Rattle.silk_tables.specs.Tables.{TableSettings}

-- 2 and 4 are apart
one_count : {nb : ℕ} → IsProp ((nb ≡ 2) ⊎ (nb ≡ 4))
one_count {nb} (inl e) (inl f) = ap inl (Coded-set coded_ℕ nb 2 e f)
one_count (inl e) (inr f) = let z : ◌≡◌ {A = ℕ} 2 4 = cc in absurd (omega arith)
one_count (inr e) (inl f) = let z : ◌≡◌ {A = ℕ} 2 4 = cc in absurd (omega arith)
one_count {nb} (inr e) (inr f) = ap inr (Coded-set coded_ℕ nb 4 e f)

pub one_table_settings : (nb cx : ℕ) → IsProp (TableSettings nb cx)
one_table_settings nb cx s t = λ i. record {
  subframes = one_count s.subframes t.subframes i;
  at_least = le_prop s.at_least t.at_least i;
  at_most = le_prop s.at_most t.at_most i;
  complexity = le_prop s.complexity t.complexity i;
}
