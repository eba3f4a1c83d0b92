-- Reads behind one another: what the buffer holds, and how many bytes there were, is what the reader lost.
use Rattle.std.specs.Prelude.{◌≡◌, ℕ, ◌+◌, ◌≤◌, List, [], ◌++◌, length, take, Option, refl}
use Rattle.std.proofs.Common.{sym, ap, ap₂, ◌∙◌, subst, le_refl, drop_at, length-take-le, length-append, arith, take-add}
use Rattle.std.specs.Io.KnownBytes.{Consumes}
use Rattle.std.proofs.KnownBytes.{Consumes-trans, Consumes-nil}
use Rattle.std.proofs.lemmas.Slice.{take-put_mid_below}
use Rattle.std.proofs.Math.Seq.{take-append-le}
use borrow.Rule.Slice.PartMut.{put_mid, post_of}

-- the first bytes of a buffer after a part was put at a
pub take_more : (a k n : ℕ) (xs ys : List ℕ) → a ≤ length xs → n ≤ length ys → take (a + n) (put_mid a k xs ys) ≡ take a xs ++ take n ys
take_more a k n xs ys within fits =
    let after = post_of a k xs in
    take-add a n (put_mid a k xs ys)
    ∙ ap₂ (λ (l m : List ℕ). l ++ m) (take-put_mid_below _ _ _ _ _ (le_refl _) within) (ap (take n) (drop_at (take a xs) (ys ++ after) a (length-take-le a xs within)) ∙ take-append-le n ys after fits)

-- a read of n bytes behind the first a
pub filled_more : (old now new : Option (List ℕ)) (a k n m : ℕ) (xs ys : List ℕ) → Consumes old now (take a xs) → Consumes now new (take n ys) → m ≡ a + n → a ≤ length xs → n ≤ length ys
    → Consumes old new (take m (put_mid a k xs ys))
filled_more old now new a k n m xs ys p q e within fits = subst (Consumes old new) (sym (ap (λ (j : ℕ). take j (put_mid a k xs ys)) e ∙ take_more a k n xs ys within fits)) (Consumes-trans old now new _ _ p q)

-- n bytes that a reader lost
abbrev pub Lost : Option (List ℕ) → Option (List ℕ) → ℕ → Type 0
Lost old new n = (rest : List ℕ) × (length rest ≡ n) × Consumes old new rest

pub lost_none : (old : Option (List ℕ)) → Lost old old 0
lost_none old = ([], refl, Consumes-nil old)

-- and the first k of ys behind them
pub lost_more : (old now new : Option (List ℕ)) (n k m : ℕ) (ys : List ℕ) → Lost old now n → Consumes now new (take k ys) → m ≡ n + k → k ≤ length ys → Lost old new m
lost_more old now new n k m ys p q e fits = (p.0 ++ take k ys, length-append p.0 (take k ys) ∙ omega (arith, p.1, length-take-le k ys fits), Consumes-trans old now new _ _ p.2 q)
