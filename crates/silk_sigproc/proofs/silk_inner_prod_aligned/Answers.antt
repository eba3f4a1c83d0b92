-- `silk_sigproc::silk_inner_prod_aligned` meets its contract: a fold over the pairs of two lists adds up their products.
use Rattle.std.proofs.Common.{rules, sym, ap, ◌∙◌, arith, ◌≡◌, ℕ, zero, suc, ◌≤◌, List, [], ◌∷◌, ℤ, pos, ◌+ℤ◌, ◌*ℤ◌, length, take, get_or, get_or-take, length-take-le, fold, w32, zip}
use Rattle.std.proofs.lemmas.Iterator.{YieldsList-from_slice, YieldsList-from_zip}
use Rattle.std.proofs.lemmas.Iterator.Consumers.{fold_from_yields_List}
use Rattle.zint.specs.DiffLaws.{v, n, ◌⊕◌, ring}
use Rattle.zint.specs.ReadLaws.{r_got}
use Rattle.zint.specs.Wrap.{wrap, mod_z}
use Rattle.zint.specs.WrapLaws.{wrap_add_l}
use Rattle.silk_sigproc.specs.Dot.{dot}
use Rattle.silk_sigproc.specs.DotLaws.{dot_ext}
use Rattle.silk_sigproc.proofs.silk_inner_prod_aligned.Goals as goal

-- the first product apart
dot_first : (x y : ℤ) (xs ys : List ℤ) (k : ℕ) → dot (x ∷ xs) (y ∷ ys) (suc k) ≡ x *ℤ y +ℤ dot xs ys k
unfolding dot
dot_first x y xs ys zero = ring (n 0 ⊕ v (x *ℤ y)) (v (x *ℤ y) ⊕ n 0) (omega arith)
dot_first x y xs ys (suc k) =
    let p = get_or xs k (pos 0) *ℤ get_or ys k (pos 0) in
    ap (λ (t : ℤ). t +ℤ p) (dot_first x y xs ys k) ∙ ring (v (x *ℤ y) ⊕ v (dot xs ys k) ⊕ v p) (v (x *ℤ y) ⊕ (v (dot xs ys k) ⊕ v p)) (omega arith)

step : ℤ → ℤ × ℤ → ℤ
step s p = wrap w32 (s +ℤ p.0 *ℤ p.1)

-- the steps from a sum d on
folded : (d : ℤ) (xs ys : List ℤ) (k : ℕ) → length xs ≡ k → length ys ≡ k → fold step (wrap w32 d) (zip xs ys) ≡ wrap w32 (d +ℤ dot xs ys k)
unfolding dot step
folded d [] [] zero e f = ap (wrap w32) (ring (v d) (v d ⊕ n 0) (omega arith))
folded d [] ys (suc k) e f = absurd (omega arith)
folded d [] (y ∷ ys) zero e f = absurd (omega arith)
folded d (x ∷ xs) ys zero e f = absurd (omega arith)
folded d (x ∷ xs) [] (suc k) e f = absurd (omega arith)
folded d (x ∷ xs) (y ∷ ys) (suc k) e f =
    ap (λ (s : ℤ). fold step s (zip xs ys)) (wrap_add_l w32 d (x *ℤ y))
    ∙ folded (d +ℤ x *ℤ y) xs ys k (omega arith) (omega arith)
    ∙ ap (wrap w32) (ring (v d ⊕ v (x *ℤ y) ⊕ v (dot xs ys k)) (v d ⊕ (v (x *ℤ y) ⊕ v (dot xs ys k))) (omega arith) ∙ ap (λ (t : ℤ). d +ℤ t) (sym (dot_first x y xs ys k)))

-- the first k of each
whole : (a b : List ℤ) (k : ℕ) → k ≤ length a → k ≤ length b → fold step (pos 0) (zip (take k a) (take k b)) ≡ wrap w32 (dot a b k)
unfolding wrap mod_z
whole a b k h l =
    folded (pos 0) (take k a) (take k b) k (length-take-le k a h) (length-take-le k b l)
    ∙ ap (wrap w32) (ring (n 0 ⊕ v (dot (take k a) (take k b) k)) (v (dot (take k a) (take k b) k)) (omega arith) ∙ dot_ext (take k a) a (take k b) b k (λ i g. get_or-take k a i (pos 0) g) (λ i g. get_or-take k b i (pos 0) g))

pub returns : goal.returns
unfolding step
returns c =
    let a = take c.args.len c.args.a.now in
    let b = take c.args.len c.args.b.now in
    let e : c.fold.result ≡ fold step (pos 0) (zip a b) =
    fold_from_yields_List _ step (pos 0) c.fold.result c.fold.ensures.ran (YieldsList-from_zip (YieldsList-from_slice a (search rules)) (YieldsList-from_slice b (search rules))) (λ s x r q k. search rules) in
    (r_got w32 c.fold.type_inv (e ∙ whole c.args.a.now c.args.b.now c.args.len c.requires.0 c.requires.1)).val
