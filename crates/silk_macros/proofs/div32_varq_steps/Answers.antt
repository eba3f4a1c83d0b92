-- `silk_macros::div32_varq_steps` meets its contract. Each local is read as what the definition has for it.
use Rattle.std.proofs.Common.{◌≡◌, ℕ, arith, ℤ, pos, negsuc, ◌+ℤ◌, ◌-ℤ◌, ◌<ℤ◌, ◌≤ℤ◌, w32, SFits, to_z, of_z}
use Rattle.std.specs.Int.Signed.{quot_z}
use Rattle.zint.specs.DiffLaws.{v, n, ◌⊕◌, ◌⊖◌, sfits_by, lt_by, of_lt, of_le, zarith}
use Rattle.zint.specs.ReadLaws.{Reads, r_var, r_lit, r_call1, r_call2, r_call3, r_add, r_sub, r_shr, r_holds, f_add, f_sub}
use Rattle.zint.specs.RuleLaws.{zneeds}
use Rattle.silk_macros.specs.Macros.{headroom, normal}
use Rattle.silk_macros.specs.Divide.{inner_divisor, inverse, refine, to_qres, div32_varq}
use Rattle.silk_macros.specs.DivideLaws.{inverse_fits, headroom_lt, headroom_ge, divisor_ne}
use Rattle.silk_macros.proofs.div32_varq_steps.Goals as goal

a-headroom : (c : goal.After-headroom_32-a_headrm) → Reads w32 (of_z w32 c.headroom_32-a_headrm.result) (headroom c.args.a32)
a-headroom c = r_call1 w32 headroom c.headroom_32-a_headrm.type_inv (r_var c.ranges.a32) c.headroom_32-a_headrm.ensures

b-headroom : (c : goal.After-headroom_32-b_headrm) → Reads w32 (of_z w32 c.headroom_32-b_headrm.result) (headroom c.args.b32)
b-headroom c = r_call1 w32 headroom c.headroom_32-b_headrm.type_inv (r_var c.ranges.b32) c.headroom_32-b_headrm.ensures

a-normal : (c : goal.After-normalized-a32_nrm) → Reads w32 (of_z w32 c.normalized-a32_nrm.result) (normal c.args.a32 (headroom c.args.a32))
a-normal c = r_call2 w32 normal c.normalized-a32_nrm.type_inv (r_var c.ranges.a32) (a-headroom c.before.before) c.normalized-a32_nrm.ensures

module _ (c : goal.After-normalized-b32_nrm) where
  b-normal : Reads w32 (of_z w32 c.normalized-b32_nrm.result) (normal c.args.b32 (headroom c.args.b32))
  b-normal = r_call2 w32 normal c.normalized-b32_nrm.type_inv (r_var c.ranges.b32) (b-headroom c.before.before) c.normalized-b32_nrm.ensures

inverted : (c : goal.After-silk_div32_16-b32_inv) → Reads w32 (of_z w32 c.silk_div32_16-b32_inv.result) (inverse c.args.b32)
unfolding inverse inner_divisor
inverted c = r_call2 w32 quot_z c.silk_div32_16-b32_inv.type_inv (r_lit w32 536870911 tt) (r_shr 65536 (b-normal c.before)) c.silk_div32_16-b32_inv.ensures

-- the three steps of the shift, and its bound
fits₁ : (a : ℤ) → SFits w32 (pos 29 +ℤ headroom a)
fits₁ a = sfits_by w32 (n 29 ⊕ v (headroom a)) (omega (arith, of_lt (headroom_lt a))) (omega (arith, of_le (headroom_ge a)))

fits₂ : (a b : ℤ) → SFits w32 (pos 29 +ℤ headroom a -ℤ headroom b)
fits₂ a b =
    sfits_by w32 (n 29 ⊕ v (headroom a) ⊖ v (headroom b)) (omega (arith, of_lt (headroom_lt a), of_le (headroom_ge b)))
    (omega (arith, of_le (headroom_ge a), of_lt (headroom_lt b)))

module _ (a b q : ℤ) (low : pos 0 ≤ℤ q) (high : q <ℤ pos 60) where
  fits₃ : SFits w32 (pos 29 +ℤ headroom a -ℤ headroom b -ℤ q)
  fits₃ =
      sfits_by w32 (n 29 ⊕ v (headroom a) ⊖ v (headroom b) ⊖ v q) (omega (zarith, of_lt (headroom_lt a), of_le (headroom_ge b)))
      (omega (zarith, of_le (headroom_ge a), of_lt (headroom_lt b)))

  above : negsuc 63 <ℤ (pos 29 +ℤ headroom a -ℤ headroom b -ℤ q)
  above = lt_by (v (negsuc 63)) (n 29 ⊕ v (headroom a) ⊖ v (headroom b) ⊖ v q) (omega (zarith, of_le (headroom_ge a), of_lt (headroom_lt b)))

  shift : {m k o : ℕ} → Reads w32 m (headroom a) → Reads w32 k (headroom b) → Reads w32 o q
      → Reads w32 (of_z w32 (to_z w32 (of_z w32 (to_z w32 (of_z w32 (pos 29 +ℤ to_z w32 m)) -ℤ to_z w32 k)) -ℤ to_z w32 o)) (pos 29 +ℤ headroom a -ℤ headroom b -ℤ q)
  shift x y z = r_sub (r_sub (r_add (r_lit w32 29 tt) x (fits₁ a)) y (fits₂ a b)) z fits₃

pub normalized-a32_nrm-requires : goal.normalized-a32_nrm-requires
normalized-a32_nrm-requires c = r_holds (λ (x : ℤ). x <ℤ pos 32) (a-headroom c.before) (headroom_lt c.args.a32)

pub normalized-b32_nrm-requires : goal.normalized-b32_nrm-requires
normalized-b32_nrm-requires c = r_holds (λ (x : ℤ). x <ℤ pos 32) (b-headroom c.before) (headroom_lt c.args.b32)

pub silk_div32_16-b32_inv-requires : goal.silk_div32_16-b32_inv-requires
unfolding inverse inner_divisor
silk_div32_16-b32_inv-requires c =
    let d = r_shr 65536 (b-normal c) in
    r_holds (λ (x : ℤ). (x ≡ pos 0 → ⊥) × SFits w32 (quot_z (pos 536870911) x)) d
    (divisor_ne c.args.b32 c.ranges.b32 c.requires.0, inverse_fits c.args.b32)

pub overflow_add-a_headrm : goal.overflow_add-a_headrm
overflow_add-a_headrm c =
    f_add (r_lit w32 29 tt) (a-headroom c.before.before.before.before.before) (fits₁ c.args.a32)

pub overflow_sub-a_headrm : goal.overflow_sub-a_headrm
overflow_sub-a_headrm c =
    f_sub (r_add (r_lit w32 29 tt) (a-headroom c.before.before.before.before.before) (fits₁ c.args.a32))
    (b-headroom c.before.before.before.before) (fits₂ c.args.a32 c.args.b32)

pub overflow_sub-a_headrm-2 : goal.overflow_sub-a_headrm-2
overflow_sub-a_headrm-2 c =
    let x = r_add (r_lit w32 29 tt) (a-headroom c.before.before.before.before.before) (fits₁ c.args.a32) in
    let y = r_sub x (b-headroom c.before.before.before.before) (fits₂ c.args.a32 c.args.b32) in
    f_sub y (r_var c.ranges.qres) (fits₃ c.args.a32 c.args.b32 c.args.qres c.requires.1 c.requires.2)

pub to_qres-requires : goal.to_qres-requires
to_qres-requires c =
    r_holds (λ (x : ℤ). negsuc 63 <ℤ x)
    (shift c.args.a32 c.args.b32 c.args.qres c.requires.1 c.requires.2 (a-headroom c.before.before.before.before.before) (b-headroom c.before.before.before.before) (r_var c.ranges.qres))
    (above c.args.a32 c.args.b32 c.args.qres c.requires.1 c.requires.2)

pub returns : goal.returns
unfolding div32_varq
returns c =
    let d = c.before in
    let r = r_call3 w32 refine c.refined-result.type_inv (a-normal d.before.before.before) (b-normal d.before.before) (inverted d.before) c.refined-result.ensures in
    let t = shift c.args.a32 c.args.b32 c.args.qres c.requires.1 c.requires.2 (a-headroom d.before.before.before.before.before) (b-headroom d.before.before.before.before) (r_var c.ranges.qres) in
    (r_call2 w32 to_qres c.to_qres.type_inv r t c.to_qres.ensures).val

pub headroom_32-a_headrm-requires : goal.headroom_32-a_headrm-requires
headroom_32-a_headrm-requires c = search zneeds

pub headroom_32-b_headrm-requires : goal.headroom_32-b_headrm-requires
headroom_32-b_headrm-requires c = search zneeds

pub refined-result-requires : goal.refined-result-requires
refined-result-requires c = search zneeds
