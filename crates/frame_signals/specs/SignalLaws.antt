-- Laws of the signals at 8 and 4 kHz: their lengths, one turn of the two-tap sum, and buffers that hold them.
use Rattle.std.specs.Prelude.{◌≡◌, Bool, cond, ◌⊎◌, ℕ, zero, suc, ◌+◌, ◌-◌, ◌*◌, ◌/◌, ◌≤◌, ◌<◌, eqb, ℤ, pos, ◌+ℤ◌, drop, set, refl, List, ◌++◌, length, get_or}
use Rattle.std.proofs.Common.{sym, ◌∙◌, inl, inr, arith, eq-eqb, ne_eqb, ap, ap₂, drop_at}
use Rattle.std.proofs.Math.ListN.{get_or-append}
use Rattle.std.proofs.lemmas.List.{set-get_or}
use Rattle.std.specs.Int.{w16}
use Rattle.zint.specs.Clamp.{sat}
use Rattle.lists.specs.Fill.{tabulate, filled, overwritten}
use Rattle.lists.specs.FillLaws.{length_tabulate, tabulate_ext}
use Rattle.lists.specs.DownLaws.{filled_from, from_below, from_next}
use Rattle.lists.specs.PushLaws.{filled_overwritten}
pub use Rattle.lists.specs.PushLaws.{take_overwritten}
use Rattle.lists.specs.Signal.{sample}
use Rattle.silk_resampler.specs.Down2.{down2}
use Rattle.silk_resampler.specs.Down2Laws.{down2_length}
use Rattle.silk_resampler.specs.Down23.{FilterNumbers, down2_3}
use Rattle.silk_resampler.specs.Down23Laws.{down2_3-length}
use Rattle.frame_signals.specs.Signals.{down_to_8khz, two_tap, down_to_4khz}

-- ---- buffers

-- all places, counted down
from_all : (f : ℕ → ℤ) (n : ℕ) (l : List ℤ) → filled_from f 0 n l ≡ filled f n l
unfolding filled_from filled
from_all f n l =
    let z : n - 0 ≡ n = omega arith in
    ap (λ (t : List ℤ). t ++ drop n l) (ap (tabulate (λ (k : ℕ). f (0 + k))) z ∙ tabulate_ext n (λ k h. let e : 0 + k ≡ k = omega arith in ap f e))

-- a loop that counts down to 1 leaves the first place as it was, where the rule has the same
pub filled_down : (f : ℕ → ℤ) (i n : ℕ) (l : List ℤ) → i ≤ 1 → i ≤ n → n ≤ length l → f 0 ≡ get_or l 0 (pos 0) → filled_from f i n l ≡ filled f n l
filled_down f zero n l o h k e = from_all f n l
filled_down f (suc (suc i)) n l o h k e = absurd (omega arith)
filled_down f (suc zero) n l o h k e =
    let x = filled_from f 1 n l in
    sym (set-get_or x 0 (pos 0))
    ∙ ap (set x 0) (from_below f 1 n l 0 (pos 0) (omega arith) (omega arith) ∙ sym e)
    ∙ from_next f 0 n l h k
    ∙ from_all f n l

-- ---- which signal at which rate

pub eight_16 : (F : FilterNumbers) (fs : ℕ) (w : List ℤ) → fs ≡ 16 → down_to_8khz F fs w ≡ down2 w
unfolding down_to_8khz
eight_16 F fs w e = ap (λ (t : Bool). cond t (down2 w) (cond (eqb fs 12) (down2_3 F w) w)) (eq-eqb fs 16 e)

pub eight_12 : (F : FilterNumbers) (fs : ℕ) (w : List ℤ) → fs ≡ 12 → down_to_8khz F fs w ≡ down2_3 F w
unfolding down_to_8khz
eight_12 F fs w e =
    ap₂ (λ (t u : Bool). cond t (down2 w) (cond u (down2_3 F w) w)) (ne_eqb fs 16 (λ h. omega arith)) (eq-eqb fs 12 e)

pub eight_8 : (F : FilterNumbers) (fs : ℕ) (w : List ℤ) → (fs ≡ 16 → ⊥) → (fs ≡ 12 → ⊥) → down_to_8khz F fs w ≡ w
unfolding down_to_8khz
eight_8 F fs w g h = ap₂ (λ (t u : Bool). cond t (down2 w) (cond u (down2_3 F w) w)) (ne_eqb fs 16 g) (ne_eqb fs 12 h)

-- ---- lengths

-- the working frame of accepted settings
pub record FrameOf (fs nb : ℕ) (w : List ℤ) : Type 0 where
  pub rate : (fs ≡ 8) ⊎ ((fs ≡ 12) ⊎ (fs ≡ 16))
  pub size : length w ≡ (20 + 5 * nb) * fs

pub length_eight : (F : FilterNumbers) {fs nb : ℕ} {w : List ℤ} → FrameOf fs nb w → length (down_to_8khz F fs w) ≡ (20 + 5 * nb) * 8
length_eight F {fs} {nb} {w} s = by s.rate
  where
    by : (fs ≡ 8) ⊎ ((fs ≡ 12) ⊎ (fs ≡ 16)) → length (down_to_8khz F fs w) ≡ (20 + 5 * nb) * 8
    by (inl e) = ap length (eight_8 F fs w (λ h. omega arith) (λ h. omega arith)) ∙ s.size ∙ ap (λ (k : ℕ). (20 + 5 * nb) * k) e
    by (inr (inl e)) =
        let k : length w ≡ (20 + 5 * nb) * 12 = s.size ∙ ap (λ (k : ℕ). (20 + 5 * nb) * k) e in
        ap length (eight_12 F fs w e) ∙ down2_3-length F w ∙ omega arith
    by (inr (inr e)) =
        let k : length w ≡ (20 + 5 * nb) * 16 = s.size ∙ ap (λ (k : ℕ). (20 + 5 * nb) * k) e in
        ap length (eight_16 F fs w e) ∙ down2_length w ∙ omega arith

pub length_four : (e : List ℤ) → length (down_to_4khz e) ≡ length e / 2
unfolding down_to_4khz
length_four e = length_tabulate (two_tap (sample (down2 e))) (length (down2 e)) ∙ down2_length e

-- ---- the two-tap sum

pub two_tap_at : (g : ℕ → ℤ) (i : ℕ) → 0 < i → two_tap g i ≡ sat w16 (g i +ℤ g (i - 1))
unfolding two_tap
two_tap_at g zero h = absurd (omega arith)
two_tap_at g (suc i) h = let e : i ≡ suc i - 1 = omega arith in ap (λ (k : ℕ). sat w16 (g (suc i) +ℤ g k)) e

two_tap_ext : (f g : ℕ → ℤ) (n k : ℕ) → k < n → ((i : ℕ) → i < n → f i ≡ g i) → two_tap f k ≡ two_tap g k
unfolding two_tap
two_tap_ext f g n zero h e = e 0 h
two_tap_ext f g n (suc k) h e = ap₂ (λ (a b : ℤ). sat w16 (a +ℤ b)) (e (suc k) h) (e k (omega arith))

-- the two-tap sum over a buffer whose first places hold the signal at half the rate
module _ (e out l : List ℤ) (h : out ≡ overwritten (down2 e) l) where
  same_below : (i : ℕ) → i < length (down2 e) → sample out i ≡ sample (down2 e) i
  unfolding sample overwritten
  same_below i k = ap (λ (t : List ℤ). get_or t i (pos 0)) h ∙ get_or-append (down2 e) (drop (length (down2 e)) l) (pos 0) i k

  same_after : drop (length (down2 e)) out ≡ drop (length (down2 e)) l
  unfolding overwritten
  same_after = ap (drop (length (down2 e))) h ∙ drop_at (down2 e) (drop (length (down2 e)) l) (length (down2 e)) refl

  whole : filled (two_tap (sample out)) (length (down2 e)) out ≡ overwritten (down_to_4khz e) l
  unfolding down_to_4khz filled
  whole =
      let n = length (down2 e) in
      ap₂ (λ (s t : List ℤ). s ++ t) (tabulate_ext n (λ k b. two_tap_ext (sample out) (sample (down2 e)) n k b same_below)) same_after
      ∙ filled_overwritten (two_tap (sample (down2 e))) n l

  pub two_tap_four : (n : ℕ) → length (down2 e) ≡ n → filled (two_tap (sample out)) n out ≡ overwritten (down_to_4khz e) l
  two_tap_four n k = ap (λ (m : ℕ). filled (two_tap (sample out)) m out) (sym k) ∙ whole
