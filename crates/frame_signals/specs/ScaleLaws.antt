-- Laws of the working frame: what the scratch or the frame holds is the frame scaled, and its length.
use Rattle.std.specs.Prelude.{◌≡◌, refl, Bool, true, false, cond, List, eqb, ℤ, pos, negsuc, length, take, ℕ, zero, suc, ◌^◌, ◌≤◌, ◌<◌}
use Rattle.std.proofs.Common.{sym, ◌∙◌, arith, eq-eqb, ne_eqb, length-take-le, get_or-take, ap}
use Rattle.std.specs.Int.Signed.{shr_z}
use Rattle.lists.specs.Fill.{tabulate, filled}
use Rattle.lists.specs.FillLaws.{take_filled, tabulate_is, tabulate_ext, length_tabulate}
use Rattle.lists.specs.Signal.{sample}
use Rattle.frame_signals.specs.Scale.{down_shift, shifted_at, scaled, moved_count, holder}

pub length_scaled : (xs : List ℤ) → length (scaled xs) ≡ length xs
unfolding scaled
length_scaled xs = length_tabulate (shifted_at xs (down_shift xs)) (length xs)

pub moved_none : (s n : ℕ) → s ≡ 0 → moved_count s n ≡ 0
unfolding moved_count
moved_none s n e = ap (λ (t : Bool). cond t 0 n) (eq-eqb s 0 e)

pub moved_all : (s n : ℕ) → (s ≡ 0 → ⊥) → moved_count s n ≡ n
unfolding moved_count
moved_all s n g = ap (λ (t : Bool). cond t 0 n) (ne_eqb s 0 g)

pub moved_le : (s n : ℕ) → moved_count s n ≤ n
unfolding moved_count
moved_le s n = by (eqb s 0)
  where
    by : (t : Bool) → cond t 0 n ≤ n
    by true = omega arith
    by false = omega arith

pub holder_frame : (s : ℕ) (frame scratch : List ℤ) → s ≡ 0 → holder s frame scratch ≡ frame
unfolding holder
holder_frame s frame scratch e = ap (λ (t : Bool). cond t frame scratch) (eq-eqb s 0 e)

pub holder_scratch : (s : ℕ) (frame scratch : List ℤ) → (s ≡ 0 → ⊥) → holder s frame scratch ≡ scratch
unfolding holder
holder_scratch s frame scratch g = ap (λ (t : Bool). cond t frame scratch) (ne_eqb s 0 g)

-- ---- what the working frame is

shr_one : (z : ℤ) → shr_z z 1 ≡ z
shr_one (pos a) = ap pos (omega arith)
shr_one (negsuc a) = ap negsuc (omega arith)

-- a shift by 0 leaves the samples
unshifted : (xs : List ℤ) → tabulate (shifted_at xs 0) (length xs) ≡ xs
unfolding shifted_at sample
unshifted xs = tabulate_is (shifted_at xs 0) (length xs) xs (pos 0) refl (λ k h. shr_one (sample xs k))

held : (s n : ℕ) (x l : List ℤ) → n ≤ length x → take n (holder s x (filled (shifted_at x s) (moved_count s n) l)) ≡ tabulate (shifted_at (take n x) s) (length (take n x))
held zero n x l h = ap (take n) (holder_frame 0 x (filled (shifted_at x 0) (moved_count 0 n) l) refl) ∙ sym (unshifted (take n x))
held (suc s) n x l h =
    let e : length (take n x) ≡ n = length-take-le n x h in
    let f = shifted_at x (suc s) in
    let g = shifted_at (take n x) (suc s) in
    let same : (k : ℕ) → k < n → f k ≡ g k = λ k b. unfold shifted_at sample in ap (λ (z : ℤ). shr_z z (2 ^ suc s)) (sym (get_or-take n x k (pos 0) b)) in
    ap (take n) (holder_scratch (suc s) x (filled f (moved_count (suc s) n) l) (λ q. omega arith) ∙ ap (λ (m : ℕ). filled f m l) (moved_all (suc s) n (λ q. omega arith)))
    ∙ take_filled f n l
    ∙ tabulate_ext n same
    ∙ ap (tabulate g) (sym e)

-- where the shift is the frame's and the scratch holds what `scale_into` leaves, the first n samples of the holder are the working frame
pub working_scaled : (x l : List ℤ) (n : ℕ) {s : ℕ} {scratch : List ℤ} → n ≤ length x → s ≡ down_shift (take n x) → scratch ≡ filled (shifted_at x s) (moved_count s n) l
    → take n (holder s x scratch) ≡ scaled (take n x)
unfolding scaled
working_scaled x l n {s} {scratch} h e k =
    ap (λ (t : List ℤ). take n (holder s x t)) k ∙ held s n x l h ∙ ap (λ (r : ℕ). tabulate (shifted_at (take n x) r) (length (take n x))) e
