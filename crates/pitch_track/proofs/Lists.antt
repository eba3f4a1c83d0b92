-- Lists: a part of two lists one after the other, and a list laid at the front of the places for samples held.
use Rattle.std.proofs.Common.{sym, ap, ◌∙◌, inl, inr, ⊎_elim, arith, add-zero, append_assoc, append-nil, length-append, length-drop, drop-drop, take_at, drop_at, ◌≡◌, ℕ, ◌+◌, ◌-◌, ◌≤◌, ◌<◌, ◌⊎◌, min, List, ◌++◌, ℤ, pos, length, take, drop, length-take-le}
use Rattle.std.proofs.Math.Seq.{take-length, take-append-add, drop-append-add}
use Rattle.std.proofs.lemmas.List.{length-replicate, take-append-le, drop-append-le}
use Rattle.pitch_settings.specs.Settings.{longest_frame}
use Rattle.track_paper.specs.FramesLaws.{lt_or_le}
use Rattle.pitch_track.specs.Step.{zeros, padded}

pub length_zeros : length zeros ≡ longest_frame
unfolding zeros
length_zeros = length-replicate longest_frame (pos 0)

-- the part of x that is gathered
pub length_part : (x : List ℤ) (from size : ℕ) → from + size ≤ length x → length (take size (drop from x)) ≡ size
length_part x from size fits = length-take-le size (drop from x) (rw length-drop (omega arith))

pub padded_front : (w : List ℤ) (n : ℕ) → length w ≡ n → take n (padded w) ≡ w
unfolding padded
padded_front w n e = take_at w (drop (length w) zeros) n e

pub length_padded : (w : List ℤ) → length w ≤ longest_frame → length (padded w) ≡ longest_frame
unfolding padded
length_padded w h = simp (length-append, length-drop) (omega (arith, length_zeros))

-- a list is laid over the zeros
pub over : (w : List ℤ) (n : ℕ) → length w ≡ n → w ++ drop n zeros ≡ padded w
unfolding padded
over w n e = ap (λ (m : ℕ). w ++ drop m zeros) (sym e)

-- x is laid at the front of z, and then y after it, up to `size`
pub laid : (x y z : List ℤ) (kept size : ℕ) → length x ≡ kept → kept ≤ size
    → take kept (x ++ drop kept z) ++ (y ++ drop (size - kept) (drop kept (x ++ drop kept z))) ≡ (x ++ y) ++ drop size z
laid x y z kept size e h =
    let m : kept + (size - kept) ≡ size = omega arith in
    ap (λ (l : List ℤ). l ++ (y ++ drop (size - kept) (drop kept (x ++ drop kept z)))) (take_at x (drop kept z) kept e)
    ∙ ap (λ (l : List ℤ). x ++ (y ++ drop (size - kept) l)) (drop_at x (drop kept z) kept e)
    ∙ ap (λ (l : List ℤ). x ++ (y ++ l)) (drop-drop (size - kept) kept z ∙ ap (λ (n : ℕ). drop n z) m)
    ∙ sym (append_assoc x y (drop size z))

-- a front of two lists: all of the first, or none of the second
front_of : (a b : List ℤ) (k m : ℕ) → (k ≡ length a) ⊎ ((m ≡ 0) × (k ≤ length a)) → take (k + m) (a ++ b) ≡ take k a ++ take m b
front_of a b k m d =
    ⊎_elim
    (λ (e : k ≡ length a). rw e (take-append-add a b m ∙ ap (λ (l : List ℤ). l ++ take m b) (sym (take-length a))))
    (λ (q : (m ≡ 0) × (k ≤ length a)). rw q.0 (ap (λ (n : ℕ). take n (a ++ b)) (add-zero k) ∙ take-append-le k a b q.1 ∙ sym (append-nil (take k a))))
    d

-- the part of two lists that starts in the first
pub part_within : (h s : List ℤ) (from size kept : ℕ) → kept ≡ min (length h - from) size → from < length h
    → take (from + kept - from) (drop from h) ++ take (size - kept) s ≡ take size (drop from (h ++ s))
part_within h s from size kept k lt =
    let n : from + kept - from ≡ kept = omega arith in
    let m : kept + (size - kept) ≡ size = omega arith in
    let l : length (drop from h) ≡ length h - from = length-drop from h in
    let d : (kept ≡ length (drop from h)) ⊎ ((size - kept ≡ 0) × (kept ≤ length (drop from h))) =
    ⊎_elim (λ (p : length h - from < size). inl (omega arith)) (λ (p : size ≤ length h - from). inr (omega arith, omega arith)) (lt_or_le (length h - from) size) in
    ap (λ (i : ℕ). take i (drop from h) ++ take (size - kept) s) n
    ∙ sym (front_of (drop from h) s kept (size - kept) d)
    ∙ ap (λ (i : ℕ). take i (drop from h ++ s)) m
    ∙ ap (take size) (sym (drop-append-le from h s (omega arith)))

-- the part of two lists that starts in the second
pub part_after : (h s : List ℤ) (from size : ℕ) → length h ≤ from → take (from - length h + size - (from - length h)) (drop (from - length h) s) ≡ take size (drop from (h ++ s))
part_after h s from size le =
    let n : from - length h + size - (from - length h) ≡ size = omega arith in
    let m : length h + (from - length h) ≡ from = omega arith in
    ap (λ (i : ℕ). take i (drop (from - length h) s)) n
    ∙ ap (take size) (sym (drop-append-add h s (from - length h)) ∙ ap (λ (i : ℕ). drop i (h ++ s)) m)
