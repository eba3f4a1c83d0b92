-- Laws of the decimator by two thirds, for any filter: a step of the code, one turn of each loop, the widths of what they hold, the buffer, lengths, and the frame alone.
use Rattle.std.specs.Prelude.{◌≡◌, refl, Bool, ℕ, ◌+◌, ◌-◌, ◌*◌, ◌/◌, ◌%◌, ◌≤◌, ◌<◌, ℤ, pos, ◌+ℤ◌, ◌*ℤ◌, length, get_or, take, replicate, true, false, cond, List, [], ◌∷◌, ◌++◌, eqb, drop}
use Rattle.std.proofs.Common.{sym, ◌∙◌, add-one, lit<, length-drop, length-take-le, get_or-append-add, drop_at, SFits, to_z, of_z, ap, ap₂, arith, lt-ltb, le-ltb, eq-eqb, ne_eqb, get_or-take, get_or-drop}
use Rattle.std.proofs.Math.Decide.{dec_lt}
use Rattle.std.proofs.Math.ListN.{get_or-append}
use Rattle.std.specs.Int.{w16, w32}
use Rattle.zint.specs.ClampLaws.{sat_fits}
use Rattle.zint.specs.ReadLaws.{r_is}
use Rattle.zint.specs.Wrap.{wrap}
use Rattle.zint.specs.WrapLaws.{wrap_fits, wraps}
use Rattle.silk_macros.specs.Macros.{smulwb, smlawb, rshift_round}
use Rattle.silk_macros.specs.MacroLaws.{smulwb_fits}
use Rattle.lists.specs.Fill.{tabulate, filled}
use Rattle.lists.specs.FillLaws.{filled_all, take_filled, length_tabulate, length_filled, get_or-filled, tabulate_ext, filled_ext}
use Rattle.lists.specs.Signal.{sample}
use Rattle.silk_resampler.specs.Down23.{FilterNumbers, States, ar2_out, feedback, first_next, ar2_states, filtered, states_of, with_states, weighted, rounded, even_out, odd_out, decimated, after_history, buffer, down2_3}
use Rattle.silk_resampler.specs.Down2Laws.{table_fits}

-- ---- a step of the code: what the second state, the output's part and the feedback sum to, each wrapped

pub first_words : (F : FilterNumbers) (a t o : ℤ) → wrap w32 (wrap w32 (t +ℤ wrap w32 (o *ℤ pos F.adds)) +ℤ smulwb (wrap w32 (o *ℤ pos F.factor)) a) ≡ first_next F a t o
unfolding first_next feedback
first_words F a t o = simp wraps

-- ---- the recursion: one turn, and widths

module _ (F : FilterNumbers) (a b : ℤ) (s : States) (x : ℕ → ℤ) (k : ℕ) where
  first_turn : (ar2_states F a b s x (k + 1)).first ≡ first_next F a (ar2_states F a b s x k).second (filtered F a b s x k)
  unfolding ar2_states filtered
  first_turn = ap (λ (m : ℕ). (ar2_states F a b s x m).first) (add-one k)

  second_turn : (ar2_states F a b s x (k + 1)).second ≡ feedback F b (filtered F a b s x k)
  unfolding ar2_states filtered
  second_turn = ap (λ (m : ℕ). (ar2_states F a b s x m).second) (add-one k)

out_fits : (s a : ℤ) → SFits w32 (ar2_out s a)
unfolding ar2_out
out_fits s a = wrap_fits w32 (s +ℤ a *ℤ pos 256)

first_fits : (F : FilterNumbers) (a t o : ℤ) → SFits w32 (first_next F a t o)
unfolding first_next
first_fits F a t o = wrap_fits w32 (t +ℤ o *ℤ pos F.adds +ℤ feedback F a o)

feedback_fits : (F : FilterNumbers) (a o : ℤ) → SFits w32 (feedback F a o)
unfolding feedback
feedback_fits F a o = smulwb_fits a (wrap_fits w32 (o *ℤ pos F.factor))

-- one turn of the code, of the coefficients, states and sample that it reads: the states after it, and the output
pub ar2_turn : (F : FilterNumbers) (a b : ℤ) (s : States) (x : ℕ → ℤ) (k : ℕ) {c d p q v n m o : ℤ} → c ≡ a → d ≡ b → p ≡ (ar2_states F a b s x k).first → q ≡ (ar2_states F a b s x k).second → v ≡ x k
    → (n ≡ first_next F c q (ar2_out p v)) × (m ≡ feedback F d (ar2_out p v)) × (o ≡ ar2_out p v)
    → (to_z w32 (of_z w32 n) ≡ (ar2_states F a b s x (k + 1)).first) × (to_z w32 (of_z w32 m) ≡ (ar2_states F a b s x (k + 1)).second) × (to_z w32 (of_z w32 o) ≡ filtered F a b s x k)
unfolding filtered
ar2_turn F a b s x k ec ed ep eq ev e =
    let z = ar2_states F a b s x k in
    let y = filtered F a b s x k in
    let ey = ap₂ ar2_out ep ev in (
      (r_is (e.0 ∙ (λ i. first_next F (ec i) (eq i) (ey i))) (first_fits F a z.second y)).val ∙ sym (first_turn F a b s x k),
      (r_is (e.1 ∙ ap₂ (feedback F) ed ey) (feedback_fits F b y)).val ∙ sym (second_turn F a b s x k),
      (r_is (e.2 ∙ ey) (out_fits z.first (x k))).val,
    )

-- ---- the outputs: one turn of two, widths, and what they depend on

module _ (F : FilterNumbers) (b : ℕ → ℤ) (m : ℕ) where
  pub decimated_even : even_out F b m ≡ decimated F b (2 * m)
  unfolding decimated
  decimated_even =
      let h : (2 * m) / 2 ≡ m = omega arith in
      let e : eqb ((2 * m) % 2) 0 ≡ true = eq-eqb ((2 * m) % 2) 0 (omega arith) in
      rw (e, h)

  pub decimated_odd : odd_out F b m ≡ decimated F b (2 * m + 1)
  unfolding decimated
  decimated_odd =
      let h : (2 * m + 1) / 2 ≡ m = omega arith in
      let e : eqb ((2 * m + 1) % 2) 0 ≡ false = ne_eqb ((2 * m + 1) % 2) 0 (λ g. omega arith) in
      rw (e, h)

pub rounded_fits : (s : ℕ) (z : ℤ) → SFits w16 (rounded s z)
unfolding rounded
rounded_fits s z = sat_fits w16 (rshift_round z s)

pub decimated_fits : (F : FilterNumbers) (b : ℕ → ℤ) (j : ℕ) → SFits w16 (decimated F b j)
unfolding decimated even_out odd_out
decimated_fits F b j = by (eqb (j % 2) 0)
  where
    by : (t : Bool) → SFits w16 (cond t (even_out F b (j / 2)) (odd_out F b (j / 2)))
    by true = rounded_fits F.round_even _
    by false = rounded_fits F.round_odd _

module _ {b b' : ℕ → ℤ} where
  weighted_ext : (c d e f : ℤ) (p : ℕ) → ((i : ℕ) → i < p + 4 → b i ≡ b' i) → weighted c d e f b p ≡ weighted c d e f b' p
  unfolding weighted
  weighted_ext c d e f p h =
      let w = h p (omega arith) in
      let x = h (p + 1) (omega arith) in
      let y = h (p + 2) (omega arith) in
      let z = h (p + 3) (omega arith) in
      λ i. smlawb (smlawb (smlawb (smulwb (w i) c) (x i) d) (y i) e) (z i) f

  -- the outputs of m triples read 3 m + 2 values
  pub decimated_ext : (F : FilterNumbers) (m j : ℕ) → j < 2 * m → ((i : ℕ) → i < 3 * m + 2 → b i ≡ b' i) → decimated F b j ≡ decimated F b' j
  unfolding decimated even_out odd_out
  decimated_ext F m j l h =
      let p = ap (rounded F.round_even) (weighted_ext (pos 4697) (pos 10739) (pos 8276) (pos 1567) (3 * (j / 2)) (λ i g. h i (omega arith))) in
      let q = ap (rounded F.round_odd) (weighted_ext (pos 1567) (pos 8276) (pos 10739) (pos 4697) (3 * (j / 2) + 1) (λ i g. h i (omega arith))) in
      λ i. cond (eqb (j % 2) 0) (p i) (q i)

-- ---- the buffer

pub history_at : (h y : ℕ → ℤ) (k : ℕ) → k < 4 → after_history h y k ≡ h k
unfolding after_history
history_at h y k l = rw (lt-ltb k 4 l)

pub output_at : (h y : ℕ → ℤ) (k : ℕ) → 4 ≤ k → after_history h y k ≡ y (k - 4)
unfolding after_history
output_at h y k l = rw (le-ltb k 4 l)

-- the buffer after a batch's recursion: l with the four held values, then the m outputs p in the part that the recursion was lent
pub batch_at : (h y : ℕ → ℤ) (m : ℕ) (z : List ℤ) {l p : List ℤ} → 4 + m ≤ length z → l ≡ filled h 4 z → p ≡ filled y m (take (4 + m - 4) (drop 4 l))
    → (k : ℕ) → k < 4 + m → sample (take 4 l ++ (p ++ drop (4 + m - 4) (drop 4 l))) k ≡ after_history h y k
unfolding sample
batch_at h y m z {l} {p} r el ep k g = by (dec_lt k 4)
  where
    long : length l ≡ length z
    long = ap length el ∙ length_filled h 4 z (omega arith)

    mid : List ℤ
    mid = take (4 + m - 4) (drop 4 l)

    rest : List ℤ
    rest = drop (4 + m - 4) (drop 4 l)

    room : length mid ≡ m
    room = length-take-le (4 + m - 4) (drop 4 l) (omega (arith, length-drop 4 l, long)) ∙ omega arith

    by : Dec (k < 4) → sample (take 4 l ++ (p ++ rest)) k ≡ after_history h y k
    by (yes i) =
        get_or-append (take 4 l) (p ++ rest) (pos 0) k (omega (arith, length-take-le 4 l (omega (arith, long))))
        ∙ get_or-take 4 l k (pos 0) i
        ∙ ap (λ (t : List ℤ). get_or t k (pos 0)) el
        ∙ get_or-filled h 4 z k (pos 0) i
        ∙ sym (history_at h y k i)
    by (no i) =
        let e : k ≡ length (take 4 l) + (k - 4) = omega (arith, length-take-le 4 l (omega (arith, long))) in
        ap (λ (j : ℕ). get_or (take 4 l ++ (p ++ rest)) j (pos 0)) e
        ∙ get_or-append-add (take 4 l) (p ++ rest) (k - 4) (pos 0)
        ∙ get_or-append p rest (pos 0) (k - 4) (omega (arith, ap length ep, length_filled y m mid (omega (arith, room)), room))
        ∙ ap (λ (t : List ℤ). get_or t (k - 4) (pos 0)) ep
        ∙ get_or-filled y m mid (k - 4) (pos 0) (omega arith)
        ∙ sym (output_at h y k (omega arith))

-- the recursion's states, in the part of two places that it was lent
pub states_part : (l : List ℤ) → states_of (take 2 l) ≡ states_of l
unfolding states_of sample
states_part l = λ i. record { first = get_or-take 2 l 0 (pos 0) (lit< tt) i; second = get_or-take 2 l 1 (pos 0) (lit< tt) i }

with_part : (s : States) (l : List ℤ) → with_states s (take 2 l) ++ drop 2 l ≡ with_states s l
unfolding with_states
with_part s l = ap (λ (t : List ℤ). s.first ∷ s.second ∷ (t ++ drop 2 l)) (none l)
  where
    none : (t : List ℤ) → drop 2 (take 2 t) ≡ []
    none [] = refl
    none (a ∷ []) = refl
    none (a ∷ b ∷ t) = refl

module _ (F : FilterNumbers) (s : List ℤ) (x : ℕ → ℤ) (m : ℕ) (b : List ℤ) (h : (k : ℕ) → k < 4 + m → sample b k ≡ buffer F s x k) where
  -- the outputs of a batch whose buffer is b
  pub batch_out : (out : List ℤ) → filled (decimated F (sample b)) (2 * (m / 3)) out ≡ filled (decimated F (buffer F s x)) (2 * (m / 3)) out
  batch_out out = filled_ext (2 * (m / 3)) out (λ j l. decimated_ext F (m / 3) j l (λ i g. h i (omega arith)))

  -- its states: four values of b from m on, and the recursion's, which it left in the part w
  pub batch_left : (z : States) {w : List ℤ} → w ≡ with_states z (take 2 (drop 4 s)) → 4 ≤ length s
      → filled (sample (drop m b)) 4 (take 4 s ++ (w ++ drop 2 (drop 4 s))) ≡ tabulate (λ i. buffer F s x (m + i)) 4 ++ with_states z (drop 4 s)
  unfolding filled sample
  batch_left z {w} e g =
      ap₂ (λ (t u : List ℤ). t ++ u)
      (tabulate_ext 4 (λ i l. get_or-drop m b i (pos 0) ∙ h (m + i) (omega arith)))
      (drop_at (take 4 s) (w ++ drop 2 (drop 4 s)) 4 (length-take-le 4 s g) ∙ ap (λ (t : List ℤ). t ++ drop 2 (drop 4 s)) e ∙ with_part z (drop 4 s))

  -- the same of any part of b from m on that has these four
  pub batch_states : (j : ℕ) (z : States) {w : List ℤ} → w ≡ with_states z (take 2 (drop 4 s)) → 4 ≤ j → 4 ≤ length s
      → filled (sample (take j (drop m b))) 4 (take 4 s ++ (w ++ drop 2 (drop 4 s))) ≡ tabulate (λ i. buffer F s x (m + i)) 4 ++ with_states z (drop 4 s)
  unfolding sample
  batch_states j z {w} e f g = filled_ext 4 (take 4 s ++ (w ++ drop 2 (drop 4 s))) (λ i l. get_or-take j (drop m b) i (pos 0) (omega arith)) ∙ batch_left z e g

-- ---- a frame

pub down2_3-length : (F : FilterNumbers) (xs : List ℤ) → length (down2_3 F xs) ≡ 2 * (length xs / 3)
unfolding down2_3
down2_3-length F xs = length_tabulate (decimated F (buffer F (replicate 6 (pos 0)) (sample xs))) (2 * (length xs / 3))

pub down2_3_fits : (F : FilterNumbers) (xs : List ℤ) (k : ℕ) → SFits w16 (sample (down2_3 F xs) k)
unfolding down2_3
down2_3_fits F xs k =
    let b = buffer F (replicate 6 (pos 0)) (sample xs) in
    table_fits w16 (decimated F b) (2 * (length xs / 3)) (decimated_fits F b) (record { sfits = omega arith }) k

-- what a call for m samples leaves in a slice of just the outputs' number, and in the first places of a longer one
module _ (F : FilterNumbers) (xs out : List ℤ) (m : ℕ) (e : m ≡ length xs) where
  pub down2_3_whole : length out ≡ 2 * (m / 3) → filled (decimated F (buffer F (replicate 6 (pos 0)) (sample xs))) (2 * (m / 3)) out ≡ down2_3 F xs
  unfolding down2_3
  down2_3_whole l =
      let f = decimated F (buffer F (replicate 6 (pos 0)) (sample xs)) in
      filled_all f (2 * (m / 3)) out (omega arith) ∙ ap (λ (k : ℕ). tabulate f (2 * (k / 3))) e

  pub down2_3_front : take (2 * (m / 3)) (filled (decimated F (buffer F (replicate 6 (pos 0)) (sample xs))) (2 * (m / 3)) out) ≡ down2_3 F xs
  unfolding down2_3
  down2_3_front =
      let f = decimated F (buffer F (replicate 6 (pos 0)) (sample xs)) in
      take_filled f (2 * (m / 3)) out ∙ ap (λ (k : ℕ). tabulate f (2 * (k / 3))) e
