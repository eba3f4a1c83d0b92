-- Laws of the search from the front: what one pair more makes of what is known after n pairs, and that the search over the arrays is stage 3's pick.
use Rattle.std.specs.Prelude.{Option, Some, None, ◌≡◌, Bool, true, false, List, ℕ, ◌+◌, ◌-◌, ◌*◌, ◌/◌, ◌<◌, ◌≤◌, ℤ, pos, ◌≤ℤ◌, ◌<ℤ◌, refl, ◌&&◌, cond}
use Rattle.std.proofs.Common.{◌∙◌, mul-le-mul_right, div-lt_iff_lt-mul, below_more, SFits, sym, ap, ap₂, subst, mod-lt, arith}
use Rattle.std.proofs.Math.Arith.{digits_div, digits_mod}
use Rattle.std.specs.Int.Signed.{lt_z}
use Rattle.std.specs.Int.{w32}
use Rattle.zint.specs.Minus.{minus}
use Rattle.silk_tables.specs.Tables.{in_use}
use Rattle.silk_tables.proofs.TableLaws.{in_use_bounds}
use Rattle.stage3_arrays.specs.Arrays.{frame_array, cross_at, energy_at}
use Rattle.stage3_arrays.specs.ArrayLaws.{frame_array_at}
use Rattle.zint.specs.TestLaws.{lt_true, lt_false}
use Rattle.zint.specs.Equal.{eq_z}
use Rattle.silk_macros.specs.Divide.{div32_varq, quotient, by_zero}
use Rattle.silk_macros.specs.DivideLaws.{div32_varq_fits}
use Rattle.best.specs.Best.{Place, none, at, best}
use Rattle.best.specs.BestLaws.{some_true, some_false, some_ext}
use Rattle.best.proofs.BestOfLaws.{search_start, search_skip, search_better, search_kept, search_best, best_ext}
use Rattle.best.proofs.BestOfLaws as laws
use Rattle.stage3.specs.Pick.{Pair, ZeroDivisor, Found, Choice, first_tried, last_tried, tried, quotient_of, bias_of, biased, score_of, used_in, zero_reached3, reached, candidate, score, zero_no, candidate_no, score_no, lag_no, contour_no, pair_count, pair_at, zero3, best3, pick}
use Rattle.stage3.specs.declared.BestSoFar.{BestSoFar}
use Rattle.stage3.specs.declared.pair_search.PairSearch.{PairSearch}
use Rattle.stage3.specs.Stage3.{energy_target, cross3, energy3, stage3, Handed}
use Rattle.stage3.specs.Search.{at3, summed, array_choice, with_quotient, with_pair, BestOfFirst, AfterFirst}
use Rattle.stage3.specs.PickLaws.{score_above, sat_sum_ext, few_lags}

-- ---- one pair more

module _ (b : BestSoFar) (x e bias : ℤ) (d j : ℕ) (reach : Bool) where
  pub passed : lt_z (pos 0) x ≡ false → with_pair b x e bias d j reach ≡ Some b
  unfolding with_pair
  passed h = ap (λ (t : Bool). cond t (with_quotient b bias d j reach (quotient_of x e)) (Some b)) h

  pub stopped : lt_z (pos 0) x ≡ true → quotient_of x e ≡ None → with_pair b x e bias d j reach ≡ None
  unfolding with_pair
  stopped h k = ap₂ (λ (t : Bool) (q : Option ℤ). cond t (with_quotient b bias d j reach q) (Some b)) h k

  module _ (q : ℤ) (h : lt_z (pos 0) x ≡ true) (k : quotient_of x e ≡ Some q) where
    divided : with_pair b x e bias d j reach ≡ with_quotient b bias d j reach (Some q)
    unfolding with_pair
    divided = ap₂ (λ (t : Bool) (q : Option ℤ). cond t (with_quotient b bias d j reach q) (Some b)) h k

    pub better : reach ≡ true → lt_z b.top (biased q bias j) ≡ true → with_pair b x e bias d j reach ≡ Some (record { top = biased q bias j; lag = d; contour = j })
    better r l =
        divided ∙ ap₂ (λ (t u : Bool). cond (t && u) (Some (record { top = biased q bias j; lag = d; contour = j })) (Some b)) r l

    pub lower : lt_z b.top (biased q bias j) ≡ false → with_pair b x e bias d j reach ≡ Some b
    lower l =
        divided ∙ ap (λ (u : Bool). cond (reach && u) (Some (record { top = biased q bias j; lag = d; contour = j })) (Some b)) l ∙ no_less reach
      where
        no_less : (t : Bool) → cond (t && false) (Some (record { top = biased q bias j; lag = d; contour = j })) (Some b) ≡ Some b
        no_less true = refl
        no_less false = refl

    pub beyond : reach ≡ false → with_pair b x e bias d j reach ≡ Some b
    beyond r =
        divided ∙ ap (λ (t : Bool). cond (t && lt_z b.top (biased q bias j)) (Some (record { top = biased q bias j; lag = d; contour = j })) (Some b)) r

-- ---- after n pairs

module _ (c : Choice) where
  -- before the first pair
  pub searched_start : (b : BestSoFar) → b.top ≡ minus 2147483648 → b.lag ≡ c.lag → b.contour ≡ 0 → BestOfFirst c 0 b
  searched_start b e f g =
      record {
        place = none;
        state = subst (λ (t : ℤ). laws.Search (minus 2147483648) (candidate_no c) (score_no c) 0 t none) (sym e) search_start;
        pair = sym (ap₂ Pair f g);
        no_zero = λ q l. absurd (omega arith);
      }

  -- one pair more
  module _ (n : ℕ) (b : BestSoFar) (s : BestOfFirst c n b) where
    abbrev d : ℕ
    d = lag_no c n

    abbrev j : ℕ
    j = contour_no c n

    abbrev reach : Bool
    reach = reached c.fs c.nb d j

    abbrev next : Option BestSoFar
    next = with_pair b (c.cross d j) (c.energy d j) (bias_of c.lag) d j reach

    kept : candidate_no c n ≡ false → zero_no c n ≡ false → BestOfFirst c (n + 1) b
    kept e z =
        record {
          place = s.place;
          state = search_skip s.state e;
          pair = s.pair;
          no_zero = below_more (λ q. zero_no c q ≡ false) n s.no_zero z;
        }

    not_positive : lt_z (pos 0) (c.cross d j) ≡ false → AfterFirst c (n + 1) next
    unfolding candidate zero_reached3
    not_positive h =
        subst (AfterFirst c (n + 1)) (sym (passed b (c.cross d j) (c.energy d j) (bias_of c.lag) d j reach h))
        (kept (ap (λ (t : Bool). t && reach) h) (ap (λ (t : Bool). t && by_zero (quotient_of (c.cross d j) (c.energy d j))) h))

    zero_divisor : lt_z (pos 0) (c.cross d j) ≡ true → quotient_of (c.cross d j) (c.energy d j) ≡ None → AfterFirst c (n + 1) next
    unfolding zero_reached3
    zero_divisor h k =
        subst (AfterFirst c (n + 1)) (sym (stopped b (c.cross d j) (c.energy d j) (bias_of c.lag) d j reach h k))
        (n, omega arith, ap₂ (λ (t : Bool) (q : Option ℤ). t && by_zero q) h k)

    module _ (q : ℤ) (f : SFits w32 q) (h : lt_z (pos 0) (c.cross d j) ≡ true) (k : quotient_of (c.cross d j) (c.energy d j) ≡ Some q) where
      scored : score_no c n ≡ biased q (bias_of c.lag) j
      unfolding score
      scored = ap (score_of c.lag j) k

      no_zero_here : zero_no c n ≡ false
      unfolding zero_reached3
      no_zero_here = ap₂ (λ (t : Bool) (x : Option ℤ). t && by_zero x) h k

      is_cand : (t : Bool) → reach ≡ t → candidate_no c n ≡ t
      unfolding candidate
      is_cand t r = ap₂ ◌&&◌ h r

      out_of_reach : reach ≡ false → AfterFirst c (n + 1) next
      out_of_reach r =
          subst (AfterFirst c (n + 1)) (sym (beyond b (c.cross d j) (c.energy d j) (bias_of c.lag) d j reach q h k r)) (kept (is_cand false r) no_zero_here)

      higher : reach ≡ true → lt_z b.top (biased q (bias_of c.lag) j) ≡ true → AfterFirst c (n + 1) next
      higher r l =
          subst (AfterFirst c (n + 1)) (sym (better b (c.cross d j) (c.energy d j) (bias_of c.lag) d j reach q h k r l))
          (record {
            place = at n;
            state = subst (λ (t : ℤ). laws.Search (minus 2147483648) (candidate_no c) (score_no c) (n + 1) t (at n)) scored
                (search_better s.state (is_cand true r) (subst (λ (t : ℤ). b.top <ℤ t) (sym scored) (lt_true b.top (biased q (bias_of c.lag) j) l)));
            pair = refl;
            no_zero = below_more (λ q. zero_no c q ≡ false) n s.no_zero no_zero_here;
          })

      not_higher : lt_z b.top (biased q (bias_of c.lag) j) ≡ false → AfterFirst c (n + 1) next
      not_higher l =
          subst (AfterFirst c (n + 1)) (sym (lower b (c.cross d j) (c.energy d j) (bias_of c.lag) d j reach q h k l))
          (record {
            place = s.place;
            state = search_kept s.state (subst (λ (t : ℤ). minus 2147483648 <ℤ t) (sym scored) (score_above q (bias_of c.lag) j f))
                (subst (λ (t : ℤ). t ≤ℤ b.top) (sym scored) (lt_false b.top (biased q (bias_of c.lag) j) l));
            pair = s.pair;
            no_zero = below_more (λ q. zero_no c q ≡ false) n s.no_zero no_zero_here;
          })

      by_score : (t u : Bool) → reach ≡ t → lt_z b.top (biased q (bias_of c.lag) j) ≡ u → AfterFirst c (n + 1) next
      by_score false u r l = out_of_reach r
      by_score true true r l = higher r l
      by_score true false r l = not_higher l

    -- the quotient's value fits
    value_fits : (t : Bool) (q : ℤ) → cond t None (Some (div32_varq (c.cross d j) (c.energy d j) (pos 14))) ≡ Some q → SFits w32 q
    value_fits true q e = let z : ◌≡◌ {A = ℕ} 0 1 = cc in absurd (omega arith)
    value_fits false q e = let z : div32_varq (c.cross d j) (c.energy d j) (pos 14) ≡ q = cc in subst (SFits w32) z (div32_varq_fits (c.cross d j) (c.energy d j) (pos 14))

    by_quotient : (x : Option ℤ) → lt_z (pos 0) (c.cross d j) ≡ true → quotient_of (c.cross d j) (c.energy d j) ≡ x → AfterFirst c (n + 1) next
    unfolding quotient
    by_quotient None h k = zero_divisor h k
    by_quotient (Some q) h k = by_score q (value_fits (eq_z (c.energy d j) (pos 0)) q k) h k reach (lt_z b.top (biased q (bias_of c.lag) j)) refl refl

    by_sign : (t : Bool) → lt_z (pos 0) (c.cross d j) ≡ t → AfterFirst c (n + 1) next
    by_sign true h = by_quotient (quotient_of (c.cross d j) (c.energy d j)) h refl
    by_sign false h = not_positive h

    pub searched_next : AfterFirst c (n + 1) next
    searched_next = by_sign (lt_z (pos 0) (c.cross d j)) refl

  -- the pair of the lag d and the contour j has the number (d - first) * n + j, with n contours in use
  module _ (d j : ℕ) (l : first_tried c.fs c.lag ≤ d) (h : j < used_in c) where
    abbrev number : ℕ
    number = (d - first_tried c.fs c.lag) * used_in c + j

    pub number_lag : lag_no c number ≡ d
    unfolding lag_no
    number_lag = ap (λ (m : ℕ). first_tried c.fs c.lag + m) (digits_div (d - first_tried c.fs c.lag) h) ∙ omega arith

    pub number_contour : contour_no c number ≡ j
    unfolding contour_no
    number_contour = digits_mod (d - first_tried c.fs c.lag) h

    -- one pair more, as a turn of a loop over the contours has it
    pub searched_turn : (b : BestSoFar) → BestOfFirst c number b → (r : Option BestSoFar) → r ≡ with_pair b (c.cross d j) (c.energy d j) (bias_of c.lag) d j (reached c.fs c.nb d j)
        → AfterFirst c ((d - first_tried c.fs c.lag) * used_in c + (j + 1)) r
    searched_turn b s r e =
        let p = number_lag in
        let q = number_contour in
        let same : with_pair b (c.cross (lag_no c number) (contour_no c number)) (c.energy (lag_no c number) (contour_no c number)) (bias_of c.lag) (lag_no c number) (contour_no c number) (reached c.fs c.nb (lag_no c number) (contour_no c number)) ≡ r =
        ap₂ (λ (x y : ℕ). with_pair b (c.cross x y) (c.energy x y) (bias_of c.lag) x y (reached c.fs c.nb x y)) p q ∙ sym e in
        let m : number + 1 ≡ (d - first_tried c.fs c.lag) * used_in c + (j + 1) = omega arith in
        subst (λ (n : ℕ). AfterFirst c n r) m (subst (AfterFirst c (number + 1)) same (searched_next number b s))

  -- a zero divisor among the first n pairs is one among more
  pub stopped_more : (n m : ℕ) → n ≤ m → AfterFirst c n None → AfterFirst c m None
  stopped_more n m h (q, l, e) = (q, omega arith, e)

  -- after all pairs
  pub searched_pick : (b : BestSoFar) → BestOfFirst c (pair_count c) b → Pair b.lag b.contour ≡ pick c
  unfolding pick
  searched_pick b s =
      sym (ap₂ (λ (t : Bool) (a : Place). cond t ZeroDivisor (pair_at c a)) (some_false (pair_count c) (zero_no c) s.no_zero) (search_best s.state) ∙ s.pair)

  pub stopped_pick : (q : ℕ) → q < pair_count c → zero_no c q ≡ true → ZeroDivisor ≡ pick c
  unfolding pick
  stopped_pick q l e =
      sym (ap (λ (t : Bool). cond t ZeroDivisor (pair_at c (best (pair_count c) (candidate_no c) (score_no c)))) (some_true (pair_count c) (zero_no c) q l e))

-- ---- how many pairs, and which

pub pairs_is : (c : Choice) → pair_count c ≡ (last_tried c.fs c.lag + 1 - first_tried c.fs c.lag) * used_in c
unfolding pair_count tried
pairs_is c = refl

pub pairs_le : (c : Choice) (d : ℕ) → d ≤ last_tried c.fs c.lag → (d + 1 - first_tried c.fs c.lag) * used_in c ≤ pair_count c
unfolding pair_count tried
pairs_le c d h =
    let l : d + 1 - first_tried c.fs c.lag ≤ last_tried c.fs c.lag + 1 - first_tried c.fs c.lag = omega arith in
    mul-le-mul_right (used_in c) l

module _ (c : Choice) (u : 0 < used_in c) (p : ℕ) (h : p < pair_count c) where
  row : p / used_in c < tried c.fs c.lag
  unfolding pair_count
  row = (div-lt_iff_lt-mul {k = used_in c} {x = p} {y = tried c.fs c.lag} u).1 h

  pub lag_first : first_tried c.fs c.lag ≤ lag_no c p
  unfolding lag_no
  lag_first = omega arith

  pub lag_last : lag_no c p ≤ last_tried c.fs c.lag
  unfolding lag_no tried
  lag_last = omega (arith, row)

  pub contour_used : contour_no c p < used_in c
  unfolding contour_no
  contour_used = mod-lt p u

-- sums that agree on the pairs give the same pick
abbrev resummed : Choice → (ℕ → ℕ → ℤ) → (ℕ → ℕ → ℤ) → Choice
resummed c x e = record { fs = c.fs; nb = c.nb; cx = c.cx; lag = c.lag; cross = x; energy = e }

abbrev Agree : Choice → (ℕ → ℕ → ℤ) → (ℕ → ℕ → ℤ) → Type 0
Agree c f g = (d j : ℕ) → first_tried c.fs c.lag ≤ d → d ≤ last_tried c.fs c.lag → j < used_in c → f d j ≡ g d j

pub pick_ext : (c : Choice) (x e : ℕ → ℕ → ℤ) → 0 < used_in c → Agree c c.cross x → Agree c c.energy e → pick c ≡ pick (resummed c x e)
unfolding pick pair_count lag_no contour_no candidate score zero_reached3
pick_ext c x e u hx he =
    ap₂ (λ (t : Bool) (a : Place). cond t ZeroDivisor (pair_at c a))
    (some_ext (pair_count c) (zero_no c) (zero_no (resummed c x e)) (λ p l. ap₂ (λ (y z : ℤ). lt_z (pos 0) y && by_zero (quotient_of y z)) (at_pair hx p l) (at_pair he p l)))
    (best_ext (pair_count c) (candidate_no c) (candidate_no (resummed c x e)) (score_no c) (score_no (resummed c x e))
    (λ p l. ap (λ (y : ℤ). lt_z (pos 0) y && reached c.fs c.nb (lag_no c p) (contour_no c p)) (at_pair hx p l))
    (λ p l. ap₂ (λ (y z : ℤ). score_of c.lag (contour_no c p) (quotient_of y z)) (at_pair hx p l) (at_pair he p l)))
    ∙ ap (cond (zero3 (resummed c x e)) ZeroDivisor) (same_pair (best3 (resummed c x e)))
  where
    same_pair : (a : Place) → pair_at c a ≡ pair_at (resummed c x e) a
    same_pair none = refl
    same_pair (at p) = refl

    at_pair : {f g : ℕ → ℕ → ℤ} → Agree c f g → (p : ℕ) → p < pair_count c → f (lag_no c p) (contour_no c p) ≡ g (lag_no c p) (contour_no c p)
    at_pair h p l = h _ _ (lag_first c u p l) (lag_last c u p l) (contour_used c u p l)

-- over the arrays that stage 3 fills it is what stage 3 means
module _ (w : List ℤ) (by : PairSearch) (r : Handed w by.fs by.codebook.nb by.codebook.complexity by.lag) where
  abbrev first : ℕ
  first = first_tried by.fs by.lag

  -- a place of an array that holds f, counted from the first lag tried
  array_at : (f : ℕ → ℕ → ℕ → ℤ) (k d j : ℕ) → k < by.codebook.nb → d ≤ last_tried by.fs by.lag → j < in_use by.codebook.nb by.codebook.complexity
      → at3 (frame_array by.codebook.nb (in_use by.codebook.nb by.codebook.complexity) f) k j (d - first) ≡ f k j (d - first)
  array_at f k d j hk h hj = frame_array_at by.codebook.nb (in_use by.codebook.nb by.codebook.complexity) f k j (d - first) hk hj (few_lags by.fs by.lag d r.lag_low h)

  pub array_pick : {x : Found} {X E : List (List (List ℤ))} {e : ℤ} {n : ℕ} → x ≡ pick (array_choice X E e by) → n ≡ first
      → X ≡ frame_array by.codebook.nb (in_use by.codebook.nb by.codebook.complexity) (λ k j m. cross_at w by.fs by.codebook.nb k j (n + m))
      → E ≡ frame_array by.codebook.nb (in_use by.codebook.nb by.codebook.complexity) (energy_at w by.fs by.codebook.nb by.codebook.complexity n)
      → e ≡ energy_target w by.fs by.codebook.nb → x ≡ stage3 w by.fs by.codebook.nb by.codebook.complexity by.lag
  unfolding stage3 cross3 energy3 summed
  array_pick {x} {X} {E} {e} {n} p f q s t =
      let u = in_use_bounds r.settings in
      let c = in_use by.codebook.nb by.codebook.complexity in
      let q' = q ∙ ap (λ (i : ℕ). frame_array by.codebook.nb c (λ k j m. cross_at w by.fs by.codebook.nb k j (i + m))) f in
      let s' = s ∙ ap (λ (i : ℕ). frame_array by.codebook.nb c (energy_at w by.fs by.codebook.nb by.codebook.complexity i)) f in
      p ∙ (λ i. pick (array_choice (q' i) (s' i) (t i) by))
      ∙ pick_ext _ (cross3 w by.fs by.codebook.nb) (energy3 w by.fs by.codebook.nb by.codebook.complexity by.lag) (omega arith)
      (λ d j l h hj. sat_sum_ext (pos 0) _ _ by.codebook.nb (λ k hk.
      let g : first + (d - first) ≡ d = omega arith in
      array_at (λ k j m. cross_at w by.fs by.codebook.nb k j (first + m)) k d j hk h hj ∙ ap (cross_at w by.fs by.codebook.nb k j) g))
      (λ d j l h hj. sat_sum_ext (energy_target w by.fs by.codebook.nb) _ _ by.codebook.nb (λ k hk. array_at (energy_at w by.fs by.codebook.nb by.codebook.complexity first) k d j hk h hj))
