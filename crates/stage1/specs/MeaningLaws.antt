-- Stage 1's answer has the meaning in words (`stage1_means`), and no other answer has it (`stage1_only`); each verdict comes exactly where the words say (`zero_where`,
-- `unvoiced_where`, `goes_where`, `zero_only`, `unvoiced_only`).
use Rattle.std.specs.Prelude.{◌≡◌, Bool, List, ℕ, zero, suc, ◌+◌, ◌-◌, ◌/◌, ◌≤◌, ◌<◌, ℤ, pos, get_or, replicate, ◌≤ℤ◌, ◌<ℤ◌, refl, true, false, cond}
use Rattle.std.proofs.Common.{ap₂, ◌∙◌, subst₂, inl, inr, ext_get_or, sym, ap, subst, arith}
use Rattle.std.proofs.lemmas.Bool.{false≢true}
use Rattle.std.proofs.Math.Decide.{dec_lt}
use Rattle.std.specs.Int.Signed.{lt_z, le_z, clash_ℤ}
use Rattle.zint.specs.EqualLaws.{eq_z_yes, eq_z_true}
use Rattle.zint.specs.OrderLaws.{≤ℤ_antisym, ≤ℤ_trans, ≤ℤ-<ℤ_trans, lt_yes, lt_no}
use Rattle.zint.specs.TestLaws.{lt_true, lt_false, le_true, le_false}
use Rattle.lists.specs.Signal.{sample}
use Rattle.lists.specs.Fill.{filled}
use Rattle.lists.specs.FillLaws.{get_or-filled, get_d_after, length_filled}
use Rattle.best.specs.BestLaws.{some_true, some_find}
use Rattle.silk_macros.specs.Divide.{by_zero}
use Rattle.silk_macros.specs.DivideLaws.{by_zero_is}
use Rattle.silk_sort.specs.Rank.{ranked}
use Rattle.silk_sort.specs.RankLaws.{ranked_greatest, precedes_rank, rank_precedes}
use Rattle.silk_sort.specs.PlaceLaws.{Before, precedes_yes, precedes_true}
use Rattle.stage1.specs.Stage1.{Screen, ZeroDivisor, Unvoiced, Goes, Stage1, cross1, divisor1, quotient1, zero1, score1, scores1, lag_at, score_at, search_length, threshold1, kept_count, stopped, screened, stage1, Handed1}
use Rattle.stage1.specs.Steps.{zero_in}
use Rattle.stage1.specs.ScoreLaws.{zero1_halves}
use Rattle.stage1.specs.KeptLaws.{First, search_length_few}
use Rattle.stage1.specs.PlaceLaws.{below, lag_score, lag_is, at_score, place_at, lag_of, one_place, falls, scan}
use Rattle.stage1.specs.Meaning.{Lag, ZeroReached1, RanksBefore, place1, Top, LagGoesOn, KeptLags, Said, Meaning1}

-- ---- the ranking in words

module _ (f : List ℤ) (nb : ℕ) where
  abbrev xs : List ℤ
  xs = scores1 f nb

  -- the places are the ranking's
  pub before_place : (e d : ℕ) → Lag e → Lag d → RanksBefore f nb e d → place1 f nb e < place1 f nb d
  before_place e d l m b = precedes_rank xs (e - 8) (d - 8) (below f nb (omega (arith, l.at_most))) (precedes_yes xs (e - 8) (d - 8) (by b))
    where
      by : RanksBefore f nb e d → Before xs (e - 8) (d - 8)
      by (inl h) = inl (subst₂ ◌<ℤ◌ (sym (lag_score f nb d m)) (sym (lag_score f nb e l)) h)
      by (inr (q, h)) = inr (lag_score f nb e l ∙ q ∙ sym (lag_score f nb d m), omega (arith, l.at_least))

  pub place_before : (e d : ℕ) → Lag e → Lag d → place1 f nb e < place1 f nb d → RanksBefore f nb e d
  place_before e d l m h = by (precedes_true xs (e - 8) (d - 8) (rank_precedes xs (e - 8) (d - 8) (below f nb (omega (arith, l.at_most))) (below f nb (omega (arith, m.at_most))) h))
    where
      by : Before xs (e - 8) (d - 8) → RanksBefore f nb e d
      by (inl k) = inl (subst₂ ◌<ℤ◌ (lag_score f nb d m) (lag_score f nb e l) k)
      by (inr (q, k)) = inr (sym (lag_score f nb e l) ∙ q ∙ lag_score f nb d m, omega (arith, m.at_least))

  -- the greatest score is that of the ranking's first
  top_is : Top f nb (score_at xs 0)
  unfolding score_at
  top_is =
      let z : 0 < 65 = omega arith in
      record {
        of = (lag_at xs 0, (lag_is f nb 0 z, sym (at_score f nb 0 z)));
        highest = λ d l. subst (λ (t : ℤ). t ≤ℤ sample xs (ranked xs 0)) (lag_score f nb d l) (ranked_greatest xs (d - 8) (below f nb (omega (arith, l.at_most))));
      }

  one_top : (t u : ℤ) → Top f nb t → Top f nb u → t ≡ u
  one_top t u a b =
      ≤ℤ_antisym
      (subst (λ (z : ℤ). z ≤ℤ u) a.of.1.1 (b.highest a.of.0 a.of.1.0))
      (subst (λ (z : ℤ). z ≤ℤ t) b.of.1.1 (a.highest b.of.0 b.of.1.0))

-- ---- zero divisors

module _ (f : List ℤ) (nb : ℕ) where
  zero_words : zero1 f nb ≡ true → (h : ℕ) × (d : ℕ) × ZeroReached1 f nb h d
  unfolding zero_in quotient1
  zero_words e =
      let p = some_find (nb / 2) (zero_in f) (sym (zero1_halves f nb) ∙ e) in
      let q = some_find 65 (λ i. by_zero (quotient1 f p.0 (8 + i))) p.2 in
      let l = q.1 in (
        p.0,
        8 + q.0,
        record {
          half = p.1;
          lag = record { at_least = omega arith; at_most = omega arith };
          no_divisor = eq_z_true _ _ (sym (by_zero_is (cross1 f p.0 (8 + q.0)) (divisor1 f p.0 (8 + q.0)) (pos 14)) ∙ q.2);
        },
      )

  zero_of : (h d : ℕ) → ZeroReached1 f nb h d → zero1 f nb ≡ true
  unfolding zero_in quotient1
  zero_of h d z =
      let e : 8 + (d - 8) ≡ d = omega (arith, z.lag.at_least) in
      zero1_halves f nb
      ∙ some_true (nb / 2) (zero_in f) h z.half
      (some_true 65 (λ i. by_zero (quotient1 f h (8 + i))) (d - 8) (omega (arith, z.lag.at_most))
      (ap (λ (m : ℕ). by_zero (quotient1 f h m)) e ∙ by_zero_is (cross1 f h d) (divisor1 f h d) (pos 14) ∙ eq_z_yes z.no_divisor))

  no_zero : zero1 f nb ≡ false → (h d : ℕ) → ZeroReached1 f nb h d → ⊥
  no_zero e h d z = false≢true (sym e ∙ zero_of h d z)

-- ---- the lags that go on

zero_there : (n p : ℕ) → ◌≡◌ {A = ℕ} (get_or (replicate n 0) p 0) 0
zero_there zero p = refl
zero_there (suc n) zero = refl
zero_there (suc n) (suc p) = zero_there n p

module _ (f : List ℤ) (nb cx : ℕ) (thres1 : ℤ) (small : cx < 3) where
  abbrev ys : List ℤ
  ys = scores1 f nb

  abbrev n : ℕ
  n = kept_count ys cx thres1

  abbrev scanned : First 0 (search_length cx) (λ r. le_z (score_at ys r) (threshold1 ys thres1)) n
  scanned = scan f nb cx thres1

  goes_on : (p : ℕ) → p < n → LagGoesOn f nb cx thres1 (score_at ys 0) (lag_at ys p)
  unfolding search_length threshold1
  goes_on p l =
      let h : p < 65 = omega (arith, scanned.within) in
      record {
        lag = lag_is f nb p h;
        among = omega (arith, place_at f nb p h, scanned.within);
        above = subst (λ (z : ℤ). threshold1 ys thres1 <ℤ z) (at_score f nb p h) (le_false (score_at ys p) (threshold1 ys thres1) (scanned.none_before p (omega arith) l));
      }

  -- one that the scan does not come to is not above the threshold
  found : (d : ℕ) → LagGoesOn f nb cx thres1 (score_at ys 0) d → Dec (place1 f nb d < n) → place1 f nb d < n
  unfolding search_length threshold1
  found d g (yes l) = l
  found d g (no l) =
      let r = place1 f nb d in
      let h : r < 65 = omega (arith, g.among) in
      let low = le_true (score_at ys n) (threshold1 ys thres1) (scanned.passes (omega (arith, g.among))) in
      let e = at_score f nb r h ∙ ap (score1 f nb) (lag_of f nb d g.lag) in
      clash_ℤ g.above (subst (λ (z : ℤ). z ≤ℤ threshold1 ys thres1) e (≤ℤ_trans (falls f nb n r (omega arith) h) low))

  listed : KeptLags f nb cx thres1 (score_at ys 0) (filled (lag_at ys) n (replicate 8 0)) n
  listed =
      record {
        size = length_filled (lag_at ys) n (replicate 8 0) (omega (arith, scanned.within, search_length_few small));
        each = λ p l. subst (λ (d : ℕ). LagGoesOn f nb cx thres1 (score_at ys 0) d × (place1 f nb d ≡ p)) (sym (get_or-filled (lag_at ys) n (replicate 8 0) p 0 l))
            (goes_on p l, place_at f nb p (omega (arith, scanned.within, search_length_few small)));
        all = λ d g. found d g (dec_lt (place1 f nb d) n);
        rest = λ p l. get_d_after (lag_at ys) n (replicate 8 0) p 0 l ∙ zero_there 8 p;
      }

  by_best : (t : Bool) → lt_z (score_at ys 0) (pos 3277) ≡ t → zero1 f nb ≡ false
      → Meaning1 f nb cx thres1 (cond t (stopped Unvoiced) (record { screen = Goes; lags = filled (lag_at ys) n (replicate 8 0); count = n }))
  unfolding stopped
  by_best true e z = (no_zero f nb z, (score_at ys 0, top_is f nb, lt_true (score_at ys 0) (pos 3277) e), refl, refl)
  by_best false e z = (no_zero f nb z, (score_at ys 0, top_is f nb, lt_false (score_at ys 0) (pos 3277) e, listed))

  by_divisor : (t : Bool) → zero1 f nb ≡ t → Meaning1 f nb cx thres1 (cond t (stopped ZeroDivisor) (screened ys cx thres1))
  unfolding stopped screened
  by_divisor true e = (zero_words f nb e, refl, refl)
  by_divisor false e = by_best (lt_z (score_at ys 0) (pos 3277)) refl e

pub stage1_means : (f : List ℤ) (nb cx : ℕ) (thres1 : ℤ) → Handed1 f nb cx → Meaning1 f nb cx thres1 (stage1 f nb cx thres1)
unfolding stage1
stage1_means f nb cx thres1 r = by_divisor f nb cx thres1 r.complexity (zero1 f nb) refl

-- ---- each verdict exactly where

module _ (f : List ℤ) (nb cx : ℕ) (thres1 : ℤ) where
  abbrev zs : List ℤ
  zs = scores1 f nb

  abbrev verdict : Bool → Bool → Screen
  verdict t u = cond t ZeroDivisor (cond u Unvoiced Goes)

  screen_is : (t u : Bool) → zero1 f nb ≡ t → lt_z (score_at zs 0) (pos 3277) ≡ u → (stage1 f nb cx thres1).screen ≡ verdict t u
  unfolding stage1 screened stopped
  screen_is true u e g = ap (λ (b : Bool). (cond b (stopped ZeroDivisor) (screened zs cx thres1)).screen) e
  screen_is false u e g =
      ap (λ (b : Bool). (cond b (stopped ZeroDivisor) (screened zs cx thres1)).screen) e
      ∙ ap (λ (b : Bool). (cond b (stopped Unvoiced) (record { screen = Goes; lags = filled (lag_at zs) (kept_count zs cx thres1) (replicate 8 0); count = kept_count zs cx thres1 })).screen) g
      ∙ either u
    where
      either : (b : Bool) → (cond b (stopped Unvoiced) (record { screen = Goes; lags = filled (lag_at zs) (kept_count zs cx thres1) (replicate 8 0); count = kept_count zs cx thres1 })).screen ≡ cond b Unvoiced Goes
      either true = refl
      either false = refl

  none_zero : ((h d : ℕ) → ZeroReached1 f nb h d → ⊥) → zero1 f nb ≡ false
  none_zero n = by (zero1 f nb) refl
    where
      by : (t : Bool) → zero1 f nb ≡ t → t ≡ false
      by true e = let z = zero_words f nb e in absurd (n z.0 z.1 z.2)
      by false e = refl

  -- a zero divisor where some half-frame and lag have one
  pub zero_where : (h d : ℕ) → ZeroReached1 f nb h d → (stage1 f nb cx thres1).screen ≡ ZeroDivisor
  zero_where h d z = screen_is true (lt_z (score_at zs 0) (pos 3277)) (zero_of f nb h d z) refl

  -- unvoiced where none has and every score is under 3277
  pub unvoiced_where : ((h d : ℕ) → ZeroReached1 f nb h d → ⊥) → ((d : ℕ) → Lag d → score1 f nb d <ℤ pos 3277) → (stage1 f nb cx thres1).screen ≡ Unvoiced
  unvoiced_where n low =
      let t = (top_is f nb).of in
      screen_is false true (none_zero n) (lt_yes (subst (λ (z : ℤ). z <ℤ pos 3277) t.1.1 (low t.0 t.1.0)))

  -- it goes on where none has and some score is at least 3277
  pub goes_where : ((h d : ℕ) → ZeroReached1 f nb h d → ⊥) → (d : ℕ) → Lag d → pos 3277 ≤ℤ score1 f nb d → (stage1 f nb cx thres1).screen ≡ Goes
  goes_where n d l high = screen_is false false (none_zero n) (lt_no (≤ℤ_trans high ((top_is f nb).highest d l)))

  -- and only there
  module _ (r : Handed1 f nb cx) where
    said : {s : Screen} → (stage1 f nb cx thres1).screen ≡ s → Said f nb cx thres1 s (stage1 f nb cx thres1).lags (stage1 f nb cx thres1).count
    said e = subst (λ (s : Screen). Said f nb cx thres1 s (stage1 f nb cx thres1).lags (stage1 f nb cx thres1).count) e (stage1_means f nb cx thres1 r)

    pub zero_only : (stage1 f nb cx thres1).screen ≡ ZeroDivisor → (h : ℕ) × (d : ℕ) × ZeroReached1 f nb h d
    zero_only e = (said e).0

    pub unvoiced_only : (stage1 f nb cx thres1).screen ≡ Unvoiced → ((h d : ℕ) → ZeroReached1 f nb h d → ⊥) × ((d : ℕ) → Lag d → score1 f nb d <ℤ pos 3277)
    unvoiced_only e = let m = said e in (m.0, λ d l. ≤ℤ-<ℤ_trans (m.1.1.highest d l) m.1.2)

-- ---- no other answer has that meaning

module _ (f : List ℤ) (nb cx : ℕ) (thres1 : ℤ) where
  -- lists of the same lags
  module _ (t : ℤ) (l m : List ℕ) (i j : ℕ) (a : KeptLags f nb cx thres1 t l i) (b : KeptLags f nb cx thres1 t m j) where
    as_many : i ≤ j
    as_many = by (dec_lt j i)
      where
        by : Dec (j < i) → i ≤ j
        by (yes h) = let x = a.each j h in absurd (omega (arith, b.all (get_or l j 0) x.0, x.1))
        by (no h) = omega arith

    same_at : (p : ℕ) → p < i → p < j → get_or l p 0 ≡ get_or m p 0
    same_at p h k =
        let x = a.each p h in
        let y = b.each p k in
        one_place f nb (get_or l p 0) (get_or m p 0) x.0.lag y.0.lag (x.1 ∙ sym y.1)

  same_list : (t : ℤ) (l m : List ℕ) (i j : ℕ) → KeptLags f nb cx thres1 t l i → KeptLags f nb cx thres1 t m j → (l ≡ m) × (i ≡ j)
  same_list t l m i j a b =
      let h = as_many t l m i j a b in
      let k = as_many t m l j i b a in
      (ext_get_or 0 l m (a.size ∙ sym b.size) (λ p q. by p (dec_lt p i)), omega arith)
    where
      by : (p : ℕ) → Dec (p < i) → get_or l p 0 ≡ get_or m p 0
      by p (yes u) = same_at t l m i j a b p u (omega (arith, as_many t l m i j a b))
      by p (no u) = a.rest p (omega arith) ∙ sym (b.rest p (omega (arith, as_many t m l j i b a)))

  abbrev answer : Screen → List ℕ → ℕ → Stage1
  answer s l k = record { screen = s; lags = l; count = k }

  one_meaning : (s s' : Screen) (l m : List ℕ) (i j : ℕ) → Said f nb cx thres1 s l i → Said f nb cx thres1 s' m j → answer s l i ≡ answer s' m j
  one_meaning ZeroDivisor ZeroDivisor l m i j (z, e, k) (z', e', k') = ap₂ (answer ZeroDivisor) (e ∙ sym e') (k ∙ sym k')
  one_meaning ZeroDivisor Unvoiced l m i j ((h, d, z), e, k) (n, x, e', k') = absurd (n h d z)
  one_meaning ZeroDivisor Goes l m i j ((h, d, z), e, k) (n, x) = absurd (n h d z)
  one_meaning Unvoiced ZeroDivisor l m i j (n, x, e', k') ((h, d, z), e, k) = absurd (n h d z)
  one_meaning Unvoiced Unvoiced l m i j (n, t, e, k) (n', t', e', k') = ap₂ (answer Unvoiced) (e ∙ sym e') (k ∙ sym k')
  one_meaning Unvoiced Goes l m i j (n, (t, a, b), e, k) (n', (u, a', b', x)) = clash_ℤ (subst (λ (z : ℤ). z <ℤ pos 3277) (one_top f nb t u a a') b) b'
  one_meaning Goes ZeroDivisor l m i j (n, x) ((h, d, z), e, k) = absurd (n h d z)
  one_meaning Goes Unvoiced l m i j (n, (u, a', b', x)) (n', (t, a, b), e, k) = clash_ℤ (subst (λ (z : ℤ). z <ℤ pos 3277) (one_top f nb t u a a') b) b'
  one_meaning Goes Goes l m i j (n, (t, a, b, x)) (n', (u, a', b', y)) =
      let s = same_list t l m i j x (subst (λ (z : ℤ). KeptLags f nb cx thres1 z m j) (one_top f nb u t a' a) y) in
      ap₂ (answer Goes) s.0 s.1

  pub stage1_only : Handed1 f nb cx → (x : Stage1) → Meaning1 f nb cx thres1 x → x ≡ stage1 f nb cx thres1
  stage1_only r x m =
      let y = stage1 f nb cx thres1 in
      one_meaning x.screen y.screen x.lags y.lags x.count y.count m (stage1_means f nb cx thres1 r)
