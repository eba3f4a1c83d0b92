-- Each verdict of a frame comes exactly where `Meaning` says (`verdict_exactly`): the verdict has its meaning (`verdict_means`), and no other verdict has its own (`one_meaning`).
use Rattle.std.specs.Prelude.{◌≡◌, Bool, cond, List, ℕ, ◌*◌, ◌/◌, ℤ, pos, length, ◌≤ℤ◌, refl, true, false, eqb}
use Rattle.std.proofs.Common.{sym, ◌∙◌, inr, arith, eq-eqb, ne_eqb, eqb-true, ap, subst, inl}
use Rattle.std.proofs.lemmas.Bool.{eqb-false}
use Rattle.std.specs.Int.Signed.{clash_ℤ}
use Rattle.pitch_settings.specs.declared.Settings.{Settings}
use Rattle.pitch_settings.specs.Settings.{settings_no, frame_length}
use Rattle.pitch_settings.specs.SettingsLaws.{accepted_settings}
use Rattle.frame_signals.specs.ScaleLaws.{length_scaled}
use Rattle.stage1.specs.Stage1.{stage1, Handed1, Screen, ZeroDivisor as Zeroed, Unvoiced as Low, Goes}
use Rattle.stage1.specs.Meaning.{Said}
use Rattle.stage1.specs.MeaningLaws.{zero_where, zero_only, unvoiced_only, unvoiced_where, goes_where, stage1_means}
use Rattle.stage2.specs.Stage2.{stage2, Stage2, ZeroDivisor as ZeroIn2, Unvoiced as NoWinner, Winner}
use Rattle.stage2.specs.Meaning.{Meaning2}
use Rattle.stage2.specs.MeaningLaws.{stage2_means, stage2_only}
use Rattle.stage3.specs.Stage3.{stage3}
use Rattle.stage3.specs.Meaning.{Meaning as Meaning3}
use Rattle.stage3.specs.MeaningLaws.{stage3_means, stage3_only}
use Rattle.stage3.specs.Pick.{Found, Pair, ZeroDivisor as ZeroIn3}
use Rattle.silk_pitch_analysis.specs.declared.Verdict.{Verdict}
use Rattle.silk_pitch_analysis.specs.declared.Verdict.TheVariants.{Voiced, Unvoiced, ZeroDivisor}
use Rattle.silk_pitch_analysis.specs.Frame.{scaled_lag, from_pair, last_stage, from_winner, second_stage, from_screen, staged, verdict_of}
use Rattle.silk_pitch_analysis.specs.Steps.{WinnerRange}
use Rattle.silk_pitch_analysis.specs.FrameLaws.{handed, four_length}
use Rattle.silk_pitch_analysis.specs.Meaning.{w, e, f, lags, Zero1, Zero2, Zero3, GoesOn, Won, Last, UnvoicedWhen, ZeroWhen, stage1_zero, stage2_zero, stage3_zero, VoicedWhen, Means, VerdictExactly}

module _ (s : Settings) (x : List ℤ) (prev corr : ℤ) (h : settings_no s ≡ 0) (len : length x ≡ frame_length s) where
  abbrev W : List ℤ
  W = w s x prev corr

  whole : length W ≡ frame_length s
  whole = length_scaled x ∙ len

  handed1 : Handed1 (f s x prev corr) s.nb s.complexity
  handed1 =
      let a = accepted_settings s h in
      record { subframes = a.subframes; complexity = omega (arith, a.complexity); long = omega (arith, four_length s W h whole) }

  -- stage 2's answer
  abbrev second : Stage2
  second = stage2 (e s x prev corr) (lags s x prev corr) s.rate s.nb s.complexity s.thres2 prev corr

  second_means : (a : Stage2) → second ≡ a → Meaning2 (e s x prev corr) (lags s x prev corr) s.rate s.nb s.complexity s.thres2 prev corr a
  second_means a q =
      subst (Meaning2 (e s x prev corr) (lags s x prev corr) s.rate s.nb s.complexity s.thres2 prev corr) q
      (stage2_means (e s x prev corr) (lags s x prev corr) s.rate s.nb s.complexity s.thres2 prev corr)

  -- what is known where stage 1 goes on
  pub record Entered : Type 0 where
    pub no_zero1 : Zero1 s x prev corr → ⊥
    pub goes : GoesOn s x prev corr

  entered : (stage1 (f s x prev corr) s.nb s.complexity s.thres1).screen ≡ Goes → Entered
  entered q =
      let m = subst (λ (c : Screen). Said (f s x prev corr) s.nb s.complexity s.thres1 c (stage1 (f s x prev corr) s.nb s.complexity s.thres1).lags (stage1 (f s x prev corr) s.nb s.complexity s.thres1).count) q
      (stage1_means (f s x prev corr) s.nb s.complexity s.thres1 handed1) in
      let t = m.1.1.of in
      record {
        no_zero1 = λ z. m.0 z.0 z.1 z.2;
        goes = (t.0, (t.1.0, subst (λ (y : ℤ). pos 3277 ≤ℤ y) (sym t.1.1) m.1.2));
      }

  -- a winner is what the last stage may be handed
  range : {lag contour : ℕ} {r : ℤ} → Won s x prev corr lag contour r → WinnerRange s lag contour
  range won = record { low = won.passes_so.lists.at_least; high = won.passes_so.lists.at_most; tried = won.contour.tried }

  -- ---- the last stage

  module _ (go : Entered) (none : Zero2 s x prev corr → ⊥) (lag contour : ℕ) (r : ℤ) (won : Won s x prev corr lag contour r) where
    abbrev third : Found
    third = stage3 W s.rate s.nb s.complexity (scaled_lag s.rate lag)

    voiced : (d j : ℕ) → Last s x prev corr lag contour d j → Means s x prev corr (from_pair s.rate r (Pair d j))
    voiced d j l = record {
      no_zero1 = go.no_zero1;
      goes = go.goes;
      no_zero2 = none;
      winner = lag;
      winner_contour = contour;
      won = won;
      lag = d;
      lag_contour = j;
      last = l;
      index_is = refl;
      contour_is = refl;
    }

    third_means : (g : s.rate ≡ 8 → ⊥) (a : Found) → third ≡ a → Meaning3 W s.rate s.nb s.complexity (scaled_lag s.rate lag) a
    unfolding scaled_lag
    third_means g a q =
        subst (Meaning3 W s.rate s.nb s.complexity (lag * s.rate / 8)) q
        (stage3_means W s.rate s.nb s.complexity (lag * s.rate / 8) (handed s W h whole lag contour (range won) g))

    by_found : (g : s.rate ≡ 8 → ⊥) (a : Found) → third ≡ a → Means s x prev corr (from_pair s.rate r a)
    by_found g (Pair d j) q = let m = third_means g (Pair d j) q in voiced d j (inr (g, (λ z. m.0 z.0 z.1 z.2, m.1)))
    by_found g ZeroIn3 q = stage3_zero go.goes g lag contour r won (third_means g ZeroIn3 q)

    last_means : Means s x prev corr (last_stage s W lag contour r)
    unfolding last_stage
    last_means = by (eqb s.rate 8) refl
      where
        by : (t : Bool) → eqb s.rate 8 ≡ t → Means s x prev corr (cond t (from_pair s.rate r (Pair lag contour)) (from_pair s.rate r third))
        by true q = voiced lag contour (inl (eqb-true s.rate 8 q, (refl, refl)))
        by false q = by_found (eqb-false s.rate 8 q) third refl

  -- ---- the stages in order

  by_winner : Entered → (a : Stage2) → second ≡ a → Means s x prev corr (from_winner s W a)
  by_winner go (Winner d j r) q =
      let m = second_means (Winner d j r) q in
      last_means go (λ z. m.0 z.0 z.1 z.2) d j r m.1
  by_winner go NoWinner q = let m = second_means NoWinner q in (go.no_zero1, inr (go.goes, (λ z. m.0 z.0 z.1 z.2, m.1)))
  by_winner go ZeroIn2 q = stage2_zero go.goes (second_means ZeroIn2 q)

  by_screen : (c : Screen) → (stage1 (f s x prev corr) s.nb s.complexity s.thres1).screen ≡ c
      → Means s x prev corr (from_screen s W (e s x prev corr) (f s x prev corr) prev corr c)
  unfolding second_stage
  by_screen Goes q = by_winner (entered q) second refl
  by_screen Low q = let u = unvoiced_only (f s x prev corr) s.nb s.complexity s.thres1 handed1 q in (λ z. u.0 z.0 z.1 z.2, inl u.1)
  by_screen Zeroed q = stage1_zero (zero_only (f s x prev corr) s.nb s.complexity s.thres1 handed1 q)

  -- the verdict means what `Meaning` says
  pub verdict_means : Means s x prev corr (verdict_of s x prev corr)
  unfolding verdict_of staged
  verdict_means = by_screen (stage1 (f s x prev corr) s.nb s.complexity s.thres1).screen refl

  -- ---- a verdict that has its meaning is the frame's

  abbrev screen : Screen
  screen = (stage1 (f s x prev corr) s.nb s.complexity s.thres1).screen

  screen_says : (c : Screen) → screen ≡ c → verdict_of s x prev corr ≡ from_screen s W (e s x prev corr) (f s x prev corr) prev corr c
  unfolding verdict_of staged
  screen_says c q = ap (from_screen s W (e s x prev corr) (f s x prev corr) prev corr) q

  goes_by : (Zero1 s x prev corr → ⊥) → GoesOn s x prev corr → screen ≡ Goes
  goes_by n g = goes_where (f s x prev corr) s.nb s.complexity s.thres1 (λ a d z. n (a, d, z)) g.0 g.1.0 g.1.1

  second_says : screen ≡ Goes → (a : Stage2) → Meaning2 (e s x prev corr) (lags s x prev corr) s.rate s.nb s.complexity s.thres2 prev corr a → verdict_of s x prev corr ≡ from_winner s W a
  unfolding second_stage
  second_says q a m = screen_says Goes q ∙ ap (from_winner s W) (sym (stage2_only (e s x prev corr) (lags s x prev corr) s.rate s.nb s.complexity s.thres2 prev corr a m))

  third_says : (lag contour : ℕ) (r : ℤ) → Won s x prev corr lag contour r → (s.rate ≡ 8 → ⊥) → (a : Found) → Meaning3 W s.rate s.nb s.complexity (scaled_lag s.rate lag) a
      → last_stage s W lag contour r ≡ from_pair s.rate r a
  unfolding last_stage scaled_lag
  third_says lag contour r won g a m =
      rw (ne_eqb s.rate 8 g)
      (ap (from_pair s.rate r) (sym (stage3_only W s.rate s.nb s.complexity (lag * s.rate / 8) (handed s W h whole lag contour (range won) g) a m)))

  last_says : (lag contour : ℕ) (r : ℤ) → Won s x prev corr lag contour r → (d j : ℕ) → Last s x prev corr lag contour d j → last_stage s W lag contour r ≡ from_pair s.rate r (Pair d j)
  unfolding last_stage
  last_says lag contour r won d j (inl (q, (p, k))) = rw (eq-eqb s.rate 8 q, p, k)
  last_says lag contour r won d j (inr (g, (n, b))) = third_says lag contour r won g (Pair d j) (λ d' j' z. n (d', j', z), b)

  unvoiced_by : UnvoicedWhen s x prev corr → verdict_of s x prev corr ≡ Unvoiced
  unvoiced_by (n, inl low) = screen_says Low (unvoiced_where (f s x prev corr) s.nb s.complexity s.thres1 (λ a d z. n (a, d, z)) low)
  unvoiced_by (n, inr (g, (m, p))) = second_says (goes_by n g) NoWinner (λ k d z. m (k, d, z), p)

  voiced_by : (index contour r : ℤ) → VoicedWhen s x prev corr index contour r → verdict_of s x prev corr ≡ Voiced index contour r
  voiced_by index contour r v =
      second_says (goes_by v.no_zero1 v.goes) (Winner v.winner v.winner_contour r) (λ k d z. v.no_zero2 (k, d, z), v.won)
      ∙ last_says v.winner v.winner_contour r v.won v.lag v.lag_contour v.last
      ∙ (λ i. Voiced (sym v.index_is i) (sym v.contour_is i) r)

  -- a zero divisor of stage 3 from the winner, where stage 1 goes on
  third_zero : screen ≡ Goes → (s.rate ≡ 8 → ⊥) → (lag contour : ℕ) (r : ℤ) → Won s x prev corr lag contour r → Zero3 s x prev corr lag → verdict_of s x prev corr ≡ ZeroDivisor
  third_zero q g lag contour r won z = by second refl
    where
      by : (a : Stage2) → second ≡ a → verdict_of s x prev corr ≡ ZeroDivisor
      by ZeroIn2 p = second_says q ZeroIn2 (second_means ZeroIn2 p)
      by NoWinner p = absurd ((second_means NoWinner p).1 lag won.passes_so)
      by (Winner d j t) p = second_says q (Winner lag contour r) ((second_means (Winner d j t) p).0, won) ∙ third_says lag contour r won g ZeroIn3 z

  -- where a lag's score goes on, stage 1 goes on or reaches a zero divisor
  going : GoesOn s x prev corr → (screen ≡ Goes → verdict_of s x prev corr ≡ ZeroDivisor) → verdict_of s x prev corr ≡ ZeroDivisor
  going g later = by screen refl
    where
      by : (c : Screen) → screen ≡ c → verdict_of s x prev corr ≡ ZeroDivisor
      by Zeroed q = screen_says Zeroed q
      by Low q = clash_ℤ ((unvoiced_only (f s x prev corr) s.nb s.complexity s.thres1 handed1 q).1 g.0 g.1.0) g.1.1
      by Goes q = later q

  zero_by : ZeroWhen s x prev corr → verdict_of s x prev corr ≡ ZeroDivisor
  zero_by (stage1_zero (a, d, z)) = screen_says Zeroed (zero_where (f s x prev corr) s.nb s.complexity s.thres1 a d z)
  zero_by (stage2_zero g z) = going g (λ q. second_says q ZeroIn2 z)
  zero_by (stage3_zero g n lag contour r won z) = going g (λ q. third_zero q n lag contour r won z)

  only : (v : Verdict) → Means s x prev corr v → verdict_of s x prev corr ≡ v
  only (Voiced index contour r) m = voiced_by index contour r m
  only Unvoiced m = unvoiced_by m
  only ZeroDivisor m = zero_by m

  -- no two verdicts have their meaning
  pub one_meaning : (a b : Verdict) → Means s x prev corr a → Means s x prev corr b → a ≡ b
  one_meaning a b m n = sym (only a m) ∙ only b n

  -- each verdict comes exactly where it has its meaning
  pub verdict_exactly : VerdictExactly s x prev corr
  verdict_exactly v = (λ q. subst (Means s x prev corr) q verdict_means, only v)

  pub unvoiced_exactly : (verdict_of s x prev corr ≡ Unvoiced → UnvoicedWhen s x prev corr) × (UnvoicedWhen s x prev corr → verdict_of s x prev corr ≡ Unvoiced)
  unvoiced_exactly = verdict_exactly Unvoiced

  pub zero_exactly : (verdict_of s x prev corr ≡ ZeroDivisor → ZeroWhen s x prev corr) × (ZeroWhen s x prev corr → verdict_of s x prev corr ≡ ZeroDivisor)
  zero_exactly = verdict_exactly ZeroDivisor
