-- `silk_tables::rebuild::rebuilt_lag` meets its contract: each refusal is one test of the definition, and past them the pair has an entry in a book.
use Rattle.std.proofs.Common.{◌≡◌, refl, sym, ap, ap₂, ◌∙◌, subst, Bool, ◌&&◌, cond, Option, Some, None, [], ◌∷◌, ℕ, arith, lt-ltb, le-ltb, eq-eqb, ne_eqb, eqb, ltb, ℤ, pos, nat_abs, w32, w64, SFits, to_z, of_z}
use Rattle.answers.specs.Answer.{answer_numbers}
use Rattle.zint.specs.BoundLaws.{fits_abs}
use Rattle.zint.specs.ReadLaws.{r_var, r_got, as_unsigned}
use Rattle.refusals.specs.RefusalsLaws.{refused_positive}
use Rattle.pitch_settings.specs.declared.Settings.{Settings}
use Rattle.pitch_settings.specs.Settings.{settings_refusal, complexity_held, held_no}
use Rattle.pitch_settings.specs.SettingsLaws.{held_settings}
use Rattle.silk_tables.specs.Rebuild.{rebuilt, Coded, carried, CarriedPair, rebuild_call, rebuilt_numbers, rebuilt_number}
use Rattle.silk_tables.specs.CarriedLaws.{carried_means, carried_yes, contour_abs, coded, answer_by, rebuilt_in_numbers}
use Rattle.silk_tables.proofs.rebuild.rebuilt_lag.Goals as goal

module _ (fs nb cx : ℕ) (index contour : ℤ) (k : ℕ) where
  abbrev call : Option ℤ
  call = rebuild_call fs nb cx index contour k

  -- the answer by its three tests
  by_tests : {t u v : Bool} → eqb (settings_refusal fs nb (complexity_held cx)) 0 ≡ t → ltb k nb ≡ u → carried fs nb cx index contour ≡ v
      → cond (t && u && v) (Some (rebuilt fs nb index (nat_abs contour) k)) None ≡ call
  by_tests p q r = sym (answer_by fs nb cx index contour k p q r)

  -- and so the answer in numbers
  in_numbers : {x : Option ℤ} → x ≡ call → rebuilt_numbers x ≡ answer_numbers (rebuilt_number fs nb cx index contour k) (rebuilt fs nb index (nat_abs contour) k ∷ [])
  in_numbers e = ap rebuilt_numbers e ∙ rebuilt_in_numbers fs nb cx index contour k

  -- what the first test and the last say, at the numbers handed in: a sheet can hold the settings, and the pair is carried
  abbrev settings : Settings
  settings = record { rate = fs; nb = nb; complexity = cx; thres1 = pos 0; thres2 = pos 0 }

  settled : {no : ℕ} → no ≡ held_no settings → no ≡ 0 → held_no settings ≡ 0
  settled e z = sym e ∙ z

  asked : {r : Bool} → SFits w32 index → SFits w32 contour → r ≡ carried fs nb cx (to_z w32 (of_z w32 index)) (to_z w32 (of_z w32 contour)) → r ≡ carried fs nb cx index contour
  asked p q e = e ∙ ap₂ (carried fs nb cx) (r_var p).val (r_var q).val

pub returns-in_default : goal.returns-in_default
unfolding held_no
returns-in_default c =
    let a = c.args in
    let e = by_tests a.fs_khz a.nb_subfr a.complexity a.lag_index a.contour_index a.k (ne_eqb _ 0 (refused_positive c.in_default.field-0 c.in_default.ensures.number)) refl refl in
    record { answer = e; numbers = in_numbers a.fs_khz a.nb_subfr a.complexity a.lag_index a.contour_index a.k e }

pub returns-then-k-nb_subfr : goal.returns-then-k-nb_subfr
unfolding held_no
returns-then-k-nb_subfr c =
    let a = c.args in
    let no = sym c.in-Ok.ensures.number in
    let e = by_tests a.fs_khz a.nb_subfr a.complexity a.lag_index a.contour_index a.k (eq-eqb _ 0 no) (le-ltb a.k a.nb_subfr (omega arith)) refl in
    record { answer = e; numbers = in_numbers a.fs_khz a.nb_subfr a.complexity a.lag_index a.contour_index a.k e }

pub pair_carried-requires : goal.pair_carried-requires
pair_carried-requires c =
    let a = c.args in
    let no = sym c.in-Ok.ensures.number in
    omega (arith, (held_settings (settings a.fs_khz a.nb_subfr a.complexity a.lag_index a.contour_index a.k) no).complexity)

pub returns-then-not-pair_carried : goal.returns-then-not-pair_carried
unfolding held_no
returns-then-not-pair_carried c =
    let a = c.args in
    let no = sym c.in-Ok.ensures.number in
    let r = asked a.fs_khz a.nb_subfr a.complexity a.lag_index a.contour_index a.k c.ranges.lag_index c.ranges.contour_index c.pair_carried.ensures in
    let e = by_tests a.fs_khz a.nb_subfr a.complexity a.lag_index a.contour_index a.k (eq-eqb _ 0 no) (lt-ltb a.k a.nb_subfr c.if-k-nb_subfr.false) (sym r ∙ c.if-not-pair_carried.true) in
    record { answer = e; numbers = in_numbers a.fs_khz a.nb_subfr a.complexity a.lag_index a.contour_index a.k e }

-- the pair is carried
pair : (c : goal.Else-not-pair_carried) → CarriedPair c.args.fs_khz c.args.nb_subfr c.args.complexity c.args.lag_index c.args.contour_index
pair c =
    let a = c.args in
    carried_means (sym (asked a.fs_khz a.nb_subfr a.complexity a.lag_index a.contour_index a.k c.ranges.lag_index c.ranges.contour_index c.pair_carried.ensures) ∙ c.if-not-pair_carried.false)

pub overflow_cast-contour_index : goal.overflow_cast-contour_index
overflow_cast-contour_index c =
    let j = c.args.contour_index in
    as_unsigned w64 (nat_abs j) ((r_var c.ranges.contour_index).val ∙ contour_abs (pair c)) (omega (arith, fits_abs c.ranges.contour_index))

pub lag_of-requires : goal.lag_of-requires
lag_of-requires c =
    let a = c.args in
    let no = sym c.in-Ok.ensures.number in
    subst (λ (x : ℤ). Coded a.fs_khz a.nb_subfr x (nat_abs (to_z w32 (of_z w32 a.contour_index))) a.k) (sym (r_var c.ranges.lag_index).val)
    (subst (λ (x : ℤ). Coded a.fs_khz a.nb_subfr a.lag_index (nat_abs x) a.k) (sym (r_var c.ranges.contour_index).val)
    (coded (settings a.fs_khz a.nb_subfr a.complexity a.lag_index a.contour_index a.k) no (pair c) a.k c.if-k-nb_subfr.false))

pub returns : goal.returns
unfolding held_no
returns c =
    let a = c.args in
    let no = sym c.in-Ok.ensures.number in
    let v = (r_got w32 c.lag_of.type_inv c.lag_of.ensures).val in
    let e =
    ap Some (v ∙ ap₂ (λ (x y : ℤ). rebuilt a.fs_khz a.nb_subfr x (nat_abs y) a.k) (r_var c.ranges.lag_index).val (r_var c.ranges.contour_index).val)
    ∙ by_tests a.fs_khz a.nb_subfr a.complexity a.lag_index a.contour_index a.k (eq-eqb _ 0 no) (lt-ltb a.k a.nb_subfr c.if-k-nb_subfr.false) (carried_yes (pair c.before))
    in
    record { answer = e; numbers = in_numbers a.fs_khz a.nb_subfr a.complexity a.lag_index a.contour_index a.k e }
