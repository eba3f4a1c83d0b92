-- `sheet_text::put_head` meets its contract.
use Rattle.std.proofs.Common.{◌≡◌, ap, List, [], ◌∷◌, ◌-◌, ◌≤◌, arith, ℤ, length, take, drop, w32}
use Rattle.zint.specs.ReadLaws.{r_nat}
use Rattle.pitch_settings.specs.declared.Settings.{Settings}
use Rattle.pitch_settings.specs.Settings.{held_no}
use Rattle.pitch_settings.specs.SettingsLaws.{held_settings}
use Rattle.pitch_text.specs.Decimal.{digits}
use Rattle.pitch_text.specs.DecimalLaws.{digits_few}
use Rattle.pitch_text.specs.Text.{fields}
use Rattle.pitch_text.specs.TextLaws.{put_then, put_as, put_byte}
use Rattle.sheet_sections.specs.Sheet.{settings_count, setting_numbers}
use Rattle.sheet_text.specs.Program.{sheet_head}
use Rattle.sheet_text.proofs.put_head.Goals as goal

-- a rate has two digits at most
short : (s : Settings) → held_no s ≡ 0 → length (digits s.rate) ≤ 2
short s h = digits_few 1 s.rate (omega (arith, (held_settings s h).rate_high))

-- the settings after the rate
others : (s : Settings) {numbers : List ℤ} → numbers ≡ setting_numbers s → take (settings_count - 1) (drop 1 numbers) ≡ drop 1 (setting_numbers s)
unfolding setting_numbers
others s e = ap (λ (l : List ℤ). take (settings_count - 1) (drop 1 l)) e

pub overflow_cast-settings : goal.overflow_cast-settings
overflow_cast-settings c = omega (arith, (held_settings c.args.settings.settings c.args.settings.held).rate_high)

pub put_digits-p-requires : goal.put_digits-p-requires
put_digits-p-requires c = omega (arith, short c.args.settings.settings c.args.settings.held, c.requires.1)

pub put_fields-p-requires : goal.put_fields-p-requires
unfolding setting_numbers
put_fields-p-requires c =
    let p = c.put_digits-p in
    omega (arith, ap length (others c.args.settings.settings c.setting_numbers-numbers.ensures), p.ensures.ends, short c.args.settings.settings c.args.settings.held, p.auto.out, c.requires.1)

pub put_fields-p-requires-2 : goal.put_fields-p-requires-2
put_fields-p-requires-2 c =
    let p = c.put_digits-p in
    let q = c.put_fields-p in
    omega (arith, ap length (others c.args.settings.settings c.setting_numbers-numbers.ensures), q.ensures.1, q.auto.out, p.ensures.ends, short c.args.settings.settings c.args.settings.held, p.auto.out, c.requires.1)

pub bounds-out-p : goal.bounds-out-p
bounds-out-p c =
    let p = c.put_digits-p in
    let q = c.put_fields-p in
    let r = c.put_fields-p-2 in
    omega (arith, r.ensures.1, r.auto.out, q.ensures.1, q.auto.out, p.ensures.ends, short c.args.settings.settings c.args.settings.held, p.auto.out, c.requires.1)

pub overflow_add-result : goal.overflow_add-result
overflow_add-result c = omega (arith, c.put_fields-p-2.ensures.1, c.put_fields-p.ensures.1, c.put_digits-p.ensures.ends, short c.args.settings.settings c.args.settings.held)

pub returns : goal.returns
unfolding sheet_head setting_numbers
returns c =
    let h = c.put_fields-p-2.ensures in
    let f = c.put_fields-p.ensures in
    let d = c.put_digits-p.ensures in
    let settings = put_as f.0 (ap fields (others c.args.settings.settings c.setting_numbers-numbers.ensures)) in
    let count = put_as h.0 (ap (λ (z : ℤ). fields (z ∷ [])) (r_nat w32 c.args.frames (omega (arith, c.requires.0))).val) in
    (put_then d (put_then settings (put_then count (put_byte _ _ 10))), omega (arith, h.1, f.1, d.ends, short c.args.settings.settings c.args.settings.held))
