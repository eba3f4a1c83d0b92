-- `Sections::row` meets its contract.
use Rattle.std.proofs.Common.{rules, Fits, ◌≡◌, sym, ap, ap₂, ◌∙◌, ℕ, ◌+◌, ◌*◌, ◌≤◌, ◌<◌, arith, ℤ, pos, get_or, length, w8, w32, to_z, of_z}
use Rattle.std.proofs.lemmas.Int.{to_z_pos}
use Rattle.zint.specs.ReadLaws.{r_got}
use Rattle.pitch_settings.specs.declared.Settings.{Settings}
use Rattle.pitch_table.specs.Row.{most_frames}
use Rattle.sheet_bytes.specs.Bytes.{number_at, signed_at}
use Rattle.sheet_rows.specs.Rows.{row_of}
use Rattle.sheet_sections.specs.declared.Section.TheVariants.{Pairs, Correlations}
use Rattle.sheet_sections.specs.Sheet.{index_bytes, entry_bytes, verdicts_at, pairs_at, correlations_at, sheet_length}
use Rattle.sheet_page.specs.Page.{verdict_in, pair_place, correlation_place}
use Rattle.sheet_page.specs.PageLaws.{row_voiced, row_quiet, head_means, sizes_means, Places, places, small, verdict_within}
use Rattle.sheet_page.proofs.Sections.row.Goals as goal
use Rattle.sheet_page.proofs.Sections.row.Goals.{Start, Else-verdict-ne0}

module _ (c : Start) where
  size : length c.args.self.page.now ≤ sheet_length most_frames most_frames
  size = let s = c.args.self in small s.page.now (head_means s.page.now s.begins) (sizes_means s.page.now s.sized)

  within : verdicts_at + c.args.i < length c.args.self.page.now
  within = let s = c.args.self in verdict_within s.page.now (sizes_means s.page.now s.sized) c.args.i (omega (arith, s.frames_read, c.requires.0))

-- a voiced frame: where its pair and its correlation stand, and that they end within the page
module _ (c : Else-verdict-ne0) where
  voiced_places : Places c.args.self.page.now c.args.i
  unfolding verdict_in
  voiced_places = places c.args.self.page.now (sizes_means c.args.self.page.now c.args.self.sized) c.args.i (omega (arith, c.args.self.frames_read, c.requires.0)) c.if-verdict-ne0.false

  pair_at : pairs_at 0 + c.args.self.frames + entry_bytes Pairs * c.args.seen ≡ pair_place c.args.self.page.now c.args.i
  pair_at = omega (arith, c.args.self.frames_read, voiced_places.pair_is)

  correlation_at : correlations_at 0 0 + c.args.self.frames + entry_bytes Pairs * c.args.self.voiced + entry_bytes Correlations * c.args.seen ≡ correlation_place c.args.self.page.now c.args.i
  correlation_at = let s = c.args.self in omega (arith, s.frames_read, s.voiced_read, voiced_places.correlation_is)

  -- both lie within the page, which is no longer than the longest sheet
  bounds :
      (pairs_at 0 + c.args.self.frames + entry_bytes Pairs * c.args.seen + entry_bytes Pairs ≤ length c.args.self.page.now)
      × (correlations_at 0 0 + c.args.self.frames + entry_bytes Pairs * c.args.self.voiced + entry_bytes Correlations * c.args.seen + entry_bytes Correlations ≤ length c.args.self.page.now)
      × (length c.args.self.page.now ≤ sheet_length most_frames most_frames)
  bounds = (
    omega (arith, pair_at, voiced_places.pair_within),
    omega (arith, correlation_at, voiced_places.correlation_within),
    (let s = c.args.self in small s.page.now (head_means s.page.now s.begins) (sizes_means s.page.now s.sized)),
  )

pub overflow_add-verdict : goal.overflow_add-verdict
overflow_add-verdict c = let s = (goal.at.overflow_add-verdict c).Start in omega (arith, within s, size s)

pub bounds-self-i : goal.bounds-self-i
bounds-self-i c = within (goal.at.bounds-self-i c).Start

pub returns-then-verdict-ne0 : goal.returns-then-verdict-ne0
unfolding verdict_in
returns-then-verdict-ne0 c =
    let p = c.args.self.page.now in
    let b = verdict_in p c.args.i in
    let f : Fits w8 b = search rules in
    let l : b < 256 = omega (arith, f) in
    c.row_of.ensures.value
    ∙ ap₂ (λ (x : Settings) (v : ℤ). row_of x v (pos 0) (pos 0) (pos 0)) (c.args.self.settings_read) (to_z_pos w32 b (omega arith))
    ∙ sym (row_quiet p c.args.i c.if-verdict-ne0.true)

pub overflow_add-pair : goal.overflow_add-pair
overflow_add-pair c = omega (arith, bounds (goal.at.overflow_add-pair c).Else-verdict-ne0)

pub overflow_mul-pair : goal.overflow_mul-pair
overflow_mul-pair c = omega (arith, bounds (goal.at.overflow_mul-pair c).Else-verdict-ne0)

pub overflow_add-pair-2 : goal.overflow_add-pair-2
overflow_add-pair-2 c = omega (arith, bounds (goal.at.overflow_add-pair-2 c).Else-verdict-ne0)

pub u16_at-index-requires : goal.u16_at-index-requires
u16_at-index-requires c = omega (arith, bounds (goal.at.u16_at-index-requires c).Else-verdict-ne0)

pub overflow_add-contour : goal.overflow_add-contour
overflow_add-contour c = omega (arith, bounds (goal.at.overflow_add-contour c).Else-verdict-ne0)

pub bounds-self-pair : goal.bounds-self-pair
bounds-self-pair c = omega (arith, bounds (goal.at.bounds-self-pair c).Else-verdict-ne0)

pub overflow_add-self : goal.overflow_add-self
overflow_add-self c = omega (arith, bounds (goal.at.overflow_add-self c).Else-verdict-ne0)

pub overflow_mul-self : goal.overflow_mul-self
overflow_mul-self c = omega (arith, bounds (goal.at.overflow_mul-self c).Else-verdict-ne0)

pub overflow_add-self-2 : goal.overflow_add-self-2
overflow_add-self-2 c = omega (arith, bounds (goal.at.overflow_add-self-2 c).Else-verdict-ne0)

pub overflow_mul-seen : goal.overflow_mul-seen
overflow_mul-seen c = omega (arith, bounds (goal.at.overflow_mul-seen c).Else-verdict-ne0)

pub overflow_add-self-3 : goal.overflow_add-self-3
overflow_add-self-3 c = omega (arith, bounds (goal.at.overflow_add-self-3 c).Else-verdict-ne0)

pub i32_at-correlation-requires : goal.i32_at-correlation-requires
i32_at-correlation-requires c = omega (arith, bounds (goal.at.i32_at-correlation-requires c).Else-verdict-ne0)

pub returns : goal.returns
unfolding verdict_in
returns c =
    let q = (goal.at.returns c).Else-verdict-ne0 in
    let p = c.args.self.page.now in
    let i = c.args.i in
    let a = c.args.self.settings_read in
    let n : to_z w32 c.u16_at-index.result ≡ pos (number_at index_bytes p (pair_place p i)) =
    to_z_pos w32 c.u16_at-index.result (omega arith) ∙ ap pos (c.u16_at-index.ensures ∙ ap (number_at index_bytes p) (pair_at q)) in
    let place = pairs_at 0 + c.args.self.frames + entry_bytes Pairs * c.args.seen + index_bytes in
    let f : Fits w8 (get_or p place 0) = search rules in
    let l : get_or p place 0 < 256 = omega (arith, f) in
    let j : to_z w32 (get_or p place 0) ≡ pos (get_or p (pair_place p i + index_bytes) 0) = to_z_pos w32 (get_or p place 0) (omega arith) ∙ ap (λ (m : ℕ). pos (get_or p (m + index_bytes) 0)) (pair_at q) in
    let k : to_z w32 (of_z w32 c.i32_at-correlation.result) ≡ signed_at p (correlation_place p i) = (r_got w32 c.i32_at-correlation.type_inv c.i32_at-correlation.ensures).val ∙ ap (signed_at p) (correlation_at q) in
    c.row_of-2.ensures.value
    ∙ (λ t. row_of (a t) (pos 0) (n t) (j t) (k t))
    ∙ sym (row_voiced p i c.if-verdict-ne0.false)
