-- `Sheet::put` meets its contract: the sections are written one after the other.
use Rattle.std.proofs.Common.{arith, length-append, ◌+◌, ◌≤◌, length}
use Rattle.lists.specs.PutLaws.{put_then}
use Rattle.sheet_sections.specs.declared.Section.TheVariants.{Verdicts, Pairs, Correlations}
use Rattle.sheet_sections.specs.Sheet.{frames_at, section_entries, section, sheet, rows_of}
use Rattle.sheet_sections.specs.SheetLaws.{settings_length}
use Rattle.sheet_sections.proofs.Sheet.put.Goals as goal
use Rattle.sheet_sections.proofs.Sheet.put.Goals.{Start}

-- the four sections' room
room : (c : Start)
    → (let rs = rows_of c.args.self.table.now c.args.self.frames in
    frames_at + length (section (section_entries Verdicts rs)) + length (section (section_entries Pairs rs)) + length (section (section_entries Correlations rs)) ≤ length c.args.page.now)
unfolding sheet
room c = simp (length-append, settings_length c.args.self.settings.settings) at c.requires

pub put_settings-at-requires : goal.put_settings-at-requires
put_settings-at-requires c = omega (arith, room (goal.at.put_settings-at-requires c).Start)

pub put_section-at-requires : goal.put_section-at-requires
put_section-at-requires c =
    let s = (goal.at.put_section-at-requires c).Start in
    omega (arith, room s, c.put_settings-at.ensures.ends, settings_length s.args.self.settings.settings, c.put_settings-at.auto.page)

pub put_section-at-requires-2 : goal.put_section-at-requires-2
put_section-at-requires-2 c =
    let s = (goal.at.put_section-at-requires-2 c).Start in
    let one = c.put_settings-at in
    let two = c.put_section-at in
    omega (arith, room s, one.ensures.ends, settings_length s.args.self.settings.settings, two.ensures.ends, one.auto.page, two.auto.page)

pub put_section-requires : goal.put_section-requires
put_section-requires c =
    let s = (goal.at.put_section-requires c).Start in
    let one = c.put_settings-at in
    let two = c.put_section-at in
    let three = c.put_section-at-2 in
    omega (arith, room s, one.ensures.ends, settings_length s.args.self.settings.settings, two.ensures.ends, three.ensures.ends, one.auto.page, two.auto.page, three.auto.page)

pub returns : goal.returns
unfolding sheet
returns c = put_then (put_then (put_then c.put_settings-at.ensures c.put_section-at.ensures) c.put_section-at-2.ensures) c.put_section.ensures
