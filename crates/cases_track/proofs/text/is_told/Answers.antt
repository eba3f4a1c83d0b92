-- `cases_track::text::is_told` meets its contract: what `track_text` wrote first is the input's text.
use Rattle.std.proofs.Common.{sym, ◌∙◌}
use Rattle.std.proofs.lemmas.Bool.Decides.{Decides-eqb}
use Rattle.std.proofs.lemmas.Slice.Eq.{slice_eq-Decides}
use Rattle.cases_track.specs.TextLaws.{text_of}
use Rattle.cases_track.proofs.text.is_told.Goals as goal

pub returns : goal.returns
returns c = λ rest e.
    let text = text_of _ _ _ _ _ _ _ _ _ (c.track_text-r.ensures.by_index rest e) in
    let same = slice_eq-Decides Decides-eqb _ _ _ c.eq.ensures in
    record { only = λ t. sym text ∙ same.0 t; where_so = λ q. same.1 (text ∙ q) }
