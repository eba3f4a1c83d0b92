-- `TrackText::make` meets its contract: the first bytes that `track_text` leaves are the input's text.
use Rattle.recording_program.specs.PrintedLaws.{printed_text}
use Rattle.track_text.specs.Program.{track_text_call}
use Rattle.track_printer.proofs.TrackTextRecordingProgramLONGEST_TEXT.make.Goals as goal

pub returns-clause-value : goal.returns-clause-value
unfolding track_text_call
returns-clause-value c rest e = printed_text _ _ _ _ _ _ _ _ _ _ (c.track_text.ensures.by_index rest e)
