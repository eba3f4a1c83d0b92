-- `TrackSheet::make` meets its contract: the first bytes that `sheet_write_bytes` leaves are the input's sheet or its refusal.
use Rattle.recording_program.specs.PrintedLaws.{printed_text}
use Rattle.sheet_write_bytes.specs.Program.{sheet_bytes_call}
use Rattle.track_sheet_writer.proofs.TrackSheetRecordingProgramLONGEST_PROGRAM_SHEET.make.Goals as goal

pub returns-clause-value : goal.returns-clause-value
unfolding sheet_bytes_call
returns-clause-value c rest e = printed_text _ _ _ _ _ _ _ _ _ _ (c.sheet_write_bytes.ensures.by_index rest e)
