-- `cases_io::chunk` meets its contract: the first bytes from the place on, where all are there.
use Rattle.cases_io.specs.LittleLaws.{chunk_all}
use Rattle.cases_io.proofs.chunk.Goals as goal

pub returns-in-Some : goal.returns-in-Some
returns-in-Some g c = chunk_all _ _ _ _ _ c.min.ensures c.in-Some.ensures.cases
