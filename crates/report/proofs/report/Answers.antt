-- `report` meets its contract: what is put into an empty text is all of it. Assumes nothing.
use Rattle.report.proofs.Room.{reported}
use Rattle.report.proofs.report.Goals as goal

pub returns : goal.returns
returns c = reported _ _ _ c.new-text.ensures c.put_report.ensures
