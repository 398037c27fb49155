-- `row` meets its contract: the part between the two places that `neighbors` answers, or no bytes. Assumes nothing.
use mathlib.Core.Path.{sym, ◌∙◌}
use Rattle.rows.proofs.Stretches.{row-there, row-none}
use Rattle.rows.proofs.row.Goals as goal

pub returns-in-Ok : goal.returns-in-Ok
returns-in-Ok c = c.part_of.ensures ∙ row-there _ _ _ (sym c.in-Ok.ensures)

pub returns-in-Err : goal.returns-in-Err
returns-in-Err c = row-none _ _ _ (sym c.in-Err.ensures)
