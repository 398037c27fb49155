-- `absorb` meets its contract: each call is a part of the definition. Assumes nothing.
use Rattle.blossom.proofs.Laws.{absorbed}
use Rattle.blossom.proofs.absorb.Goals as goal

pub returns : goal.returns
returns c =
    absorbed c.args.desk.now c.args.v c.args.z _ _ _ _ _ _ _ _ _ _ _
    c.at-c.ensures
    c.at-g.ensures
    c.put.ensures
    c.shift.ensures
    c.copy_cell.ensures
    c.copy_cell-2.ensures
    c.copy_cell-3.ensures c.put-2.ensures c.from-m.ensures
    c.around.ensures c.one_more-desk.ensures
