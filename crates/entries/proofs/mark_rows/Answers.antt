-- `mark_rows` meets its contract. The invariant: the rows below v are marked. Assumes nothing.
use Rattle.entries.proofs.Quick.{rows-again, rows_none, rows_all}
use Rattle.entries.proofs.mark_rows.Goals as goal

pub loop-v-init : goal.loop-v-init
loop-v-init c = rows_none _ _

pub loop-v-preserved : goal.loop-v-preserved
loop-v-preserved c =
    let l = c.loop-v in
    rows-again _ _ l.v _ _ _ l.invariant c.row.ensures c.mark_row.ensures

pub returns : goal.returns
returns c =
    let l = c.loop-v in
    rows_all _ _ l.v _ _ c.order-v-end.ensures l.auto.v-end c.loop-v-test.false l.invariant
