-- `reply_to_marks` meets its contract. The invariant: no row below v is refused. Assumes nothing.
use mathlib.Core.Path.{ap}
use Rattle.std.specs.Prelude.{is_err}
use Rattle.std.proofs.lemmas.Result.{err_from_is_err_and}
use Rattle.replies.proofs.Firsts.{first-none}
use Rattle.entries.proofs.Quick.{marks-at, marks-past, marks-end}
use Rattle.entries.proofs.reply_to_marks.Goals as goal

pub loop-v-init : goal.loop-v-init
loop-v-init c = first-none _

pub returns-in_err-reply_to_row : goal.returns-in_err-reply_to_row
returns-in_err-reply_to_row c =
    let l = c.loop-v in
    let p = err_from_is_err_and c.from_residual.result c.from_residual.ensures.1 in
    let was = c.in_err-reply_to_row.was in
    rw (p.1, p.2, ← was)
    (marks-at _ _ _ l.v c.order-n.ensures l.invariant _ _ c.row.ensures c.reply_to_row.ensures (ap is_err was) c.loop-v-test.true)

pub loop-v-preserved : goal.loop-v-preserved
loop-v-preserved c =
    let l = c.loop-v in
    marks-past _ _ _ l.v c.order-n.ensures l.invariant _ _ c.row.ensures c.reply_to_row.ensures (ap is_err c.in_ok-reply_to_row.was)

pub returns : goal.returns
returns c =
    let l = c.loop-v in
    marks-end _ _ _ l.v c.order-n.ensures l.invariant l.auto.v-end c.loop-v-test.false
