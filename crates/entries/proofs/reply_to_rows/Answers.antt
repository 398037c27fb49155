-- `reply_to_rows` meets its contract: the checks by the tables are those of document 01. Assumes nothing.
use mathlib.Core.Path.{ap}
use Rattle.std.specs.Prelude.{is_err}
use Rattle.std.proofs.lemmas.Result.{err_from_is_err_and}
use Rattle.marks.specs.Marks.{unmarked}
use Rattle.entries.proofs.Quick.{rows-refused, rows-fine}
use Rattle.entries.proofs.reply_to_rows.Goals as goal

pub returns-in_err-reply_to_marks : goal.returns-in_err-reply_to_marks
unfolding unmarked
returns-in_err-reply_to_marks c =
    let p = err_from_is_err_and c.from_residual.result c.from_residual.ensures.1 in
    let was = c.in_err-reply_to_marks.was in
    rw (p.1, p.2, ← was) (rows-refused _ _ _ c.requires c.mark_rows.ensures c.reply_to_marks.ensures (ap is_err was))

pub returns : goal.returns
unfolding unmarked
returns c = rows-fine _ _ _ c.requires c.mark_rows.ensures c.reply_to_marks.ensures (ap is_err c.in_ok-reply_to_marks.was) _ _ c.order.ensures c.reply_to_loops.ensures
