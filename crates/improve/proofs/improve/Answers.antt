-- `improve` meets its contract: refused with the bytes as lent, or the work done, and its sizes read from the bytes. Assumes nothing.
use Rattle.improve.proofs.Calls.{size-most, improve-refused, begun, size-grows, improve-made}
use Rattle.std.proofs.Common.{rules}
use Rattle.std.proofs.lemmas.Result.{err_from_is_err_and}
use Rattle.improve.proofs.improve.Goals as goal

pub returns-in_err-improve_verdict : goal.returns-in_err-improve_verdict
returns-in_err-improve_verdict c =
    let p = err_from_is_err_and c.from_residual.result c.from_residual.ensures.1 in
    rw (p.1, p.2) (improve-refused _ _ _ _ _ c.in_err-improve_verdict.ensures)

pub work-finished-requires : goal.work-finished-requires
work-finished-requires c = begun _ _ _ 0 c.in_ok-improve_verdict.ensures

pub overflow_sub-result : goal.overflow_sub-result
overflow_sub-result c =
    let h = size-grows _ _ _ _ c.in_ok-improve_verdict.ensures _ _ _ c.pairs_of-before.ensures c.work-finished.ensures.0 c.pairs_of-size.ensures in
    search (rules, h)

pub overflow_sub-result-2 : goal.overflow_sub-result-2
overflow_sub-result-2 c =
    let h = size-most _ _ _ _ c.order.ensures c.pairs_of-size.ensures in
    search (rules, h)

pub returns : goal.returns
returns c = improve-made _ _ _ _ c.in_ok-improve_verdict.ensures _ _ _ _ _ _ c.order.ensures c.pairs_of-before.ensures c.work-finished.ensures.0 c.work-finished.ensures.1 c.pairs_of-size.ensures c.work-finished.ensures.2
