-- `put_plan` meets its contract. Assumes nothing.
use Rattle.report.proofs.Whole.{plan-refused, size_fits, plan-made}
use Rattle.std.proofs.Common.{rules}
use Rattle.report.proofs.put_plan.Goals as goal

pub overflow_sub-made : goal.overflow_sub-made
overflow_sub-made c =
    let h = size_fits _ _ _ _ _ _ _ _ _ c.in-Ok.ensures in
    search (rules, h)

pub returns-in-Ok : goal.returns-in-Ok
returns-in-Ok c = plan-made _ _ _ _ _ _ _ _ _ c.in-Ok.ensures _ _ _ _ _ c.order-n.ensures c.put_counts.ensures c.put_pairs.ensures c.put_over.ensures

pub returns-in-Err : goal.returns-in-Err
returns-in-Err c = plan-refused _ _ _ _ _ _ c.in-Err.ensures _ _ _ c.from.ensures c.put_refusal.ensures
