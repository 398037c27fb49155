-- `put_report` meets its contract. Assumes nothing.
use Rattle.report.proofs.Whole.{report-long, report-plan}
use Rattle.report.proofs.put_report.Goals as goal

pub returns-then-input-gt-INPUT : goal.returns-then-input-gt-INPUT
returns-then-input-gt-INPUT c = report-long _ _ _ c.if-input-gt-INPUT.true c.put_word.ensures

pub returns : goal.returns
returns c = report-plan _ _ _ _ _ _ _ c.if-input-gt-INPUT.false c.order.ensures c.at_most-n.ensures c.no_pairs-pairing.ensures c.no_members-witness.ensures c.put_plan.ensures
