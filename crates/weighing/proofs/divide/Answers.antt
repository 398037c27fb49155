-- `divide` meets its contract: refused, or the parts written out. Assumes nothing.
use mathlib.Core.Path.{sym}
use Rattle.std.proofs.Common.{rules}
use Rattle.witness.proofs.Checker.{passed-parts}
use Rattle.weighing.proofs.Answers.{parts-refused, parts-given}
use Rattle.weighing.proofs.divide.Goals as goal

pub returns-in_err-parts_verdict : goal.returns-in_err-parts_verdict
returns-in_err-parts_verdict c = search (rules, parts-refused)

pub divide_of-requires : goal.divide_of-requires
divide_of-requires c = passed-parts _ _ _ (sym c.in_ok-parts_verdict.ensures)

pub returns : goal.returns
returns c = parts-given _ _ _ c.in_ok-parts_verdict.ensures _ _ _ c.divide_of.ensures.0 c.divide_of.ensures.1
