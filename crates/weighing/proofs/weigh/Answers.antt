-- `weigh` meets its contract: refused, or the surplus of the set. Assumes nothing.
use mathlib.Core.Path.{sym, ◌∙◌}
use mir.Facts.{to_z-of_z}
use mir.Syntax.{w64}
use Rattle.std.proofs.Common.{rules}
use Rattle.weights.proofs.Signed.{small-fits}
use Rattle.witness.proofs.Checker.{passed-surplus}
use Rattle.weighing.proofs.Answers.{counts-most, surplus-refused, surplus-given}
use Rattle.weighing.proofs.weigh.Goals as goal

pub returns-in_err-surplus_verdict : goal.returns-in_err-surplus_verdict
returns-in_err-surplus_verdict c = search (rules, surplus-refused)

pub weight_of-weight-requires : goal.weight_of-weight-requires
weight_of-weight-requires c = passed-surplus _ _ (sym c.in_ok-surplus_verdict.ensures)

pub surplus_of-surplus-requires : goal.surplus_of-surplus-requires
surplus_of-surplus-requires c = counts-most _ _ c.in_ok-surplus_verdict.ensures _ _ c.weight_of-weight.ensures

pub returns : goal.returns
returns c =
    let w = c.weight_of-weight.ensures in
    let z = c.surplus_of-surplus.ensures in
    let p = counts-most _ _ c.in_ok-surplus_verdict.ensures _ _ w in
    surplus-given _ _ c.in_ok-surplus_verdict.ensures _ _ _ w (to_z-of_z {w = w64} (rw z (small-fits _ _ p.0 p.1)) ∙ z)
