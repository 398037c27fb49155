-- `check` meets its contract: the checks in turn, and what acceptance means by the laws of Checker. Assumes nothing.
use mathlib.Core.Path.{sym}
use Rattle.std.proofs.Common.{rules}
use Rattle.witness.specs.Verdict.{check_of}
use Rattle.witness.proofs.Checker.{checked, begins}
use Rattle.witness.proofs.check.Goals as goal

pub returns-in_err-improve_verdict : goal.returns-in_err-improve_verdict
unfolding check_of
returns-in_err-improve_verdict c = checked _ _ _ _ (search rules)

pub returns-in_err-mark_verdict : goal.returns-in_err-mark_verdict
unfolding check_of
returns-in_err-mark_verdict c = checked _ _ _ _ (search rules)

pub bound_verdict-requires : goal.bound_verdict-requires
bound_verdict-requires c = let start = begins _ _ _ (sym c.in_ok-improve_verdict.ensures) in (start.accepted, start.long)

pub returns : goal.returns
unfolding check_of
returns c = checked _ _ _ _ (search rules)
