-- `mate_refusal` meets its contract: each way out is a case of the definition. Assumes nothing.
use mathlib.Core.Path.{refl}
use Rattle.std.proofs.lemmas.Result.{err_from_is_err_and}
use Rattle.checks.specs.Checks.{mate_reply}
use Rattle.checks.proofs.mate_refusal.Goals as goal

pub returns-in_err-id_refusal : goal.returns-in_err-id_refusal
unfolding mate_reply
returns-in_err-id_refusal c =
    let p = err_from_is_err_and c.from_residual.result c.from_residual.ensures.1 in
    rw (p.1, p.2, ← c.in_err-id_refusal.ensures) refl

pub returns-then-not-is_paired : goal.returns-then-not-is_paired
unfolding mate_reply
returns-then-not-is_paired c = rw (← c.in_ok-id_refusal.ensures, ← c.is_paired.ensures, c.if-not-is_paired.true) refl

pub returns : goal.returns
unfolding mate_reply
returns c = rw (← c.in_ok-id_refusal.ensures, ← c.is_paired.ensures, c.if-not-is_paired.false) refl
