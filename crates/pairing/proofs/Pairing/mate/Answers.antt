-- `mate` meets its contract. Assumes nothing.
use mathlib.Core.Path.{refl}
use Rattle.std.proofs.lemmas.Result.{err_from_is_err_and}
use Rattle.pairing.specs.Answers.{mate_answer}
use Rattle.pairing.proofs.Pairing.mate.Goals as goal

pub returns-in_err-check : goal.returns-in_err-check
unfolding mate_answer
returns-in_err-check c =
    let p = err_from_is_err_and c.from_residual.result c.from_residual.ensures.1 in
    rw (p.1, p.2, ← c.in_err-check.ensures) refl

pub returns-in_err-mate_refusal : goal.returns-in_err-mate_refusal
unfolding mate_answer
returns-in_err-mate_refusal c =
    let p = err_from_is_err_and c.from_residual-in_err-mate_refusal.result c.from_residual-in_err-mate_refusal.ensures.1 in
    rw (p.1, p.2, ← c.in_ok-check.ensures, ← c.in_err-mate_refusal.ensures) refl

pub returns : goal.returns
unfolding mate_answer
returns c = rw (← c.in_ok-check.ensures, ← c.in_ok-mate_refusal.ensures, c.partner_of.ensures) refl
