-- `has_node` meets its contract. Assumes nothing.
use mathlib.Core.Path.{refl}
use Rattle.std.proofs.lemmas.Result.{err_from_is_err_and}
use Rattle.pairing.specs.Answers.{has_node_answer}
use Rattle.pairing.proofs.Pairing.has_node.Goals as goal

pub returns-in_err-check : goal.returns-in_err-check
unfolding has_node_answer
returns-in_err-check c =
    let p = err_from_is_err_and c.from_residual.result c.from_residual.ensures.1 in
    rw (p.1, p.2, ← c.in_err-check.ensures) refl

pub returns-in_err-id_refusal : goal.returns-in_err-id_refusal
unfolding has_node_answer
returns-in_err-id_refusal c =
    let p = err_from_is_err_and c.from_residual-in_err-id_refusal.result c.from_residual-in_err-id_refusal.ensures.1 in
    rw (p.1, p.2, ← c.in_ok-check.ensures, ← c.in_err-id_refusal.ensures) refl

pub returns : goal.returns
unfolding has_node_answer
returns c = rw (← c.in_ok-check.ensures, ← c.in_ok-id_refusal.ensures, c.is_paired.ensures) refl
