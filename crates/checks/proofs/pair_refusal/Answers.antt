-- `pair_refusal` meets its contract: each way out is a case of the definition. Assumes nothing.
use mathlib.Core.Path.{refl}
use borrow.Author.Tests.{eq-eqb, ne_eqb}
use Rattle.std.proofs.lemmas.Result.{err_from_is_err_and}
use Rattle.checks.specs.Checks.{pair_reply}
use Rattle.checks.proofs.pair_refusal.Goals as goal

pub returns-in_err-id_refusal : goal.returns-in_err-id_refusal
unfolding pair_reply
returns-in_err-id_refusal c =
    let p = err_from_is_err_and c.from_residual.result c.from_residual.ensures.1 in
    rw (p.1, p.2, ← c.in_err-id_refusal.ensures) refl

pub returns-in_err-id_refusal-2 : goal.returns-in_err-id_refusal-2
unfolding pair_reply
returns-in_err-id_refusal-2 c =
    let p = err_from_is_err_and c.from_residual-in_err-id_refusal-2.result c.from_residual-in_err-id_refusal-2.ensures.1 in
    rw (p.1, p.2, ← c.in_ok-id_refusal.ensures, ← c.in_err-id_refusal-2.ensures) refl

pub returns-then-a-b : goal.returns-then-a-b
unfolding pair_reply
returns-then-a-b c = rw (← c.in_ok-id_refusal.ensures, ← c.in_ok-id_refusal-2.ensures, eq-eqb _ _ c.if-a-b.true) refl

pub returns : goal.returns
unfolding pair_reply
returns c = rw (← c.in_ok-id_refusal.ensures, ← c.in_ok-id_refusal-2.ensures, ne_eqb _ _ c.if-a-b.false) refl
