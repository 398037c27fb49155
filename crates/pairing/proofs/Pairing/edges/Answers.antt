-- `edges` meets its contract: it is refused, or `list_all` lists the pairs. Assumes nothing.
use mathlib.Core.Path.{refl}
use Rattle.std.proofs.Common.{rules}
use Rattle.std.proofs.lemmas.Result.{err_from_is_err_and}
use Rattle.pairing.specs.Answers.{edges_answer}
use Rattle.pairing.proofs.Steps.{sound-ready}
use Rattle.pairing.proofs.Pairing.edges.Goals as goal

pub returns-in_err-check : goal.returns-in_err-check
unfolding edges_answer
returns-in_err-check c =
    let p = err_from_is_err_and c.from_residual.result c.from_residual.ensures.1 in
    rw (p.1, p.2, ← c.in_err-check.ensures) refl

pub list_all-requires : goal.list_all-requires
list_all-requires c = (sound-ready c.args.self.partner _ (search rules) c.in_ok-check.ensures).0

pub returns : goal.returns
unfolding edges_answer
returns c = rw (← c.in_ok-check.ensures, c.list_all.ensures) refl
