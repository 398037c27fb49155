-- `augment_in` meets its contract: it is refused and leaves the same pairing, or `join_all` makes the pairs. Assumes nothing.
use mathlib.Core.Path.{refl, sym, ◌∙◌}
use Rattle.std.proofs.Common.{rules}
use Rattle.pairing.specs.Answers.{augment_answer}
use Rattle.pairing.proofs.Steps.{reply-is, path-ready}
use Rattle.pairing.proofs.Pairing.augment_in.Goals as goal

pub returns-in-Err : goal.returns-in-Err
unfolding augment_answer
returns-in-Err c = rw (← (sym c.in-Err.is ∙ reply-is c.and.ensures c.check.ensures c.path_refusal.ensures)) refl

pub join_all-self-requires : goal.join_all-self-requires
join_all-self-requires c =
    let e = sym c.in_default.is ∙ reply-is c.and.ensures c.check.ensures c.path_refusal.ensures in
    path-ready c.args.self.now.partner _ (search rules) _ e _ refl

pub returns : goal.returns
unfolding augment_answer
returns c =
    let e = sym c.in_default.is ∙ reply-is c.and.ensures c.check.ensures c.path_refusal.ensures in
    rw (← e, c.join_all-self.ensures.partners, c.join_all-self.ensures.counted) refl
