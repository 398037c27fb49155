-- `pair_in` meets its contract: it is refused and leaves the same pairing, or `join` makes the pair. Assumes nothing.
use mathlib.Core.Path.{refl, sym, ◌∙◌}
use Rattle.std.proofs.Common.{rules}
use Rattle.pairing.specs.Answers.{pair_answer}
use Rattle.pairing.proofs.Steps.{reply-is, pair-ready}
use Rattle.pairing.proofs.Pairing.pair_in.Goals as goal

pub returns-in-Err : goal.returns-in-Err
unfolding pair_answer
returns-in-Err c = rw (← (sym c.in-Err.is ∙ reply-is c.and.ensures c.check.ensures c.pair_refusal.ensures)) refl

pub join-self-requires : goal.join-self-requires
join-self-requires c =
    let e = sym c.in_default.is ∙ reply-is c.and.ensures c.check.ensures c.pair_refusal.ensures in
    pair-ready c.args.self.now.partner _ (search rules) _ e _ _ refl

pub returns : goal.returns
unfolding pair_answer
returns c =
    let e = sym c.in_default.is ∙ reply-is c.and.ensures c.check.ensures c.pair_refusal.ensures in
    rw (← e, c.join-self.ensures.partners, c.join-self.ensures.counted) refl
