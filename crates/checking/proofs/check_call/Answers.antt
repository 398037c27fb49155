-- `check_call` meets its contract. Assumes nothing.
use Rattle.limits.proofs.Replies.{told-is}
use Rattle.verdicts.specs.Verdict.{refused_as}
use Rattle.checking.proofs.Numbers.{check-unanswered, check-answered}
use Rattle.checking.proofs.check_call.Goals as goal

pub returns-then-answer-ne24 : goal.returns-then-answer-ne24
returns-then-answer-ne24 c = check-unanswered _ _ _ _ c.if-answer-ne24.true

pub returns : goal.returns
returns c = check-answered _ _ _ _ c.if-answer-ne24.false _ _ _ c.check.ensures (told-is refused_as _ _ c.tell-told.ensures) c.put_told.ensures
