-- `surplus_call` meets its contract. Assumes nothing.
use Rattle.measuring.proofs.Numbers.{surplus-unanswered, surplus-answered}
use Rattle.measuring.proofs.surplus_call.Goals as goal

pub returns-then-answer-ne32 : goal.returns-then-answer-ne32
returns-then-answer-ne32 c = surplus-unanswered _ _ _ c.if-answer-ne32.true

pub returns : goal.returns
returns c = let h = c.surplus_told-surplus.ensures in surplus-answered _ _ _ c.if-answer-ne32.false _ _ _ _ h.0 h.1 c.put_told.ensures c.put_long.ensures
