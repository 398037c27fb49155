-- `none_or` meets its contract: each way out is a case of the definition. Assumes nothing.
use Rattle.partners.proofs.Laws.{none-own, none-there}
use Rattle.partners.proofs.none_or.Goals as goal

pub returns-then-w-v : goal.returns-then-w-v
returns-then-w-v c = none-own _ _ _ c.at-w.ensures c.if-w-v.true

pub returns : goal.returns
returns c = none-there _ _ _ c.at-w.ensures c.if-w-v.false
