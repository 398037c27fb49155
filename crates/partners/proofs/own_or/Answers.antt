-- `own_or` meets its contract: each way out is a case of the definition. Assumes nothing.
use Rattle.partners.proofs.Laws.{own-past, own-none, own-there}
use Rattle.partners.proofs.own_or.Goals as goal

pub returns-then-n-v : goal.returns-then-n-v
returns-then-n-v c = own-past _ _ _ c.if-n-v.true

pub returns-then-n-w : goal.returns-then-n-w
returns-then-n-w c = own-none _ _ _ _ c.if-n-v.false c.at-w.ensures c.if-n-w.true

pub returns : goal.returns
returns c = own-there _ _ _ _ c.if-n-v.false c.at-w.ensures c.if-n-w.false
