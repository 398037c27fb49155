-- `parts_call` meets its contract. Assumes nothing.
use mathlib.Core.Path.{◌∙◌}
use Rattle.measuring.proofs.Numbers.{parts-unanswered, parts-answered}
use Rattle.measuring.proofs.parts_call.Goals as goal

pub returns-then-answer-ne40 : goal.returns-then-answer-ne40
returns-then-answer-ne40 c = parts-unanswered _ _ _ _ c.if-answer-ne40.true

pub returns : goal.returns
returns c =
    let h = c.parts_told.ensures in
    parts-answered _ _ _ _ c.if-answer-ne40.false _ _ _ _ _ _ _ h.0 (c.from.ensures ∙ h.1) (c.from-2.ensures ∙ h.2) h.3 c.put_told.ensures c.put_long.ensures c.put_long-2.ensures
