-- `improve_call` meets its contract. Assumes nothing.
use mathlib.Core.Path.{◌∙◌}
use Rattle.limits.proofs.Replies.{told-is}
use Rattle.verdicts.specs.Verdict.{refused_as}
use Rattle.improving.proofs.Numbers.{improve-unanswered, improve-answered, verdict-of, as-bit}
use Rattle.improving.proofs.improve_call.Goals as goal

pub returns-then-answer-ne56 : goal.returns-then-answer-ne56
returns-then-answer-ne56 c = improve-unanswered _ _ _ _ _ c.if-answer-ne56.true

pub returns : goal.returns
returns c =
    let made = verdict-of _ _ _ _ _ _ _ _ _ c.map.ensures.cases c.map.ensures.variant c.improve-improved.ensures _ c.unwrap_or-r.ensures in
    let finished = c.from.ensures ∙ as-bit _ in
    improve-answered _ _ _ _ _ c.if-answer-ne56.false _ _ _ _ _ _ _ _ _ _ made (told-is refused_as _ _ c.tell-told.ensures) c.put_told.ensures (rw finished at c.put_more.ensures)
