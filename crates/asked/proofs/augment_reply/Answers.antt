-- `augment_reply` meets its contract: what was done in place is what would be handed on. Assumes nothing.
use mathlib.Core.Path.{ap, ◌∙◌}
use Rattle.std.proofs.Common.{rules}
use Rattle.asked.specs.Replies.{next_reply}
use Rattle.asked.proofs.Asked.{handed-is}
use Rattle.asked.proofs.augment_reply.Goals as goal

pub returns : goal.returns
returns c = c.answer.ensures ∙ handed-is (λ x y h. search rules) _ _ _ c.map.ensures.cases ∙ ap next_reply c.augment_in-outcome.ensures
