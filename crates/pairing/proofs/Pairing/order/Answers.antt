-- `order` meets its contract: the kept count of a pairing that is not refused is right. Assumes nothing.
use mathlib.Core.Path.{◌∙◌}
use Rattle.std.proofs.Common.{rules}
use Rattle.pairing.specs.Answers.{order_answer}
use Rattle.pairing.proofs.Steps.{order-is}
use Rattle.pairing.proofs.Pairing.order.Goals as goal

pub returns : goal.returns
unfolding order_answer
returns c = c.and.ensures ∙ order-is c.args.self.partner _ (search rules) _ c.check.ensures
