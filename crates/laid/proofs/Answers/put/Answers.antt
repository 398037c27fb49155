-- `put` meets its contract: there is room for the number, or there is none. Assumes nothing.
use mathlib.Core.Path.{refl}
use Rattle.laid.proofs.Stretches.{one-room, one-full}
use Rattle.laid.proofs.Answers.put.Goals as goal

pub returns-then-self : goal.returns-then-self
returns-then-self c = record { same = refl; all = one-room _ _ _ c.if-self.true }

pub returns-else-self : goal.returns-else-self
returns-else-self c = record { same = refl; all = one-full _ _ _ c.if-self.false }
