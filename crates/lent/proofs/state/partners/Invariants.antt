use mathlib.Core.Path.{◌≡◌}
use lib.ListN.{length}
use Rattle.limits.specs.Limits.{routes}
use Rattle.words.specs.Words.{word}
use Rattle.lent.proofs.Lists.{Filled}
use Rattle.lent.proofs.state.partners.Given as goal

abbrev pub invariant-loop-k : goal.invariant-loop-k
invariant-loop-k l = (length l.x-items ≡ routes) × Filled (word l.s) l.k l.x-items
