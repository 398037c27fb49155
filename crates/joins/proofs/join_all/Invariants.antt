use mathlib.Core.Path.{◌≡◌}
use Rattle.mates.specs.Partners.{count_of, after}
use Rattle.joins.proofs.join_all.Given as goal

abbrev pub invariant-loop-k : goal.invariant-loop-k
invariant-loop-k l = (l.t ≡ after l.k l.path l.initial.t) × (l.n ≡ count_of l.t)
