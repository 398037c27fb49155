use mathlib.Core.Path.{◌≡◌}
use Prim.Native.Nat.{◌+◌, ◌*◌}
use lib.Dec.{eqb, leb}
use Rattle.limits.specs.Limits.{routes}
use Rattle.graphs.specs.Count.{least}
use Rattle.mates.specs.Partners.{id_at}
use Rattle.paths.proofs.path_refusal.Given as goal

abbrev pub invariant-loop-position : goal.invariant-loop-position
invariant-loop-position l = least l.position (λ j. leb routes (id_at l.path j)) ≡ l.position

abbrev pub invariant-loop-k : goal.invariant-loop-k
invariant-loop-k l = least l.k (λ j. eqb (id_at l.path (2 * j)) (id_at l.path (2 * j + 1))) ≡ l.k
