use mathlib.Core.Path.{◌≡◌}
use mathlib.Core.Bool.{not}
use Rattle.graphs.specs.Count.{least}
use Rattle.mates.specs.Partners.{fits}
use Rattle.checks.proofs.pairing_refusal.Given as goal

abbrev pub invariant-loop-id : goal.invariant-loop-id
invariant-loop-id l = least l.id (λ j. not (fits l.t j)) ≡ l.id
