use mathlib.Core.Path.{◌≡◌}
use Rattle.mates.specs.Partners.{is_paired}
use Rattle.graphs.specs.Count.{count}
use Rattle.mates.proofs.paired_ids.Given as goal

abbrev pub invariant-loop-i : goal.invariant-loop-i
invariant-loop-i l = l.n ≡ count l.i (is_paired l.t)
