-- The marks before v are written, and then stands what was there.
use mathlib.Core.Path.{◌≡◌}
use mathlib.Core.List.{◌++◌, map}
use lib.ListN.{take, drop}
use Rattle.limits.specs.Limits.{routes}
use Rattle.graphs.specs.Parts.{run}
use Rattle.theory.specs.Search.Tables.{cell}
use Rattle.theory.specs.Search.Searched.{mark}
use Rattle.buffers.proofs.save_marks.Given as goal

abbrev pub invariant-loop-v : goal.invariant-loop-v
invariant-loop-v l = l.witness ≡ take l.v (map (λ u. mark (cell routes l.label u)) (run 0 l.n)) ++ drop l.v l.initial.witness
