use mathlib.Core.Path.{◌≡◌}
use lib.ListN.{length, drop}
use Rattle.graphs.specs.Graph.{in_set}
use Rattle.graphs.specs.Parts.{link, link_row}
use Rattle.words.specs.Words.{numbers, over}
use Rattle.parts.proofs.join_row.Given as goal

abbrev pub invariant-loop-i : goal.invariant-loop-i
invariant-loop-i l =
    (length l.c ≡ length l.initial.c)
    × (over (λ k w t. link (in_set l.set) t l.v w) l.c l.i (drop l.i (numbers l.row)) ≡ link_row (in_set l.set) l.initial.c l.v (numbers l.row))
