-- The lines of the routes below v are put.
use mathlib.Core.Path.{◌≡◌}
use Rattle.causes.specs.Given.{mate_of}
use Rattle.text.specs.Put.{followed_by}
use Rattle.lines.specs.Lines.{each, pair_line}
use Rattle.lines.proofs.put_pairs.Given as goal

abbrev pub invariant-loop-v : goal.invariant-loop-v
invariant-loop-v l = l.text ≡ followed_by l.initial.text (each (λ u. pair_line l.n u (mate_of l.pairing u)) l.v)
