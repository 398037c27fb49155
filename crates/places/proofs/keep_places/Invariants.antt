use mathlib.Core.Path.{◌≡◌}
use Rattle.words.specs.Words.{numbers, over}
use Rattle.places.specs.Places.{keep}
use Rattle.places.proofs.keep_places.Given as goal

abbrev pub invariant-loop-i : goal.invariant-loop-i
invariant-loop-i l =
    over (λ k w u. keep u w k) l.t l.i-iterator.count (numbers l.i-iterator.iter.rest.now) ≡ over (λ k w u. keep u w k) l.initial.t 0 (numbers l.row)
