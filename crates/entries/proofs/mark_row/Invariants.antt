use mathlib.Core.Path.{◌≡◌}
use lib.ListN.{length}
use Rattle.words.specs.Words.{numbers, over}
use Rattle.marks.specs.Marks.{mark}
use Rattle.entries.proofs.mark_row.Given as goal

abbrev pub invariant-loop-w : goal.invariant-loop-w
invariant-loop-w l =
    over (λ k w u. mark u l.v w) l.t (length l.yielded) (numbers l.w-iterator.rest.now)
    ≡ over (λ k w u. mark u l.v w) l.initial.t 0 (numbers l.row)
