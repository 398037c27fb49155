use mathlib.Core.Path.{◌≡◌}
use lib.ListN.{length}
use Rattle.parts.proofs.Swept.{swept}
use Rattle.parts.proofs.name_each.Given as goal

abbrev pub invariant-loop-i : goal.invariant-loop-i
invariant-loop-i l = (length l.c ≡ length l.initial.c) × (l.c ≡ swept (λ k x. k) l.i l.initial.c)
