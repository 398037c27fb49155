use mathlib.Core.Path.{◌≡◌}
use lib.ListN.{length}
use Rattle.graphs.specs.Parts.{merge}
use Rattle.parts.proofs.Swept.{swept}
use Rattle.parts.proofs.merge_names.Given as goal

abbrev pub invariant-loop-name : goal.invariant-loop-name
invariant-loop-name l = (length l.c ≡ length l.initial.c) × (l.c ≡ swept (λ k x. merge l.a l.b x) l.name-index l.initial.c)
