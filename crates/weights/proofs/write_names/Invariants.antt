use Prim.Native.Nat.{◌*◌}
use mathlib.Core.Path.{◌≡◌}
use mathlib.Core.Bool.{cond}
use mathlib.Core.List.{◌++◌}
use lib.ListN.{length, get_or, drop}
use Rattle.limits.specs.Limits.{none}
use Rattle.words.specs.Words.{bytes_to}
use Rattle.causes.specs.Given.{set_of}
use Rattle.weights.proofs.write_names.Given as goal

abbrev pub invariant-loop-v : goal.invariant-loop-v
invariant-loop-v l =
    (length l.buffer ≡ length l.initial.buffer)
    × (l.buffer ≡ bytes_to (λ u. cond (set_of l.cut.set.now u) none (get_or l.cut.names.now u 0)) l.v ++ drop (4 * l.v) l.initial.buffer)
