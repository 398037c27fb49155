-- The numbers before v are written, and then stands what was there.
use Prim.Native.Nat.{◌*◌}
use mathlib.Core.Path.{◌≡◌}
use mathlib.Core.List.{◌++◌}
use lib.ListN.{length, drop}
use Rattle.limits.specs.Limits.{routes}
use Rattle.theory.specs.Search.Tables.{cell}
use Rattle.words.specs.Words.{bytes_to}
use Rattle.buffers.proofs.save.Given as goal

abbrev pub invariant-loop-v : goal.invariant-loop-v
invariant-loop-v l = (length l.pairing ≡ length l.initial.pairing) × (l.pairing ≡ bytes_to (cell routes l.p) l.v ++ drop (4 * l.v) l.initial.pairing)
