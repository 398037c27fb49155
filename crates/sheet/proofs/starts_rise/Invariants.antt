use mathlib.Core.Path.{◌≡◌}
use Prim.Native.Nat.{◌+◌}
use mathlib.Core.Bool.{true}
use lib.Dec.{leb}
use Rattle.graphs.specs.Count.{all}
use Rattle.words.specs.Words.{word}
use Rattle.sheet.proofs.starts_rise.Given as goal

abbrev pub invariant-loop-k : goal.invariant-loop-k
invariant-loop-k l = all l.k (λ j. leb (word l.s (j + 1)) (word l.s (j + 1 + 1))) ≡ true
