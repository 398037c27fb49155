-- What the exported calls say together. Assumes nothing.
use Prim.Native.Nat.{ℕ}
use mathlib.Core.Path.{◌≡◌, ap, ◌∙◌}
use mathlib.Core.List.{List}
use lib.ListN.{length}
use Rattle.verdicts.specs.Verdict.{Verdict, told_of}
use Rattle.improve.specs.Choice.{finished_of}
use Rattle.checking.specs.Calls.{CheckCall}
use Rattle.improving.specs.ImproveCall.{ImproveCall}

-- ---- every finished result passes the exported check

pub finished-passes : (s p p' w w' : List ℕ) (b : ℕ) (before after : List ℕ) (r : ℕ) → ImproveCall s p p' w w' b before after r → length before ≡ 56 → r ≡ 0 → finished_of s p w b ≡ 1
    → (x x' : List ℕ) (t : ℕ) → CheckCall s p' w' x x' t → length x ≡ 24 → t ≡ 0
finished-passes s p p' w w' b before after r f e z h x x' t g k =
    (g.answered k).number ∙ ap (λ (v : Verdict). (told_of v).no) ((f.means e z).shown h)
