-- Within a path, what is read at a position is the id there. Assumes nothing.
use Prim.Native.Nat.{ℕ, ◌+◌, ◌*◌, ◌/◌, ◌<◌}
use mathlib.Core.Path.{◌≡◌}
use mathlib.Core.List.{List}
use native.Mathlib.Omega.{arith}
use lib.ListN.{length, get_or}
use Rattle.limits.specs.Limits.{none}
use Rattle.mates.specs.Partners.{id_at}
use Rattle.mates.proofs.Sound.{same-default}

-- the id at a position
pub id-read : (path : List ℕ) (k : ℕ) → k < length path → get_or path k 0 ≡ id_at path k
id-read path k l = same-default path k 0 none l

-- the two ids of a pair
pub pair-read : (path : List ℕ) (k : ℕ) → k < length path / 2
    → (get_or path (2 * k) 0 ≡ id_at path (2 * k)) × (get_or path (2 * k + 1) 0 ≡ id_at path (2 * k + 1))
pair-read path k l = (id-read path (2 * k) (omega arith), id-read path (2 * k + 1) (omega arith))
