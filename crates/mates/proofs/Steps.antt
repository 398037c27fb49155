-- What the proofs of the functions cite: the partner that was read, and the count, part of the way. Assumes nothing.
use Prim.Native.Nat.{ℕ, ◌+◌, ◌*◌, ◌≤◌, ◌<◌}
use mathlib.Core.Path.{◌≡◌, refl}
use mathlib.Core.Bool.{Bool, true, false}
use mathlib.Core.List.{List}
use native.Mathlib.Omega.{arith}
use lib.ListN.{set}
use borrow.Author.Tests.{lt-ltb, le-ltb}
use Rattle.limits.specs.Limits.{routes, none}
use Rattle.graphs.specs.Count.{bit, count}
use Rattle.graphs.proofs.Count.{count-le, count-step}
use Rattle.mates.specs.Partners.{mate_of, is_paired, freed}

-- ---- freeing an id, whose partner m was read

module _ (ps : List ℕ) (i m : ℕ) (e : m ≡ mate_of ps i) where
  pub freed-no : routes ≤ m → (ps ≡ freed ps i) × (0 ≡ 2 * bit (is_paired ps i))
  unfolding freed
  freed-no h = rw (← e, le-ltb m routes h) (refl, refl)

  pub freed-yes : m < routes → (set (set ps m none) i none ≡ freed ps i) × (2 ≡ 2 * bit (is_paired ps i))
  unfolding freed
  freed-yes h = rw (← e, lt-ltb m routes h) (refl, refl)

-- ---- a loop over the ids, part of the way

bit-most : (b : Bool) → bit b ≤ 1
bit-most true = omega arith
bit-most false = omega arith

-- n of the ids below i pass, and r is 1 where i does
module _ (P : ℕ → Bool) (i n r : ℕ) (e : n ≡ count i P) (f : r ≡ bit (P i)) where
  pub counted_next : n + r ≡ count (i + 1) P
  counted_next = omega (arith, count-step P i)

  pub counted-fits : n + r ≤ i + 1
  counted-fits = omega (arith, count-le i P, bit-most (P i))
