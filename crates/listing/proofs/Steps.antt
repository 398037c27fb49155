-- What the proof of `list_all` cites: which ids are lower ones, where the partner m of id i was read. Assumes nothing.
use Prim.Native.Nat.{ℕ, ◌≤◌, ◌<◌}
use mathlib.Core.Path.{◌≡◌, refl}
use mathlib.Core.Bool.{true, false}
use mathlib.Core.List.{List}
use lib.Dec.{ltb}
use borrow.Author.Tests.{lt-ltb, le-ltb}
use Rattle.limits.specs.Limits.{routes}
use Rattle.graphs.proofs.Count.{and-false}
use Rattle.mates.specs.Partners.{mate_of, is_lower}

module _ (ps : List ℕ) (i m : ℕ) (e : m ≡ mate_of ps i) where
  pub lower-yes : i < m → m < routes → is_lower ps i ≡ true
  lower-yes h l = rw (← e, lt-ltb m routes l, lt-ltb i m h) refl

  pub lower-unpaired : routes ≤ m → is_lower ps i ≡ false
  lower-unpaired h = rw (← e, le-ltb m routes h) refl

  pub lower-upper : m ≤ i → is_lower ps i ≡ false
  lower-upper h = rw (← e, le-ltb i m h) (and-false (ltb m routes))
