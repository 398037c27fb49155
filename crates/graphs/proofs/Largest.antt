-- The largest size is one number, and a set whose surplus is met shows that a pairing has it. Assumes nothing.
use mathlib.Core.Path.{◌≡◌, refl}
use Prim.Native.Nat.{ℕ}
use mathlib.Core.Bool.{Bool}
use native.Mathlib.Omega.{arith}
use lib.IntN.{pos}
use Rattle.graphs.specs.Graph.{Graph, Simple}
use Rattle.graphs.specs.Surplus.{surplus}
use Rattle.graphs.specs.Pairing.{Pairing, unpaired, pairs}
use Rattle.graphs.specs.Largest.{Largest}
use Rattle.graphs.proofs.Bound.{no-more-pairs}

-- there is at most one
pub largest-one : {g : Graph} {a b : ℕ} → Largest g a → Largest g b → a ≡ b
largest-one x y = omega (arith, x.reached, y.reached, x.most y.mate y.pairing, y.most x.mate x.pairing)

-- a pairing that leaves as many routes unpaired as some set's surplus is of the largest size
pub largest-tight : (g : Graph) → Simple g → (mate : ℕ → ℕ) → Pairing g mate → (A : ℕ → Bool) → surplus g A ≡ pos (unpaired g mate)
    → Largest g (pairs g mate)
largest-tight g s mate p A e =
    record { mate = mate; pairing = p; reached = refl; most = no-more-pairs g s mate p A e }
