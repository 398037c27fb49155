-- The conditions of a simple graph and of a pairing as tests that compute: what passes them has them. Assumes nothing.
use mathlib.Core.Path.{◌≡◌, refl}
use mathlib.Core.Logic.{◌↔◌}
use mathlib.Core.Bool.{Bool, true, false, not, ◌&&◌}
use mathlib.Core.List.{List, [], ◌∷◌}
use Prim.Native.Nat.{ℕ, ◌<◌}
use lib.Dec.{eqb, ltb}
use Rattle.graphs.specs.Count.{all}
use Rattle.graphs.specs.Graph.{Graph, Simple, joined, has}
use Rattle.graphs.specs.Pairing.{Pairing, paired}
use Rattle.graphs.proofs.Count.{clash, tests, all-at}
use Rattle.graphs.proofs.Graph.{has-cases}

-- if a, then b
abbrev pub imp : Bool → Bool → Bool
imp true b = b
imp false b = true

pub imp-iff : (a b : Bool) → (imp a b ≡ true) ↔ (a ≡ true → b ≡ true)
imp-iff true b = (λ h _. h, λ h. h refl)
imp-iff false b = (λ h p. clash false p refl, λ h. refl)

-- each entry of a row passes
unfoldable pub all_in : List ℕ → (ℕ → Bool) → Bool
all_in [] P = true
all_in (x ∷ xs) P = P x && all_in xs P

pub all_in-at : (xs : List ℕ) (P : ℕ → Bool) → all_in xs P ≡ true → (x : ℕ) → has xs x ≡ true → P x ≡ true
unfolding all_in has
all_in-at [] P h x k = clash false k refl
all_in-at (y ∷ ys) P h x k =
    let a : (P y ≡ true) × (all_in ys P ≡ true) = simp tests at h in
    has-cases y ys x k (λ e. rw e a.0) (λ m. all_in-at ys P a.1 x m)

-- no loop, and each neighbour is a route whose row has this one
unfoldable pub simple_test : Graph → Bool
simple_test g = all g.order (λ v. not (joined g v v) && all_in (g.row v) (λ w. ltb w g.order && joined g w v))

pub simple : (g : Graph) → simple_test g ≡ true → Simple g
unfolding simple_test
simple g h =
    let entry_test : ℕ → ℕ → Bool = λ v w. ltb w g.order && joined g w v in
    let at : (v : ℕ) → v < g.order → (joined g v v ≡ false) × (all_in (g.row v) (entry_test v) ≡ true)
    = λ v l. simp tests at (all-at g.order (λ v. not (joined g v v) && all_in (g.row v) (entry_test v)) h v l) in
    let entry : (v w : ℕ) → v < g.order → joined g v w ≡ true → (w < g.order) × (joined g w v ≡ true)
    = λ v w l j. simp tests at (all_in-at (g.row v) (entry_test v) (at v l).1 w j) in
    record { below = λ v w l j. (entry v w l j).0; both_ways = λ v w l j. (entry v w l j).1; no_loop = λ v l. (at v l).0 }

-- each partner is a neighbour and names the route back
unfoldable pub pairing_test : Graph → (ℕ → ℕ) → Bool
pairing_test g mate = all g.order (λ v. imp (paired g mate v) (joined g v (mate v) && eqb (mate (mate v)) v))

pub pairing : (g : Graph) (mate : ℕ → ℕ) → pairing_test g mate ≡ true → Pairing g mate
unfolding pairing_test
pairing g mate h =
    let at : (v : ℕ) → v < g.order → mate v < g.order → (joined g v (mate v) ≡ true) × (mate (mate v) ≡ v)
    = λ v l. simp (tests, imp-iff) at (all-at g.order (λ v. imp (paired g mate v) (joined g v (mate v) && eqb (mate (mate v)) v)) h v l) in
    record { edge = λ v l k. (at v l k).0; back = λ v l k. (at v l k).1 }
