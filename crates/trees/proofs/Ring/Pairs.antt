-- A list of pairs: how often it names a route, and that its pairs are edges. Assumes nothing.
use mathlib.Core.Path.{◌≡◌}
use Prim.Native.Nat.{ℕ, ◌+◌}
use native.Mathlib.Omega.{arith}
use mathlib.Core.List.{List, [], ◌∷◌, ◌++◌}
use Rattle.graphs.proofs.Sets.{is}

-- how often the pairs name a route
abbrev pub occ : List (ℕ × ℕ) → ℕ → ℕ
occ [] y = 0
occ (p ∷ ps) y = is p.0 y + is p.1 y + occ ps y

pub occ-append : (ps qs : List (ℕ × ℕ)) (y : ℕ) → occ (ps ++ qs) y ≡ occ ps y + occ qs y
occ-append [] qs y = omega arith
occ-append (p ∷ ps) qs y = omega (arith, occ-append ps qs y)

module _ (Adj : ℕ → ℕ → Type 0) where
  -- each pair is an edge
  abbrev pub Edges : List (ℕ × ℕ) → Type 0
  Edges [] = Unit {0}
  Edges (p ∷ ps) = Adj p.0 p.1 × Edges ps

  pub edges-append : (ps qs : List (ℕ × ℕ)) → Edges ps → Edges qs → Edges (ps ++ qs)
  edges-append [] qs e f = f
  edges-append (p ∷ ps) qs e f = (e.0, edges-append ps qs e.1 f)
