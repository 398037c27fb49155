-- Rings as tables hold them: each group stores the ring that it has gone into, the next group there and the edge to it. Assumes nothing.
use mathlib.Core.Path.{◌≡◌, refl, sym, subst}
use mathlib.Core.Logic.{◌≢◌}
use Prim.Native.Nat.{ℕ, ◌+◌, ◌≤◌, ◌<◌}
use native.Mathlib.Omega.{arith}
use mathlib.Core.List.{List}
use lib.ListN.{length}
use Rattle.graphs.proofs.Sets.{is, cnt, sum}
use Rattle.trees.proofs.Ring.Chain.{Chain}

-- from the group c by rings up to the group g
pub data Above (B : ℕ) (up : ℕ → ℕ) : ℕ → ℕ → Type 0 where
  here : {c : ℕ} → Above B up c c
  step : {c g : ℕ} → c < up c → up c < B → Above B up (up c) g → Above B up c g

pub above-le : {B : ℕ} {up : ℕ → ℕ} {c g : ℕ} → Above B up c g → c ≤ g
above-le here = omega arith
above-le (step i j a) = omega (arith, above-le a)

pub above-next : {B : ℕ} {up : ℕ → ℕ} {c g : ℕ} → Above B up c g → c ≢ g → (c < up c) × (up c < B) × Above B up (up c) g
above-next here h = absurd (h refl)
above-next (step i j a) h = (i, j, a)

-- the ways up from a route are kept by a change of `up` at groups that are in no ring yet
pub above_kept : {B B' : ℕ} {up up' : ℕ → ℕ} {c g : ℕ} → B ≤ B' → ((d : ℕ) → up d < B → up' d ≡ up d) → Above B up c g → Above B' up' c g
above_kept l h here = here
above_kept {B' = B'} {up' = up'} l h (step {c = c} {g = g} i j a) =
    let e = h c j in
    step {c = c} {g = g} (omega arith) (omega arith) (subst (λ (z : ℕ). Above B' up' z g) (sym e) (above_kept l h a))

-- d is next to c in a ring, by the edge that c stores
pub record Step (Adj : ℕ → ℕ → Type 0) (S : ℕ → ℕ → ℕ) (nxt ex ey : ℕ → ℕ) (c d : ℕ) : Type 0 where
  pub next : nxt c ≡ d
  -- the edge goes from a route of c to a route of d
  pub out : S c (ex c) ≡ 1
  pub into : S d (ey c) ≡ 1
  pub edge : Adj (ex c) (ey c)

module _ (Adj : ℕ → ℕ → Type 0) (n B : ℕ) (up nxt ex ey half : ℕ → ℕ) where
  -- the ring of c, from c on round
  pub record Around (S : ℕ → ℕ → ℕ) (c : ℕ) : Type 0 where
    pub rest : List ℕ
    -- each group stores the next, and the last of them c
    pub steps : Chain (Step Adj S nxt ex ey) c rest c
    -- the others are even in number
    pub even : length rest ≡ half (up c) + half (up c)
    -- the ring has c's routes and theirs
    pub all : (y : ℕ) → S (up c) y ≡ S c y + sum S rest y
    -- they have lower numbers than the ring, and have gone into it
    pub below : (d : ℕ) → 0 < cnt rest d → (d < up c) × (up d ≡ up c)

  -- the tables hold groups with numbers below B; those below n are the routes
  pub record Stored : Type 0 where
    -- the routes of a group, as a set
    pub S : ℕ → ℕ → ℕ
    -- a route is a group of one
    pub leaf : (v : ℕ) → v < n → (y : ℕ) → S v y ≡ is v y
    -- groups have routes
    pub inside : (c y : ℕ) → c < B → S c y ≡ 1 → y < n
    -- from a route of c one comes up to c
    pub chain : (c y : ℕ) → c < B → S c y ≡ 1 → Above B up y c
    -- a group that has gone into a ring is one of its groups
    pub around : (c : ℕ) → c < B → up c < B → Around S c
