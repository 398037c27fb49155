-- The forest of a search: what holds of groups, bases, parents, depths, roots and labels, whatever holds them. A set of routes is the function that counts
-- each of them (`Sets`), so that `near`, "but for its base, a group's routes are paired among themselves", is one equation of sums. Assumes nothing.
use mathlib.Core.Path.{◌≡◌, sym, ap, ◌∙◌, subst}
use mathlib.Core.Logic.{◌≢◌, ◌⊎◌}
use Prim.Native.Nat.{ℕ, ◌+◌, ◌≤◌, ◌<◌}
use native.Mathlib.Omega.{arith}
use Rattle.graphs.proofs.Sets.{is, is-self, is-other, is_pos, Is, same, other, is?}
use Rattle.trees.proofs.Forest.Inside.{Pairing}

-- an inner route i
pub record Inner (Adj : ℕ → ℕ → Type 0) (m t base par rk root lab : ℕ → ℕ) (i : ℕ) : Type 0 where
  -- its parent is outer, and a neighbour
  pub parent : lab (par i) ≡ 2
  pub edge : Adj i (par i)
  -- its partner is outer, and the base of its group
  pub partner : lab (m i) ≡ 2
  pub based : base (t (m i)) ≡ m i
  -- it hangs deeper than its parent's group, and its partner's group deeper than it
  pub above : rk (t (par i)) < rk i
  pub below : rk i < rk (t (m i))
  -- all three are in one tree
  pub root-above : root (t (par i)) ≡ root i
  pub root_below : root i ≡ root (t (m i))

-- n routes and their partners m. Groups have numbers below B: each route is a group of one, and S c is the set of the group c's routes, whether or not c has
-- gone into a ring since; t v is the group that v is in now, base a group's base, par an inner route's parent, rk how deep a group hangs, root the root of
-- its tree, lab 0 for a route not reached, 1 for an inner one, 2 for an outer one
pub record Forest (Adj : ℕ → ℕ → Type 0) (n : ℕ) (m : ℕ → ℕ) (B : ℕ) (S : ℕ → ℕ → ℕ) (t base par rk root lab : ℕ → ℕ) : Type 0 where
  -- partners are neighbours, and routes
  pub pairing : Pairing Adj m
  pub inside : (v : ℕ) → v < n → m v < n
  -- the first n groups are the routes
  pub fresh : n ≤ B
  -- only a route has a label
  pub range : (v : ℕ) → 0 < lab v → v < n
  -- a route is in a group
  pub used : (v : ℕ) → v < n → t v < B
  -- a route's own group has it alone
  pub leaf : (v : ℕ) → v < n → (y : ℕ) → S v y ≡ is v y
  -- the group that v is in now has the routes that are in it now
  pub own : (v : ℕ) → v < n → (y : ℕ) → S (t v) y ≡ is (t v) (t y)
  -- its base is one of them
  pub home-range : (v : ℕ) → v < n → base (t v) < n
  pub home : (v : ℕ) → v < n → t (base (t v)) ≡ t v
  -- but for the base, they are paired among themselves
  pub near : (v : ℕ) → v < n → (y : ℕ) → is (t v) (t (m y)) + is (base (t v)) y ≡ is (t v) (t y) + is (base (t v)) (m y)
  -- a route that is not outer is alone in its group
  pub single : (v : ℕ) → v < n → lab v ≢ 2 → t v ≡ v
  -- a route with no partner is outer, and the base of its group
  pub free : (v : ℕ) → v < n → m v ≡ v → (base (t v) ≡ v) × (lab v ≡ 2)
  -- partners are reached together
  pub apart : (v : ℕ) → v < n → lab v ≡ 0 → lab (m v) ≡ 0
  -- the base of an outer route's group has no partner, or an inner one
  pub up : (v : ℕ) → lab v ≡ 2 → (m (base (t v)) ≡ base (t v)) ⊎ (lab (m (base (t v))) ≡ 1)
  -- where it has none, it is the root
  pub top : (v : ℕ) → lab v ≡ 2 → m (base (t v)) ≡ base (t v) → (root (t v) ≡ base (t v)) × (rk (t v) ≡ 0)
  -- every inner route hangs between its parent and its partner
  pub inner : (i : ℕ) → lab i ≡ 1 → Inner Adj m t base par rk root lab i

-- a partner's partner
pub is-partner : (m : ℕ → ℕ) → ((y : ℕ) → m (m y) ≡ y) → (b y : ℕ) → is (m b) y ≡ is b (m y)
is-partner m back b y = go (is? (m b) y)
  where
    go : Is (m b) y → is (m b) y ≡ is b (m y)
    go (same e i) = i ∙ sym (subst (λ (z : ℕ). is b z ≡ 1) (sym (back b) ∙ ap m e) (is-self b))
    go (other h i) = i ∙ sym (is-other (λ e. h (ap m e ∙ back y)))

module _ {Adj : ℕ → ℕ → Type 0} {n : ℕ} {m : ℕ → ℕ} {B : ℕ} {S : ℕ → ℕ → ℕ} {t base par rk root lab : ℕ → ℕ}
    (F : Forest Adj n m B S t base par rk root lab) where
  pub back : (y : ℕ) → m (m y) ≡ y
  back = F.pairing.back

  pub outer-in : {v : ℕ} → lab v ≡ 2 → v < n
  outer-in {v} o = F.range v (omega arith)

  pub inner-in : {v : ℕ} → lab v ≡ 1 → v < n
  inner-in {v} o = F.range v (omega arith)

  pub inner-alone : {i : ℕ} → lab i ≡ 1 → t i ≡ i
  inner-alone {i} o = F.single i (inner-in o) (omega arith)

  -- a group of one route, by the routes' groups
  pub inner-set : {i : ℕ} → lab i ≡ 1 → (y : ℕ) → is i (t y) ≡ is i y
  inner-set {i} o y =
      let e = inner-alone o in
      subst (λ (z : ℕ). is z (t y) ≡ S z y) e (sym (F.own i (inner-in o) y)) ∙ F.leaf i (inner-in o) y

  -- the same for any route that is not outer
  pub plain-set : {i : ℕ} → i < n → lab i ≢ 2 → (y : ℕ) → is i (t y) ≡ is i y
  plain-set {i} r o y =
      subst (λ (z : ℕ). is z (t y) ≡ S z y) (F.single i r o) (sym (F.own i r y)) ∙ F.leaf i r y

  pub plain : {i : ℕ} → i < n → lab i ≢ 2 → (y : ℕ) → t y ≡ i → y ≡ i
  plain {i} r o y e = sym (is_pos i y (omega (arith, plain-set r o y, ap (is i) e, is-self i)))

  -- the base of v's group, and its partner
  abbrev pub bs : ℕ → ℕ
  bs v = base (t v)

  abbrev pub mt : ℕ → ℕ
  mt v = m (base (t v))

  -- what a step from v goes by: the partner of v's base has v's base for its partner
  pub mt-group : {v : ℕ} → lab v ≡ 2 → t (m (mt v)) ≡ t v
  mt-group {v} o = ap t (back (bs v)) ∙ F.home v (outer-in o)

  pub holds : {v : ℕ} → lab v ≡ 2 → S (t v) v ≡ 1
  holds {v} o = F.own v (outer-in o) v ∙ is-self (t v)

  -- a group holds its base, which is joined to its partner
  pub holds-base : {v : ℕ} → lab v ≡ 2 → S (t v) (bs v) ≡ 1
  holds-base {v} o = F.own v (outer-in o) (bs v) ∙ ap (is (t v)) (F.home v (outer-in o)) ∙ is-self (t v)

  pub holds-inner : {i : ℕ} → lab i ≡ 1 → S i i ≡ 1
  holds-inner {i} o = F.leaf i (inner-in o) i ∙ is-self i

  pub matched : {v : ℕ} → lab v ≡ 2 → lab (mt v) ≡ 1 → Adj (bs v) (mt v)
  matched {v} o i = F.pairing.real (bs v) (λ e. omega (arith, ap lab e, (F.free (bs v) (F.home-range v (outer-in o)) e).1, i))
