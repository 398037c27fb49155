-- A walk up from an outer route: its group, the partner of that group's base, that route's parent's group, and so on. The groups of a walk are apart, hang
-- less and less deep, are of one tree, and pair their routes among themselves; so edges that pair the routes of two walks to the roots of two trees, anew,
-- leave a pairing, and two free routes fewer (`found-by`). Assumes nothing.
use mathlib.Core.Path.{◌≡◌, refl, sym, ap, ◌∙◌, subst}
use mathlib.Core.Logic.{◌≢◌, ◌⊎◌, inl, inr}
use Prim.Native.Nat.{ℕ, ◌+◌, ◌≤◌, ◌<◌}
use native.Mathlib.Omega.{arith}
use native.Mathlib.Nat.{eq-zero-or-pos}
use mathlib.Core.List.{List, [], ◌∷◌, ◌++◌}
use Rattle.graphs.proofs.Sets.{is, is-self, Is, same, other, is?, cnt, sum}
use Rattle.trees.proofs.Ring.Pairs.{occ, Edges}
use Rattle.trees.proofs.Forest.Inside.{Augmenting}
use Rattle.trees.proofs.Forest.Shape.{Inner, Forest, is-partner, back, outer-in, inner-in, inner-alone, inner-set, mt-group}

-- from the outer route v up to the outer route p, through the groups of L: v's group, its base's partner, that one's parent's group, .. , but p's
pub data Leg (m t base par lab : ℕ → ℕ) : ℕ → List ℕ → ℕ → Type 0 where
  done : {v : ℕ} → lab v ≡ 2 → Leg m t base par lab v [] v
  more : {v p : ℕ} {L : List ℕ} → lab v ≡ 2 → lab (m (base (t v))) ≡ 1 → Leg m t base par lab (par (m (base (t v)))) L p
      → Leg m t base par lab v (t v ∷ m (base (t v)) ∷ L) p

module _ {m t base par lab : ℕ → ℕ} where
  -- a walk has its first group, unless it has no step
  pub leg-head : {v p : ℕ} {L : List ℕ} → Leg m t base par lab v L p → (v ≡ p) ⊎ (0 < cnt L (t v))
  leg-head (done o) = inl refl
  leg-head {v = v} (more o i w) = inr (omega (arith, is-self (t v)))

  -- and an inner route
  pub leg-inner : {v p : ℕ} {L : List ℕ} → Leg m t base par lab v L p → (v ≡ p) ⊎ ((i : ℕ) × (lab i ≡ 1) × (0 < cnt L i))
  leg-inner (done o) = inl refl
  leg-inner {v = v} (more o i w) = inr (m (base (t v)), i, omega (arith, is-self (m (base (t v)))))

  -- a group of the walk is an outer route's, or it is an inner route
  pub leg-label : {v p : ℕ} {L : List ℕ} → Leg m t base par lab v L p → (d : ℕ) → 0 < cnt L d → ((z : ℕ) × (lab z ≡ 2) × (t z ≡ d)) ⊎ (lab d ≡ 1)
  leg-label (done o) d h = absurd (omega arith)
  leg-label {v = v} (more {L = L} o i w) d h = go (is? (t v) d) (is? (m (base (t v))) d) (λ k. leg-label w d k)
    where
      go : Is (t v) d → Is (m (base (t v))) d → (0 < cnt L d → ((z : ℕ) × (lab z ≡ 2) × (t z ≡ d)) ⊎ (lab d ≡ 1)) → ((z : ℕ) × (lab z ≡ 2) × (t z ≡ d)) ⊎ (lab d ≡ 1)
      go (same e a) j f = inl (v, o, e)
      go (other e a) (same e' b) f = inr (subst (λ (x : ℕ). lab x ≡ 1) e' i)
      go (other e a) (other e' b) f = f (omega arith)

module _ {Adj : ℕ → ℕ → Type 0} {n : ℕ} {m : ℕ → ℕ} {B : ℕ} {S : ℕ → ℕ → ℕ} {t base par rk root lab : ℕ → ℕ}
    (F : Forest Adj n m B S t base par rk root lab) where
  abbrev Walk : ℕ → List ℕ → ℕ → Type 0
  Walk = Leg m t base par lab

  pub leg-end : {v p : ℕ} {L : List ℕ} → Walk v L p → lab p ≡ 2
  leg-end (done o) = o
  leg-end (more o i w) = leg-end w

  -- one step more at the end
  pub leg-snoc : {v p : ℕ} {L : List ℕ} → Walk v L p → lab (m (base (t p))) ≡ 1 → Walk v (L ++ (t p ∷ m (base (t p)) ∷ [])) (par (m (base (t p))))
  leg-snoc {p = p} (done o) i = more o i (done (F.inner (m (base (t p))) i).parent)
  leg-snoc (more o j w) i = more o j (leg-snoc w i)

  -- the routes of the groups of L, by their groups
  pub leg-sum : {v p : ℕ} {L : List ℕ} → Walk v L p → (y : ℕ) → sum S L y ≡ cnt L (t y)
  leg-sum (done o) y = refl
  leg-sum {v = v} (more o i w) y = omega (arith, leg-sum w y, F.own v (outer-in F o) y, F.leaf (m (base (t v))) (inner-in F i) y, inner-set F i y)

  -- they are paired among themselves
  pub leg-closed : {v p : ℕ} {L : List ℕ} → Walk v L p → (y : ℕ) → cnt L (t (m y)) ≡ cnt L (t y)
  leg-closed (done o) y = refl
  leg-closed {v = v} (more o i w) y =
      omega (arith, leg-closed w y, F.near v (outer-in F o) y, inner-set F i y, inner-set F i (m y), is-partner m (back F) (base (t v)) y, is-partner m (back F) (base (t v)) (m y), ap (is (base (t v))) (back F y))

  -- the way goes up: p's group lies above all of L, and v's group is the lowest
  pub leg-rank : {v p : ℕ} {L : List ℕ} → Walk v L p → rk (t p) ≤ rk (t v)
  leg-rank (done o) = omega arith
  leg-rank {v = v} (more o i w) =
      let j = F.inner (m (base (t v))) i in omega (arith, leg-rank w, j.above, j.below, ap rk (mt-group F o))

  pub leg-between : {v p : ℕ} {L : List ℕ} → Walk v L p → (z : ℕ) → 0 < cnt L z → (rk (t p) < rk z) × (rk z ≤ rk (t v))
  leg-between (done o) z h = omega arith
  leg-between {v = v} {p = p} (more {L = L} o i w) z h = go (is? (t v) z) (is? (m (base (t v))) z) (λ c. leg-between w z c)
    where
      j : Inner Adj m t base par rk root lab (m (base (t v)))
      j = F.inner (m (base (t v))) i

      lower : rk (m (base (t v))) < rk (t v)
      lower = omega (arith, j.below, ap rk (mt-group F o))

      go : Is (t v) z → Is (m (base (t v))) z → (0 < cnt L z → (rk (t p) < rk z) × (rk z ≤ rk (t (par (m (base (t v))))))) → (rk (t p) < rk z) × (rk z ≤ rk (t v))
      go (same e a) d f = omega (arith, ap rk e, leg-rank w, j.above, lower)
      go (other e a) (same e' b) f = omega (arith, ap rk e', leg-rank w, j.above, lower)
      go (other e a) (other e' b) f = let r = f (omega arith) in omega (arith, r.0, r.1, j.above, lower)

  pub leg-once : {v p : ℕ} {L : List ℕ} → Walk v L p → (z : ℕ) → cnt L z ≤ 1
  leg-once (done o) z = omega arith
  leg-once {v = v} (more {L = L} o i w) z = go (is? (t v) z) (is? (m (base (t v))) z) (eq-zero-or-pos (cnt L z)) (leg-once w z)
    where
      j : Inner Adj m t base par rk root lab (m (base (t v)))
      j = F.inner (m (base (t v))) i

      lower : rk (m (base (t v))) < rk (t v)
      lower = omega (arith, j.below, ap rk (mt-group F o))

      go : Is (t v) z → Is (m (base (t v))) z → (cnt L z ≡ 0) ⊎ (0 < cnt L z) → cnt L z ≤ 1 → is (t v) z + (is (m (base (t v))) z + cnt L z) ≤ 1
      go (same e a) (same e' b) c d = omega (arith, ap rk e, ap rk e', lower)
      go (same e a) (other e' b) (inl c) d = omega arith
      go (other e a) (same e' b) (inl c) d = omega arith
      go (other e a) (other e' b) (inl c) d = omega arith
      go (same e a) (other e' b) (inr c) d = omega (arith, leg-between w z c, ap rk e, j.above, lower)
      go (other e a) (same e' b) (inr c) d = omega (arith, leg-between w z c, ap rk e', j.above, lower)
      go (other e a) (other e' b) (inr c) d = omega arith

  -- the groups of a way are groups of routes, as they are now
  pub leg-group : {v p : ℕ} {L : List ℕ} → Walk v L p → (z : ℕ) → 0 < cnt L z → (u : ℕ) × (u < n) × (t u ≡ z)
  leg-group (done o) z h = absurd (omega arith)
  leg-group {v = v} (more {L = L} o i w) z h = go (is? (t v) z) (is? (m (base (t v))) z) (λ c. leg-group w z c)
    where
      go : Is (t v) z → Is (m (base (t v))) z → (0 < cnt L z → (u : ℕ) × (u < n) × (t u ≡ z)) → (u : ℕ) × (u < n) × (t u ≡ z)
      go (same e a) d f = (v, outer-in F o, e)
      go (other e a) (same e' b) f = (m (base (t v)), inner-in F i, inner-alone F i ∙ e')
      go (other e a) (other e' b) f = f (omega arith)

  pub leg-root : {v p : ℕ} {L : List ℕ} → Walk v L p → root (t p) ≡ root (t v)
  leg-root (done o) = refl
  leg-root {v = v} (more o i w) = let j = F.inner (m (base (t v))) i in leg-root w ∙ j.root-above ∙ j.root_below ∙ ap root (mt-group F o)

  pub leg-tree : {v p : ℕ} {L : List ℕ} → Walk v L p → (z : ℕ) → 0 < cnt L z → root z ≡ root (t v)
  leg-tree (done o) z h = absurd (omega arith)
  leg-tree {v = v} (more {L = L} o i w) z h = go (is? (t v) z) (is? (m (base (t v))) z) (λ c. leg-tree w z c)
    where
      j : Inner Adj m t base par rk root lab (m (base (t v)))
      j = F.inner (m (base (t v))) i

      lower : root (m (base (t v))) ≡ root (t v)
      lower = j.root_below ∙ ap root (mt-group F o)

      go : Is (t v) z → Is (m (base (t v))) z → (0 < cnt L z → root z ≡ root (t (par (m (base (t v)))))) → root z ≡ root (t v)
      go (same e a) d f = ap root (sym e)
      go (other e a) (same e' b) f = ap root (sym e') ∙ lower
      go (other e a) (other e' b) f = f (omega arith) ∙ j.root-above ∙ lower

  -- no route of L is free
  pub leg-paired : {v p : ℕ} {L : List ℕ} → Walk v L p → (y : ℕ) → y < n → m y ≡ y → cnt L (t y) ≡ 0
  leg-paired (done o) y r e = refl
  leg-paired {v = v} (more {L = L} o i w) y r e = go (is? (t v) (t y)) (is? (m (base (t v))) y) (leg-paired w y r e)
    where
      f : (base (t y) ≡ y) × (lab y ≡ 2)
      f = F.free y r e

      go : Is (t v) (t y) → Is (m (base (t v))) y → cnt L (t y) ≡ 0 → is (t v) (t y) + (is (m (base (t v))) (t y) + cnt L (t y)) ≡ 0
      go (same g a) d c = absurd (omega (arith, ap lab (ap m (ap base g ∙ f.0) ∙ e), f.1, i))
      go (other g a) (same g' b) c = absurd (omega (arith, ap lab g', f.1, i))
      go (other g a) (other g' b) c = omega (arith, inner-set F i y)

  -- a walk up to the root: the base that it comes to is free
  pub record Rooted (v : ℕ) : Type 0 where
    pub list : List ℕ
    pub top : ℕ
    pub leg : Walk v list top
    pub free : m (base (t top)) ≡ base (t top)

  -- ---- a found edge

  -- the groups on the way to a free base, that base's group with them
  abbrev pub all : {v : ℕ} → Rooted v → ℕ → ℕ
  all r z = cnt r.list z + is (t r.top) z

  pub all-sum : {v : ℕ} (r : Rooted v) (y : ℕ) → all r (t y) ≡ sum S r.list y + S (t r.top) y
  all-sum r y = omega (arith, leg-sum r.leg y, F.own r.top (outer-in F (leg-end r.leg)) y)

  pub all_once : {v : ℕ} (r : Rooted v) (z : ℕ) → all r z ≤ 1
  all_once r z = go (is? (t r.top) z) (eq-zero-or-pos (cnt r.list z))
    where
      go : Is (t r.top) z → (cnt r.list z ≡ 0) ⊎ (0 < cnt r.list z) → all r z ≤ 1
      go (other e a) c = omega (arith, leg-once r.leg z)
      go (same e a) (inl c) = omega arith
      go (same e a) (inr c) = omega (arith, leg-between r.leg z c, ap rk e)

  pub all-tree : {v : ℕ} (r : Rooted v) (z : ℕ) → 0 < all r z → root z ≡ root (t v)
  all-tree {v} r z h = go (is? (t r.top) z)
    where
      go : Is (t r.top) z → root z ≡ root (t v)
      go (same e a) = ap root (sym e) ∙ leg-root r.leg
      go (other e a) = leg-tree r.leg z (omega arith)

  pub all_closed : {v : ℕ} (r : Rooted v) (y : ℕ) → all r (t (m y)) ≡ all r (t y)
  all_closed r y =
      omega (arith, leg-closed r.leg y, F.near r.top (outer-in F (leg-end r.leg)) y, is-partner m (back F) (base (t r.top)) y, ap (λ (z : ℕ). is z y) r.free)

  pub all-free : {v : ℕ} (r : Rooted v) (y : ℕ) → y < n → m y ≡ y → all r (t y) ≡ is (base (t r.top)) y
  all-free r y i e = go (is? (t r.top) (t y)) (is? (base (t r.top)) y)
    where
      c : cnt r.list (t y) ≡ 0
      c = leg-paired r.leg y i e

      go : Is (t r.top) (t y) → Is (base (t r.top)) y → all r (t y) ≡ is (base (t r.top)) y
      go (same g a) (same h b) = omega (arith, c)
      go (other g a) (other h b) = omega (arith, c)
      go (same g a) (other h b) = absurd (h (ap base g ∙ (F.free y i e).0))
      go (other g a) (same h b) = absurd (g (sym (F.home r.top (outer-in F (leg-end r.leg))) ∙ ap t h))

  both : {v w : ℕ} → root (t v) ≢ root (t w) → (a : Rooted v) (b : Rooted w) (z : ℕ) → all a z + all b z ≤ 1
  both ne a b z = go (eq-zero-or-pos (all a z)) (eq-zero-or-pos (all b z))
    where
      go : (all a z ≡ 0) ⊎ (0 < all a z) → (all b z ≡ 0) ⊎ (0 < all b z) → all a z + all b z ≤ 1
      go (inl p) q = omega (arith, all_once b z)
      go (inr p) (inl q) = omega (arith, all_once a z)
      go (inr p) (inr q) = absurd (ne (sym (all-tree a z p) ∙ all-tree b z q))

  -- edges that pair the routes of two ways of different trees
  pub found-by : {v w : ℕ} → root (t v) ≢ root (t w) → (a : Rooted v) (b : Rooted w) (ps : List (ℕ × ℕ)) → Edges Adj ps
      → ((y : ℕ) → occ ps y ≡ all a (t y) + all b (t y)) → Augmenting Adj n m ps
  found-by ne a b ps e each = record {
    edges = e;
    once = λ y. omega (arith, each y, both ne a b (t y));
    closed = λ y. omega (arith, each y, each (m y), all_closed a y, all_closed b y);
    one = base (t a.top);
    other = base (t b.top);
    one_in = F.home-range a.top (outer-in F (leg-end a.leg));
    other-in = F.home-range b.top (outer-in F (leg-end b.leg));
    one_free = a.free;
    other-free = b.free;
    ends = λ y i f. each y ∙ omega (arith, all-free a y i f, all-free b y i f);
  }
