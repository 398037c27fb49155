-- A pairing inside a search: m is the partner of each route, and a route with no partner is its own. Setting edges that name each route of a set closed under m
-- once, two free routes of it with them, leaves a pairing in which what was paired is paired, and two free routes fewer. Assumes nothing.
use mathlib.Core.Path.{◌≡◌, refl, sym, ap, ◌∙◌, subst}
use mathlib.Core.Logic.{◌≢◌, ◌⊎◌, inl, inr}
use Prim.Native.Nat.{ℕ, zero, suc, ◌+◌, ◌≤◌, ◌<◌}
use native.Mathlib.Omega.{arith}
use native.Mathlib.Nat.{eq-zero-or-pos}
use mathlib.Core.List.{List, [], ◌∷◌}
use Rattle.graphs.proofs.Sets.{total, total_ext, total-add, total-is, is, is-other, Is, same, other, is?}
use Rattle.trees.proofs.Ring.Pairs.{occ, Edges}

-- m' is m with the pairs set
abbrev pub Has : List (ℕ × ℕ) → (ℕ → ℕ) → Type 0
Has [] m = Unit {0}
Has (p ∷ ps) m = (m p.0 ≡ p.1) × (m p.1 ≡ p.0) × Has ps m

pub record Applied (ps : List (ℕ × ℕ)) (m m' : ℕ → ℕ) : Type 0 where
  pub on : Has ps m'
  pub off : (y : ℕ) → occ ps y ≡ 0 → m' y ≡ m y

module _ (Adj : ℕ → ℕ → Type 0) where
  pub record Pairing (m : ℕ → ℕ) : Type 0 where
    pub back : (y : ℕ) → m (m y) ≡ y
    pub real : (y : ℕ) → m y ≢ y → Adj y (m y)

  -- edges that pair anew a set of routes that is closed under m, two free routes of it with them
  pub record Augmenting (n : ℕ) (m : ℕ → ℕ) (pairs : List (ℕ × ℕ)) : Type 0 where
    pub edges : Edges Adj pairs
    pub once : (y : ℕ) → occ pairs y ≤ 1
    pub closed : (y : ℕ) → occ pairs (m y) ≡ occ pairs y
    pub one : ℕ
    pub other : ℕ
    pub one_in : one < n
    pub other-in : other < n
    pub one_free : m one ≡ one
    pub other-free : m other ≡ other
    pub ends : (y : ℕ) → y < n → m y ≡ y → occ pairs y ≡ is one y + is other y

  module _ (swap : (x y : ℕ) → Adj x y → Adj y x) (irr : (x : ℕ) → Adj x x → ⊥) where
    -- a route that the pairs name is paired, by an edge
    on-pair : (ps : List (ℕ × ℕ)) (m : ℕ → ℕ) → Has ps m → Edges Adj ps → (y : ℕ) → 0 < occ ps y → (m (m y) ≡ y) × Adj y (m y)
    on-pair [] m h e y o = absurd (omega arith)
    on-pair (p ∷ ps) m h e y o = go (is? p.0 y) (is? p.1 y) (on-pair ps m h.2 e.1 y)
      where
        go : Is p.0 y → Is p.1 y → (0 < occ ps y → (m (m y) ≡ y) × Adj y (m y)) → (m (m y) ≡ y) × Adj y (m y)
        go (same a i) j f = subst (λ (z : ℕ). (m (m z) ≡ z) × Adj z (m z)) a (ap m h.0 ∙ h.1, subst (Adj p.0) (sym h.0) e.0)
        go (other a i) (same b j) f = subst (λ (z : ℕ). (m (m z) ≡ z) × Adj z (m z)) b (ap m h.1 ∙ h.0, subst (Adj p.1) (sym h.1) (swap _ _ e.0))
        go (other a i) (other b j) f = f (omega arith)

    module _ (ps : List (ℕ × ℕ)) (m m' : ℕ → ℕ) (P : Pairing m) (A : Applied ps m m') (E : Edges Adj ps)
        (closed : (y : ℕ) → occ ps (m y) ≡ occ ps y) where
      cases : {B : Type 0} (y : ℕ) → (0 < occ ps y → B) → (occ ps y ≡ 0 → B) → B
      cases {B} y f g = go (occ ps y) refl
        where
          go : (n : ℕ) → occ ps y ≡ n → B
          go zero e = g e
          go (suc n) e = f (omega arith)

      pub augment : Pairing m'
      augment = record {
        back = λ y. cases y (λ o. (on-pair ps m' A.on E y o).0)
            (λ z. ap m' (A.off y z) ∙ A.off (m y) (closed y ∙ z) ∙ P.back y);
        real = λ y ne. cases y (λ o. (on-pair ps m' A.on E y o).1)
            (λ z. subst (Adj y) (sym (A.off y z)) (P.real y (λ e. ne (A.off y z ∙ e))));
      }

      pub covered-paired : (y : ℕ) → 0 < occ ps y → m' y ≢ y
      covered-paired y o e = irr y (subst (Adj y) e (on-pair ps m' A.on E y o).1)

      -- a route that was paired is paired
      pub keeps : (y : ℕ) → m y ≢ y → m' y ≢ y
      keeps y ne = cases y (covered-paired y) (λ z e. ne (sym (A.off y z) ∙ e))

    -- the pairs of a found edge make a pairing, keep what was paired, and leave two routes fewer free
    module _ (n : ℕ) (m m' : ℕ → ℕ) (ps : List (ℕ × ℕ)) (P : Pairing m) (G : Augmenting n m ps) (A : Applied ps m m') where
      pub better : Pairing m'
      better = augment ps m m' P A G.edges G.closed

      pub better-keeps : (y : ℕ) → m y ≢ y → m' y ≢ y
      better-keeps = keeps ps m m' P A G.edges G.closed

      -- a free route is one of the two, or is free still
      better-free : (y : ℕ) → y < n → is y (m y) ≡ is y (m' y) + (is G.one y + is G.other y)
      better-free y i = go (is? y (m y)) (eq-zero-or-pos (occ ps y))
        where
          ne : (a : ℕ) → m a ≡ a → y ≢ m y → is a y ≡ 0
          ne a f h = is-other (λ e. h (sym (subst (λ (z : ℕ). m z ≡ z) e f)))

          go : Is y (m y) → (occ ps y ≡ 0) ⊎ (0 < occ ps y) → is y (m y) ≡ is y (m' y) + (is G.one y + is G.other y)
          go (same e a) (inl z) = omega (arith, G.ends y i (sym e), ap (is y) (A.off y z))
          go (same e a) (inr p) =
              omega (arith, G.ends y i (sym e), G.once y, is-other {a = y} {y = m' y} (λ f. covered-paired ps m m' P A G.edges G.closed y p (sym f)))
          go (other e a) z = omega (arith, ne G.one G.one_free e, ne G.other G.other-free e, is-other {a = y} {y = m' y} (λ f. better-keeps y (λ g. e (sym g)) (sym f)))

      pub better-count : total (λ y. is y (m y)) n ≡ total (λ y. is y (m' y)) n + 2
      better-count =
          omega (
            arith,
            total_ext (λ y. is y (m y)) (λ y. is y (m' y) + (is G.one y + is G.other y)) n better-free,
            total-add (λ y. is y (m' y)) (λ y. is G.one y + is G.other y) n,
            total-add (is G.one) (is G.other) n,
            total-is G.one n G.one_in,
            total-is G.other n G.other-in,
          )
