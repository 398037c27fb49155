-- A ring that has been stored is a group: the tables hold one group more, the set of which is that of the ring's groups together. Assumes nothing.
use mathlib.Core.Path.{◌≡◌, refl, sym, ap, ◌∙◌, subst}
use mathlib.Core.Logic.{◌≢◌, ◌⊎◌, inl, inr}
use Prim.Native.Nat.{ℕ, zero, suc, ◌+◌, ◌≤◌, ◌<◌}
use native.Mathlib.Omega.{arith}
use native.Mathlib.Decide.{ℕ_discrete}
use mathlib.Core.List.{List, [], ◌∷◌, ◌++◌}
use lib.ListN.{length, length-append}
use Rattle.graphs.proofs.Sets.{is, is-self, Is, same, other, is?, cnt, cnt-append, sum, sum-append}
use Rattle.trees.proofs.Ring.Chain.{Chain, chain-map, chain-rotate, Place, place}
use Rattle.trees.proofs.Ring.Stored.{Above, here, step, above_kept, Step, Around, Stored}

sum-ext : (S T : ℕ → ℕ → ℕ) (l : List ℕ) (y : ℕ) → ((d : ℕ) → 0 < cnt l d → S d y ≡ T d y) → sum S l y ≡ sum T l y
sum-ext S T [] y h = refl
sum-ext S T (c ∷ l) y h = omega (arith, h c (omega (arith, is-self c)), sum-ext S T l y (λ d o. h d (omega arith)))

-- a route of the groups of a list is in one of them
member : (S : ℕ → ℕ → ℕ) (l : List ℕ) (y : ℕ) → sum S l y ≡ 1 → (d : ℕ) × (0 < cnt l d) × (S d y ≡ 1)
member S [] y h = absurd (omega arith)
member S (c ∷ l) y h = go (S c y) refl (λ e. member S l y e)
  where
    go : (k : ℕ) → S c y ≡ k → (sum S l y ≡ 1 → (d : ℕ) × (0 < cnt l d) × (S d y ≡ 1)) → (d : ℕ) × (0 < cnt (c ∷ l) d) × (S d y ≡ 1)
    go zero e f = let r = f (omega arith) in (r.0, omega (arith, r.1), r.2)
    go (suc k) e f = (c, omega (arith, is-self c), omega arith)

pub above-snoc : {B' : ℕ} {up' : ℕ → ℕ} {c g : ℕ} → g < up' g → up' g < B' → Above B' up' c g → Above B' up' c (up' g)
above-snoc i j here = step i j here
above-snoc i j (step k l a) = step k l (above-snoc i j a)

module _ {Adj : ℕ → ℕ → Type 0} {n B : ℕ} {up nxt ex ey half : ℕ → ℕ} (up' nxt' ex' ey' half' : ℕ → ℕ) (S' : ℕ → ℕ → ℕ) (c : ℕ) (Z : List ℕ)
    (R : Stored Adj n B up nxt ex ey half) (fresh : n ≤ B)
    (sets : (d : ℕ) → d ≢ B → (y : ℕ) → S' d y ≡ R.S d y) (set : (y : ℕ) → S' B y ≡ R.S c y + sum R.S Z y)
    (ring : Chain (Step Adj R.S nxt' ex' ey') c Z c) (even : length Z ≡ half' B + half' B)
    (children : (d : ℕ) → 0 < is c d + cnt Z d → (d < B) × (up' d ≡ B))
    (kept : (d : ℕ) → up d < B → (up' d ≡ up d) × (nxt' d ≡ nxt d) × (ex' d ≡ ex d) × (ey' d ≡ ey d))
    (halves : (b : ℕ) → b < B → half' b ≡ half b)
    (only : (d : ℕ) → d < suc B → up' d < suc B → ((d < B) × (up d < B)) ⊎ (0 < is c d + cnt Z d)) where
  abbrev New : ℕ → ℕ → Type 0
  New = Step Adj S' nxt' ex' ey'

  -- a group of the new ring, from it on round
  from : (d : ℕ) (rest : List ℕ) → Chain (Step Adj R.S nxt' ex' ey') d rest d → length rest ≡ length Z
      → ((e : ℕ) → is d e + cnt rest e ≡ is c e + cnt Z e) → ((y : ℕ) → R.S d y + sum R.S rest y ≡ R.S c y + sum R.S Z y)
      → Around Adj n (suc B) up' nxt' ex' ey' half' S' d
  from d rest ch len same-members same_sum = record {
    rest = rest;
    steps = chain-map (Step Adj R.S nxt' ex' ey') New d rest d (λ e f p q k. record {
      next = k.next;
      out = sets e (old e p) (ex' e) ∙ k.out;
      into = sets f (old f q) (ey' e) ∙ k.into;
      edge = k.edge;
    }) ch;
    even = omega (arith, len, even, ap half' up-d);
    all = λ y. ap (λ (z : ℕ). S' z y) up-d ∙ omega (arith, set y, same_sum y, sets d (old d (omega (arith, is-self d))) y, sum-ext S' R.S rest y (λ e o. sets e (old e (omega arith)) y));
    below = λ e o. let k = children e (omega (arith, same-members e)) in (omega (arith, k.0, up-d), k.1 ∙ sym up-d);
  }
    where
      old : (e : ℕ) → 0 < is d e + cnt rest e → e ≢ B
      old e o = omega (arith, (children e (omega (arith, same-members e))).0)

      up-d : up' d ≡ B
      up-d = (children d (omega (arith, same-members d, is-self d))).1

  pub new-around : (d : ℕ) → 0 < is c d + cnt Z d → Around Adj n (suc B) up' nxt' ex' ey' half' S' d
  new-around d h = go (is? c d)
    where
      at : Place Z d → Around Adj n (suc B) up' nxt' ex' ey' half' S' d
      at p =
          let f = p.front in
          let b = p.back in
          let w = p.whole in
          from d (b ++ c ∷ f) (chain-rotate (Step Adj R.S nxt' ex' ey') c f d b (subst (λ (l : List ℕ). Chain (Step Adj R.S nxt' ex' ey') c l c) w ring))
          (omega (arith, length-append b (c ∷ f), length-append f (d ∷ b), ap length w))
          (λ e. omega (arith, cnt-append b (c ∷ f) e, cnt-append f (d ∷ b) e, ap (λ (l : List ℕ). cnt l e) w))
          (λ y. omega (arith, sum-append R.S b (c ∷ f) y, sum-append R.S f (d ∷ b) y, ap (λ (l : List ℕ). sum R.S l y) w))

      go : Is c d → Around Adj n (suc B) up' nxt' ex' ey' half' S' d
      go (same e i) = subst (Around Adj n (suc B) up' nxt' ex' ey' half' S') e (from c Z ring refl (λ x. refl) (λ y. refl))
      go (other e i) = at (place Z d (omega arith))

  pub old-around : (d : ℕ) → d < B → up d < B → Around Adj n (suc B) up' nxt' ex' ey' half' S' d
  old-around d i u = record {
    rest = r.rest;
    steps = chain-map (Step Adj R.S nxt ex ey) New d r.rest d (λ e f p q k.
        let ke = kept e (ups e p).1 in record {
          next = ke.1 ∙ k.next;
          out = ap (S' e) ke.2 ∙ sets e (old e p) (ex e) ∙ k.out;
          into = ap (S' f) ke.3 ∙ sets f (old f q) (ey e) ∙ k.into;
          edge = subst (λ (z : ℕ). Adj z (ey' e)) (sym ke.2) (subst (Adj (ex e)) (sym ke.3) k.edge);
        }) r.steps;
    even = r.even ∙ omega (arith, halves (up d) u, ap half' up-d);
    all = λ y. ap (λ (z : ℕ). S' z y) up-d ∙ omega (arith, sets (up d) (omega (arith, u)) y, r.all y, sets d (omega (arith, i)) y, sum-ext S' R.S r.rest y (λ e o. sets e (old e (omega arith)) y));
    below = λ e o. let k = r.below e o in (omega (arith, k.0, up-d), (kept e (omega (arith, k.1, u))).0 ∙ k.1 ∙ sym up-d);
  }
    where
      r : Around Adj n B up nxt ex ey half R.S d
      r = R.around d i u

      up-d : up' d ≡ up d
      up-d = (kept d u).0

      ups : (e : ℕ) → 0 < is d e + cnt r.rest e → (e < B) × (up e < B)
      ups e o = go (is? d e)
        where
          go : Is d e → (e < B) × (up e < B)
          go (same p k) = (omega arith, omega (arith, ap up p, u))
          go (other p k) = let b = r.below e (omega arith) in (omega (arith, b.0, u), omega (arith, b.1, u))

      old : (e : ℕ) → 0 < is d e + cnt r.rest e → e ≢ B
      old e o = omega (arith, (ups e o).0)

  pub in-child : (y : ℕ) → S' B y ≡ 1 → (d : ℕ) × (0 < is c d + cnt Z d) × (R.S d y ≡ 1)
  in-child y h = member R.S (c ∷ Z) y (omega (arith, set y))

  unfoldable pub store : Stored Adj n (suc B) up' nxt' ex' ey' half'
  store = record {
    S = S';
    leaf = λ v i y. sets v (omega (arith, fresh)) y ∙ R.leaf v i y;
    inside = λ d y i h. inside' d y i h (ℕ_discrete d B);
    chain = λ d y i h. chain' d y i h (ℕ_discrete d B);
    around = λ d i u. around' d (only d i u);
  }
    where
      inside' : (d y : ℕ) → d < suc B → S' d y ≡ 1 → Dec (d ≡ B) → y < n
      inside' d y i h (yes e) = let k = in-child y (ap (λ (z : ℕ). S' z y) (sym e) ∙ h) in R.inside k.0 y (children k.0 k.1).0 k.2
      inside' d y i h (no e) = R.inside d y (omega arith) (sym (sets d e y) ∙ h)

      chain' : (d y : ℕ) → d < suc B → S' d y ≡ 1 → Dec (d ≡ B) → Above (suc B) up' y d
      chain' d y i h (yes e) =
          let k = in-child y (ap (λ (z : ℕ). S' z y) (sym e) ∙ h) in
          let p = children k.0 k.1 in
          subst (Above (suc B) up' y) (p.1 ∙ sym e)
          (above-snoc (omega (arith, p.0, p.1)) (omega (arith, p.1)) (above_kept (omega arith) (λ z u. (kept z u).0) (R.chain k.0 y p.0 k.2)))
      chain' d y i h (no e) = above_kept (omega arith) (λ z u. (kept z u).0) (R.chain d y (omega arith) (sym (sets d e y) ∙ h))

      around' : (d : ℕ) → ((d < B) × (up d < B)) ⊎ (0 < is c d + cnt Z d) → Around Adj n (suc B) up' nxt' ex' ey' half' S' d
      around' d (inl p) = old-around d p.0 p.1
      around' d (inr p) = new-around d p
