-- A bow: two walks up from the ends of an edge, the deeper one first, and the ring that they store on the way, each group with the next. Where they have not met
-- the deeper one has a step to go. Assumes nothing.
use mathlib.Core.Path.{◌≡◌, refl, sym, ap, ◌∙◌, subst}
use mathlib.Core.Logic.{◌≢◌, ◌⊎◌, inl, inr}
use Prim.Native.Nat.{ℕ, suc, ◌+◌, ◌≤◌, ◌<◌}
use native.Mathlib.Omega.{arith}
use native.Mathlib.Nat.{eq-zero-or-pos}
use mathlib.Core.List.{List, [], ◌∷◌, ◌++◌}
use lib.ListN.{length, length-append}
use Rattle.graphs.proofs.Sets.{is, is-other, Is, same, other, is?, cnt, cnt-append, sum, sum-append}
use Rattle.trees.proofs.Ring.Chain.{Chain, chain-map, chain-join}
use Rattle.trees.proofs.Ring.Stored.{Step}
use Rattle.trees.proofs.Forest.Grow.{Set2}
use Rattle.trees.proofs.Forest.Shape.{Inner, Forest, outer-in, inner-in, inner-alone, plain, holds, holds-base, holds-inner, matched, mt-group}
use Rattle.trees.proofs.Forest.Walk.{Leg, done, leg-end, leg-snoc, leg-closed, leg-between, leg-root, leg-group}

module _ {Adj : ℕ → ℕ → Type 0} {n : ℕ} {m : ℕ → ℕ} {B : ℕ} {S : ℕ → ℕ → ℕ} {t base par rk root lab : ℕ → ℕ}
    (swap : (x y : ℕ) → Adj x y → Adj y x) (F : Forest Adj n m B S t base par rk root lab) where
  -- from v up to x and from w up to y, through the groups of Z, each stored with the next: from y's group down to w's, over to v's, and up to x's
  pub record Bow (v w x y k : ℕ) (L R Z : List ℕ) (nxt ex ey : ℕ → ℕ) : Type 0 where
    pub left : Leg m t base par lab v L x
    pub right : Leg m t base par lab w R y
    -- Z has the groups of both walks, two for each step
    pub counts : (z : ℕ) → cnt Z z ≡ cnt L z + cnt R z
    pub sums : (z : ℕ) → sum S Z z ≡ sum S L z + sum S R z
    pub even : length Z ≡ k + k
    -- a step is two less deep
    pub ranks : k + k + (rk (t x) + rk (t y)) ≤ rk (t v) + rk (t w)
    -- each is stored with the next
    pub steps : Chain (Step Adj S nxt ex ey) (t y) Z (t x)
    -- no group is on both walks, or twice on one
    pub disjoint : (z : ℕ) → cnt L z + cnt R z ≤ 1
    -- the groups of one walk are as deep as where the other has come to, and that one is not among them
    pub over-left : (u : ℕ) → lab u ≡ 2 → 0 < cnt L (t u) → (rk (t y) ≤ rk (t u)) × (t u ≢ t y)
    pub over-right : (u : ℕ) → lab u ≡ 2 → 0 < cnt R (t u) → (rk (t x) ≤ rk (t u)) × (t u ≢ t x)

  pub bow-start : (v w : ℕ) {nxt ex ey : ℕ → ℕ} → lab v ≡ 2 → lab w ≡ 2 → Adj w v → nxt (t w) ≡ t v → ex (t w) ≡ w → ey (t w) ≡ v → Bow v w v w 0 [] [] [] nxt ex ey
  bow-start v w {nxt} {ex} {ey} o o' e a b c = record {
    left = done o;
    right = done o';
    counts = λ z. omega arith;
    sums = λ z. omega arith;
    even = refl;
    ranks = omega arith;
    steps = record {
      next = a;
      out = ap (S (t w)) b ∙ holds F o';
      into = ap (S (t v)) c ∙ holds F o;
      edge = subst (λ (z : ℕ). Adj z (ey (t w))) (sym b) (subst (Adj w) (sym c) e);
    };
    disjoint = λ z. omega arith;
    over-left = λ u p h. absurd (omega arith);
    over-right = λ u p h. absurd (omega arith);
  }

  none : {A : ℕ} → (0 < A → ⊥) → A ≡ 0
  none {A} f = go (eq-zero-or-pos A)
    where
      go : (A ≡ 0) ⊎ (0 < A) → A ≡ 0
      go (inl e) = e
      go (inr h) = absurd (f h)

  -- an inner route is no outer route's group
  pub not-inner : {u i : ℕ} → lab u ≡ 2 → lab i ≡ 1 → t u ≢ i
  not-inner {u} {i} o l e = omega (arith, o, l, ap lab (plain F (inner-in F l) (omega (arith, l)) u e))

  -- the partner of a base is on a way where the group is
  partner-on : {v p : ℕ} {L : List ℕ} → Leg m t base par lab v L p → (x : ℕ) → lab x ≡ 2 → lab (m (base (t x))) ≡ 1 → cnt L (m (base (t x))) ≡ cnt L (t x)
  partner-on {L = L} w x o i =
      ap (cnt L) (sym (inner-alone F i)) ∙ leg-closed F w (base (t x)) ∙ ap (cnt L) (F.home x (outer-in F o))

  module _ {v w x y k : ℕ} {L R Z : List ℕ} {nxt ex ey : ℕ → ℕ} (b : Bow v w x y k L R Z nxt ex ey) where
    pub x-outer : lab x ≡ 2
    x-outer = leg-end F b.left

    pub y-outer : lab y ≡ 2
    y-outer = leg-end F b.right

    -- the group that a way has come to is not on it yet, nor on the other
    pub x-off : cnt Z (t x) ≡ 0
    x-off =
        let p : cnt L (t x) ≡ 0 = none (λ h. omega (arith, (leg-between F b.left (t x) h).0)) in
        let q : cnt R (t x) ≡ 0 = none (λ h. (b.over-right x x-outer h).1 refl) in
        omega (arith, b.counts (t x))

    pub y-off : cnt Z (t y) ≡ 0
    y-off =
        let p : cnt R (t y) ≡ 0 = none (λ h. omega (arith, (leg-between F b.right (t y) h).0)) in
        let q : cnt L (t y) ≡ 0 = none (λ h. (b.over-left y y-outer h).1 refl) in
        omega (arith, b.counts (t y))

    -- where the ways have not met, the lower one has a step to go
    pub can-left : root (t v) ≡ root (t w) → t x ≢ t y → rk (t y) ≤ rk (t x) → lab (m (base (t x))) ≡ 1
    can-left r ne le = go (F.up x x-outer) (F.up y y-outer)
      where
        roots : root (t x) ≡ root (t y)
        roots = leg-root F b.left ∙ r ∙ sym (leg-root F b.right)

        go : (m (base (t x)) ≡ base (t x)) ⊎ (lab (m (base (t x))) ≡ 1) → (m (base (t y)) ≡ base (t y)) ⊎ (lab (m (base (t y))) ≡ 1) → lab (m (base (t x))) ≡ 1
        go (inr i) d = i
        go (inl e) (inl e') =
            absurd (ne (sym (F.home x (outer-in F x-outer)) ∙ ap t (sym (F.top x x-outer e).0 ∙ roots ∙ (F.top y y-outer e').0) ∙ F.home y (outer-in F y-outer)))
        go (inl e) (inr i) = absurd (omega (arith, (F.top x x-outer e).1, le, (F.inner (m (base (t y))) i).below, ap rk (mt-group F y-outer)))

    pub can-right : rk (t x) < rk (t y) → lab (m (base (t y))) ≡ 1
    can-right lt = go (F.up y y-outer)
      where
        go : (m (base (t y)) ≡ base (t y)) ⊎ (lab (m (base (t y))) ≡ 1) → lab (m (base (t y))) ≡ 1
        go (inr i) = i
        go (inl e) = absurd (omega (arith, (F.top y y-outer e).1, lt))

    pub left-more : {nxt' ex' ey' : ℕ → ℕ} → t x ≢ t y → rk (t y) ≤ rk (t x) → lab (m (base (t x))) ≡ 1
        → Set2 nxt nxt' (t x) (m (base (t x))) (m (base (t x))) (t (par (m (base (t x)))))
        → Set2 ex ex' (t x) (base (t x)) (m (base (t x))) (m (base (t x)))
        → Set2 ey ey' (t x) (m (base (t x))) (m (base (t x))) (par (m (base (t x))))
        → Bow v w (par (m (base (t x)))) y (suc k) (L ++ (t x ∷ m (base (t x)) ∷ [])) R (Z ++ (t x ∷ m (base (t x)) ∷ [])) nxt' ex' ey'
    left-more {nxt'} {ex'} {ey'} ne le i a c d = record {
      left = leg-snoc F b.left i;
      right = b.right;
      counts = λ z. omega (arith, cnt-append L (t x ∷ j ∷ []) z, cnt-append Z (t x ∷ j ∷ []) z, b.counts z);
      sums = λ z. omega (arith, sum-append S L (t x ∷ j ∷ []) z, sum-append S Z (t x ∷ j ∷ []) z, b.sums z);
      even = omega (arith, length-append Z (t x ∷ j ∷ []), b.even);
      ranks = omega (arith, b.ranks, n-inner.above, n-inner.below, ap rk (mt-group F x-outer));
      steps = chain-join (Step Adj S nxt' ex' ey') (t y) Z (t x) (j ∷ []) (t (par j))
          (chain-map (Step Adj S nxt ex ey) (Step Adj S nxt' ex' ey') (t y) Z (t x) (λ e f p q h. record {
            next = a.rest e (off-x e p) (off-j e p) ∙ h.next;
            out = ap (S e) (c.rest e (off-x e p) (off-j e p)) ∙ h.out;
            into = ap (S f) (d.rest e (off-x e p) (off-j e p)) ∙ h.into;
            edge = subst (λ (z : ℕ). Adj z (ey' e)) (sym (c.rest e (off-x e p) (off-j e p))) (subst (Adj (ex e)) (sym (d.rest e (off-x e p) (off-j e p))) h.edge);
          }) b.steps) (
            record {
              next = a.at;
              out = ap (S (t x)) c.at ∙ holds-base F x-outer;
              into = ap (S j) d.at ∙ holds-inner F i;
              edge = subst (λ (z : ℕ). Adj z (ey' (t x))) (sym c.at) (subst (Adj (base (t x))) (sym d.at) (matched F x-outer i));
            },
            record {
              next = a.and;
              out = ap (S j) c.and ∙ holds-inner F i;
              into = ap (S (t (par j))) d.and ∙ holds F n-inner.parent;
              edge = subst (λ (z : ℕ). Adj z (ey' j)) (sym c.and) (subst (Adj j) (sym d.and) n-inner.edge);
            },
          );
      disjoint = λ z. apart z (is? (t x) z) (is? j z);
      over-left = λ u o h. over u o h (is? (t x) (t u));
      over-right = λ u o h. let r = b.over-right u o h in (omega (arith, r.0, less), λ e. omega (arith, r.0, less, ap rk e));
    }
      where
        j : ℕ
        j = m (base (t x))

        n-inner : Inner Adj m t base par rk root lab j
        n-inner = F.inner j i

        less : rk (t (par j)) < rk (t x)
        less = omega (arith, n-inner.above, n-inner.below, ap rk (mt-group F x-outer))

        j-off : cnt Z j ≡ 0
        j-off = omega (arith, b.counts j, b.counts (t x), x-off, partner-on b.left x x-outer i, partner-on b.right x x-outer i)

        off-x : (e : ℕ) → 0 < is (t y) e + cnt Z e → e ≢ t x
        off-x e p q = omega (arith, ap (λ (z : ℕ). is (t y) z + cnt Z z) q, p, x-off, is-other {a = t y} {y = t x} (λ r. ne (sym r)))

        off-j : (e : ℕ) → 0 < is (t y) e + cnt Z e → e ≢ j
        off-j e p q = omega (arith, ap (λ (z : ℕ). is (t y) z + cnt Z z) q, p, j-off, is-other {a = t y} {y = j} (not-inner y-outer i))

        apart : (z : ℕ) → Is (t x) z → Is j z → cnt (L ++ (t x ∷ j ∷ [])) z + cnt R z ≤ 1
        apart z (same e p) (same e' p') = absurd (not-inner x-outer i (e ∙ sym e'))
        apart z (same e p) (other e' p') = omega (arith, cnt-append L (t x ∷ j ∷ []) z, b.counts z, ap (cnt Z) e, x-off)
        apart z (other e p) (same e' p') = omega (arith, cnt-append L (t x ∷ j ∷ []) z, b.counts z, ap (cnt Z) e', j-off)
        apart z (other e p) (other e' p') = omega (arith, cnt-append L (t x ∷ j ∷ []) z, b.disjoint z)

        over : (u : ℕ) → lab u ≡ 2 → 0 < cnt (L ++ (t x ∷ j ∷ [])) (t u) → Is (t x) (t u) → (rk (t y) ≤ rk (t u)) × (t u ≢ t y)
        over u o h (same e p) = (omega (arith, le, ap rk e), λ q. ne (e ∙ q))
        over u o h (other e p) =
            b.over-left u o (omega (arith, h, cnt-append L (t x ∷ j ∷ []) (t u), is-other {a = j} {y = t u} (λ q. not-inner o i (sym q))))

    pub right-more : {nxt' ex' ey' : ℕ → ℕ} → rk (t x) < rk (t y) → lab (m (base (t y))) ≡ 1
        → Set2 nxt nxt' (m (base (t y))) (t y) (t (par (m (base (t y))))) (m (base (t y)))
        → Set2 ex ex' (m (base (t y))) (m (base (t y))) (t (par (m (base (t y))))) (par (m (base (t y))))
        → Set2 ey ey' (m (base (t y))) (base (t y)) (t (par (m (base (t y))))) (m (base (t y)))
        → Bow v w x (par (m (base (t y)))) (suc k) L (R ++ (t y ∷ m (base (t y)) ∷ [])) (m (base (t y)) ∷ t y ∷ Z) nxt' ex' ey'
    right-more {nxt'} {ex'} {ey'} lt i a c d = record {
      left = b.left;
      right = leg-snoc F b.right i;
      counts = λ z. omega (arith, cnt-append R (t y ∷ j ∷ []) z, b.counts z);
      sums = λ z. omega (arith, sum-append S R (t y ∷ j ∷ []) z, b.sums z);
      even = omega (arith, b.even);
      ranks = omega (arith, b.ranks, n-inner.above, n-inner.below, ap rk (mt-group F y-outer));
      steps = (
        record {
          next = a.and;
          out = ap (S (t (par j))) c.and ∙ holds F n-inner.parent;
          into = ap (S j) d.and ∙ holds-inner F i;
          edge = subst (λ (z : ℕ). Adj z (ey' (t (par j)))) (sym c.and) (subst (Adj (par j)) (sym d.and) (swap j (par j) n-inner.edge));
        },
        (
          record {
            next = a.at;
            out = ap (S j) c.at ∙ holds-inner F i;
            into = ap (S (t y)) d.at ∙ holds-base F y-outer;
            edge = subst (λ (z : ℕ). Adj z (ey' j)) (sym c.at) (subst (Adj j) (sym d.at) (swap (base (t y)) j (matched F y-outer i)));
          },
          chain-map (Step Adj S nxt ex ey) (Step Adj S nxt' ex' ey') (t y) Z (t x) (λ e f p q h. record {
            next = a.rest e (off-j e p) (off-q e p) ∙ h.next;
            out = ap (S e) (c.rest e (off-j e p) (off-q e p)) ∙ h.out;
            into = ap (S f) (d.rest e (off-j e p) (off-q e p)) ∙ h.into;
            edge = subst (λ (z : ℕ). Adj z (ey' e)) (sym (c.rest e (off-j e p) (off-q e p))) (subst (Adj (ex e)) (sym (d.rest e (off-j e p) (off-q e p))) h.edge);
          }) b.steps,
        ),
      );
      disjoint = λ z. apart z (is? (t y) z) (is? j z);
      over-left = λ u o h. let r = b.over-left u o h in (omega (arith, r.0, less), λ e. omega (arith, r.0, less, ap rk e));
      over-right = λ u o h. over u o h (is? (t y) (t u));
    }
      where
        j : ℕ
        j = m (base (t y))

        n-inner : Inner Adj m t base par rk root lab j
        n-inner = F.inner j i

        less : rk (t (par j)) < rk (t y)
        less = omega (arith, n-inner.above, n-inner.below, ap rk (mt-group F y-outer))

        j-off : cnt Z j ≡ 0
        j-off = omega (arith, b.counts j, b.counts (t y), y-off, partner-on b.left y y-outer i, partner-on b.right y y-outer i)

        q-off : cnt Z (t (par j)) ≡ 0
        q-off =
            let p : cnt R (t (par j)) ≡ 0 = none (λ h. omega (arith, less, (leg-between F b.right (t (par j)) h).0)) in
            let q : cnt L (t (par j)) ≡ 0 = none (λ h. omega (arith, less, (b.over-left (par j) n-inner.parent h).0)) in
            omega (arith, b.counts (t (par j)))

        off-j : (e : ℕ) → 0 < is (t y) e + cnt Z e → e ≢ j
        off-j e p q = omega (arith, ap (λ (z : ℕ). is (t y) z + cnt Z z) q, p, j-off, is-other {a = t y} {y = j} (not-inner y-outer i))

        off-q : (e : ℕ) → 0 < is (t y) e + cnt Z e → e ≢ t (par j)
        off-q e p q = omega (arith, ap (λ (z : ℕ). is (t y) z + cnt Z z) q, p, q-off, is-other {a = t y} {y = t (par j)} (λ r. omega (arith, less, ap rk r)))

        apart : (z : ℕ) → Is (t y) z → Is j z → cnt L z + cnt (R ++ (t y ∷ j ∷ [])) z ≤ 1
        apart z (same e p) (same e' p') = absurd (not-inner y-outer i (e ∙ sym e'))
        apart z (same e p) (other e' p') = omega (arith, cnt-append R (t y ∷ j ∷ []) z, b.counts z, ap (cnt Z) e, y-off)
        apart z (other e p) (same e' p') = omega (arith, cnt-append R (t y ∷ j ∷ []) z, b.counts z, ap (cnt Z) e', j-off)
        apart z (other e p) (other e' p') = omega (arith, cnt-append R (t y ∷ j ∷ []) z, b.disjoint z)

        over : (u : ℕ) → lab u ≡ 2 → 0 < cnt (R ++ (t y ∷ j ∷ [])) (t u) → Is (t y) (t u) → (rk (t x) ≤ rk (t u)) × (t u ≢ t x)
        over u o h (same e p) = (omega (arith, lt, ap rk e), λ q. omega (arith, lt, ap rk (e ∙ q)))
        over u o h (other e p) =
            b.over-right u o (omega (arith, h, cnt-append R (t y ∷ j ∷ []) (t u), is-other {a = j} {y = t u} (λ q. not-inner o i (sym q))))

    -- a group of the ring is one that routes are in now
    pub ring-group : (d : ℕ) → 0 < is (t x) d + cnt Z d → (u : ℕ) × (u < n) × (t u ≡ d)
    ring-group d h = go (is? (t x) d) (eq-zero-or-pos (cnt L d))
      where
        go : Is (t x) d → (cnt L d ≡ 0) ⊎ (0 < cnt L d) → (u : ℕ) × (u < n) × (t u ≡ d)
        go (same e i) c = (x, outer-in F x-outer, e)
        go (other e i) (inr c) = leg-group F b.left d c
        go (other e i) (inl c) = leg-group F b.right d (omega (arith, b.counts d))

    pub ring-old : (d : ℕ) → 0 < is (t x) d + cnt Z d → d < B
    ring-old d h = let g = ring-group d h in omega (arith, F.used g.0 g.1, g.2)
