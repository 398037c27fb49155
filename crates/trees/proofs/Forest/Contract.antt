-- A contraction in the forest: two walks from v and w that meet in the group of p and q become one group B, with the base, the depth and the root of that group.
-- Its inner routes are outer. Assumes nothing.
use mathlib.Core.Path.{◌≡◌, sym, ap, ◌∙◌, subst}
use mathlib.Core.Logic.{◌≢◌, ◌⊎◌, inl, inr}
use Prim.Native.Nat.{ℕ, suc, ◌+◌, ◌≤◌, ◌<◌}
use native.Mathlib.Omega.{arith}
use native.Mathlib.Nat.{eq-zero-or-pos}
use mathlib.Core.List.{List}
use Rattle.graphs.proofs.Sets.{is, is-self, is-other, is_pos, Is, same, other, is?, cnt}
use Rattle.trees.proofs.Forest.Grow.{Set1}
use Rattle.trees.proofs.Forest.Shape.{Inner, Forest, outer-in, inner-in, inner-alone, plain, back, mt-group}
use Rattle.trees.proofs.Forest.Walk.{Leg, leg-end, leg-closed, leg-between, leg-root, leg-tree, leg-paired}

module _ {Adj : ℕ → ℕ → Type 0} {n : ℕ} {m : ℕ → ℕ} {B : ℕ} {S : ℕ → ℕ → ℕ} {t base par rk root lab : ℕ → ℕ} {v w p q : ℕ} {L R : List ℕ}
    (swap : (x y : ℕ) → Adj x y → Adj y x) (F : Forest Adj n m B S t base par rk root lab)
    (left : Leg m t base par lab v L p) (right : Leg m t base par lab w R q) (meet : t p ≡ t q)
    (disjoint : (z : ℕ) → cnt L z + cnt R z ≤ 1) where
  -- how often a group's number is in the ring
  abbrev pub In : ℕ → ℕ
  In z = cnt L z + (is (t p) z + cnt R z)

  p-outer : lab p ≡ 2
  p-outer = leg-end F left

  p-in : p < n
  p-in = outer-in F p-outer

  ring-rank : (z : ℕ) → 0 < In z → rk (t p) ≤ rk z
  ring-rank z h = go (is? (t p) z) (eq-zero-or-pos (cnt L z))
    where
      go : Is (t p) z → (cnt L z ≡ 0) ⊎ (0 < cnt L z) → rk (t p) ≤ rk z
      go (same e a) c = omega (arith, ap rk e)
      go (other e a) (inr c) = omega (arith, leg-between F left z c)
      go (other e a) (inl c) = omega (arith, leg-between F right z (omega arith), ap rk meet)

  ring-once : (z : ℕ) → In z ≤ 1
  ring-once z = go (is? (t p) z) (eq-zero-or-pos (cnt L z)) (eq-zero-or-pos (cnt R z))
    where
      go : Is (t p) z → (cnt L z ≡ 0) ⊎ (0 < cnt L z) → (cnt R z ≡ 0) ⊎ (0 < cnt R z) → In z ≤ 1
      go (other e a) c d = omega (arith, disjoint z)
      go (same e a) (inl c) (inl d) = omega arith
      go (same e a) (inr c) d = omega (arith, leg-between F left z c, ap rk e)
      go (same e a) (inl c) (inr d) = omega (arith, leg-between F right z d, ap rk e, ap rk meet)

  ring-root : (z : ℕ) → 0 < In z → root z ≡ root (t p)
  ring-root z h = go (is? (t p) z) (eq-zero-or-pos (cnt L z))
    where
      go : Is (t p) z → (cnt L z ≡ 0) ⊎ (0 < cnt L z) → root z ≡ root (t p)
      go (same e a) c = ap root (sym e)
      go (other e a) (inr c) = leg-tree F left z c ∙ sym (leg-root F left)
      go (other e a) (inl c) = leg-tree F right z (omega arith) ∙ sym (leg-root F right) ∙ ap root (sym meet)

  ring-closed : (y : ℕ) → In (t (m y)) + is (base (t p)) y ≡ In (t y) + is (base (t p)) (m y)
  ring-closed y = omega (arith, leg-closed F left y, leg-closed F right y, F.near p p-in y)

  ring-free : (y : ℕ) → y < n → m y ≡ y → 0 < In (t y) → t p ≡ t y
  ring-free y i e h = is_pos (t p) (t y) (omega (arith, leg-paired F left y i e, leg-paired F right y i e))

  base-in : In (t (base (t p))) ≡ 1
  base-in = omega (arith, ap In (F.home p p-in), ring-once (t p), is-self (t p))

  -- the base of an outer group is no inner route
  base-not-inner : {y : ℕ} → lab y ≡ 2 → lab (base (t y)) ≢ 1
  base-not-inner {y} o i = omega (arith, i, o, ap lab (plain F {i = base (t y)} (inner-in F i) (omega arith) y (sym (F.home y (outer-in F o)) ∙ inner-alone F i)))

  module _ {S' : ℕ → ℕ → ℕ} {t' base' rk' root' lab' : ℕ → ℕ} (new : (y : ℕ) → t y ≢ B)
      (sets : (c : ℕ) → c ≢ B → (y : ℕ) → S' c y ≡ S c y) (set : (y : ℕ) → S' B y ≡ In (t y))
      (bases : Set1 base base' B (base (t p))) (rks : Set1 rk rk' B (rk (t p))) (roots : Set1 root root' B (root (t p)))
      (go-in : (y : ℕ) → 0 < In (t y) → (t' y ≡ B) × (lab' y ≡ 2)) (stay : (y : ℕ) → In (t y) ≡ 0 → (t' y ≡ t y) × (lab' y ≡ lab y))
      (range' : (y : ℕ) → 0 < lab' y → y < n) where
    data Where (y : ℕ) : Type 0 where
      inside : 0 < In (t y) → In (t y) ≡ 1 → t' y ≡ B → lab' y ≡ 2 → Where y
      outside : In (t y) ≡ 0 → t' y ≡ t y → lab' y ≡ lab y → Where y

    see : (y : ℕ) → Where y
    see y = go (eq-zero-or-pos (In (t y)))
      where
        go : (In (t y) ≡ 0) ⊎ (0 < In (t y)) → Where y
        go (inl e) = let s = stay y e in outside e s.0 s.1
        go (inr h) = let s = go-in y h in inside h (omega (arith, h, ring-once (t y))) s.0 s.1

    is-new : (y : ℕ) → is B (t' y) ≡ In (t y)
    is-new y = go (see y)
      where
        go : Where y → is B (t' y) ≡ In (t y)
        go (inside h e f l) = ap (is B) f ∙ is-self B ∙ sym e
        go (outside e f l) = ap (is B) f ∙ is-other (λ g. new y (sym g)) ∙ sym e

    is-old : (g : ℕ) → g ≢ B → In g ≡ 0 → (y : ℕ) → is g (t' y) ≡ is g (t y)
    is-old g h z y = go (see y)
      where
        go : Where y → is g (t' y) ≡ is g (t y)
        go (inside k e f l) = ap (is g) f ∙ is-other h ∙ sym (is-other (λ a. omega (arith, ap In a, k, z)))
        go (outside e f l) = ap (is g) f

    base-new : base' B ≡ base (t p)
    base-new = bases.at

    base-old : (y : ℕ) → base' (t y) ≡ base (t y)
    base-old y = bases.rest (t y) (new y)

    rk-le : (y : ℕ) → rk' (t' y) ≤ rk (t y)
    rk-le y = go (see y)
      where
        go : Where y → rk' (t' y) ≤ rk (t y)
        go (inside h e f l) = omega (arith, ap rk' f, rks.at, ring-rank (t y) h)
        go (outside e f l) = omega (arith, ap rk' f, rks.rest (t y) (new y))

    root-same : (y : ℕ) → root' (t' y) ≡ root (t y)
    root-same y = go (see y)
      where
        go : Where y → root' (t' y) ≡ root (t y)
        go (inside h e f l) = ap root' f ∙ roots.at ∙ sym (ring-root (t y) h)
        go (outside e f l) = ap root' f ∙ roots.rest (t y) (new y)

    outer-still : (y : ℕ) → lab y ≡ 2 → lab' y ≡ 2
    outer-still y o = go (see y)
      where
        go : Where y → lab' y ≡ 2
        go (inside h e f l) = l
        go (outside e f l) = l ∙ o

    own' : (x : ℕ) → x < n → (y : ℕ) → S' (t' x) y ≡ is (t' x) (t' y)
    own' x i y = go (see x)
      where
        go : Where x → S' (t' x) y ≡ is (t' x) (t' y)
        go (inside h e f l) = subst (λ (c : ℕ). S' c y ≡ is c (t' y)) (sym f) (set y ∙ sym (is-new y))
        go (outside e f l) = subst (λ (c : ℕ). S' c y ≡ is c (t' y)) (sym f) (sets (t x) (new x) y ∙ F.own x i y ∙ sym (is-old (t x) (new x) e y))

    home-range' : (x : ℕ) → x < n → base' (t' x) < n
    home-range' x i = go (see x)
      where
        go : Where x → base' (t' x) < n
        go (inside h e f l) = omega (arith, ap base' f, base-new, F.home-range p p-in)
        go (outside e f l) = omega (arith, ap base' f, base-old x, F.home-range x i)

    home' : (x : ℕ) → x < n → t' (base' (t' x)) ≡ t' x
    home' x i = go (see x)
      where
        go : Where x → t' (base' (t' x)) ≡ t' x
        go (inside h e f l) = ap t' (ap base' f ∙ base-new) ∙ (go-in (base (t p)) (omega (arith, base-in))).0 ∙ sym f
        go (outside e f l) =
            ap t' (ap base' f ∙ base-old x) ∙ (stay (base (t x)) (ap In (F.home x i) ∙ e)).0 ∙ F.home x i ∙ sym f

    near' : (x : ℕ) → x < n → (y : ℕ) → is (t' x) (t' (m y)) + is (base' (t' x)) y ≡ is (t' x) (t' y) + is (base' (t' x)) (m y)
    near' x i y = go (see x)
      where
        go : Where x → is (t' x) (t' (m y)) + is (base' (t' x)) y ≡ is (t' x) (t' y) + is (base' (t' x)) (m y)
        go (inside h e f l) = rw (f, base-new) (omega (arith, is-new y, is-new (m y), ring-closed y))
        go (outside e f l) = rw (f, base-old x) (omega (arith, is-old (t x) (new x) e y, is-old (t x) (new x) e (m y), F.near x i y))

    free' : (x : ℕ) → x < n → m x ≡ x → (base' (t' x) ≡ x) × (lab' x ≡ 2)
    free' x i r = go (see x)
      where
        go : Where x → (base' (t' x) ≡ x) × (lab' x ≡ 2)
        go (inside h e f l) = (ap base' f ∙ base-new ∙ ap base (ring-free x i r h) ∙ (F.free x i r).0, l)
        go (outside e f l) = (ap base' f ∙ base-old x ∙ (F.free x i r).0, l ∙ (F.free x i r).1)

    -- the partner of a route that stays outside stays outside, but for the base's partner
    partner-in : (x : ℕ) → In (t x) ≡ 0 → 0 < In (t (m x)) → base (t p) ≡ m x
    partner-in x e h = is_pos (base (t p)) (m x) (omega (arith, ring-closed x))

    apart' : (x : ℕ) → x < n → lab' x ≡ 0 → lab' (m x) ≡ 0
    apart' x i o = go (see x) (see (m x))
      where
        no : In (t x) ≡ 0 → lab x ≡ 0 → base (t p) ≡ m x → (m (base (t p)) ≡ base (t p)) ⊎ (lab (m (base (t p))) ≡ 1) → ⊥
        no e l b (inl r) = omega (arith, e, base-in, ap (λ (z : ℕ). In (t z)) (sym (back F x) ∙ ap m (sym b) ∙ r))
        no e l b (inr r) = omega (arith, l, r, ap lab (sym (back F x) ∙ ap m (sym b)))

        go : Where x → Where (m x) → lab' (m x) ≡ 0
        go (inside h e f l) d = absurd (omega arith)
        go (outside e f l) (outside e' f' l') = l' ∙ F.apart x i (sym l ∙ o)
        go (outside e f l) (inside h e' f' l') = absurd (no e (sym l ∙ o) (partner-in x e h) (F.up p p-outer))

    -- the inner routes that the groups outside and the ring's base hang from stay outside
    above-out : lab (m (base (t p))) ≡ 1 → In (t (m (base (t p)))) ≡ 0
    above-out i = go (eq-zero-or-pos (In (t (m (base (t p))))))
      where
        go : (In (t (m (base (t p)))) ≡ 0) ⊎ (0 < In (t (m (base (t p))))) → In (t (m (base (t p)))) ≡ 0
        go (inl e) = e
        go (inr h) =
            absurd (omega (arith, ring-rank _ h, ap rk (inner-alone F i), (F.inner (m (base (t p))) i).below, ap rk (mt-group F p-outer)))

    outside-out : (x : ℕ) → lab x ≡ 2 → In (t x) ≡ 0 → lab (m (base (t x))) ≡ 1 → In (t (m (base (t x)))) ≡ 0
    outside-out x o e i = go (eq-zero-or-pos (In (t (m (base (t x))))))
      where
        go : (In (t (m (base (t x)))) ≡ 0) ⊎ (0 < In (t (m (base (t x))))) → In (t (m (base (t x)))) ≡ 0
        go (inl z) = z
        go (inr h) =
            absurd (base-not-inner p-outer (ap lab (partner-in (base (t x)) (ap In (F.home x (outer-in F o)) ∙ e) h) ∙ i))

    up' : (x : ℕ) → lab' x ≡ 2 → (m (base' (t' x)) ≡ base' (t' x)) ⊎ (lab' (m (base' (t' x))) ≡ 1)
    up' x o = go (see x)
      where
        Goal : ℕ → Type 0
        Goal b = (m b ≡ b) ⊎ (lab' (m b) ≡ 1)

        within : (m (base (t p)) ≡ base (t p)) ⊎ (lab (m (base (t p))) ≡ 1) → Goal (base (t p))
        within (inl r) = inl r
        within (inr r) = inr ((stay _ (above-out r)).1 ∙ r)

        without : lab x ≡ 2 → In (t x) ≡ 0 → (m (base (t x)) ≡ base (t x)) ⊎ (lab (m (base (t x))) ≡ 1) → Goal (base (t x))
        without l e (inl r) = inl r
        without l e (inr r) = inr ((stay _ (outside-out x l e r)).1 ∙ r)

        go : Where x → Goal (base' (t' x))
        go (inside h e f l) = subst Goal (sym (ap base' f ∙ base-new)) (within (F.up p p-outer))
        go (outside e f l) = subst Goal (sym (ap base' f ∙ base-old x)) (without (sym l ∙ o) e (F.up x (sym l ∙ o)))

    top' : (x : ℕ) → lab' x ≡ 2 → m (base' (t' x)) ≡ base' (t' x) → (root' (t' x) ≡ base' (t' x)) × (rk' (t' x) ≡ 0)
    top' x o r = go (see x)
      where
        go : Where x → (root' (t' x) ≡ base' (t' x)) × (rk' (t' x) ≡ 0)
        go (inside h e f l) =
            let b : base' (t' x) ≡ base (t p) = ap base' f ∙ base-new in
            let s = F.top p p-outer (ap m (sym b) ∙ r ∙ b) in
            (ap root' f ∙ roots.at ∙ s.0 ∙ sym b, ap rk' f ∙ rks.at ∙ s.1)
        go (outside e f l) =
            let b : base' (t' x) ≡ base (t x) = ap base' f ∙ base-old x in
            let s = F.top x (sym l ∙ o) (ap m (sym b) ∙ r ∙ b) in
            (root-same x ∙ s.0 ∙ sym b, ap rk' f ∙ rks.rest (t x) (new x) ∙ s.1)

    inner-old : (i : ℕ) → lab i ≡ 1 → In (t i) ≡ 0 → Where (m i) → Inner Adj m t' base' par rk' root' lab' i
    inner-old i o e s = record {
      parent = outer-still (par i) j.parent;
      edge = j.edge;
      partner = outer-still (m i) j.partner;
      based = based' s;
      above = omega (arith, rk-le (par i), rks.rest i ni, j.above);
      below = omega (arith, rks.rest i ni, below' s);
      root-above = root-same (par i) ∙ j.root-above ∙ sym (roots.rest i ni);
      root_below = roots.rest i ni ∙ j.root_below ∙ sym (root-same (m i));
    }
      where
        j : Inner Adj m t base par rk root lab i
        j = F.inner i o

        ni : i ≢ B
        ni = omega (arith, F.fresh, inner-in F o)

        based' : Where (m i) → base' (t' (m i)) ≡ m i
        based' (inside h e' f l) = ap base' f ∙ base-new ∙ partner-in i e h
        based' (outside e' f l) = ap base' f ∙ base-old (m i) ∙ j.based

        below' : Where (m i) → rk i < rk' (t' (m i))
        below' (inside h e' f l) = omega (arith, ap rk' f, rks.at, j.below, ap rk (ap t (sym (partner-in i e h)) ∙ F.home p p-in))
        below' (outside e' f l) = omega (arith, ap rk' f, rks.rest (t (m i)) (new (m i)), j.below)

    inner' : (i : ℕ) → lab' i ≡ 1 → Inner Adj m t' base' par rk' root' lab' i
    inner' i o = go (see i)
      where
        go : Where i → Inner Adj m t' base' par rk' root' lab' i
        go (inside h e f l) = absurd (omega arith)
        go (outside e f l) = inner-old i (sym l ∙ o) e (see (m i))

    pub contract : Forest Adj n m (suc B) S' t' base' par rk' root' lab'
    contract = record {
      pairing = F.pairing;
      inside = F.inside;
      fresh = omega (arith, F.fresh);
      range = range';
      used = λ x i. used' x i (see x);
      leaf = λ x i y. sets x (omega (arith, F.fresh)) y ∙ F.leaf x i y;
      own = own';
      home-range = home-range';
      home = home';
      near = near';
      single = λ x i h. single' x i h (see x);
      free = free';
      apart = apart';
      up = up';
      top = top';
      inner = inner';
    }
      where
        used' : (x : ℕ) → x < n → Where x → t' x < suc B
        used' x i (inside h e f l) = omega arith
        used' x i (outside e f l) = omega (arith, F.used x i)

        single' : (x : ℕ) → x < n → lab' x ≢ 2 → Where x → t' x ≡ x
        single' x i h (inside k e f l) = absurd (h l)
        single' x i h (outside e f l) = f ∙ F.single x i (λ o. h (l ∙ o))
