-- The two walks of a ring, step by step, with what they have stored; and where they have met, the ring as a group. Assumes nothing.
use mathlib.Core.Path.{◌≡◌, refl, sym, ap, ◌∙◌, subst}
use mathlib.Core.Logic.{◌≢◌, ◌⊎◌, inl, inr}
use Prim.Native.Nat.{ℕ, suc, ◌+◌, ◌≤◌, ◌<◌}
use native.Mathlib.Nat.{eq-zero-or-pos}
use native.Mathlib.Omega.{arith}
use native.Mathlib.Decide.{dec_lt, dec_le}
use mathlib.Core.List.{List, [], ◌∷◌, ◌++◌}
use Rattle.graphs.proofs.Sets.{is, is-self, Is, same, other, is?, cnt, cnt-append}
use Rattle.trees.proofs.Forest.Grow.{Set1, Set2}
use Rattle.trees.proofs.Forest.Shape.{mt-group}
use Rattle.trees.proofs.Forest.Bow.{Bow, bow-start, left-more, right-more, can-left, can-right, x-outer, y-outer, ring-old}
use Rattle.trees.proofs.Forest.State.{State, contracted}

module _ {Adj : ℕ → ℕ → Type 0} {n : ℕ} {m : ℕ → ℕ} {B lim : ℕ} {up₀ nxt₀ ex₀ ey₀ half t base par rk root lab : ℕ → ℕ}
    (swap : (a b : ℕ) → Adj a b → Adj b a) (Q : State Adj n m B lim up₀ nxt₀ ex₀ ey₀ half t base par rk root lab) where
  -- the walks from v and w have come to x and y by k steps; the tables are those of before, but for the groups Z of the ring so far
  pub record Tied (v w x y k : ℕ) (up nxt ex ey : ℕ → ℕ) : Type 0 where
    pub L : List ℕ
    pub R : List ℕ
    pub Z : List ℕ
    -- the walks, and each group of Z stored with the next
    pub bow : Bow swap Q.forest v w x y k L R Z nxt ex ey
    -- the groups of Z have gone into the new one, and no others
    pub children : (d : ℕ) → 0 < cnt Z d → up d ≡ B
    pub others : (d : ℕ) → cnt Z d ≡ 0 → up d ≡ up₀ d
    -- nothing else was stored
    pub frame : (d : ℕ) → is (t y) d + cnt Z d ≡ 0 → (nxt d ≡ nxt₀ d) × (ex d ≡ ex₀ d) × (ey d ≡ ey₀ d)

  pub tied-start : (v w : ℕ) → lab v ≡ 2 → lab w ≡ 2 → Adj w v → nxt₀ (t w) ≡ t v → ex₀ (t w) ≡ w → ey₀ (t w) ≡ v → Tied v w v w 0 up₀ nxt₀ ex₀ ey₀
  tied-start v w o o' e a b c = record {
    L = [];
    R = [];
    Z = [];
    bow = bow-start swap Q.forest v w o o' e a b c;
    children = λ d h. absurd (omega arith);
    others = λ d h. refl;
    frame = λ d h. (refl, refl, refl);
  }

  module _ {v w x y k : ℕ} {up nxt ex ey : ℕ → ℕ} (D : Tied v w x y k up nxt ex ey) where
    pub x-out : lab x ≡ 2
    x-out = x-outer swap Q.forest D.bow

    pub y-out : lab y ≡ 2
    y-out = y-outer swap Q.forest D.bow

    -- a step up is two less deep
    two-less : {u : ℕ} → lab u ≡ 2 → lab (m (base (t u))) ≡ 1 → 1 < rk (t u)
    two-less {u} o i = let j = Q.forest.inner _ i in omega (arith, j.above, j.below, ap rk (mt-group Q.forest o))

    -- where the two have not met, there is a step to go
    pub not-met : root (t v) ≡ root (t w) → t x ≢ t y → suc (suc (k + k)) ≤ rk (t v) + rk (t w)
    not-met r ne = go (dec_le (rk (t y)) (rk (t x)))
      where
        go : Dec (rk (t y) ≤ rk (t x)) → suc (suc (k + k)) ≤ rk (t v) + rk (t w)
        go (yes le) = omega (arith, D.bow.ranks, two-less x-out (can-left swap Q.forest D.bow r ne le))
        go (no gt) = omega (arith, D.bow.ranks, two-less y-out (can-right swap Q.forest D.bow (omega arith)))

    pub x-inner : root (t v) ≡ root (t w) → t x ≢ t y → rk (t y) ≤ rk (t x) → lab (m (base (t x))) ≡ 1
    x-inner = can-left swap Q.forest D.bow

    pub y-inner : rk (t x) < rk (t y) → lab (m (base (t y))) ≡ 1
    y-inner = can-right swap Q.forest D.bow

    module _ {up' nxt' ex' ey' : ℕ → ℕ} where
      -- a step on v's side, by the partner i of the base
      pub tied-left : {i : ℕ} → root (t v) ≡ root (t w) → t x ≢ t y → rk (t y) ≤ rk (t x) → m (base (t x)) ≡ i
          → Set2 up up' (t x) B i B → Set2 nxt nxt' (t x) i i (t (par i)) → Set2 ex ex' (t x) (base (t x)) i i → Set2 ey ey' (t x) i i (par i)
          → Tied v w (par i) y (suc k) up' nxt' ex' ey'
      tied-left r ne le ei = subst Goal ei own
        where
          Goal : ℕ → Type 0
          Goal i = Set2 up up' (t x) B i B → Set2 nxt nxt' (t x) i i (t (par i)) → Set2 ex ex' (t x) (base (t x)) i i → Set2 ey ey' (t x) i i (par i)
              → Tied v w (par i) y (suc k) up' nxt' ex' ey'

          g : ℕ
          g = t x

          i : ℕ
          i = m (base (t x))

          off-g : (d : ℕ) → cnt (D.Z ++ (g ∷ i ∷ [])) d ≡ 0 → d ≢ g
          off-g d h e = omega (arith, h, cnt-append D.Z (g ∷ i ∷ []) d, ap (is g) e, is-self g)

          off-i : (d : ℕ) → cnt (D.Z ++ (g ∷ i ∷ [])) d ≡ 0 → d ≢ i
          off-i d h e = omega (arith, h, cnt-append D.Z (g ∷ i ∷ []) d, ap (is i) e, is-self i)

          own : Goal (m (base (t x)))
          own u nx xx yy = record {
            L = D.L ++ (g ∷ i ∷ []);
            R = D.R;
            Z = D.Z ++ (g ∷ i ∷ []);
            bow = left-more swap Q.forest D.bow ne le (x-inner r ne le) nx xx yy;
            children = λ d h. kids d h (is? g d) (is? i d);
            others = λ d h. u.rest d (off-g d h) (off-i d h) ∙ D.others d (omega (arith, h, cnt-append D.Z (g ∷ i ∷ []) d));
            frame = λ d h.
                let a = off-g d (omega arith) in
                let b = off-i d (omega arith) in
                let f = D.frame d (omega (arith, h, cnt-append D.Z (g ∷ i ∷ []) d)) in
                (nx.rest d a b ∙ f.0, xx.rest d a b ∙ f.1, yy.rest d a b ∙ f.2);
          }
            where
              kids : (d : ℕ) → 0 < cnt (D.Z ++ (g ∷ i ∷ [])) d → Is g d → Is i d → up' d ≡ B
              kids d h (same e a) q = ap up' (sym e) ∙ u.at
              kids d h (other e a) (same e' b) = ap up' (sym e') ∙ u.and
              kids d h (other e a) (other e' b) = u.rest d (λ q. e (sym q)) (λ q. e' (sym q)) ∙ D.children d (omega (arith, h, cnt-append D.Z (g ∷ i ∷ []) d))

      -- a step on w's side
      pub tied-right : {i : ℕ} → rk (t x) < rk (t y) → m (base (t y)) ≡ i
          → Set2 up up' (t y) B i B → Set2 nxt nxt' i (t y) (t (par i)) i → Set2 ex ex' i i (t (par i)) (par i) → Set2 ey ey' i (base (t y)) (t (par i)) i
          → Tied v w x (par i) (suc k) up' nxt' ex' ey'
      tied-right lt ei = subst Goal ei own
        where
          Goal : ℕ → Type 0
          Goal i = Set2 up up' (t y) B i B → Set2 nxt nxt' i (t y) (t (par i)) i → Set2 ex ex' i i (t (par i)) (par i) → Set2 ey ey' i (base (t y)) (t (par i)) i
              → Tied v w x (par i) (suc k) up' nxt' ex' ey'

          g : ℕ
          g = t y

          i : ℕ
          i = m (base (t y))

          off-g : (d : ℕ) → is i d + (is g d + cnt D.Z d) ≡ 0 → d ≢ g
          off-g d h e = omega (arith, h, ap (is g) e, is-self g)

          off-i : (d : ℕ) → is i d + (is g d + cnt D.Z d) ≡ 0 → d ≢ i
          off-i d h e = omega (arith, h, ap (is i) e, is-self i)

          own : Goal (m (base (t y)))
          own u nx xx yy = record {
            L = D.L;
            R = D.R ++ (g ∷ i ∷ []);
            Z = i ∷ g ∷ D.Z;
            bow = right-more swap Q.forest D.bow lt (y-inner lt) nx xx yy;
            children = λ d h. kids d h (is? g d) (is? i d);
            others = λ d h. u.rest d (off-g d h) (off-i d h) ∙ D.others d (omega arith);
            frame = λ d h.
                let a = off-i d (omega arith) in
                let b : d ≢ t (par i) = λ e. omega (arith, h, ap (is (t (par i))) e, is-self (t (par i))) in
                let f = D.frame d (omega (arith, h)) in
                (nx.rest d a b ∙ f.0, xx.rest d a b ∙ f.1, yy.rest d a b ∙ f.2);
          }
            where
              kids : (d : ℕ) → 0 < is i d + (is g d + cnt D.Z d) → Is g d → Is i d → up' d ≡ B
              kids d h (same e a) r = ap up' (sym e) ∙ u.at
              kids d h (other e a) (same e' b) = ap up' (sym e') ∙ u.and
              kids d h (other e a) (other e' b) = u.rest d (λ r. e (sym r)) (λ r. e' (sym r)) ∙ D.children d (omega arith)

    -- ---- the walks have met

    module _ (meet : t x ≡ t y) (left : B < lim) where
      -- how often a group is in the ring
      abbrev pub Ring : ℕ → ℕ
      Ring d = is (t x) d + cnt D.Z d

      -- what is no route is in no ring
      pub routes : (u : ℕ) → 0 < Ring (t u) → u < n
      routes u h = go (dec_lt u n)
        where
          go : Dec (u < n) → u < n
          go (yes i) = i
          go (no i) = absurd (omega (arith, ring-old swap Q.forest D.bow (t u) h, Q.new u (omega arith), left))

      -- the ring's last store, the routes' groups, and the labels
      module _ {up' half' base' rk' root' t' lab' : ℕ → ℕ} (ups : Set1 up up' (t x) B) (halves : Set1 half half' B k)
          (bases : Set1 base base' B (base (t x))) (rks : Set1 rk rk' B (rk (t x))) (roots : Set1 root root' B (root (t x)))
          (beyond : (u : ℕ) → n ≤ u → t' u ≡ t u) (moved : (u : ℕ) → u < n → up' (t u) ≡ B → t' u ≡ B) (kept : (u : ℕ) → u < n → up' (t u) ≢ B → t' u ≡ t u)
          (in-lab : (u : ℕ) → 0 < Ring (t u) → lab' u ≡ 2) (out-lab : (u : ℕ) → Ring (t u) ≡ 0 → lab' u ≡ lab u) where
        child : (d : ℕ) → 0 < Ring d → up' d ≡ B
        child d h = go (is? (t x) d)
          where
            go : Is (t x) d → up' d ≡ B
            go (same e i) = ap up' (sym e) ∙ ups.at
            go (other e i) = ups.rest d (λ p. e (sym p)) ∙ D.children d (omega arith)

        off : (d : ℕ) → Ring d ≡ 0 → up' d ≡ up₀ d
        off d z = ups.rest d (λ p. omega (arith, ap (is (t x)) p, is-self (t x), z)) ∙ D.others d (omega arith)

        not-child : (d : ℕ) → d < lim → Ring d ≡ 0 → up' d ≢ B
        not-child d i z e = go (Q.ups d i)
          where
            go : (up₀ d < B) ⊎ (lim ≤ up₀ d) → ⊥
            go (inl p) = omega (arith, off d z, e, p)
            go (inr p) = omega (arith, off d z, e, p, left)

        pub go-in : (u : ℕ) → 0 < Ring (t u) → (t' u ≡ B) × (lab' u ≡ 2)
        go-in u h = (moved u (routes u h) (child _ h), in-lab u h)

        stay : (u : ℕ) → Ring (t u) ≡ 0 → (t' u ≡ t u) × (lab' u ≡ lab u)
        stay u z = (go (dec_lt u n), out-lab u z)
          where
            go : Dec (u < n) → t' u ≡ t u
            go (yes i) = kept u i (not-child (t u) (omega (arith, Q.forest.used u i, left)) z)
            go (no i) = beyond u (omega arith)

        range' : (u : ℕ) → 0 < lab' u → u < n
        range' u h = go (eq-zero-or-pos (Ring (t u)))
          where
            go : (Ring (t u) ≡ 0) ⊎ (0 < Ring (t u)) → u < n
            go (inr p) = routes u p
            go (inl z) = Q.forest.range u (omega (arith, h, (stay u z).1))

        pub absorbed : State Adj n m (suc B) lim up' nxt ex ey half' t' base' par rk' root' lab'
        absorbed = contracted swap Q D.bow meet left child
            (λ d z. let f = D.frame d (omega (arith, z, ap (λ (q : ℕ). is q d) meet)) in (off d z, f.0, f.1, f.2))
            halves bases rks roots go-in stay range'
