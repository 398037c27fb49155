-- The rings that the tables hold, and the forest of their groups, together: before the first step, and over a step, a store and a contraction. Assumes nothing.
use mathlib.Core.Path.{◌≡◌, refl, sym, ap, ◌∙◌, subst}
use mathlib.Core.Logic.{◌≢◌, ◌⊎◌, inl, inr}
use Prim.Native.Nat.{ℕ, suc, ◌+◌, ◌≤◌, ◌<◌}
use native.Mathlib.Omega.{arith}
use native.Mathlib.Nat.{eq-zero-or-pos}
use native.Mathlib.Decide.{ℕ_discrete, dec_lt}
use mathlib.Core.List.{List}
use Rattle.graphs.proofs.Sets.{is, is-other, is_pos, Is, same, other, is?, cnt}
use Rattle.trees.proofs.Ring.Chain.{Chain, chain-map}
use Rattle.trees.proofs.Forest.Grow.{Set1, Set2, start, grow}
use Rattle.trees.proofs.Forest.Inside.{Pairing}
use Rattle.trees.proofs.Forest.Shape.{Forest, outer-in}
use Rattle.trees.proofs.Forest.Walk.{leg-end, leg-sum}
use Rattle.trees.proofs.Forest.Contract.{contract}
use Rattle.trees.proofs.Ring.Stored.{Above, here, Step, Around, Stored}
use Rattle.trees.proofs.Ring.Made.{store}
use Rattle.trees.proofs.Forest.Bow.{Bow, ring-group, ring-old}

-- B groups so far, with room for lim; `up d` is at least lim where d has gone into no ring
pub record State (Adj : ℕ → ℕ → Type 0) (n : ℕ) (m : ℕ → ℕ) (B lim : ℕ) (up nxt ex ey half t base par rk root lab : ℕ → ℕ) : Type 0 where
  -- the tables hold the rings
  pub stored : Stored Adj n B up nxt ex ey half
  -- their groups are a forest
  pub forest : Forest Adj n m B stored.S t base par rk root lab
  -- a group that a route is in now has gone into no ring
  pub tops : (v : ℕ) → v < n → lim ≤ up (t v)
  -- a group has gone into a ring that there is, or into none
  pub ups : (d : ℕ) → d < lim → (up d < B) ⊎ (lim ≤ up d)
  -- a group that there is not yet has gone into none
  pub unused : (d : ℕ) → B ≤ d → d < lim → lim ≤ up d
  -- what is no route is in no group
  pub new : (y : ℕ) → n ≤ y → lim ≤ t y
  -- there is room
  pub room : B ≤ lim

-- a where d is B, and else b
choose : {d B : ℕ} → Dec (d ≡ B) → ℕ → ℕ → ℕ
choose (yes e) a b = a
choose (no h) a b = b

choose_yes : {d B : ℕ} (q : Dec (d ≡ B)) (a b : ℕ) → d ≡ B → choose q a b ≡ a
unfolding choose
choose_yes (yes e) a b h = refl
choose_yes (no f) a b h = absurd (f h)

choose_no : {d B : ℕ} (q : Dec (d ≡ B)) (a b : ℕ) → d ≢ B → choose q a b ≡ b
unfolding choose
choose_no (yes e) a b h = absurd (h e)
choose_no (no f) a b h = refl

module _ {Adj : ℕ → ℕ → Type 0} {n : ℕ} {m : ℕ → ℕ} {B lim : ℕ} {up nxt ex ey half t base par rk root lab : ℕ → ℕ} {v w x y k : ℕ} {L R Z : List ℕ}
    {up' nxt' ex' ey' half' t' base' rk' root' lab' : ℕ → ℕ}
    (swap : (a b : ℕ) → Adj a b → Adj b a) (Q : State Adj n m B lim up nxt ex ey half t base par rk root lab)
    (b : Bow swap Q.forest v w x y k L R Z nxt' ex' ey') (meet : t x ≡ t y) (left : B < lim)
    (children : (d : ℕ) → 0 < is (t x) d + cnt Z d → up' d ≡ B)
    (frame : (d : ℕ) → is (t x) d + cnt Z d ≡ 0 → (up' d ≡ up d) × (nxt' d ≡ nxt d) × (ex' d ≡ ex d) × (ey' d ≡ ey d))
    (halves : Set1 half half' B k) (bases : Set1 base base' B (base (t x))) (rks : Set1 rk rk' B (rk (t x))) (roots : Set1 root root' B (root (t x)))
    (go-in : (u : ℕ) → 0 < is (t x) (t u) + cnt Z (t u) → (t' u ≡ B) × (lab' u ≡ 2))
    (stay : (u : ℕ) → is (t x) (t u) + cnt Z (t u) ≡ 0 → (t' u ≡ t u) × (lab' u ≡ lab u))
    (range' : (u : ℕ) → 0 < lab' u → u < n) where
  abbrev F : Forest Adj n m B Q.stored.S t base par rk root lab
  F = Q.forest

  x-in : x < n
  x-in = outer-in F (leg-end F b.left)

  old : (d : ℕ) → 0 < is (t x) d + cnt Z d → d < B
  old = ring-old swap F b

  outside : (d : ℕ) → up d < B → is (t x) d + cnt Z d ≡ 0
  outside d h = go (eq-zero-or-pos (is (t x) d + cnt Z d))
    where
      go : (is (t x) d + cnt Z d ≡ 0) ⊎ (0 < is (t x) d + cnt Z d) → is (t x) d + cnt Z d ≡ 0
      go (inl e) = e
      go (inr p) = let g = ring-group swap F b d p in absurd (omega (arith, h, Q.tops g.0 g.1, ap up g.2, Q.room))

  S' : ℕ → ℕ → ℕ
  S' d u = choose (ℕ_discrete d B) (is (t x) (t u) + cnt Z (t u)) (Q.stored.S d u)

  sets : (d : ℕ) → d ≢ B → (u : ℕ) → S' d u ≡ Q.stored.S d u
  unfolding S'
  sets d h u = choose_no (ℕ_discrete d B) _ _ h

  set : (u : ℕ) → S' B u ≡ is (t x) (t u) + cnt Z (t u)
  unfolding S'
  set u = choose_yes (ℕ_discrete B B) _ _ refl

  ring : Chain (Step Adj Q.stored.S nxt' ex' ey') (t x) Z (t x)
  ring = subst (λ (c : ℕ). Chain (Step Adj Q.stored.S nxt' ex' ey') c Z (t x)) (sym meet) b.steps

  only : (d : ℕ) → d < suc B → up' d < suc B → ((d < B) × (up d < B)) ⊎ (0 < is (t x) d + cnt Z d)
  only d i h = go (eq-zero-or-pos (is (t x) d + cnt Z d)) (Q.ups d (omega arith)) (ℕ_discrete d B)
    where
      go : (is (t x) d + cnt Z d ≡ 0) ⊎ (0 < is (t x) d + cnt Z d) → (up d < B) ⊎ (lim ≤ up d) → Dec (d ≡ B) → ((d < B) × (up d < B)) ⊎ (0 < is (t x) d + cnt Z d)
      go (inr p) q e = inr p
      go (inl z) (inr q) e = absurd (omega (arith, (frame d z).0, q, h, left))
      go (inl z) (inl q) (no e) = inl (omega arith, q)
      go (inl z) (inl q) (yes e) = absurd (omega (arith, Q.unused d (omega arith) (omega arith)))

  pub stored' : Stored Adj n (suc B) up' nxt' ex' ey' half'
  stored' =
      store up' nxt' ex' ey' half' S' (t x) Z Q.stored F.fresh sets
      (λ u. set u ∙ omega (arith, F.own x x-in u, b.sums u, leg-sum F b.left u, leg-sum F b.right u, b.counts (t u)))
      ring (omega (arith, b.even, halves.at)) (λ d p. (old d p, children d p))
      (λ d h. frame d (outside d h)) (λ d h. halves.rest d (omega (arith, h))) only

  fresh : (u : ℕ) → t u ≡ B → Dec (u < n) → ⊥
  fresh u e (yes i) = omega (arith, F.used u i)
  fresh u e (no h) = omega (arith, Q.new u (omega arith), left)

  none : (d : ℕ) → B ≤ d → is (t x) d + cnt Z d ≡ 0
  none d h = go (eq-zero-or-pos (is (t x) d + cnt Z d))
    where
      go : (is (t x) d + cnt Z d ≡ 0) ⊎ (0 < is (t x) d + cnt Z d) → is (t x) d + cnt Z d ≡ 0
      go (inl e) = e
      go (inr p) = absurd (omega (arith, old d p))

  forest' : Forest Adj n m (suc B) S' t' base' par rk' root' lab'
  forest' =
      contract swap F b.left b.right meet b.disjoint (λ u e. fresh u e (dec_lt u n)) sets (λ u. set u ∙ omega (arith, b.counts (t u))) bases rks roots
      (λ u h. go-in u (omega (arith, h, b.counts (t u)))) (λ u h. stay u (omega (arith, h, b.counts (t u)))) range'

  pub contracted : State Adj n m (suc B) lim up' nxt' ex' ey' half' t' base' par rk' root' lab'
  unfolding stored' store
  contracted = record {
    stored = stored';
    forest = forest';
    tops = λ u i. tops' u i (eq-zero-or-pos (is (t x) (t u) + cnt Z (t u)));
    ups = λ d i. ups' d (eq-zero-or-pos (is (t x) d + cnt Z d)) (Q.ups d i);
    unused = λ d i j. omega (arith, (frame d (none d (omega arith))).0, Q.unused d (omega arith) j);
    new = λ u i. omega (arith, Q.new u i, (stay u (none (t u) (omega (arith, Q.new u i, left)))).0);
    room = left;
  }
    where
      tops' : (u : ℕ) → u < n → (is (t x) (t u) + cnt Z (t u) ≡ 0) ⊎ (0 < is (t x) (t u) + cnt Z (t u)) → lim ≤ up' (t' u)
      tops' u i (inl z) = omega (arith, ap up' (stay u z).0, (frame (t u) z).0, Q.tops u i)
      tops' u i (inr p) = omega (arith, ap up' (go-in u p).0, (frame B (none B (omega arith))).0, Q.unused B (omega arith) left)

      ups' : (d : ℕ) → (is (t x) d + cnt Z d ≡ 0) ⊎ (0 < is (t x) d + cnt Z d) → (up d < B) ⊎ (lim ≤ up d) → (up' d < suc B) ⊎ (lim ≤ up' d)
      ups' d (inr p) q = inl (omega (arith, children d p))
      ups' d (inl z) (inl q) = inl (omega (arith, (frame d z).0))
      ups' d (inl z) (inr q) = inr (omega (arith, (frame d z).0))

-- ---- the other steps

-- each free route a tree, and no ring
pub state-start : {Adj : ℕ → ℕ → Type 0} {n : ℕ} {m : ℕ → ℕ} {lim : ℕ} {up nxt ex ey half base par rk root : ℕ → ℕ} (t lab : ℕ → ℕ) → n ≤ lim
    → Pairing Adj m → ((v : ℕ) → v < n → m v < n) → ((d : ℕ) → d < lim → lim ≤ up d)
    → ((v : ℕ) → v < n → t v ≡ v) → ((y : ℕ) → n ≤ y → lim ≤ t y) → ((v : ℕ) → v < n → base v ≡ v)
    → ((v : ℕ) → 0 < lab v → v < n) → ((v : ℕ) → v < n → (root v ≡ v) × (rk v ≡ 0))
    → ((v : ℕ) → v < n → m v ≡ v → lab v ≡ 2) → ((v : ℕ) → v < n → m v ≢ v → lab v ≡ 0)
    → State Adj n m n lim up nxt ex ey half t base par rk root lab
state-start {Adj} {n} {m} {lim} {up} {nxt} {ex} {ey} {half} {base} {par} {rk} {root} t lab le P ins ups tv ty bv ran tops fr un = record {
  stored = record {
    S = is;
    leaf = λ v i y. refl;
    inside = λ c y i h. omega (arith, is_pos c y (omega arith), i);
    chain = λ c y i h. subst (λ (z : ℕ). Above n up z c) (is_pos c y (omega arith)) here;
    around = λ c i u. absurd (omega (arith, ups c (omega arith)));
  };
  forest = start t lab P ins tv bv (λ v y i. same_set v y i (dec_lt y n)) ran tops fr un;
  tops = λ v i. omega (arith, ap up (tv v i), ups v (omega arith));
  ups = λ d i. inr (ups d i);
  unused = λ d i j. ups d j;
  new = ty;
  room = le;
}
  where
    same_set : (v y : ℕ) → v < n → Dec (y < n) → is v (t y) ≡ is v y
    same_set v y i (yes j) = ap (is v) (tv y j)
    same_set v y i (no h) = is-other (λ e. omega (arith, e, ty y (omega arith))) ∙ sym (is-other (λ e. omega arith))

pub state-grow : {Adj : ℕ → ℕ → Type 0} {n : ℕ} {m : ℕ → ℕ} {B lim : ℕ} {up nxt ex ey half t base par rk root lab par' rk' root' lab' : ℕ → ℕ} {v w : ℕ}
    → ((a b : ℕ) → Adj a b → Adj b a) → State Adj n m B lim up nxt ex ey half t base par rk root lab
    → lab v ≡ 2 → w < n → lab w ≡ 0 → Adj w v → Set2 lab lab' w 1 (m w) 2 → Set1 par par' w v
    → Set2 rk rk' w (suc (rk (t v))) (m w) (suc (suc (rk (t v)))) → Set2 root root' w (root (t v)) (m w) (root (t v))
    → State Adj n m B lim up nxt ex ey half t base par' rk' root' lab'
state-grow swap Q o i z e a b c d = record {
  stored = Q.stored;
  forest = grow swap Q.forest o i z e a b c d;
  tops = Q.tops;
  ups = Q.ups;
  unused = Q.unused;
  new = Q.new;
  room = Q.room;
}

-- a store at a group that is in no ring
pub state-bridge : {Adj : ℕ → ℕ → Type 0} {n : ℕ} {m : ℕ → ℕ} {B lim : ℕ} {up nxt ex ey half t base par rk root lab nxt' ex' ey' : ℕ → ℕ} {g a b c : ℕ}
    → lim ≤ up g → Set1 nxt nxt' g a → Set1 ex ex' g b → Set1 ey ey' g c
    → State Adj n m B lim up nxt ex ey half t base par rk root lab → State Adj n m B lim up nxt' ex' ey' half t base par rk root lab
state-bridge {Adj} {n} {m} {B} {lim} {up} {nxt} {ex} {ey} {half} {nxt' = nxt'} {ex' = ex'} {ey' = ey'} {g = g} free p q r Q = record {
  stored = record {
    S = Q.stored.S;
    leaf = Q.stored.leaf;
    inside = Q.stored.inside;
    chain = Q.stored.chain;
    around = λ c i u. around' c i u;
  };
  forest = Q.forest;
  tops = Q.tops;
  ups = Q.ups;
  unused = Q.unused;
  new = Q.new;
  room = Q.room;
}
  where
    around' : (c : ℕ) → c < B → up c < B → Around Adj n B up nxt' ex' ey' half Q.stored.S c
    around' c i u =
        let s = Q.stored.around c i u in
        record {
          rest = s.rest;
          even = s.even;
          all = s.all;
          below = s.below;
          steps = chain-map (Step Adj Q.stored.S nxt ex ey) (Step Adj Q.stored.S nxt' ex' ey') c s.rest c
              (λ e f x y k. let h = off s.rest e x s.below in record {
                next = p.rest e h ∙ k.next;
                out = ap (Q.stored.S e) (q.rest e h) ∙ k.out;
                into = ap (Q.stored.S f) (r.rest e h) ∙ k.into;
                edge = subst (λ (z : ℕ). Adj z (ey' e)) (sym (q.rest e h)) (subst (Adj (ex e)) (sym (r.rest e h)) k.edge);
              }) s.steps;
        }
      where
        off : (l : List ℕ) (e : ℕ) → 0 < is c e + cnt l e → ((d : ℕ) → 0 < cnt l d → (d < up c) × (up d ≡ up c)) → e ≢ g
        off l e x bl h = go (is? c e)
          where
            go : Is c e → ⊥
            go (same a k) = omega (arith, free, u, ap up (a ∙ h), Q.room)
            go (other a k) = omega (arith, free, u, (bl e (omega arith)).1, ap up h, Q.room)
