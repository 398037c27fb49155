-- The forest before the first step, where each free route is a tree, and a step from an outer route v to a route w that is not reached and to w's partner.
-- Assumes nothing.
use mathlib.Core.Path.{◌≡◌, refl, sym, ap, ◌∙◌, subst}
use mathlib.Core.Logic.{◌≢◌, ◌⊎◌, inl, inr}
use Prim.Native.Nat.{ℕ, suc, ◌<◌}
use native.Mathlib.Omega.{arith}
use native.Mathlib.Decide.{ℕ_discrete}
use Rattle.graphs.proofs.Sets.{is}
use Rattle.trees.proofs.Forest.Inside.{Pairing}
use Rattle.trees.proofs.Forest.Shape.{Inner, Forest, plain}

-- f' is f with x set at a
pub record Set1 (f f' : ℕ → ℕ) (a x : ℕ) : Type 0 where
  pub at : f' a ≡ x
  pub rest : (z : ℕ) → z ≢ a → f' z ≡ f z

-- f' is f with x set at a, and y at b
pub record Set2 (f f' : ℕ → ℕ) (a x b y : ℕ) : Type 0 where
  pub at : f' a ≡ x
  pub and : f' b ≡ y
  pub rest : (z : ℕ) → z ≢ a → z ≢ b → f' z ≡ f z

-- each free route is a tree
pub start : {Adj : ℕ → ℕ → Type 0} {n : ℕ} {m : ℕ → ℕ} {base par rk root : ℕ → ℕ} (t lab : ℕ → ℕ) → Pairing Adj m → ((v : ℕ) → v < n → m v < n)
    → ((v : ℕ) → v < n → t v ≡ v) → ((v : ℕ) → v < n → base v ≡ v) → ((v y : ℕ) → v < n → is v (t y) ≡ is v y)
    → ((v : ℕ) → 0 < lab v → v < n) → ((v : ℕ) → v < n → (root v ≡ v) × (rk v ≡ 0))
    → ((v : ℕ) → v < n → m v ≡ v → lab v ≡ 2) → ((v : ℕ) → v < n → m v ≢ v → lab v ≡ 0)
    → Forest Adj n m n is t base par rk root lab
start {Adj} {n} {m} {base} {par} {rk} {root} t lab P ins tt bb ts ran tops fr un = record {
  pairing = P;
  inside = ins;
  fresh = omega arith;
  range = ran;
  used = λ v i. omega (arith, tt v i, i);
  leaf = λ v i y. refl;
  own = λ v i y. subst (λ (z : ℕ). is z y ≡ is z (t y)) (sym (tt v i)) (sym (ts v y i));
  home-range = λ v i. omega (arith, ap base (tt v i), bb v i, i);
  home = λ v i. ap t (ap base (tt v i) ∙ bb v i);
  near = λ v i y. rw (tt v i, bb v i) (omega (arith, ts v (m y) i, ts v y i));
  single = λ v i h. tt v i;
  free = λ v i e. (ap base (tt v i) ∙ bb v i, fr v i e);
  apart = λ v i z. un (m v) (ins v i) (λ e. omega (arith, z, fr v i (sym e ∙ P.back v)));
  up = λ v o. inl (at-root v (ran v (omega arith)) (ℕ_discrete (m v) v) o);
  top = λ v o e. let i = ran v (omega arith) in rw (tt v i, bb v i) (tops v i);
  inner = λ i o. absurd (no_inner i (ℕ_discrete (m i) i) o);
}
  where
    at-root : (v : ℕ) → v < n → Dec (m v ≡ v) → lab v ≡ 2 → m (base (t v)) ≡ base (t v)
    at-root v i (yes e) o = rw (tt v i, bb v i) e
    at-root v i (no e) o = absurd (omega (arith, un v i e))

    no_inner : (i : ℕ) → Dec (m i ≡ i) → lab i ≡ 1 → ⊥
    no_inner i (yes e) o = omega (arith, fr i (ran i (omega arith)) e)
    no_inner i (no e) o = omega (arith, un i (ran i (omega arith)) e)

module _ {Adj : ℕ → ℕ → Type 0} {n : ℕ} {m : ℕ → ℕ} {B : ℕ} {S : ℕ → ℕ → ℕ} {t base par rk root lab : ℕ → ℕ} {par' rk' root' lab' : ℕ → ℕ} {v w : ℕ}
    (swap : (x y : ℕ) → Adj x y → Adj y x) (F : Forest Adj n m B S t base par rk root lab)
    (v-outer : lab v ≡ 2) (w-in : w < n) (w-new : lab w ≡ 0) (edge : Adj w v)
    (labs : Set2 lab lab' w 1 (m w) 2) (pars : Set1 par par' w v)
    (rks : Set2 rk rk' w (suc (rk (t v))) (m w) (suc (suc (rk (t v))))) (roots : Set2 root root' w (root (t v)) (m w) (root (t v))) where
  u-in : m w < n
  u-in = F.inside w w-in

  u-new : lab (m w) ≡ 0
  u-new = F.apart w w-in w-new

  -- what was labelled keeps its label
  keeps : {z : ℕ} → 0 < lab z → lab' z ≡ lab z
  keeps {z} h = labs.rest z (λ e. omega (arith, ap lab e, w-new)) (λ e. omega (arith, ap lab e, u-new))

  keeps2 : {z : ℕ} → lab z ≡ 2 → lab' z ≡ 2
  keeps2 {z} o = keeps (omega arith) ∙ o

  keeps1 : {z : ℕ} → lab z ≡ 1 → lab' z ≡ 1
  keeps1 {z} o = keeps (omega arith) ∙ o

  -- an outer route's group has another number than w and its partner
  group-w : {z : ℕ} → 0 < lab z → t z ≢ w
  group-w {z} o e = omega (arith, w-new, ap lab (plain F w-in (omega arith) z e))

  group-u : {z : ℕ} → 0 < lab z → t z ≢ m w
  group-u {z} o e = omega (arith, u-new, ap lab (plain F u-in (omega (arith, u-new)) z e))

  rk-group : {z : ℕ} → 0 < lab z → rk' (t z) ≡ rk (t z)
  rk-group {z} o = rks.rest (t z) (group-w o) (group-u o)

  root-group : {z : ℕ} → 0 < lab z → root' (t z) ≡ root (t z)
  root-group {z} o = roots.rest (t z) (group-w o) (group-u o)

  u-alone : t (m w) ≡ m w
  u-alone = F.single (m w) u-in (omega (arith, u-new))

  u-base : base (t (m w)) ≡ m w
  u-base = plain F u-in (omega (arith, u-new)) _ (F.home (m w) u-in ∙ u-alone)

  -- a label of the new forest: w, its partner, or as it was
  data Label (z : ℕ) : Type 0 where
    is-w : z ≡ w → lab' z ≡ 1 → Label z
    is-u : z ≡ m w → lab' z ≡ 2 → Label z
    is-old : z ≢ w → z ≢ m w → lab' z ≡ lab z → Label z

  label : (z : ℕ) → Label z
  label z = go (ℕ_discrete z w) (ℕ_discrete z (m w))
    where
      go : Dec (z ≡ w) → Dec (z ≡ m w) → Label z
      go (yes e) d = is-w e (ap lab' e ∙ labs.at)
      go (no h) (yes e) = is-u e (ap lab' e ∙ labs.and)
      go (no h) (no k) = is-old h k (labs.rest z h k)

  up' : (z : ℕ) → lab' z ≡ 2 → (m (base (t z)) ≡ base (t z)) ⊎ (lab' (m (base (t z))) ≡ 1)
  up' z o = go (label z)
    where
      old : (m (base (t z)) ≡ base (t z)) ⊎ (lab (m (base (t z))) ≡ 1) → (m (base (t z)) ≡ base (t z)) ⊎ (lab' (m (base (t z))) ≡ 1)
      old (inl e) = inl e
      old (inr i) = inr (keeps1 i)

      go : Label z → (m (base (t z)) ≡ base (t z)) ⊎ (lab' (m (base (t z))) ≡ 1)
      go (is-w e l) = absurd (omega arith)
      go (is-u e l) = inr (ap lab' (ap m (ap base (ap t e) ∙ u-base) ∙ F.pairing.back w) ∙ labs.at)
      go (is-old h k l) = old (F.up z (sym l ∙ o))

  top' : (z : ℕ) → lab' z ≡ 2 → m (base (t z)) ≡ base (t z) → (root' (t z) ≡ base (t z)) × (rk' (t z) ≡ 0)
  top' z o e = go (label z)
    where
      go : Label z → (root' (t z) ≡ base (t z)) × (rk' (t z) ≡ 0)
      go (is-w a l) = absurd (omega arith)
      go (is-u a l) =
          let b : base (t z) ≡ m w = ap base (ap t a) ∙ u-base in
          absurd (omega (arith, w-new, u-new, (F.free (m w) u-in (ap m (sym b) ∙ e ∙ b)).1))
      go (is-old h k l) =
          let q : lab z ≡ 2 = sym l ∙ o in
          let f = F.top z q e in
          (root-group {z = z} (omega arith) ∙ f.0, rk-group {z = z} (omega arith) ∙ f.1)

  inner' : (i : ℕ) → lab' i ≡ 1 → Inner Adj m t base par' rk' root' lab' i
  inner' i o = go (label i)
    where
      go : Label i → Inner Adj m t base par' rk' root' lab' i
      go (is-u e l) = absurd (omega arith)
      go (is-w e l) = subst (Inner Adj m t base par' rk' root' lab') (sym e) (record {
        parent = ap lab' pars.at ∙ keeps2 v-outer;
        edge = subst (Adj w) (sym pars.at) edge;
        partner = labs.and;
        based = u-base;
        above = omega (arith, ap rk' (ap t pars.at), rk-group {z = v} (omega (arith, v-outer)), rks.at);
        below = omega (arith, rks.at, rks.and, ap rk' u-alone);
        root-above = ap root' (ap t pars.at) ∙ root-group {z = v} (omega (arith, v-outer)) ∙ sym roots.at;
        root_below = roots.at ∙ sym (ap root' u-alone ∙ roots.and);
      })
      go (is-old h k l) =
          let j = F.inner i (sym l ∙ o) in
          let p = pars.rest i h in
          let q : 0 < lab (par i) = omega (arith, j.parent) in
          let r : 0 < lab (m i) = omega (arith, j.partner) in
          record {
            parent = ap lab' p ∙ keeps2 j.parent;
            edge = subst (Adj i) (sym p) j.edge;
            partner = keeps2 j.partner;
            based = j.based;
            above = omega (arith, ap rk' (ap t p), rk-group q, rks.rest i h k, j.above);
            below = omega (arith, rks.rest i h k, rk-group r, j.below);
            root-above = ap root' (ap t p) ∙ root-group q ∙ j.root-above ∙ sym (roots.rest i h k);
            root_below = roots.rest i h k ∙ j.root_below ∙ sym (root-group r);
          }

  apart' : (z : ℕ) → z < n → lab' z ≡ 0 → lab' (m z) ≡ 0
  apart' z r o = go (label z)
    where
      back : (y : ℕ) → m (m y) ≡ y
      back = F.pairing.back

      go : Label z → lab' (m z) ≡ 0
      go (is-w e l) = absurd (omega arith)
      go (is-u e l) = absurd (omega arith)
      go (is-old h k l) =
          labs.rest (m z) (λ e. k (sym (back z) ∙ ap m e)) (λ e. h (sym (back z) ∙ ap m e ∙ back w)) ∙ F.apart z r (sym l ∙ o)

  pub grow : Forest Adj n m B S t base par' rk' root' lab'
  grow = record {
    pairing = F.pairing;
    inside = F.inside;
    fresh = F.fresh;
    range = λ z h. range' z h (label z);
    used = F.used;
    leaf = F.leaf;
    own = F.own;
    home-range = F.home-range;
    home = F.home;
    near = F.near;
    single = λ z i h. F.single z i (λ o. h (keeps2 o));
    free = λ z i e. let f = F.free z i e in (f.0, keeps2 f.1);
    apart = apart';
    up = up';
    top = top';
    inner = inner';
  }
    where
      range' : (z : ℕ) → 0 < lab' z → Label z → z < n
      range' z h (is-w e l) = omega (arith, e, w-in)
      range' z h (is-u e l) = omega (arith, e, u-in)
      range' z h (is-old a b l) = F.range z (omega arith)
