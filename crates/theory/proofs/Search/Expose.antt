-- A group exposed at one of its routes x: the pairs that are stored are edges, and name each route of the group but x once. Round a ring they come two by
-- two (`Round`), and from x's own group up through its rings (`Above`). Assumes nothing.
use mathlib.Core.Path.{◌≡◌, refl, ap, ◌∙◌, subst}
use mathlib.Core.List.{List}
use Prim.Native.Nat.{ℕ, zero, suc, ◌-◌, ◌≤◌, ◌<◌}
use native.Mathlib.Omega.{arith}
use native.Mathlib.Nat.{not-suc-le-zero}
use lib.Dec.{eqb}
use lib.ListN.{length, set, length-set}
use borrow.Author.Tests.{eqb-true, eqb-false}
use Rattle.theory.specs.Search.Tables.{groups, cell, store, Rings}
use Rattle.theory.specs.Search.Expose.{pair_up, couples, lift, expose}
use Rattle.trees.proofs.Ring.Stored.{Above, above-le, above-next, Stored}
use Rattle.trees.proofs.Ring.Exposed.{Exposed, exposed-none, Round, round-start, round-end, Couple, round-couple}
use Rattle.theory.proofs.Search.Cells.{by-test, store_is, store_length}

-- ---- a pair stored

pub pair-length : (room : ℕ) (m : List ℕ) (a b : ℕ) → length (pair_up room m a b) ≡ length m
unfolding pair_up
pair-length room m a b = store_length room (store room m a b) b a ∙ store_length room m a b

pub pair_is : (room : ℕ) (m : List ℕ) (a b : ℕ) → length m ≡ room → pair_up room m a b ≡ set (set m a b) b a
unfolding pair_up
pair_is room m a b h = ap (λ (l : List ℕ). store room l b a) (store_is room m a b h) ∙ store_is room (set m a b) b a (length-set m a b ∙ h)

-- ---- lengths

module _ (room : ℕ) (e : ℕ → ℕ → List ℕ → List ℕ) (same : (a x : ℕ) (m : List ℕ) → length (e a x m) ≡ length m) (r : Rings) where
  couples-length : (j a : ℕ) (m : List ℕ) → length (couples room e r j a m) ≡ length m
  unfolding couples
  couples-length zero a m = refl
  couples-length (suc j) a m = couples-length j _ _ ∙ same _ _ _ ∙ same _ _ _ ∙ pair-length room m _ _

  lift-length : (half : List ℕ) (j c g : ℕ) (m : List ℕ) → length (lift room e r half j c g m) ≡ length m
  unfolding lift
  lift-length half zero c g m = refl
  lift-length half (suc j) c g m = by-test (λ (l : List ℕ). length l ≡ length m) (eqb c g) _ _ (λ t. refl) (λ t. lift-length half j _ _ _ ∙ couples-length _ _ m)

pub expose-length : (room : ℕ) (r : Rings) (half : List ℕ) (f a x : ℕ) (m : List ℕ) → length (expose room r half f a x m) ≡ length m
unfolding expose
expose-length room r half zero a x m = refl
expose-length room r half (suc f) a x m = lift-length room (expose room r half f) (expose-length room r half f) r half f x a m

-- ---- a group exposed

module _ {Adj : ℕ → ℕ → Type 0} {n B : ℕ} (room : ℕ) (r : Rings) (half : List ℕ)
    (R : Stored Adj n B (cell (groups room) r.up) (cell (groups room) r.next) (cell (groups room) r.out) (cell (groups room) r.into) (cell (groups room) half)) where
  abbrev lim : ℕ
  lim = groups room

  abbrev Rounds : ℕ → ℕ → ℕ → ℕ → List ℕ → List ℕ → Type 0
  Rounds = Round Adj n B (cell lim r.up) (cell lim r.next) (cell lim r.out) (cell lim r.into) (cell lim half) R

  -- e exposes each group below g
  module _ {g : ℕ} (in-B : g < B) (e : ℕ → ℕ → List ℕ → List ℕ) (same : (a y : ℕ) (m : List ℕ) → length (e a y m) ≡ length m)
      (smaller : (a y : ℕ) (m : List ℕ) → a < g → length m ≡ room → R.S a y ≡ 1 → Exposed Adj y (R.S a) m (e a y m)) where
    -- as many couples as are left, round the ring of b
    round : {c b : ℕ} (m₁ : List ℕ) → b ≤ g → (left a : ℕ) (m : List ℕ) → length m ≡ room → Rounds b c a left m₁ m → (a' : ℕ) × Rounds b c a' 0 m₁ (couples room e r left a m)
    unfolding couples
    round m₁ h zero a m len I = (a, I)
    round {c} {b} m₁ h (suc left) a m len I =
        let k : Couple Adj n B (cell lim r.up) (cell lim r.next) (cell lim r.out) (cell lim r.into) (cell lim half) R b c a left m₁ m
        = round-couple Adj n B (cell lim r.up) (cell lim r.next) (cell lim r.out) (cell lim r.into) (cell lim half) R b c a left m₁ m I in
        let d = cell lim r.next a in
        let x = cell lim r.out a in
        let y = cell lim r.into a in
        let p : List ℕ = pair_up room m x y in
        let m₂ : List ℕ = e a x p in
        let len₁ : length p ≡ room = pair-length room m x y ∙ len in
        let len₂ : length m₂ ≡ room = same a x p ∙ len₁ in
        let one : Exposed Adj x (R.S a) p m₂ = smaller a x p (omega (arith, k.first)) len₁ k.out in
        let two : Exposed Adj y (R.S d) m₂ (e d y m₂) = smaller d y m₂ (omega (arith, k.second)) len₂ k.into in
        round m₁ h left (cell lim r.next d) (e d y m₂) (same d y m₂ ∙ len₂)
        (k.then m₂ (e d y m₂) (subst (λ (l : List ℕ). Exposed Adj x (R.S a) l m₂) (pair_is room m x y len) one) two)

    -- x is exposed in c, and g lies above c
    climb : {x : ℕ} {m₀ : List ℕ} (j c : ℕ) (m : List ℕ) → Above B (cell lim r.up) c g → length m ≡ room → Exposed Adj x (R.S c) m₀ m → g - c ≤ j
        → Exposed Adj x (R.S g) m₀ (lift room e r half j c g m)
    unfolding lift
    climb {x} {m₀} zero c m a len E h = let q : c ≡ g = omega (arith, above-le a) in subst (λ (d : ℕ). Exposed Adj x (R.S d) m₀ m) q E
    climb {x} {m₀} (suc j) c m a len E h = by-test (Exposed Adj x (R.S g) m₀) (eqb c g) _ _
        (λ t. subst (λ (d : ℕ). Exposed Adj x (R.S d) m₀ m) (eqb-true c g t) E)
        (λ t.
        let k = above-next a (eqb-false c g t) in
        let b = cell lim r.up c in
        let I : Rounds b c (cell lim r.next c) (cell lim half b) m m
        = round-start Adj n B (cell lim r.up) (cell lim r.next) (cell lim r.out) (cell lim r.into) (cell lim half) R c m (omega (arith, above-le a)) k.1 in
        let q = round m (above-le k.2) (cell lim half b) (cell lim r.next c) m len I in
        climb j b _ k.2 (couples-length room e same r (cell lim half b) (cell lim r.next c) m ∙ len)
        (round-end Adj n B (cell lim r.up) (cell lim r.next) (cell lim r.out) (cell lim r.into) (cell lim half) R b c q.0 x m₀ m _ q.1 E) (omega (arith, k.0)))

  pub expose-exposed : (f g x : ℕ) (m : List ℕ) → g < f → g < B → length m ≡ room → R.S g x ≡ 1 → Exposed Adj x (R.S g) m (expose room r half f g x m)
  unfolding expose
  expose-exposed zero g x m h i len k = absurd (not-suc-le-zero h)
  expose-exposed (suc f) g x m h i len k =
      climb i (expose room r half f) (expose-length room r half f) (λ a y m' l q o. expose-exposed f a y m' (omega arith) (omega arith) q o)
      f x m (R.chain g x i k) len (exposed-none Adj x (R.S x) m (R.leaf x (R.inside g x i k))) (omega arith)
