-- The laws of augmenting: what a path leaves at each id, that it keeps a list sound, and that the count stays right. Assumes nothing.
use Prim.Native.Nat.{ℕ, zero, suc, ◌+◌, ◌*◌, ◌/◌, ◌≤◌, ◌<◌}
use mathlib.Core.Path.{◌≡◌, refl, sym, ◌∙◌, ap}
use mathlib.Core.Logic.{◌≢◌}
use mathlib.Core.List.{List, [], ◌∷◌}
use native.Mathlib.Omega.{arith}
use native.Mathlib.Numerals.{add-one}
use lib.ListN.{length}
use lib.Dec.{eqb, ltb}
use borrow.Author.Tests.{eqb-true, eqb-false, ltb-true, ltb-false}
use Rattle.limits.specs.Limits.{routes, none}
use Rattle.graphs.proofs.Count.{cases}
use Rattle.mates.specs.Partners.{mate_of, Sound, paired, id_at, after, Pairable, augmented}
use Rattle.mates.proofs.Sound.{paired-sound, paired-first, paired-second, paired-other, paired-cases}

pub after_none : (path ps : List ℕ) → after 0 path ps ≡ ps
unfolding after
after_none path ps = refl

pub after_next : (k : ℕ) (path ps : List ℕ) → after (k + 1) path ps ≡ paired (after k path ps) (id_at path (2 * k)) (id_at path (2 * k + 1))
unfolding after
after_next k path ps = rw (add-one, after)

-- an empty path changes nothing
pub augmented-empty : (ps : List ℕ) → augmented ps [] ≡ ps
unfolding augmented after
augmented-empty ps = refl

-- the first pair of a path, then the rest of it
after-cons : (k : ℕ) (ps path : List ℕ) (a b : ℕ) → after (suc k) (a ∷ b ∷ path) ps ≡ after k path (paired ps a b)
unfolding after
after-cons zero ps path a b = refl
after-cons (suc k) ps path a b =
    let e : 2 * suc k ≡ suc (suc (2 * k)) = omega arith in
    let f : 2 * suc k + 1 ≡ suc (suc (2 * k + 1)) = omega arith in
    rw (f, e, after-cons k ps path a b) refl

pub augmented-cons : (ps path : List ℕ) (a b : ℕ) → augmented ps (a ∷ b ∷ path) ≡ augmented (paired ps a b) path
unfolding augmented
augmented-cons ps path a b =
    let e : suc (suc (length path)) / 2 ≡ suc (length path / 2) = omega arith in
    rw e (after-cons (length path / 2) ps path a b)

module _ (ps path : List ℕ) (s : Sound ps) (p : Pairable path) where
  first-id : (k : ℕ) → k < length path / 2 → id_at path (2 * k) < routes
  first-id k l = p.ids (2 * k) (omega arith)

  second-id : (k : ℕ) → k < length path / 2 → id_at path (2 * k + 1) < routes
  second-id k l = p.ids (2 * k + 1) (omega arith)

  pub after-sound : (k : ℕ) → k ≤ length path / 2 → Sound (after k path ps)
  unfolding after
  after-sound zero l = s
  after-sound (suc k) l = paired-sound (after k path ps) (after-sound k (omega arith)) (id_at path (2 * k)) (id_at path (2 * k + 1)) (p.no_self k l) (first-id k l) (second-id k l)

  pub augmented-sound : Sound (augmented ps path)
  unfolding augmented
  augmented-sound = after-sound (length path / 2) (omega arith)

  -- ---- what the first k pairs leave at x

  module _ (x : ℕ) where
    -- x and its partner stand at no position from pair k on, before pair m: x keeps its partner
    after-keeps : (k m y : ℕ) → k ≤ m → m ≤ length path / 2 → mate_of (after k path ps) x ≡ y
        → ((j : ℕ) → 2 * k ≤ j → j < 2 * m → (x ≢ id_at path j) × (y ≢ id_at path j)) → mate_of (after m path ps) x ≡ y
    unfolding after
    after-keeps k zero y l n e h = let z : k ≡ 0 = omega arith in rw z at e
    after-keeps k (suc m) y l n e h = cases (ltb k (suc m))
        (λ t.
        let lk : k < suc m = ltb-true k (suc m) t in
        let q = after-keeps k m y (omega arith) (omega arith) e (λ j a b. h j a (omega arith)) in
        let h₁ = h (2 * m) (omega arith) (omega arith) in
        let h₂ = h (2 * m + 1) (omega arith) (omega arith) in
        paired-other (after m path ps) (after-sound m (omega arith)) (id_at path (2 * m)) (id_at path (2 * m + 1)) (p.no_self m n) (first-id m n) (second-id m n) x
        h₁.0 h₂.0 (λ i. h₁.1 (sym q ∙ i)) (λ i. h₂.1 (sym q ∙ i)) ∙ q)
        (λ t. let z : k ≡ suc m = omega (arith, ltb-false k (suc m) t) in rw z at e)

    -- x is not named, and neither is its partner: x keeps it
    pub augmented-other : ((j : ℕ) → j < length path → (x ≢ id_at path j) × (mate_of ps x ≢ id_at path j)) → mate_of (augmented ps path) x ≡ mate_of ps x
    unfolding augmented after
    augmented-other h = after-keeps 0 (length path / 2) (mate_of ps x) (omega arith) (omega arith) refl (λ j a b. h j (omega arith))

    -- x is not named: it keeps its partner or is free
    module _ (h : (j : ℕ) → j < length path → x ≢ id_at path j) where
      after-or : {C : Type 0} (m : ℕ) → m ≤ length path / 2 → (mate_of (after m path ps) x ≡ none → C) → (mate_of (after m path ps) x ≡ mate_of ps x → C) → C
      unfolding after
      after-or zero l f g = g refl
      after-or (suc m) l f g =
          let q = paired-cases (after m path ps) (after-sound m (omega arith)) (id_at path (2 * m)) (id_at path (2 * m + 1)) (p.no_self m l) (first-id m l) (second-id m l) x in
          q
          (λ e _. absurd (h (2 * m) (omega arith) e))
          (λ e _. absurd (h (2 * m + 1) (omega arith) e))
          f
          (λ _ _ _ _ e. after-or m (omega arith) (λ i. f (e ∙ i)) (λ i. g (e ∙ i)))

      -- a pair that names the partner of x leaves x free
      after-leaves : (m j : ℕ) → m ≤ length path / 2 → j < 2 * m → mate_of ps x ≡ id_at path j → mate_of (after m path ps) x ≡ none
      unfolding after
      after-leaves zero j l k e = absurd (omega arith)
      after-leaves (suc m) j l k e =
          let q = paired-cases (after m path ps) (after-sound m (omega arith)) (id_at path (2 * m)) (id_at path (2 * m + 1)) (p.no_self m l) (first-id m l) (second-id m l) x in
          q
          (λ i _. absurd (h (2 * m) (omega arith) i))
          (λ i _. absurd (h (2 * m + 1) (omega arith) i))
          (λ i. i)
          (λ _ _ n₁ n₂ i. cases (ltb j (2 * m))
          (λ t. i ∙ after-leaves m j (omega arith) (ltb-true j (2 * m) t) e)
          (λ t. i ∙ after-or m (omega arith) (λ z. z) (λ z. cases (eqb j (2 * m))
          (λ u. absurd (n₁ (z ∙ e ∙ ap (id_at path) (eqb-true j (2 * m) u))))
          (λ u. absurd (n₂ (z ∙ e ∙ ap (id_at path) (omega (arith, ltb-false j (2 * m) t, eqb-false j (2 * m) u))))))))

      -- the partner that a named id leaves is free
      pub augmented-leaves : (j : ℕ) → j < length path → mate_of ps x ≡ id_at path j → mate_of (augmented ps path) x ≡ none
      unfolding augmented
      augmented-leaves j l e = after-leaves (length path / 2) j (omega arith) (omega (arith, p.even)) e

  -- ---- a repeated id takes its last pair: neither id of pair k stands at a later position
  module _ (k : ℕ) (l : k < length path / 2)
      (last : (j : ℕ) → 2 * k + 2 ≤ j → j < length path → (id_at path (2 * k) ≢ id_at path j) × (id_at path (2 * k + 1) ≢ id_at path j)) where
    pub augmented-first : mate_of (augmented ps path) (id_at path (2 * k)) ≡ id_at path (2 * k + 1)
    unfolding augmented after
    augmented-first = after-keeps (id_at path (2 * k)) (suc k) (length path / 2) (id_at path (2 * k + 1)) l (omega arith)
        (paired-first (after k path ps) (after-sound k (omega arith)) (id_at path (2 * k)) (id_at path (2 * k + 1)) (p.no_self k l) (first-id k l) (second-id k l))
        (λ j a b. last j (omega arith) (omega arith))

    pub augmented-second : mate_of (augmented ps path) (id_at path (2 * k + 1)) ≡ id_at path (2 * k)
    unfolding augmented after
    augmented-second = after-keeps (id_at path (2 * k + 1)) (suc k) (length path / 2) (id_at path (2 * k)) l (omega arith)
        (paired-second (after k path ps) (after-sound k (omega arith)) (id_at path (2 * k)) (id_at path (2 * k + 1)) (p.no_self k l) (first-id k l) (second-id k l))
        (λ j a b. let h = last j (omega arith) (omega arith) in (h.1, h.0))

  -- ---- each id stands at most once: every pair of the path is a pair then
  module _ (once : (j k : ℕ) → j < length path → k < length path → id_at path j ≡ id_at path k → j ≡ k) (k : ℕ) (l : k < length path / 2) where
    later : (j : ℕ) → 2 * k + 2 ≤ j → j < length path → (id_at path (2 * k) ≢ id_at path j) × (id_at path (2 * k + 1) ≢ id_at path j)
    later j a b =
        (λ e. let z = once (2 * k) j (omega arith) b e in omega arith, λ e. let z = once (2 * k + 1) j (omega arith) b e in omega arith)

    pub once-first : mate_of (augmented ps path) (id_at path (2 * k)) ≡ id_at path (2 * k + 1)
    once-first = augmented-first k l later

    pub once-second : mate_of (augmented ps path) (id_at path (2 * k + 1)) ≡ id_at path (2 * k)
    once-second = augmented-second k l later
