-- A cell after a store, and a counter short of its end. Before anything is shown of the search, it is held to what has been computed. Assumes nothing.
use mathlib.Core.Path.{◌≡◌, refl, sym, ap, ◌∙◌}
use mathlib.Core.Logic.{◌≢◌}
use mathlib.Core.Bool.{Bool, true, false, cond}
use mathlib.Core.List.{List, [], ◌∷◌}
use Prim.Native.Nat.{ℕ, zero, suc, ◌≤◌, ◌<◌}
use native.Mathlib.Omega.{arith}
use native.Mathlib.Nat.{not-suc-le-zero, le_of_suc-le-suc}
use lib.Dec.{ltb}
use lib.ListN.{length, get_or, set, length-set, replicate, length-replicate, get_or-replicate}
use lib.Seq.{get_or-set_same, get_or-set_other, set_out}
use borrow.Author.Tests.{ltb-false, lt-ltb, le-ltb}
use Rattle.limits.specs.Limits.{none}
use Rattle.theory.specs.Search.Tables.{groups, cell, store, one_more}
use Rattle.trees.proofs.Forest.Grow.{Set1, Set2}

-- what holds of both branches holds of the one that is taken
pub by-test : {A : Type 0} (P : A → Type 0) (b : Bool) (x y : A) → (b ≡ true → P x) → (b ≡ false → P y) → P (cond b x y)
by-test P true x y f g = f refl
by-test P false x y f g = g refl

-- an element has one value, whatever stands past the end
pub get_d_any : (l : List ℕ) (i d e : ℕ) → i < length l → get_or l i d ≡ get_or l i e
get_d_any [] i d e h = absurd (not-suc-le-zero h)
get_d_any (x ∷ xs) zero d e h = refl
get_d_any (x ∷ xs) (suc i) d e h = get_d_any xs i d e (le_of_suc-le-suc h)

pub length-rep : (k a : ℕ) → length (replicate k a) ≡ k
length-rep k a = length-replicate k a

-- ---- reads

module _ (size : ℕ) (l : List ℕ) (i : ℕ) where
  pub cell_in : i < size → cell size l i ≡ get_or l i 0
  unfolding cell
  cell_in h = rw (lt-ltb i size h) refl

  pub cell-past : size ≤ i → cell size l i ≡ none
  unfolding cell
  cell-past h = rw (le-ltb i size h) refl

  -- a cell of the table, with any default
  pub cell-any : (d : ℕ) → i < size → length l ≡ size → cell size l i ≡ get_or l i d
  cell-any d h k = cell_in h ∙ get_d_any l i 0 d (omega (arith, k))

-- a table of one number
pub cell-rep : (size i a : ℕ) → i < size → cell size (replicate size a) i ≡ a
cell-rep size i a h = cell_in size (replicate size a) i h ∙ get_or-replicate size i a 0 h

-- ---- stores

module _ (size : ℕ) (l : List ℕ) (i x : ℕ) where
  pub store_is : length l ≡ size → store size l i x ≡ set l i x
  unfolding store
  store_is h = by-test (λ (k : List ℕ). k ≡ set l i x) (ltb i size) _ _ (λ t. refl) (λ t. sym (set_out l i x (omega (arith, h, ltb-false i size t))))

  pub store_in : i < size → store size l i x ≡ set l i x
  unfolding store
  store_in h = rw (lt-ltb i size h) refl

  pub store_length : length (store size l i x) ≡ length l
  unfolding store
  store_length = by-test (λ (k : List ℕ). length k ≡ length l) (ltb i size) _ _ (λ t. length-set l i x) (λ t. refl)

  pub store_same : i < size → length l ≡ size → cell size (store size l i x) i ≡ x
  store_same h k = cell_in size (store size l i x) i h ∙ ap (λ (m : List ℕ). get_or m i 0) (store_is k) ∙ get_or-set_same l i x 0 (omega (arith, k))

  pub store_other : (j : ℕ) → j ≢ i → cell size (store size l i x) j ≡ cell size l j
  unfolding cell store
  store_other j h = by-test (λ (k : List ℕ). cond (ltb j size) (get_or k j 0) none ≡ cond (ltb j size) (get_or l j 0) none) (ltb i size) _ _
      (λ t. ap (λ (z : ℕ). cond (ltb j size) z none) (get_or-set_other l i j x 0 h)) (λ t. refl)

  pub stored_one : i < size → length l ≡ size → Set1 (cell size l) (cell size (store size l i x)) i x
  stored_one h k = record { at = store_same h k; rest = λ z p. store_other z p }

-- two stores at two places
module _ (size : ℕ) (l : List ℕ) (i x j y : ℕ) where
  pub store-two-length : length (store size (store size l i x) j y) ≡ length l
  store-two-length = store_length size (store size l i x) j y ∙ store_length size l i x

  pub stored-two : i < size → j < size → length l ≡ size → i ≢ j → Set2 (cell size l) (cell size (store size (store size l i x) j y)) i x j y
  stored-two h k e ne = record {
    at = store_other size (store size l i x) j y i ne ∙ store_same size l i x h e;
    and = store_same size (store size l i x) j y k (store_length size l i x ∙ e);
    rest = λ z p q. store_other size (store size l i x) j y z q ∙ store_other size l i x z p;
  }

-- ---- counters

pub one_more-is : (room t : ℕ) → t < groups room → one_more room t ≡ suc t
unfolding one_more
one_more-is room t h = rw (lt-ltb t (groups room) h) (omega arith)
