-- The routes' groups after a contraction: a route whose group has gone into b is in b, and every other is where it was. Assumes nothing.
use mathlib.Core.Path.{◌≡◌, refl, ◌∙◌}
use mathlib.Core.Bool.{cond}
use mathlib.Core.List.{List}
use Prim.Native.Nat.{ℕ, zero, suc, ◌≤◌, ◌<◌}
use native.Mathlib.Omega.{arith}
use native.Mathlib.Nat.{not-suc-le-zero}
use native.Mathlib.Decide.{ℕ_discrete}
use lib.Dec.{eqb}
use lib.ListN.{length}
use Rattle.theory.specs.Search.Tables.{groups, cell, store}
use Rattle.theory.specs.Search.Rings.{regroup, shift}
use Rattle.graphs.proofs.Count.{cases}
use Rattle.theory.proofs.Search.Cells.{by-test, store_length, store_same, store_other}

-- the group of a route whose group was t
unfoldable pub moved : ℕ → List ℕ → ℕ → ℕ → ℕ
moved room up b t = cond (eqb (cell (groups room) up t) b) b t

module _ (room : ℕ) (up : List ℕ) (b : ℕ) where
  pub shift-length : (k : ℕ) (t : List ℕ) → length (shift room up b k t) ≡ length t
  unfolding shift regroup
  shift-length zero t = refl
  shift-length (suc k) t = by-test (λ (l : List ℕ). length l ≡ length t) (eqb (cell (groups room) up (cell room (shift room up b k t) k)) b) _ _
      (λ h. store_length room (shift room up b k t) k b ∙ shift-length k t) (λ h. shift-length k t)

  pub shift-off : (k : ℕ) (t : List ℕ) (a : ℕ) → k ≤ a → cell room (shift room up b k t) a ≡ cell room t a
  unfolding shift regroup
  shift-off zero t a h = refl
  shift-off (suc k) t a h = by-test (λ (l : List ℕ). cell room l a ≡ cell room t a) (eqb (cell (groups room) up (cell room (shift room up b k t) k)) b) _ _
      (λ q. store_other room (shift room up b k t) k b a (omega arith) ∙ shift-off k t a (omega arith)) (λ q. shift-off k t a (omega arith))

  pub shift-at : (k : ℕ) (t : List ℕ) (a : ℕ) → length t ≡ room → k ≤ room → a < k → cell room (shift room up b k t) a ≡ moved room up b (cell room t a)
  unfolding shift regroup moved
  shift-at zero t a n h i = absurd (not-suc-le-zero i)
  shift-at (suc k) t a n h i = go (ℕ_discrete a k) (λ j. shift-at k t a n (omega arith) j)
    where
      l : List ℕ
      l = shift room up b k t

      same-k : cell room l k ≡ cell room t k
      same-k = shift-off k t k (omega arith)

      go : Dec (a ≡ k) → (a < k → cell room l a ≡ cond (eqb (cell (groups room) up (cell room t a)) b) b (cell room t a))
          → cell room (cond (eqb (cell (groups room) up (cell room l k)) b) (store room l k b) l) a ≡ cond (eqb (cell (groups room) up (cell room t a)) b) b (cell room t a)
      go (yes e) f = rw (e, same-k) (cases (eqb (cell (groups room) up (cell room t k)) b)
          (λ q. rw q (store_same room l k b h (shift-length k t ∙ n)))
          (λ q. rw q same-k))
      go (no e) f = by-test (λ (r : List ℕ). cell room r a ≡ cond (eqb (cell (groups room) up (cell room t a)) b) b (cell room t a)) (eqb (cell (groups room) up (cell room l k)) b) _ _
          (λ q. store_other room l k b a e ∙ f (omega arith)) (λ q. f (omega arith))
