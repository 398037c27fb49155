-- A loop that writes each cell once, from the cell as it was: what it leaves part of the way and at the end. Assumes nothing.
use Prim.Native.Nat.{ℕ, zero, suc, ◌+◌, ◌≤◌, ◌<◌}
use mathlib.Core.Path.{◌≡◌, refl, sym, ◌∙◌}
use mathlib.Core.Logic.{⊎_elim}
use mathlib.Core.List.{List, map}
use native.Mathlib.Omega.{arith}
use native.Mathlib.Numerals.{add-one}
use native.Mathlib.Nat.{not-suc-le-zero, eq-or-lt_of_le, le_of_suc-le-suc}
use lib.ListN.{length, get_or, set, length-set, length-map}
use lib.Seq.{get_or-set_same, get_or-set_other, ext_get_or}
use Rattle.graphs.specs.Parts.{run}
use Rattle.graphs.proofs.Parts.{map_at, run_length, run_at}

-- cell i becomes f i of what it held, for each i below k
unfoldable pub swept : (ℕ → ℕ → ℕ) → ℕ → List ℕ → List ℕ
swept f zero l = l
swept f (suc k) l = set (swept f k l) k (f k (get_or l k 0))

module _ (f : ℕ → ℕ → ℕ) (l : List ℕ) where
  pub swept-long : (k : ℕ) → length (swept f k l) ≡ length l
  unfolding swept
  swept-long zero = refl
  swept-long (suc k) = length-set (swept f k l) k (f k (get_or l k 0)) ∙ swept-long k

  -- what is not reached yet is as it was
  swept-later : (k i : ℕ) → k ≤ i → get_or (swept f k l) i 0 ≡ get_or l i 0
  unfolding swept
  swept-later zero i h = refl
  swept-later (suc k) i h = get_or-set_other (swept f k l) k i (f k (get_or l k 0)) 0 (λ e. omega arith) ∙ swept-later k i (omega arith)

  swept_at : (k i : ℕ) → i < k → i < length l → get_or (swept f k l) i 0 ≡ f i (get_or l i 0)
  unfolding swept
  swept_at zero i h b = absurd (not-suc-le-zero h)
  swept_at (suc k) i h b =
      ⊎_elim
      (λ e. rw e (get_or-set_same (swept f k l) k (f k (get_or l k 0)) 0 (omega (arith, swept-long k))))
      (λ m. get_or-set_other (swept f k l) k i (f k (get_or l k 0)) 0 (λ e. omega arith) ∙ swept_at k i m b)
      (eq-or-lt_of_le (le_of_suc-le-suc h))

  -- the next store, of f of what stands there
  pub swept_none : l ≡ swept f 0 l
  unfolding swept
  swept_none = refl

  pub swept-again : (k x : ℕ) (c : List ℕ) → c ≡ swept f k l → x ≡ f k (get_or c k 0) → set c k x ≡ swept f (k + 1) l
  unfolding swept
  swept-again k x c p q = rw (add-one, q, p, swept-later k k (omega arith))

  pub swept-end : (k : ℕ) (c r : List ℕ) → c ≡ swept f k l → length l ≤ k → length r ≡ length l
      → ((i : ℕ) → i < length l → get_or r i 0 ≡ f i (get_or l i 0)) → c ≡ r
  swept-end k c r p h e q =
      p ∙ ext_get_or 0 (swept f k l) r (swept-long k ∙ sym e) (λ i b. let b' : i < length l = omega (arith, swept-long k) in swept_at k i (omega arith) b' ∙ sym (q i b'))

pub swept-map : (f : ℕ → ℕ) (l : List ℕ) (k : ℕ) (c : List ℕ) → c ≡ swept (λ i x. f x) k l → length l ≤ k → c ≡ map f l
swept-map f l k c p h = swept-end (λ i x. f x) l k c (map f l) p h (length-map l f) (λ i b. map_at f l i b)

pub swept-run : (l : List ℕ) (k : ℕ) (c : List ℕ) → c ≡ swept (λ i x. i) k l → length l ≤ k → c ≡ run 0 (length l)
swept-run l k c p h =
    swept-end (λ i x. i) l k c (run 0 (length l)) p h (run_length 0 (length l)) (λ i b. omega (arith, run_at 0 (length l) i 0 b))
