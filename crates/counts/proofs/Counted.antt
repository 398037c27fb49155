-- A loop that counts, turn by turn, and what a chain that counts comes to. Assumes nothing.
use Prim.Native.Nat.{ℕ, zero, suc, ◌+◌, ◌≤◌}
use mathlib.Core.Path.{◌≡◌, refl, ap, ◌∙◌}
use mathlib.Core.Bool.{Bool, true, false, cond}
use mathlib.Core.List.{List, [], ◌∷◌}
use native.Mathlib.Omega.{arith}
use lib.ListN.{length, get_or}
use Rattle.std.specs.List.{count_by, filter, range_with_len}
use Rattle.std.proofs.lemmas.List.FromFn.{length-range_with_len, get_or-range_with_len}
use Rattle.std.proofs.lemmas.List.Sums.{sum_by-cons, length-filter}
use Rattle.graphs.specs.Count.{bit, count}
use Rattle.graphs.proofs.Count.{count-cong, count-step}

module _ (P : ℕ → Bool) (i : ℕ) where
  pub counted : (k m : ℕ) (b : Bool) → k ≡ count i P → b ≡ P i → m ≡ bit b + k → m ≡ count (i + 1) P
  counted k m b p q r = omega (arith, count-step P i, ap bit q)

  pub all-counted : (n k : ℕ) → i ≤ n → n ≤ i → k ≡ count i P → k ≡ count n P
  all-counted n k h l p = let e : i ≡ n = omega arith in rw e at p

-- counted from the front
count-front : (n : ℕ) (P : ℕ → Bool) → count (suc n) P ≡ bit (P 0) + count n (λ v. P (suc v))
unfolding count
count-front zero P = refl
count-front (suc n) P = omega (arith, count-front n P)

one-or-none : (b : Bool) → cond b 1 0 ≡ bit b
one-or-none true = refl
one-or-none false = refl

-- how many of a list pass
pub count-list : (P : ℕ → Bool) (xs : List ℕ) → count_by P xs ≡ count (length xs) (λ v. P (get_or xs v 0))
unfolding count
count-list P [] = refl
count-list P (x ∷ xs) =
    sum_by-cons (λ y. cond (P y) 1 0) x xs ∙ omega (arith, count-front (length xs) (λ v. P (get_or (x ∷ xs) v 0)), one-or-none (P x), count-list P xs)

-- how many below n pass, as a chain over them counts it
pub count-range : (P : ℕ → Bool) (n r : ℕ) → r ≡ length (filter P (range_with_len 0 n)) → r ≡ count n P
count-range P n r h =
    h ∙ length-filter P (range_with_len 0 n) ∙ count-list P (range_with_len 0 n) ∙ ap (λ (m : ℕ). count m (λ v. P (get_or (range_with_len 0 n) v 0))) (length-range_with_len 0 n)
    ∙ count-cong n (λ v. P (get_or (range_with_len 0 n) v 0)) P (λ v l. let e : get_or (range_with_len 0 n) v 0 ≡ v = omega (arith, get_or-range_with_len 0 n v 0 l) in ap P e)
