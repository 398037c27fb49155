-- The first refusal, turn by turn, and when it is which. Assumes nothing.
use Prim.Native.Nat.{ℕ, zero, suc, ◌+◌, ◌≤◌, ◌<◌}
use mathlib.Core.Path.{◌≡◌, refl, sym, ap, ◌∙◌}
use mathlib.Core.Logic.{◌↔◌, ◌⊎◌, inl, inr, ⊎_elim}
use mathlib.Core.Bool.{Bool, true, false, cond}
use native.Mathlib.Omega.{arith}
use native.Mathlib.Numerals.{add-one}
use native.Mathlib.Nat.{eq-or-lt_of_le, le_of_suc-le-suc, not-suc-le-zero}
use Rattle.graphs.proofs.Count.{cases, clash}
use Rattle.std.specs.Prelude.{is_err}
use Rattle.limits.specs.Answer.{accepted, first}
use Rattle.limits.proofs.Replies.{not-refused}
use Rattle.replies.specs.Reply.{Reply, first_of}

-- the invariant of a loop over the checks is first_of k f ≡ accepted
module _ (f : ℕ → Reply) where
  pub first-none : first_of 0 f ≡ accepted
  unfolding first_of
  first-none = refl

  pub first_past : (k : ℕ) → first_of k f ≡ accepted → is_err (f k) ≡ false → first_of (k + 1) f ≡ accepted
  unfolding first_of
  first_past k p q = rw (add-one, first_of, p) (not-refused (f k) q)

  pub first-at : (k n : ℕ) → k < n → first_of k f ≡ accepted → is_err (f k) ≡ true → first_of n f ≡ f k
  unfolding first_of
  first-at k zero h p q = absurd (not-suc-le-zero h)
  first-at k (suc n) h p q =
      ⊎_elim
      (λ i. rw (← i, first_of, p))
      (λ l. let r = first-at k n l p q in rw (r, q))
      (eq-or-lt_of_le (le_of_suc-le-suc h))

  pub first-end : (k n : ℕ) → k ≤ n → n ≤ k → first_of k f ≡ accepted → first_of n f ≡ accepted
  first-end k n h l p = let e : k ≡ n = omega arith in rw e at p

pub first-same : (f g : ℕ → Reply) (n : ℕ) → ((k : ℕ) → k < n → f k ≡ g k) → first_of n f ≡ first_of n g
unfolding first_of
first-same f g zero h = refl
first-same f g (suc n) h = rw (first-same f g n (λ k l. h k (omega arith)), h n (omega arith))

-- ---- the first refusal is where nothing before it is_err

module _ (f : ℕ → Reply) where
  pub first_fine : (n : ℕ) → first_of n f ≡ accepted → (k : ℕ) → k < n → f k ≡ accepted
  unfolding first_of
  first_fine zero p k h = absurd (not-suc-le-zero h)
  first_fine (suc n) p k h = cases (is_err (first_of n f))
      (λ t. let e : first_of n f ≡ accepted = rw t at p in clash (is_err (first_of n f)) t (ap is_err e))
      (λ t. let e : f n ≡ accepted = rw t at p in
      ⊎_elim (λ i. rw i e) (λ l. first_fine n (not-refused (first_of n f) t) k l) (eq-or-lt_of_le (le_of_suc-le-suc h)))

  pub first-all : (n : ℕ) → ((k : ℕ) → k < n → f k ≡ accepted) → first_of n f ≡ accepted
  unfolding first_of
  first-all zero h = refl
  first-all (suc n) h = rw (first-all n (λ k l. h k (omega arith)), h n (omega arith))

  -- nothing below k is_err, and k does: that is the first
  pub first_found : (k n : ℕ) → k < n → ((j : ℕ) → j < k → f j ≡ accepted) → is_err (f k) ≡ true → first_of n f ≡ f k
  first_found k n h b r = first-at f k n h (first-all k b) r

  -- a first refusal has its place
  pub record Place (n : ℕ) : Type 0 where
    pub at : ℕ
    pub below : at < n
    pub refused : is_err (f at) ≡ true
    pub before : (j : ℕ) → j < at → f j ≡ accepted

  pub first-place : (n : ℕ) → is_err (first_of n f) ≡ true → Place n
  unfolding first_of
  first-place zero r = clash false r refl
  first-place (suc n) r = cases (is_err (first_of n f))
      (λ t. let p = first-place n t in record { at = p.at; below = omega (arith, p.below); refused = p.refused; before = p.before })
      (λ t. record { at = n; below = omega arith; refused = rw t at r; before = first_fine n (not-refused (first_of n f) t) })
