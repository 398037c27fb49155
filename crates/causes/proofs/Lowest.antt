-- The lowest number that passes, where there is one. Assumes nothing.
use Prim.Native.Nat.{ℕ, ◌≤◌, ◌<◌}
use mathlib.Core.Path.{◌≡◌, sym}
use mathlib.Core.Logic.{◌↔◌}
use mathlib.Core.Bool.{Bool, true, false}
use native.Mathlib.Omega.{arith}
use lib.Dec.{ltb}
use borrow.Author.Tests.{lt-ltb, le-ltb, ltb-true, ltb-false}
use Rattle.std.specs.Prelude.{Option, Some, None, MatchOption}
use Rattle.std.proofs.lemmas.Option.{none-some}
use Rattle.graphs.specs.Count.{least}
use Rattle.graphs.proofs.Count.{cases, clash, least-le, least-is, least-passes, least_first}
use Rattle.causes.specs.Cause.{lowest}

module _ (n : ℕ) (P : ℕ → Bool) where
  none-below : ((k : ℕ) → k < n → P k ≡ false) → least n P ≡ n
  none-below h = cases (ltb (least n P) n)
      (λ t. let l = ltb-true _ _ t in clash (P (least n P)) (least-passes n P l) (h (least n P) l))
      (λ t. omega (arith, least-le n P, ltb-false _ _ t))

  -- what a search of the numbers below n finds: that none passes, or the lowest that does
  pub lowest-found : (m : ℕ) → m ≡ n → (r : Option ℕ)
      → MatchOption r ((k : ℕ) → 0 ≤ k → k < m → P k ≡ false) (λ v. (0 ≤ v) × (v < m) × (P v ≡ true) × ((k : ℕ) → 0 ≤ k → k < v → P k ≡ false))
      → r ≡ lowest n P
  unfolding lowest
  lowest-found m em None h =
      let e : least n P ≡ n = none-below (λ k l. h k (omega arith) (omega arith)) in
      rw (e, le-ltb n n (omega arith))
  lowest-found m em (Some v) h =
      let l : v < n = omega (arith, h.1) in
      let e : least n P ≡ v = least-is n P v l h.2 (λ k j. h.3 k (omega arith) j) in
      rw (e, lt-ltb v n l)

  -- there is none exactly where each fails
  pub lowest-none : (lowest n P ≡ None) ↔ ((k : ℕ) → k < n → P k ≡ false)
  unfolding lowest
  lowest-none = (
    λ e k l. cases (ltb (least n P) n)
        (λ t. let s : Some (least n P) ≡ None = rw t at e in absurd (none-some _ (sym s)))
        (λ t. least_first n P k (omega (arith, ltb-false _ _ t))),
    λ h. let e : least n P ≡ n = none-below h in rw (e, le-ltb n n (omega arith)),
  )
