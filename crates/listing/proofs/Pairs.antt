-- Each pair has two ids: the order is twice the number of pairs, and half the routes are room enough for their lower ids. Assumes nothing.
use Prim.Native.Nat.{ℕ, zero, suc, ◌+◌, ◌*◌, ◌/◌, ◌≤◌, ◌<◌}
use mathlib.Core.Path.{◌≡◌, refl}
use mathlib.Core.Bool.{Bool, true, false, cond}
use mathlib.Core.List.{List, [], ◌∷◌, ◌++◌, map, append-nil}
use native.Mathlib.Omega.{arith}
use native.Mathlib.Numerals.{add-one}
use lib.ListN.{length, length-append}
use lib.Dec.{ltb}
use borrow.Author.Tests.{ltb-true, ltb-false}
use Rattle.limits.specs.Limits.{routes}
use Rattle.graphs.specs.Count.{count, bit, but}
use Rattle.graphs.proofs.Count.{cases, tests, count-split, count-inj, count-le, count-step}
use Rattle.mates.specs.Partners.{mate_of, is_paired, count_of, Sound, is_lower, rising, lowers}
use Rattle.mates.proofs.Sound.{mate-back, mate-apart}
use Rattle.std.proofs.lemmas.List.{map-append}
use Rattle.listing.specs.Listing.{edge_of}

pub rising-length : (n : ℕ) (P : ℕ → Bool) → length (rising n P) ≡ count n P
unfolding rising count
rising-length zero P = refl
rising-length (suc n) P = cases (P n)
    (λ t. rw t (simp length-append (omega (arith, rising-length n P))))
    (λ t. rw t (simp length-append (omega (arith, rising-length n P))))

-- more numbers to count among, more that pass
count-more : (k n : ℕ) (P : ℕ → Bool) → k ≤ n → count k P ≤ count n P
unfolding count
count-more k zero P l = let z : k ≡ 0 = omega arith in rw z (omega arith)
count-more k (suc n) P l = cases (ltb k (suc n))
    (λ t. omega (arith, ltb-true k (suc n) t, count-more k n P (omega (arith, ltb-true k (suc n) t))))
    (λ t. let z : k ≡ suc n = omega (arith, ltb-false k (suc n) t) in rw z (omega arith))

module _ (ps : List ℕ) (s : Sound ps) where
  -- by the mates, there are as many lower ids as upper ones
  lower-half : count_of ps ≡ count routes (is_lower ps) + count routes (is_lower ps)
  unfolding count_of
  lower-half =
      let down : ℕ → Bool = λ v. but (is_paired ps v) (ltb v (mate_of ps v)) in
      let up_is : (v : ℕ) → is_lower ps v ≡ true → (mate_of ps v < routes) × (v < mate_of ps v) = λ v q. simp tests at q in
      let down_is : (v : ℕ) → down v ≡ true → (mate_of ps v < routes) × (mate_of ps v < v)
      = λ v q. let h : (mate_of ps v < routes) × (mate_of ps v ≤ v) = simp tests at q in (h.0, omega (arith, mate-apart ps s v h.0)) in
      let inj : (v w : ℕ) → mate_of ps v < routes → mate_of ps w < routes → mate_of ps v ≡ mate_of ps w → v ≡ w
      = λ v w l k e. cc (mate-back ps s v l, mate-back ps s w k) in
      let one : count routes (is_lower ps) ≤ count routes down = count-inj routes routes (is_lower ps) down (mate_of ps)
      (λ v l q. (up_is v q).0)
      (λ v l q. let h = up_is v q in let b = mate-back ps s v h.0 in simp tests (omega arith, omega arith))
      (λ v w l k q r. inj v w (up_is v q).0 (up_is w r).0) in
      let two : count routes down ≤ count routes (is_lower ps) = count-inj routes routes down (is_lower ps) (mate_of ps)
      (λ v l q. (down_is v q).0)
      (λ v l q. let h = down_is v q in let b = mate-back ps s v h.0 in simp tests (omega arith, omega arith))
      (λ v w l k q r. inj v w (down_is v q).0 (down_is w r).0) in
      omega (arith, count-split routes (is_paired ps) (λ v. ltb v (mate_of ps v)))

  -- the order is twice the number of pairs
  pub order-twice : count_of ps ≡ 2 * length (lowers ps)
  unfolding lowers
  order-twice = omega (arith, lower-half, rising-length routes (is_lower ps))

  pub pairs-half : length (lowers ps) ≤ routes / 2
  unfolding count_of
  pairs-half = omega (arith, order-twice, count-le routes (is_paired ps))

  -- before a lower id there are fewer pairs than that
  pub lower-room : (i : ℕ) → i < routes → is_lower ps i ≡ true → length (rising i (is_lower ps)) < routes / 2
  unfolding lowers
  lower-room i l t =
      let z : count (i + 1) (is_lower ps) ≡ bit (is_lower ps i) + count i (is_lower ps) = count-step (is_lower ps) i in
      let y : bit (is_lower ps i) ≡ 1 = rw t refl in
      omega (arith, count-more (i + 1) routes (is_lower ps) (omega arith), rising-length i (is_lower ps), rising-length routes (is_lower ps), pairs-half)

-- ---- the pairs, id by id

rising-next : (i : ℕ) (P : ℕ → Bool) → rising (i + 1) P ≡ rising i P ++ cond (P i) (i ∷ []) []
unfolding rising
rising-next i P = rw (add-one, rising)

module _ (ps : List ℕ) (i : ℕ) where
  -- the lower id of a pair adds the pair
  pub one-listed : is_lower ps i ≡ true → map (edge_of ps) (rising (i + 1) (is_lower ps)) ≡ map (edge_of ps) (rising i (is_lower ps)) ++ edge_of ps i ∷ []
  one-listed t = rw (rising-next i (is_lower ps), t) (map-append (edge_of ps) (rising i (is_lower ps)) (i ∷ []))

  -- any other id adds none
  pub none-listed : is_lower ps i ≡ false → map (edge_of ps) (rising (i + 1) (is_lower ps)) ≡ map (edge_of ps) (rising i (is_lower ps))
  none-listed t = rw (rising-next i (is_lower ps), t, append-nil) refl
