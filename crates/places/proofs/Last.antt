-- What the table says of the last place of each id in a row, place by place. The crate `entries` cites last_says. Assumes nothing.
use Prim.Native.Nat.{ℕ, zero, suc, ◌+◌, ◌≤◌, ◌<◌}
use mathlib.Core.Path.{◌≡◌, refl, sym, ◌∙◌}
use mathlib.Core.Logic.{◌≢◌}
use mathlib.Core.Bool.{true, false}
use mathlib.Core.List.{List, [], ◌∷◌}
use native.Mathlib.Omega.{arith}
use native.Mathlib.Nat.{not-suc-le-zero}
use lib.Dec.{eqb, ltb}
use borrow.Author.Tests.{eqb-true, eqb-false, lt-ltb, le-ltb}
use lib.ListN.{length, get_or, drop, replicate, length-set, length-replicate}
use lib.Seq.{get_or-set_same, get_or-set_other}
use Rattle.limits.specs.Limits.{routes, none}
use Rattle.graphs.specs.Graph.{has}
use Rattle.graphs.proofs.Count.{cases, clash}
use Rattle.words.specs.Words.{over}
use Rattle.places.specs.Places.{kept, keep, last_places, unkept}

keep-long : (t : List ℕ) (w i : ℕ) → length t ≡ routes → length (keep t w i) ≡ routes
unfolding keep
keep-long t w i h = cases (ltb w routes) (λ p. rw (p, length-set) h) (λ p. rw p h)

keep_same : (t : List ℕ) (w i : ℕ) → length t ≡ routes → w < routes → kept (keep t w i) w ≡ i
unfolding keep kept
keep_same t w i h l = rw (lt-ltb _ _ l) (get_or-set_same t w i 0 (omega arith))

keep-other : (t : List ℕ) (w i x : ℕ) → x ≢ w → kept (keep t w i) x ≡ kept t x
unfolding keep kept
keep-other t w i x ne = cases (ltb w routes) (λ p. rw (p, get_or-set_other t w x i 0 ne)) (λ p. rw p)

-- an id that does not stand in the row keeps its place
places-out : (ws : List ℕ) (t : List ℕ) (i x : ℕ) → has ws x ≡ false → kept (over (λ k w u. keep u w k) t i ws) x ≡ kept t x
unfolding over has
places-out [] t i x h = refl
places-out (w ∷ ws) t i x h = cases (eqb x w)
    (λ e. clash true refl (rw e at h))
    (λ e. places-out ws (keep t w i) (suc i) x (rw e at h) ∙ keep-other t w i x (eqb-false x w e))

-- and one that does gets a place from i on
places-in : (ws : List ℕ) (t : List ℕ) (i x : ℕ) → length t ≡ routes → x < routes → has ws x ≡ true → i ≤ kept (over (λ k w u. keep u w k) t i ws) x
unfolding over has
places-in [] t i x s l h = clash false h refl
places-in (w ∷ ws) t i x s l h = cases (has ws x)
    (λ k. omega (arith, places-in ws (keep t w i) (suc i) x (keep-long t w i s) l k))
    (λ k. cases (eqb x w)
    (λ e. let e' : w ≡ x = sym (eqb-true x w e) in
    let same : kept (keep t w i) x ≡ i = rw e' (keep_same t x i s l) in
    omega (arith, places-out ws (keep t w i) (suc i) x k))
    (λ e. clash (has ws x) (rw e at h) k))

-- the place kept is above i exactly where the entry at i stands again
places-again : (ws : List ℕ) (t : List ℕ) (k i : ℕ) → length t ≡ routes → i < length ws → get_or ws i none < routes
    → ltb (k + i) (kept (over (λ j w u. keep u w j) t k ws) (get_or ws i none)) ≡ has (drop (suc i) ws) (get_or ws i none)
unfolding over
places-again [] t k i s h l = absurd (not-suc-le-zero h)
places-again (w ∷ ws) t k zero s h l = cases (has ws w)
    (λ p. rw p (lt-ltb (k + 0) (kept (over (λ j x u. keep u x j) (keep t w k) (suc k) ws) w) (omega (arith, places-in ws (keep t w k) (suc k) w (keep-long t w k s) l p))))
    (λ p. rw p (le-ltb (k + 0) (kept (over (λ j x u. keep u x j) (keep t w k) (suc k) ws) w) (omega (arith, places-out ws (keep t w k) (suc k) w p, keep_same t w k s l))))
places-again (w ∷ ws) t k (suc i) s h l =
    let e : k + suc i ≡ suc k + i = omega arith in
    rw e (places-again ws (keep t w k) (suc k) i (keep-long t w k s) (omega arith) l)

pub last_says : (ws : List ℕ) (i : ℕ) → i < length ws → get_or ws i none < routes
    → ltb i (kept (last_places unkept ws) (get_or ws i none)) ≡ has (drop (suc i) ws) (get_or ws i none)
unfolding last_places unkept
last_says ws i h l =
    let e : 0 + i ≡ i = omega arith in
    rw e at (places-again ws (replicate routes 0) 0 i (length-replicate {A = ℕ} routes 0) h l)
