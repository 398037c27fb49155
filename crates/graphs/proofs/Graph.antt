-- The laws of rows: who stands in them, and that the entries are twice the joined pairs. Before anything is shown of the definitions, they are held to
-- the layouts and to what they have to shut out. Assumes nothing.
use Rattle.graphs.proofs.Layouts.{layouts-hold}
use Rattle.graphs.proofs.Excluded.{no-loops}
use mathlib.Core.Path.{◌≡◌, refl, sym, ap, ◌∙◌}
use mathlib.Core.Logic.{◌≢◌}
use mathlib.Core.Bool.{Bool, true, false, not, ◌&&◌}
use mathlib.Core.List.{List, [], ◌∷◌}
use Prim.Native.Nat.{ℕ, ◌+◌, ◌-◌, ◌*◌, ◌≤◌, ◌<◌}
use native.Mathlib.Omega.{arith}
use lib.Dec.{eqb, ltb}
use lib.ListN.{length}
use borrow.Author.Tests.{eqb-true, eq-eqb}
use Rattle.graphs.specs.Count.{bit, but, count, total}
use Rattle.graphs.specs.Graph.{Graph, Simple, has, distinct, joined, edges, entries}
use Rattle.graphs.proofs.Count.{cases, or_cases, or_right, same_test, tests, count-cong, count-mono, count_none, count-split, count-remove, count-not, count-total, total-cong, total-add, total-swap, total-le}

-- ---- membership

pub has-head : (x : ℕ) (xs : List ℕ) → has (x ∷ xs) x ≡ true
unfolding has
has-head x xs = rw (eq-eqb x x refl)

pub has-tail : (y : ℕ) (xs : List ℕ) (x : ℕ) → has xs x ≡ true → has (y ∷ xs) x ≡ true
unfolding has
has-tail y xs x h = or_right (eqb x y) (has xs x) h

-- the head, or in the tail
pub has-cases : {C : Type 0} (y : ℕ) (xs : List ℕ) (x : ℕ) → has (y ∷ xs) x ≡ true → (x ≡ y → C) → (has xs x ≡ true → C) → C
unfolding has
has-cases y xs x h f g = or_cases (eqb x y) (has xs x) h (λ t. f (eqb-true x y t)) g

-- joined routes are two
pub joined-apart : (g : Graph) → Simple g → (v w : ℕ) → v < g.order → joined g v w ≡ true → v ≢ w
joined-apart g s v w l j e = let z : ◌≡◌ {A = ℕ} 0 1 = cc (s.no_loop v l) in omega arith

-- ---- how many entries there are

-- a row in which no entry stands again, and whose entries are below n, is as long as the numbers below n that stand in it
pub length-count : (n : ℕ) (xs : List ℕ) → distinct xs ≡ true → ((x : ℕ) → has xs x ≡ true → x < n) → length xs ≡ count n (has xs)
unfolding distinct has
length-count n [] d b = sym (count_none n (has []) (λ v l. refl))
length-count n (x ∷ xs) d b =
    let k : (has xs x ≡ false) × (distinct xs ≡ true) = simp tests at d in
    let rest : count n (λ v. but (has (x ∷ xs) v) (eqb v x)) ≡ count n (has xs) = count-cong n (λ v. but (has (x ∷ xs) v) (eqb v x)) (has xs)
    (λ v l. cases (eqb v x)
    (λ t. rw t (sym (rw (eqb-true v x t) k.0)))
    (λ t. rw t)) in
    omega (
      arith,
      length-count n xs k.1 (λ v h. b v (has-tail x xs v h)),
      count-remove n (has (x ∷ xs)) x (b x (has-head x xs)) (has-head x xs),
    )

module _ (g : Graph) (s : Simple g) (d : (v : ℕ) → v < g.order → distinct (g.row v) ≡ true) where
  -- a route has as many neighbours as its row has entries
  pub row_count : (v : ℕ) → v < g.order → length (g.row v) ≡ count g.order (joined g v)
  row_count v l = length-count g.order (g.row v) (d v l) (λ w. s.below v w l)

  -- each joined pair is entered twice, once in each row
  pub entries-edges : entries g ≡ edges g + edges g
  unfolding entries edges
  entries-edges =
      let n : ℕ = g.order in
      let up : ℕ → ℕ → Bool = λ v w. joined g v w && ltb v w in
      let down : ℕ → ℕ → Bool = λ v w. but (joined g v w) (ltb v w) in
      let split : total n (λ v. length (g.row v)) ≡ total n (λ v. count n (up v) + count n (down v)) = total-cong n (λ v. length (g.row v)) (λ v. count n (up v) + count n (down v))
      (λ v l. row_count v l ∙ count-split n (joined g v) (λ w. ltb v w)) in
      let turned : (v w : ℕ) → v < n → w < n → bit (down v w) ≡ bit (up w v) = λ v w l k. ap bit (same_test (down v w) (up w v)
      (λ q. let h : (joined g v w ≡ true) × (w ≤ v) = simp tests at q in
      simp tests (s.both_ways v w l h.0, omega (arith, joined-apart g s v w l h.0)))
      (λ q. let h : (joined g w v ≡ true) × (w < v) = simp tests at q in simp tests (s.both_ways w v k h.0, omega arith))) in
      let swapped : total n (λ v. count n (down v)) ≡ total n (λ v. count n (up v)) =
      total-cong n (λ v. count n (down v)) (λ v. total n (λ w. bit (down v w))) (λ v l. count-total n (down v))
      ∙ total-swap n n (λ v w. bit (down v w))
      ∙ total-cong n (λ w. total n (λ v. bit (down v w))) (λ w. count n (up w)) (λ w k.
      total-cong n (λ v. bit (down v w)) (λ v. bit (up w v)) (λ v l. turned v w l k) ∙ sym (count-total n (up w))) in
      omega (arith, total-add n (λ v. count n (up v)) (λ v. count n (down v)))

  -- each route has at most all the others for neighbours
  pub entries-le : entries g ≤ g.order * (g.order - 1)
  unfolding entries
  entries-le =
      let n : ℕ = g.order in
      total-le n (n - 1) (λ v. length (g.row v)) (λ v l.
      omega (
        arith,
        row_count v l,
        count-mono n (joined g v) (λ w. not (eqb w v)) (λ w k j. simp tests (λ e. joined-apart g s v w l j (sym e))),
        count-not n (λ w. eqb w v),
        count-remove n (λ w. eqb w v) v l (eq-eqb v v refl),
      ))
