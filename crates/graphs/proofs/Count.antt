-- The laws of counts, least numbers and sums, and how tests are taken apart. Assumes nothing.
use mathlib.Core.Path.{◌≡◌, refl, sym}
use mathlib.Core.Logic.{◌≢◌, ◌↔◌, ◌⊎◌, inl, inr}
use mathlib.Core.Bool.{Bool, true, false, not, ◌&&◌, ◌||◌}
use Prim.Native.Nat.{ℕ, zero, suc, ◌+◌, ◌*◌, ◌%◌, ◌/◌, ◌≤◌, ◌<◌}
use native.Mathlib.Omega.{arith}
use native.Mathlib.Nat.{not-suc-le-zero, suc-mul}
use native.Mathlib.Numerals.{add-one}
use lib.Dec.{eqb, ltb}
use borrow.Author.Tests.{eqb-true, eqb-false, eq-eqb, ne_eqb, ltb-true, ltb-false, lt-ltb, le-ltb}
use Rattle.graphs.specs.Count.{bit, but, count, least, all, total}

-- ---- tests

-- either the test passes or it fails, with the equation in hand
pub cases : {C : Type 0} (b : Bool) → (b ≡ true → C) → (b ≡ false → C) → C
cases true f g = f refl
cases false f g = g refl

-- a test that both passes and fails
pub clash : {C : Type 0} (b : Bool) → b ≡ true → b ≡ false → C
clash b p q = let z : ◌≡◌ {A = ℕ} 0 1 = cc in absurd (omega arith)

-- two tests that pass together are one
pub same_test : (a b : Bool) → (a ≡ true → b ≡ true) → (b ≡ true → a ≡ true) → a ≡ b
same_test true b f g = sym (f refl)
same_test false true f g = g refl
same_test false false f g = refl

-- a test of which one side passes
pub or_cases : {C : Type 0} (a b : Bool) → a || b ≡ true → (a ≡ true → C) → (b ≡ true → C) → C
or_cases true b h f k = f refl
or_cases false b h f k = k h

pub or_right : (a b : Bool) → b ≡ true → a || b ≡ true
or_right true b h = refl
or_right false b h = h

-- ---- what a test says: `simp tests at h` takes a passed test apart, and `simp tests t` builds one

pub and-iff : (a b : Bool) → (a && b ≡ true) ↔ ((a ≡ true) × (b ≡ true))
and-iff true b = (λ h. (refl, h), λ h. h.1)
and-iff false b = (λ h. clash false h refl, λ h. h.0)

pub but-iff : (a b : Bool) → (but a b ≡ true) ↔ ((a ≡ true) × (b ≡ false))
but-iff a true = (λ h. clash false h refl, λ h. sym h.1)
but-iff a false = (λ h. (h, refl), λ h. h.0)

pub not_iff : (a : Bool) → (not a ≡ true) ↔ (a ≡ false)
not_iff true = (λ h. sym h, λ h. sym h)
not_iff false = (λ h. refl, λ h. refl)

pub eqb-iff : (m n : ℕ) → (eqb m n ≡ true) ↔ (m ≡ n)
eqb-iff m n = (eqb-true m n, eq-eqb m n)

pub neqb-iff : (m n : ℕ) → (eqb m n ≡ false) ↔ (m ≢ n)
neqb-iff m n = (eqb-false m n, ne_eqb m n)

pub ltb_iff : (m n : ℕ) → (ltb m n ≡ true) ↔ (m < n)
ltb_iff m n = (ltb-true m n, lt-ltb m n)

pub nltb-iff : (m n : ℕ) → (ltb m n ≡ false) ↔ (n ≤ m)
nltb-iff m n = (ltb-false m n, le-ltb m n)

pub ruleset tests = (and-iff, but-iff, not_iff, eqb-iff, neqb-iff, ltb_iff, nltb-iff)

pub and-false : (a : Bool) → a && false ≡ false
and-false true = refl
and-false false = refl

-- ---- counts

bit_le : (a b : Bool) → (a ≡ true → b ≡ true) → bit a ≤ bit b
bit_le true b h = rw (h refl) (omega arith)
bit_le false b h = omega arith

bit-split : (a b : Bool) → bit a ≡ bit (a && b) + bit (but a b)
bit-split true true = refl
bit-split true false = refl
bit-split false true = refl
bit-split false false = refl

bit_not : (a : Bool) → bit a + bit (not a) ≡ 1
bit_not true = refl
bit_not false = refl

bit_or : (a b : Bool) → a && b ≡ false → bit (a || b) ≡ bit a + bit b
bit_or true true p = clash true refl p
bit_or true false p = refl
bit_or false true p = refl
bit_or false false p = refl

pub count-cong : (n : ℕ) (P Q : ℕ → Bool) → ((v : ℕ) → v < n → P v ≡ Q v) → count n P ≡ count n Q
unfolding count
count-cong zero P Q h = refl
count-cong (suc n) P Q h = rw (h n (omega arith)) (omega (arith, count-cong n P Q (λ v l. h v (omega arith))))

pub count-mono : (n : ℕ) (P Q : ℕ → Bool) → ((v : ℕ) → v < n → P v ≡ true → Q v ≡ true) → count n P ≤ count n Q
unfolding count
count-mono zero P Q h = omega arith
count-mono (suc n) P Q h = omega (arith, bit_le (P n) (Q n) (h n (omega arith)), count-mono n P Q (λ v l. h v (omega arith)))

pub count-le : (n : ℕ) (P : ℕ → Bool) → count n P ≤ n
unfolding count
count-le zero P = omega arith
count-le (suc n) P = omega (arith, bit_le (P n) true (λ _. refl), count-le n P)

pub count_none : (n : ℕ) (P : ℕ → Bool) → ((v : ℕ) → v < n → P v ≡ false) → count n P ≡ 0
unfolding count
count_none zero P h = refl
count_none (suc n) P h = rw (h n (omega arith)) (omega (arith, count_none n P (λ v l. h v (omega arith))))

-- those that pass a second test, and those that do not
pub count-split : (n : ℕ) (P Q : ℕ → Bool) → count n P ≡ count n (λ v. P v && Q v) + count n (λ v. but (P v) (Q v))
unfolding count
count-split zero P Q = refl
count-split (suc n) P Q = omega (arith, bit-split (P n) (Q n), count-split n P Q)

pub count-or : (n : ℕ) (P Q : ℕ → Bool) → ((v : ℕ) → v < n → P v && Q v ≡ false)
    → count n (λ v. P v || Q v) ≡ count n P + count n Q
unfolding count
count-or zero P Q h = refl
count-or (suc n) P Q h = omega (arith, bit_or (P n) (Q n) (h n (omega arith)), count-or n P Q (λ v l. h v (omega arith)))

pub count-not : (n : ℕ) (P : ℕ → Bool) → count n P + count n (λ v. not (P v)) ≡ n
unfolding count
count-not zero P = refl
count-not (suc n) P = omega (arith, bit_not (P n), count-not n P)

pub count-all : (n : ℕ) (P : ℕ → Bool) → ((v : ℕ) → v < n → P v ≡ true) → count n P ≡ n
count-all n P h = omega (arith, count-not n P, count_none n (λ v. not (P v)) (λ v l. rw (h v l)))

-- one fewer without a, which passes
pub count-remove : (n : ℕ) (P : ℕ → Bool) (a : ℕ) → a < n → P a ≡ true → count n P ≡ suc (count n (λ v. but (P v) (eqb v a)))
unfolding count
count-remove zero P a l p = absurd (not-suc-le-zero l)
count-remove (suc n) P a l p = cases (eqb n a)
    (λ e.
    let e' : n ≡ a = eqb-true n a e in
    let pn : P n ≡ true = rw e' p in
    let rest : count n P ≡ count n (λ v. but (P v) (eqb v a)) = count-cong n P (λ v. but (P v) (eqb v a)) (λ v m. rw (ne_eqb v a (omega arith))) in
    rw (e, pn) (omega arith))
    (λ e. let ne = eqb-false n a e in rw e (omega (arith, count-remove n P a (omega arith) p)))

-- at most one more, where all but a of those that pass Q pass P
pub count-one-more : (n : ℕ) (P Q : ℕ → Bool) (a : ℕ) → ((v : ℕ) → v < n → v ≢ a → Q v ≡ true → P v ≡ true) → count n Q ≤ suc (count n P)
count-one-more n P Q a h = cases (ltb a n && Q a)
    (λ t. let k : (a < n) × (Q a ≡ true) = simp tests at t in
    omega (
      arith,
      count-remove n Q a k.0 k.1,
      count-mono n (λ v. but (Q v) (eqb v a)) P
          (λ v l q. let m : (Q v ≡ true) × (v ≢ a) = simp tests at q in h v l m.1 m.0),
    ))
    (λ t. omega (arith, count-mono n Q P (λ v l q. h v l (λ e. clash (ltb a n && Q a) (simp tests (omega arith, rw e at q)) t) q)))

-- ---- a map of those below n that pass P, with different values, into those below m that pass Q: there are no more of the first
pub count-inj : (n m : ℕ) (P Q : ℕ → Bool) (f : ℕ → ℕ)
    → ((v : ℕ) → v < n → P v ≡ true → f v < m)
    → ((v : ℕ) → v < n → P v ≡ true → Q (f v) ≡ true)
    → ((v w : ℕ) → v < n → w < n → P v ≡ true → P w ≡ true → f v ≡ f w → v ≡ w)
    → count n P ≤ count m Q
unfolding count
count-inj zero m P Q f below into inj = omega arith
count-inj (suc n) m P Q f below into inj = cases (P n)
    (λ p.
    let Q' : ℕ → Bool = λ w. but (Q w) (eqb w (f n)) in
    let rest : count n P ≤ count m Q' = count-inj n m P Q' f
    (λ v l q. below v (omega arith) q)
    (λ v l q. simp tests (into v (omega arith) q, λ e. let e' = inj v n (omega arith) (omega arith) q p e in omega arith))
    (λ v w l k. inj v w (omega arith) (omega arith)) in
    rw p (omega (arith, count-remove m Q (f n) (below n (omega arith) p) (into n (omega arith) p))))
    (λ p. rw p (omega (arith, count-inj n m P Q f (λ v l. below v (omega arith)) (λ v l. into v (omega arith)) (λ v w l k. inj v w (omega arith) (omega arith)))))

-- ---- a map of those that pass P to themselves that is its own inverse and leaves none where it is: their number is even
pub count-paired : (n : ℕ) (P : ℕ → Bool) (f : ℕ → ℕ)
    → ((v : ℕ) → v < n → P v ≡ true → f v < n)
    → ((v : ℕ) → v < n → P v ≡ true → P (f v) ≡ true)
    → ((v : ℕ) → v < n → P v ≡ true → f (f v) ≡ v)
    → ((v : ℕ) → v < n → P v ≡ true → f v ≢ v)
    → count n P % 2 ≡ 0
unfolding count
count-paired zero P f below into back moved = refl
count-paired (suc n) P f below into back moved = cases (P n)
    (λ p.
    let j : ℕ = f n in
    let jl : j < n = omega (arith, below n (omega arith) p, moved n (omega arith) p) in
    let pj : P j ≡ true = into n (omega arith) p in
    let bj : f j ≡ n = back n (omega arith) p in
    let P' : ℕ → Bool = λ v. but (P v) (eqb v j) in
    let is : (v : ℕ) → P' v ≡ true → (P v ≡ true) × (v ≢ j) = λ v q. simp tests at q in
    let fne : (v : ℕ) → v < n → P' v ≡ true → f v ≢ n = λ v l q e. (is v q).1 (cc (back v (omega arith) (is v q).0)) in
    let rest : count n P' % 2 ≡ 0 = count-paired n P' f
    (λ v l q. omega (arith, below v (omega arith) (is v q).0, fne v l q))
    (λ v l q. simp tests (into v (omega arith) (is v q).0, λ e. let e' : v ≡ n = cc (back v (omega arith) (is v q).0) in omega arith))
    (λ v l q. back v (omega arith) (is v q).0)
    (λ v l q. moved v (omega arith) (is v q).0) in
    rw p (omega (arith, count-remove n P j jl pj)))
    (λ p.
    let fne : (v : ℕ) → P v ≡ true → v < n → f v ≢ n = λ v q l e. clash (P n) (rw e at (into v (omega arith) q)) p in
    rw p (omega (
      arith,
      count-paired n P f
          (λ v l q. omega (arith, below v (omega arith) q, fne v q l))
          (λ v l q. into v (omega arith) q)
          (λ v l q. back v (omega arith) q)
          (λ v l q. moved v (omega arith) q),
    )))

-- the same, with half of the number
pub count-paired-half : (n : ℕ) (P : ℕ → Bool) (f : ℕ → ℕ)
    → ((v : ℕ) → v < n → P v ≡ true → f v < n)
    → ((v : ℕ) → v < n → P v ≡ true → P (f v) ≡ true)
    → ((v : ℕ) → v < n → P v ≡ true → f (f v) ≡ v)
    → ((v : ℕ) → v < n → P v ≡ true → f v ≢ v)
    → (k : ℕ) × (count n P ≡ k + k)
count-paired-half n P f below into back moved = (count n P / 2, omega (arith, count-paired n P f below into back moved))

-- ---- classes: where f sends those that pass P below m, and each class has an even number, they are even in number
pub count-classes : (n : ℕ) (P : ℕ → Bool) (f : ℕ → ℕ) (m : ℕ)
    → ((v : ℕ) → v < n → P v ≡ true → f v < m)
    → ((r : ℕ) → r < m → count n (λ v. P v && eqb (f v) r) % 2 ≡ 0)
    → count n P % 2 ≡ 0
count-classes n P f zero below even = rw (count_none n P (λ v l. cases (P v) (λ p. absurd (not-suc-le-zero (below v l p))) (λ p. p))) refl
count-classes n P f (suc m) below even =
    let P' : ℕ → Bool = λ v. but (P v) (eqb (f v) m) in
    let rest : count n P' % 2 ≡ 0 = count-classes n P' f m
    (λ v l q. let h : (P v ≡ true) × (f v ≢ m) = simp tests at q in omega (arith, below v l h.0))
    (λ r l. rw (count-cong n (λ v. P' v && eqb (f v) r) (λ v. P v && eqb (f v) r) (λ v k. class_of (P v) (f v) m r (omega arith))) (even r (omega arith))) in
    omega (arith, count-split n P (λ v. eqb (f v) m), even m (omega arith))
  where
    class_of : (b : Bool) (x m r : ℕ) → r ≢ m → but b (eqb x m) && eqb x r ≡ b && eqb x r
    class_of b x m r ne = cases (eqb x m)
        (λ e. rw (e, ne_eqb x r (λ e'. ne (cc (eqb-true x m e)))) (sym (and-false b)))
        (λ e. rw e refl)

-- ---- search below n

-- some number below n passes, or none does
pub find : (n : ℕ) (P : ℕ → Bool) → ((v : ℕ) × (v < n) × (P v ≡ true)) ⊎ ((v : ℕ) → v < n → P v ≡ false)
find zero P = inr (λ v l. absurd (not-suc-le-zero l))
find (suc n) P = go (find n P)
  where
    go : ((v : ℕ) × (v < n) × (P v ≡ true)) ⊎ ((v : ℕ) → v < n → P v ≡ false) → ((v : ℕ) × (v < suc n) × (P v ≡ true)) ⊎ ((v : ℕ) → v < suc n → P v ≡ false)
    go (inl r) = inl (r.0, omega arith, r.2)
    go (inr no_lower) = cases (P n)
        (λ p. inl (n, omega arith, p))
        (λ p. inr (λ v l. cases (eqb v n) (λ e. rw (eqb-true v n e) p) (λ e. no_lower v (omega (arith, eqb-false v n e)))))

pub least-le : (n : ℕ) (P : ℕ → Bool) → least n P ≤ n
unfolding least
least-le zero P = omega arith
least-le (suc n) P = cases (ltb (least n P) n)
    (λ t. rw t (omega (arith, least-le n P)))
    (λ t. rw t (cases (P n) (λ p. rw p (omega arith)) (λ p. rw p (omega arith))))

pub least-passes : (n : ℕ) (P : ℕ → Bool) → least n P < n → P (least n P) ≡ true
unfolding least
least-passes zero P l = absurd (not-suc-le-zero l)
least-passes (suc n) P l = cases (ltb (least n P) n)
    (λ t. rw t (least-passes n P (ltb-true (least n P) n t)))
    (λ t. cases (P n)
    (λ p. rw (t, p) p)
    (λ p. let l' : suc n < suc n = rw (t, p) at l in absurd (omega arith)))

pub least_first : (n : ℕ) (P : ℕ → Bool) (v : ℕ) → v < least n P → P v ≡ false
unfolding least
least_first zero P v l = absurd (not-suc-le-zero l)
least_first (suc n) P v l = cases (ltb (least n P) n)
    (λ t. least_first n P v (rw t at l))
    (λ t. let low : (w : ℕ) → w < n → P w ≡ false = λ w k. least_first n P w (omega (arith, ltb-false (least n P) n t)) in
    cases (P n)
    (λ p. let l' : v < n = rw (t, p) at l in low v l')
    (λ p. cases (eqb v n) (λ e. rw (eqb-true v n e) p) (λ e. let l' : v < suc n = rw (t, p) at l in low v (omega (arith, eqb-false v n e)))))

-- where one passes, the least that passes is below n
pub least-found : (n : ℕ) (P : ℕ → Bool) (v : ℕ) → v < n → P v ≡ true → least n P < n
least-found n P v l p = cases (ltb (least n P) n) (ltb-true (least n P) n)
    (λ t. clash (P v) p (least_first n P v (omega (arith, ltb-false (least n P) n t))))

-- the least is k, where k passes and nothing below it does
pub least-is : (n : ℕ) (P : ℕ → Bool) (k : ℕ) → k < n → P k ≡ true → ((j : ℕ) → j < k → P j ≡ false) → least n P ≡ k
least-is n P k l p h = cases (ltb (least n P) k)
    (λ t. clash (P (least n P)) (least-passes n P (least-found n P k l p)) (h (least n P) (ltb-true (least n P) k t)))
    (λ t. cases (ltb k (least n P))
    (λ u. clash (P k) p (least_first n P k (ltb-true k (least n P) u)))
    (λ u. omega (arith, ltb-false (least n P) k t, ltb-false k (least n P) u)))

-- ---- all below n pass

pub all-at : (n : ℕ) (P : ℕ → Bool) → all n P ≡ true → (v : ℕ) → v < n → P v ≡ true
unfolding all
all-at zero P h v l = absurd (not-suc-le-zero l)
all-at (suc n) P h v l =
    let k : (P n ≡ true) × (all n P ≡ true) = simp tests at h in
    cases (eqb v n) (λ e. rw (eqb-true v n e) k.0) (λ e. all-at n P k.1 v (omega (arith, eqb-false v n e)))

pub all_of : (n : ℕ) (P : ℕ → Bool) → ((v : ℕ) → v < n → P v ≡ true) → all n P ≡ true
unfolding all
all_of zero P h = refl
all_of (suc n) P h = simp tests (h n (omega arith), all_of n P (λ v l. h v (omega arith)))

-- ---- as a loop leaves them part of the way

module _ (P : ℕ → Bool) where
  pub count-zero : count 0 P ≡ 0
  unfolding count
  count-zero = refl

  pub count-step : (k : ℕ) → count (k + 1) P ≡ bit (P k) + count k P
  unfolding count
  count-step k = rw add-one

  -- the invariant of a loop that looks for the least: `least k P ≡ k`, nothing below k passes
  pub least-none : least 0 P ≡ 0
  unfolding least
  least-none = refl

  pub least-past : (k : ℕ) → least k P ≡ k → P k ≡ false → least (k + 1) P ≡ k + 1
  unfolding least
  least-past k p q = rw (add-one, least) (simp (p, le-ltb k k (omega arith), q))

  pub least_at : (k n : ℕ) → k < n → least k P ≡ k → P k ≡ true → least n P ≡ k
  least_at k n l p q = least-is n P k l q (λ j m. least_first k P j (omega arith))

  pub least-end : (k n : ℕ) → k ≤ n → n ≤ k → least k P ≡ k → least n P ≡ n
  least-end k n h l p = let e : k ≡ n = omega arith in rw e at p

  -- the invariant of a loop that asks whether all pass: `all k P ≡ true`
  pub all_none : all 0 P ≡ true
  unfolding all
  all_none = refl

  pub all_past : (k : ℕ) → all k P ≡ true → P k ≡ true → all (k + 1) P ≡ true
  unfolding all
  all_past k p q = rw (add-one, all, q, p)

  pub all-fails : (k n : ℕ) → k < n → P k ≡ false → all n P ≡ false
  all-fails k n l q = cases (all n P) (λ t. clash (P k) (all-at n P t k l) q) (λ t. t)

  pub all_end : (k n : ℕ) → k ≤ n → n ≤ k → all k P ≡ true → all n P ≡ true
  all_end k n h l p = let e : k ≡ n = omega arith in rw e at p

-- ---- sums

pub total-zero : (f : ℕ → ℕ) → total 0 f ≡ 0
unfolding total
total-zero f = refl

pub total-step : (f : ℕ → ℕ) (k : ℕ) → total (k + 1) f ≡ f k + total k f
unfolding total
total-step f k = rw add-one

pub total-cong : (n : ℕ) (f h : ℕ → ℕ) → ((v : ℕ) → v < n → f v ≡ h v) → total n f ≡ total n h
unfolding total
total-cong zero f h e = refl
total-cong (suc n) f h e = omega (arith, e n (omega arith), total-cong n f h (λ v l. e v (omega arith)))

total-zeros : (n : ℕ) → total n (λ v. 0) ≡ 0
unfolding total
total-zeros zero = refl
total-zeros (suc n) = omega (arith, total-zeros n)

pub total-add : (n : ℕ) (f h : ℕ → ℕ) → total n (λ v. f v + h v) ≡ total n f + total n h
unfolding total
total-add zero f h = refl
total-add (suc n) f h = omega (arith, total-add n f h)

-- n summands of at most m
pub total-le : (n m : ℕ) (f : ℕ → ℕ) → ((v : ℕ) → v < n → f v ≤ m) → total n f ≤ n * m
unfolding total
total-le zero m f h = omega arith
total-le (suc n) m f h = rw suc-mul (omega (arith, h n (omega arith), total-le n m f (λ v l. h v (omega arith))))

-- a double sum, the other way round
pub total-swap : (n m : ℕ) (f : ℕ → ℕ → ℕ) → total n (λ v. total m (λ w. f v w)) ≡ total m (λ w. total n (λ v. f v w))
unfolding total
total-swap zero m f = sym (total-zeros m)
total-swap (suc n) m f = omega (arith, total-swap n m f, total-add m (f n) (λ w. total n (λ v. f v w)))

-- a count is a sum of bits
pub count-total : (n : ℕ) (P : ℕ → Bool) → count n P ≡ total n (λ v. bit (P v))
unfolding count total
count-total zero P = refl
count-total (suc n) P = omega (arith, count-total n P)
