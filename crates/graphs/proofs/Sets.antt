-- A set of routes is the function that counts each route: 1 where it is in the set, 0 where it is not. A union of disjoint sets is
-- a sum, "no route twice" is "each count is at most 1", and `omega` proves what follows from sums. Assumes nothing.
use mathlib.Core.Path.{◌≡◌, refl, ap, subst}
use mathlib.Core.Logic.{◌≢◌}
use Prim.Native.Nat.{ℕ, zero, suc, ◌+◌, ◌≤◌, ◌<◌}
use native.Mathlib.Omega.{arith}
use native.Mathlib.Decide.{ℕ_discrete}
use mathlib.Core.List.{List, [], ◌∷◌, ◌++◌}

-- the set of one route
pub is : ℕ → ℕ → ℕ
is zero zero = 1
is zero (suc y) = 0
is (suc a) zero = 0
is (suc a) (suc y) = is a y

pub is-self : (a : ℕ) → is a a ≡ 1
unfolding is
is-self zero = refl
is-self (suc a) = is-self a

pub is-other : {a y : ℕ} → a ≢ y → is a y ≡ 0
unfolding is
is-other {a = zero} {y = zero} h = absurd (h refl)
is-other {a = zero} {y = suc y} h = refl
is-other {a = suc a} {y = zero} h = refl
is-other {a = suc a} {y = suc y} h = is-other {a = a} {y = y} (λ e. h (ap suc e))

pub is_le : (a y : ℕ) → is a y ≤ 1
unfolding is
is_le zero zero = omega arith
is_le zero (suc y) = omega arith
is_le (suc a) zero = omega arith
is_le (suc a) (suc y) = is_le a y

pub is_pos : (a y : ℕ) → 0 < is a y → a ≡ y
unfolding is
is_pos zero zero h = refl
is_pos zero (suc y) h = omega arith
is_pos (suc a) zero h = omega arith
is_pos (suc a) (suc y) h = ap suc (is_pos a y h)

-- a route is the one, or it is not
pub data Is (a y : ℕ) : Type 0 where
  same : a ≡ y → is a y ≡ 1 → Is a y
  other : a ≢ y → is a y ≡ 0 → Is a y

pub is? : (a y : ℕ) → Is a y
is? a y = go (ℕ_discrete a y)
  where
    go : Dec (a ≡ y) → Is a y
    go (yes e) = same e (subst (λ (z : ℕ). is a z ≡ 1) e (is-self a))
    go (no h) = other h (is-other h)

-- how often a list has a number
abbrev pub cnt : List ℕ → ℕ → ℕ
cnt [] y = 0
cnt (a ∷ l) y = is a y + cnt l y

pub cnt-append : (l r : List ℕ) (y : ℕ) → cnt (l ++ r) y ≡ cnt l y + cnt r y
cnt-append [] r y = omega arith
cnt-append (a ∷ l) r y = omega (arith, cnt-append l r y)

-- the union of the sets of a list of numbers
abbrev pub sum : (ℕ → ℕ → ℕ) → List ℕ → ℕ → ℕ
sum S [] y = 0
sum S (a ∷ l) y = S a y + sum S l y

pub sum-append : (S : ℕ → ℕ → ℕ) (l r : List ℕ) (y : ℕ) → sum S (l ++ r) y ≡ sum S l y + sum S r y
sum-append S [] r y = omega arith
sum-append S (a ∷ l) r y = omega (arith, sum-append S l r y)

-- how many routes below n a set has
abbrev pub total : (ℕ → ℕ) → ℕ → ℕ
total f zero = 0
total f (suc n) = total f n + f n

pub total_ext : (f g : ℕ → ℕ) (n : ℕ) → ((y : ℕ) → y < n → f y ≡ g y) → total f n ≡ total g n
total_ext f g zero h = refl
total_ext f g (suc n) h = omega (arith, total_ext f g n (λ y i. h y (omega arith)), h n (omega arith))

pub total-add : (f g : ℕ → ℕ) (n : ℕ) → total (λ y. f y + g y) n ≡ total f n + total g n
total-add f g zero = omega arith
total-add f g (suc n) = omega (arith, total-add f g n)

total-none : (r n : ℕ) → n ≤ r → total (is r) n ≡ 0
total-none r zero h = refl
total-none r (suc n) h = omega (arith, total-none r n (omega arith), is-other {a = r} {y = n} (omega arith))

pub total-is : (r n : ℕ) → r < n → total (is r) n ≡ 1
total-is r zero h = absurd (omega arith)
total-is r (suc n) h = go (is? r n) (λ l. total-is r n l)
  where
    go : Is r n → (r < n → total (is r) n ≡ 1) → total (is r) (suc n) ≡ 1
    go (same e a) f = omega (arith, a, total-none r n (omega arith))
    go (other e a) f = omega (arith, a, f (omega arith))
