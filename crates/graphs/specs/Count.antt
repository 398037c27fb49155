-- Counting the numbers below n: how many pass a test, the least that does, whether all do, and sums. Assumes nothing.
use Rattle.std.specs.Prelude.{Bool, true, false, cond, ◌&&◌, ℕ, zero, suc, ◌+◌, ltb}

-- 1 where a test passes, 0 where it fails
abbrev pub bit : Bool → ℕ
bit true = 1
bit false = 0

-- a and not b. It goes by b, so that it computes where b is known
abbrev pub but : Bool → Bool → Bool
but a true = false
but a false = a

-- how many numbers below n pass
unfoldable pub count : ℕ → (ℕ → Bool) → ℕ
count zero P = 0
count (suc n) P = bit (P n) + count n P

-- the least number below n that passes, or n
unfoldable pub least : ℕ → (ℕ → Bool) → ℕ
least zero P = 0
least (suc n) P = let r = least n P in cond (ltb r n) r (cond (P n) n (suc n))

-- whether all numbers below n pass
unfoldable pub all : ℕ → (ℕ → Bool) → Bool
all zero P = true
all (suc n) P = P n && all n P

-- the sum of f 0 to f (n - 1)
unfoldable pub total : ℕ → (ℕ → ℕ) → ℕ
total zero f = 0
total (suc n) f = f n + total n f
