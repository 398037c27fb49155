-- The digits of a number, read again, are the number. Assumes nothing.
use Prim.Native.Nat.{ℕ, zero, suc, ◌+◌, ◌*◌, ◌-◌, ◌/◌, ◌%◌, ◌^◌, ◌<◌}
use mathlib.Core.Path.{◌≡◌, refl}
use mathlib.Core.List.{List, [], ◌∷◌, ◌++◌}
use native.Mathlib.Omega.{arith}
use native.Mathlib.Numerals.{unary_clauses}
use lib.Dec.{ltb}
use Rattle.graphs.proofs.Count.{cases}
use Rattle.text.specs.Digits.{digits_in, digits}

-- the number that stands in the bytes, after a number a
unfoldable pub read : ℕ → List ℕ → ℕ
read a [] = a
read a (b ∷ bs) = read (10 * a + (b - 48)) bs

read-on : (a : ℕ) (bs : List ℕ) (b : ℕ) → read a (bs ++ b ∷ []) ≡ 10 * read a bs + (b - 48)
unfolding read
read-on a [] b = refl
read-on a (x ∷ xs) b = read-on (10 * a + (x - 48)) xs b

read-in : (f x : ℕ) → x < 10 ^ f → read 0 (digits_in f x) ≡ x
unfolding digits_in read
read-in zero x h = omega arith
read-in (suc f) x h =
    let g = simp unary_clauses at h in
    cases (ltb x 10)
    (λ e. rw e (omega arith))
    (λ e. rw (e, read-on 0 (digits_in f (x / 10)) (48 + x % 10), read-in f (x / 10) (omega arith)) (omega arith))

-- any number of 64 bits
pub read-digits : (x : ℕ) → x < 2 ^ 64 → read 0 (digits x) ≡ x
unfolding digits
read-digits x h = read-in 20 x (omega arith)
