-- The bytes of a number. Assumes nothing.
use Rattle.std.specs.Prelude.{ℕ, zero, suc, ◌+◌, ◌/◌, ◌%◌, cond, List, [], ◌∷◌, ◌++◌, ltb}

-- what stands before a number
abbrev pub space : ℕ
space = 32

-- the last f digits of x, in decimal, without zeros in front
unfoldable pub digits_in : ℕ → ℕ → List ℕ
digits_in zero x = []
digits_in (suc f) x =
    let less = digits_in f (x / 10) in
    cond (ltb x 10) ((48 + x) ∷ []) (less ++ (48 + x % 10) ∷ [])

-- x in decimal; twenty digits hold any number of 64 bits
unfoldable pub digits : ℕ → List ℕ
digits x = digits_in 20 x

-- the same with a space before it
unfoldable pub spaced : ℕ → List ℕ
spaced x = space ∷ digits x
