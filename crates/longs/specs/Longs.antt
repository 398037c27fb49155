-- Numbers of eight bytes, lowest byte first, in a list of bytes.
use Rattle.std.specs.Prelude.{ℕ, ◌+◌, ◌*◌, ◌/◌, ◌%◌, cond, List, [], ◌∷◌, ◌++◌, length, set, ltb}

-- a number as eight bytes
abbrev pub bytes8 : ℕ → List ℕ
bytes8 x =
    x % 256
    ∷ x / 256 % 256
    ∷ x / 256 / 256 % 256
    ∷ x / 256 / 256 / 256 % 256
    ∷ x / 256 / 256 / 256 / 256 % 256
    ∷ x / 256 / 256 / 256 / 256 / 256 % 256
    ∷ x / 256 / 256 / 256 / 256 / 256 / 256 % 256
    ∷ x / 256 / 256 / 256 / 256 / 256 / 256 / 256 % 256
    ∷ []

-- a list of numbers as bytes, eight each
unfoldable pub longs_of : List ℕ → List ℕ
longs_of [] = []
longs_of (x ∷ xs) = bytes8 x ++ longs_of xs

-- long number k of the bytes s, of eight bytes, set to x; where its eight bytes are not all there, nothing
unfoldable pub put_long : List ℕ → ℕ → ℕ → List ℕ
put_long s k x =
    cond (ltb k (length s / 8))
    (set (set (set (set (set (set (set (set s (8 * k) (x % 256))
    (8 * k + 1) (x / 256 % 256))
    (8 * k + 2) (x / 256 / 256 % 256))
    (8 * k + 3) (x / 256 / 256 / 256 % 256))
    (8 * k + 4) (x / 256 / 256 / 256 / 256 % 256))
    (8 * k + 5) (x / 256 / 256 / 256 / 256 / 256 % 256))
    (8 * k + 6) (x / 256 / 256 / 256 / 256 / 256 / 256 % 256))
    (8 * k + 7) (x / 256 / 256 / 256 / 256 / 256 / 256 / 256 % 256))
    s
