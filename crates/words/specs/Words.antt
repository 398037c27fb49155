-- Numbers of four bytes, lowest byte first, in a list of bytes.
use Rattle.std.specs.Prelude.{ℕ, zero, suc, ◌+◌, ◌*◌, ◌/◌, ◌%◌, cond, List, [], ◌∷◌, ◌++◌, map, length, get_or, set, ltb}
use Rattle.limits.specs.Limits.{none}
use Rattle.graphs.specs.Parts.{run}

-- the four bytes from i on, as a number
abbrev pub four : List ℕ → ℕ → ℕ
four s i = get_or s i 0 + 256 * get_or s (i + 1) 0 + 65536 * get_or s (i + 2) 0 + 16777216 * get_or s (i + 3) 0

-- number k of the bytes s: the four from 4k on; none where they are not all there
unfoldable pub word : List ℕ → ℕ → ℕ
word s k = cond (ltb k (length s / 4)) (four s (4 * k)) none

-- all the numbers of the bytes s, in order
unfoldable pub numbers : List ℕ → List ℕ
numbers s = map (word s) (run 0 (length s / 4))

-- number k of the bytes s set to x; where its four bytes are not all there, nothing
unfoldable pub put_word : List ℕ → ℕ → ℕ → List ℕ
put_word s k x =
    cond (ltb k (length s / 4))
    (set (set (set (set s (4 * k) (x % 256)) (4 * k + 1) (x / 256 % 256)) (4 * k + 2) (x / 256 / 256 % 256)) (4 * k + 3) (x / 256 / 256 / 256 % 256))
    s

-- a number as four bytes
abbrev pub bytes4 : ℕ → List ℕ
bytes4 x = x % 256 ∷ x / 256 % 256 ∷ x / 256 / 256 % 256 ∷ x / 256 / 256 / 256 % 256 ∷ []

-- f 0, f 1, .., f (k - 1) as bytes, four each
unfoldable pub bytes_to : (ℕ → ℕ) → ℕ → List ℕ
bytes_to f zero = []
bytes_to f (suc k) = bytes_to f k ++ bytes4 (f k)

-- a step for each number of a list, in order, with its place: what a loop along a row comes to. The first stands at place i
module _ {A : Type 0} where
  unfoldable pub over : (ℕ → ℕ → A → A) → A → ℕ → List ℕ → A
  over f a i [] = a
  over f a i (w ∷ ws) = over f (f i w a) (suc i) ws
