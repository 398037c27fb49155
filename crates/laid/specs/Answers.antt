-- Numbers laid down one after the other, as far as there is room.
use Rattle.std.specs.Prelude.{ℕ, ◌+◌, cond, List, [], ◌∷◌, length, set, ltb}

-- the numbers that are lent, and the place of the next one to lay down
pub record Laid : Type 0 where
  pub numbers : List ℕ
  pub place : ℕ

abbrev pub laid : List ℕ → ℕ → Laid
laid s i = record { numbers = s; place = i }

-- one number laid down; at the end of what is lent, nothing
unfoldable pub put : Laid → ℕ → Laid
put l x = laid (set l.numbers l.place x) (cond (ltb l.place (length l.numbers)) (l.place + 1) l.place)

-- all of a list laid down, in order
unfoldable pub lay : Laid → List ℕ → Laid
lay l [] = l
lay l (x ∷ xs) = lay (put l x) xs
