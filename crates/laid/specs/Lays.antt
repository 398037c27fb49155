-- What the functions of `Answers` do with the numbers that they are lent, for the contracts inside.
use Rattle.std.specs.Prelude.{ℕ, ◌≡◌, List}
use Rattle.laid.specs.Answers.{Laid, laid, lay}
use Rattle.laid.specs.declared.Answers.{Answers}

-- the numbers as they are laid down so far
abbrev pub laid_in : Answers → Laid
laid_in a = laid a.numbers.now a.place

-- a list was laid down between the two, in the same numbers
pub record Lays (a b : Answers) (xs : List ℕ) : Type 0 where
  pub same : b.numbers.ghost_name ≡ a.numbers.ghost_name
  pub all : laid_in b ≡ lay (laid_in a) xs
