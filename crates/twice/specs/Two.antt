-- Two calls of `wisharek_improve` in a row, and one with the sum of their budgets.
use Rattle.std.specs.Prelude.{ℕ, ◌+◌, ◌≡◌, List, [], ◌∷◌}
use Rattle.witness.specs.Verdict.{improve_verdict}
use Rattle.improve.specs.Choice.{pairing_after, witness_after, added_of, size_after, finished_of, sessions_after}
use Rattle.checking.specs.Calls.{Answered}

-- two calls in a row on the same pairing and witness, with the budgets a and b. They leave the bytes that one call with the budget a + b leaves; the second
-- answers what that one answers, but for the pairs added; and those of both sum up to its
pub record TwoCalls (s p p' w w' : List ℕ) (a b : ℕ) (first second : List ℕ) (r : ℕ) : Type 0 where
  pub left : (p' ≡ pairing_after s p w (a + b)) × (w' ≡ witness_after s p w (a + b))
  pub answered-first : (x : ℕ) × Answered (improve_verdict s p w) (added_of s p w a ∷ size_after s p w a ∷ finished_of s p w a ∷ sessions_after s p w a ∷ []) first x
  pub more : ℕ
  pub sum : added_of s p w a + more ≡ added_of s p w (a + b)
  pub answered-second : Answered (improve_verdict s p w) (more ∷ size_after s p w (a + b) ∷ finished_of s p w (a + b) ∷ sessions_after s p w (a + b) ∷ []) second r
