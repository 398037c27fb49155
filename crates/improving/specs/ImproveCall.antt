-- The exported call that improves a pairing: the result, and what every byte of every buffer that may be written then holds.
use Rattle.std.specs.Prelude.{ℕ, ◌≡◌, List, [], ◌∷◌, length}
use Rattle.witness.specs.Verdict.{improve_verdict}
use Rattle.improve.specs.Choice.{pairing_after, witness_after, added_of, size_after, finished_of, sessions_after}
use Rattle.improve.specs.Promise.{Means}
use Rattle.checking.specs.Calls.{Unanswered, Answered}

-- wisharek_improve, with the budget b: p and w are the bytes of pairing and witness before, p' and w' after
pub record ImproveCall (s p p' w w' : List ℕ) (b : ℕ) (before after : List ℕ) (r : ℕ) : Type 0 where
  pub wrong-length : (length before ≡ 56 → ⊥) → Unanswered before after r
  pub unanswered : (length before ≡ 56 → ⊥) → (p' ≡ p) × (w' ≡ w)
  pub answered : length before ≡ 56 → Answered (improve_verdict s p w) (added_of s p w b ∷ size_after s p w b ∷ finished_of s p w b ∷ sessions_after s p w b ∷ []) after r
  -- the choice: which bytes are left, refused or not
  pub left : length before ≡ 56 → (p' ≡ pairing_after s p w b) × (w' ≡ witness_after s p w b)
  -- a refusal leaves them as they were
  pub untouched : length before ≡ 56 → (r ≡ 0 → ⊥) → (p' ≡ p) × (w' ≡ w)
  -- and an accepted call means what the customer demands
  pub means : length before ≡ 56 → r ≡ 0 → Means s p p' w w' b (added_of s p w b) (size_after s p w b) (finished_of s p w b) (sessions_after s p w b)
