-- The exported calls: for each the result, and what every byte of every buffer that may be written then holds. The sheet is lent to be read alone, and so
-- are pairing and witness of the checker. Here stands what all of them have in common, and the checker; `Measures` of the crate `measuring` and
-- `ImproveCall` of the crate `improving` have the others.
use Rattle.std.specs.Prelude.{ℕ, ◌≡◌, ◌↔◌, List, [], ◌∷◌, length}
use Rattle.longs.specs.Longs.{longs_of}
use Rattle.rows.specs.Sheet.{graph_of}
use Rattle.causes.specs.Given.{mate_of}
use Rattle.verdicts.specs.Verdict.{Verdict, told_of}
use Rattle.witness.specs.Verdict.{check_of}
use Rattle.witness.specs.Promise.{Shown, Maximum}

-- an answer buffer of another length than it should have: the result is 9, and nothing is written
pub record Unanswered (before after : List ℕ) (r : ℕ) : Type 0 where
  pub nine : r ≡ 9
  pub unwritten : after ≡ before

-- the answer holds the verdict's number, A and B and the numbers after them, eight bytes each; the result is the number
pub record Answered (v : Verdict) (more after : List ℕ) (r : ℕ) : Type 0 where
  pub number : r ≡ (told_of v).no
  pub written : after ≡ longs_of ((told_of v).no ∷ (told_of v).a ∷ (told_of v).b ∷ more)

-- wisharek_check
pub record CheckCall (s pairing witness before after : List ℕ) (r : ℕ) : Type 0 where
  pub wrong-length : (length before ≡ 24 → ⊥) → Unanswered before after r
  pub answered : length before ≡ 24 → Answered (check_of s pairing witness) [] after r
  pub exactly : length before ≡ 24 → (r ≡ 0) ↔ Shown s pairing witness
  pub maximum : length before ≡ 24 → r ≡ 0 → Maximum (graph_of s) (mate_of pairing)
