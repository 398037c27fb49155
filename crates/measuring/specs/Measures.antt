-- The exported calls for the surplus of a set and for the parts that are left without it: the result, and what every byte of every buffer that may be
-- written then holds.
use Rattle.std.specs.Prelude.{ℕ, ◌≡◌, List, [], ◌∷◌, length}
use Rattle.witness.specs.Verdict.{surplus_verdict, surplus_of, parts_verdict, odd_of, members_of, parts_bytes}
use Rattle.answers.specs.Twos.{twos}
use Rattle.checking.specs.Calls.{Unanswered, Answered}

-- wisharek_surplus
pub record SurplusCall (s witness before after : List ℕ) (r : ℕ) : Type 0 where
  pub wrong-length : (length before ≡ 32 → ⊥) → Unanswered before after r
  pub answered : length before ≡ 32 → Answered (surplus_verdict s witness) (twos (surplus_of s witness) ∷ []) after r

-- wisharek_parts; the parts are as lent wherever it is refused
pub record PartsCall (s witness lent parts before after : List ℕ) (r : ℕ) : Type 0 where
  pub wrong-length : (length before ≡ 40 → ⊥) → Unanswered before after r
  pub untouched : (length before ≡ 40 → ⊥) → parts ≡ lent
  pub answered : length before ≡ 40 → Answered (parts_verdict s witness lent) (odd_of s witness lent ∷ members_of s witness lent ∷ []) after r
  pub filled : length before ≡ 40 → parts ≡ parts_bytes s witness lent
