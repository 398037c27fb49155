-- The text that the planner's program writes for an input: document 01, "Layouts to run". Nothing is left open. Its lines stand in Lines of the crate lines.
-- Assumes nothing.
use Rattle.std.specs.Prelude.{ℕ, ◌*◌, ◌≤◌, ◌≡◌, cond, List, [], ◌∷◌, ◌++◌, ltb, length, take, drop, replicate, is_err}
use Rattle.graphs.specs.Pairing.{unpaired}
use Rattle.rows.specs.Sheet.{order, graph_of}
use Rattle.causes.specs.Given.{mate_of}
use Rattle.verdicts.specs.Verdict.{told_of}
use Rattle.witness.specs.Verdict.{improve_verdict}
use Rattle.improve.specs.Choice.{pairing_after, witness_after, size_after, sessions_after}
use Rattle.lines.specs.Lines.{refusal, counts, pair_lines, over_line}

-- the largest budget, which is no limit: a pairing has at most 256 pairs
abbrev pub no_limit : ℕ
no_limit = 4294967295

-- "too long", a line of its own
abbrev pub too_long : List ℕ
too_long = 116 ∷ 111 ∷ 111 ∷ 32 ∷ 108 ∷ 111 ∷ 110 ∷ 103 ∷ 10 ∷ []

-- what is written from a start p with the witness bytes w: the answer of improve without a limit, refused or not
unfoldable pub plan_text : List ℕ → List ℕ → List ℕ → List ℕ
plan_text s p w =
    let n = order s in
    let p' = pairing_after s p w no_limit in
    let told = refusal (told_of (improve_verdict s p w)) in
    let lines = counts n (size_after s p w no_limit) (unpaired (graph_of s) (mate_of p')) (sessions_after s p w no_limit) ++ pair_lines n p' ++ over_line n (witness_after s p w no_limit) in
    cond (is_err (improve_verdict s p w)) told lines

-- the start: no partner for any route, and no route in the set
abbrev pub no_pairs : List ℕ → List ℕ
no_pairs s = replicate (4 * order s) 255

abbrev pub no_members : List ℕ → List ℕ
no_members s = replicate (order s) 0

-- the whole: more than 65,536 bytes are not looked at
unfoldable pub text_of : List ℕ → List ℕ
text_of s =
    let text = plan_text s (no_pairs s) (no_members s) in
    cond (ltb 65536 (length s)) too_long text

-- what a call leaves: the text at the start of the lent bytes, with its length r, and after it what was there
pub record Reports (s out out' : List ℕ) (r : ℕ) : Type 0 where
  pub long : r ≡ length (text_of s)
  pub written : out' ≡ text_of s ++ drop r out
  -- both follow; they are stated so that a caller can lend the first r bytes on
  pub fits : r ≤ length out'
  pub first : r ≡ length (take r out')
