-- What the functions on a table of parts ask of it.
use Rattle.std.specs.Prelude.{ℕ, ◌/◌, ◌<◌, ◌≡◌, List, length}
use Rattle.limits.specs.Answer as answer
use Rattle.words.specs.Words.{word}
use Rattle.rows.specs.Sheet.{order}
use Rattle.sheet.specs.Reply.{reply_of}

-- v is a cell of the table c, the set has as many marks as the table has cells, and so each entry of the row is a cell
pub record Fits (c set : List ℕ) (v : ℕ) (row : List ℕ) : Type 0 where
  pub cell : v < length c
  pub marks : length set ≡ length c
  pub entries : (i : ℕ) → i < length row / 4 → word row i < length c

-- the sheet is accepted, and the table and the set have a place for each route
pub record Ready (s set c : List ℕ) : Type 0 where
  pub accepted : reply_of s ≡ answer.accepted
  pub cells : length c ≡ order s
  pub marks : length set ≡ order s
