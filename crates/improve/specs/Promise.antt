-- What a call of improve promises: the customer's third demand. The meaning comes first; alone it leaves open which pairing of that size comes out, and which
-- witness. The choice fixes both. Assumes nothing.
use Rattle.std.specs.Prelude.{ℕ, ◌+◌, ◌-◌, ◌≤◌, ◌<◌, min, ◌≡◌, ◌↔◌, ◌⊎◌, true, List, length, is_err}
use Rattle.graphs.specs.Largest.{Largest}
use Rattle.graphs.specs.Plan.{Session, Plan}
use Rattle.rows.specs.Sheet.{order, graph_of}
use Rattle.causes.specs.Given.{mate_of}
use Rattle.limits.specs.Answer.{accepted}
use Rattle.verdicts.specs.Verdict.{Verdict}
use Rattle.witness.specs.Verdict.{improve_verdict, check_of}
use Rattle.witness.specs.Promise.{PairingBytes}
use Rattle.buffers.specs.Held.{size_of, sessions_of}
use Rattle.improve.specs.Choice.{pairing_after, witness_after, added_of, size_after, finished_of, sessions_after}

-- an accepted call: p and w are the bytes of pairing and witness before, p' and w' after, b is the budget, and the last four are the answer's
pub record Means (s p p' w w' : List ℕ) (b added size finished sessions : ℕ) : Type 0 where
  -- m, the largest size there is
  pub m : ℕ
  pub largest : Largest (graph_of s) m
  -- the pairing left is valid, and its size is s + min(b, m - s)
  pub valid : PairingBytes s p'
  pub reached : size_of s p' ≡ size_of s p + min b (m - size_of s p)
  -- the size, and what was added: the size left less the size before
  pub size_is : size ≡ size_of s p'
  pub added_is : added ≡ size_of s p' - size_of s p
  -- every route paired before is paired
  pub keeps : (v : ℕ) → v < order s → mate_of p v < order s → mate_of p' v < order s
  -- finished is 1 exactly when the size left is m, and else 0
  pub exactly : (finished ≡ 1) ↔ (size_of s p' ≡ m)
  pub one-or-none : (finished ≡ 1) ⊎ (finished ≡ 0)
  -- when finished, the checker accepts the witness with the pairing left, and no plan has fewer sessions; else the witness is as lent
  pub shown : finished ≡ 1 → check_of s p' w' ≡ accepted
  pub fewest : finished ≡ 1 → (ss : List Session) → Plan (graph_of s) ss → sessions ≤ length ss
  pub unwritten : finished ≡ 0 → w' ≡ w
  -- the sessions: the routes less the pairs
  pub sessions-is : sessions ≡ sessions_of s p'

-- which bytes and numbers they are
pub record Chosen (s p p' w w' : List ℕ) (b added size finished sessions : ℕ) : Type 0 where
  pub pairing-is : p' ≡ pairing_after s p w b
  pub witness-is : w' ≡ witness_after s p w b
  pub added_is : added ≡ added_of s p w b
  pub size_is : size ≡ size_after s p w b
  pub finished-is : finished ≡ finished_of s p w b
  pub sessions-is : sessions ≡ sessions_after s p w b

-- a call: its verdict, and what it leaves, refused or not
pub record Improve (s p p' w w' : List ℕ) (b : ℕ) (r : Verdict) (added size finished sessions : ℕ) : Type 0 where
  pub is : r ≡ improve_verdict s p w
  pub refused : is_err r ≡ true → (p' ≡ p) × (w' ≡ w)
  pub means : r ≡ accepted → Means s p p' w w' b added size finished sessions
  pub chosen : Chosen s p p' w w' b added size finished sessions
