-- What the checker's answer means.
use Rattle.std.specs.Prelude.{ℕ, ◌*◌, ◌≤◌, ◌<◌, ◌≡◌, ◌↔◌, ◌⊎◌, true, false, List, ℤ, pos, length, get_or, is_err}
use Rattle.std.proofs.Math.IntN.{sub_ℕ}
use Rattle.limits.specs.Limits.{routes, none}
use Rattle.graphs.specs.Graph.{Graph}
use Rattle.graphs.specs.Surplus.{surplus}
use Rattle.graphs.specs.Pairing.{Pairing, pairs, unpaired, sessions}
use Rattle.graphs.specs.Plan.{Session, Plan}
use Rattle.rows.specs.Sheet.{order, graph_of}
use Rattle.sheet.specs.Reply.{reply_of}
use Rattle.limits.specs.Answer as answer
use Rattle.causes.specs.Given.{mate_of, set_of}
use Rattle.weights.specs.Weight.{Weighs}
use Rattle.verdicts.specs.Verdict.{Verdict}
use Rattle.witness.specs.Verdict.{check_of, surplus_verdict, surplus_of, parts_verdict, odd_of, members_of, parts_bytes}

-- the bytes are a pairing of the graph: four for each route, each partner none or a neighbour that names the route back
pub record PairingBytes (s pairing : List ℕ) : Type 0 where
  pub long : length pairing ≡ 4 * order s
  pub partners : (v : ℕ) → v < order s → (mate_of pairing v ≡ none) ⊎ (mate_of pairing v < order s)
  pub valid : Pairing (graph_of s) (mate_of pairing)

-- the bytes are a set of routes: one for each route, 1 in the set and 0 outside it
pub record SetBytes (s witness : List ℕ) : Type 0 where
  pub long : length witness ≡ order s
  pub marks : (v : ℕ) → v < order s → get_or witness v 0 ≤ 1

-- what improve may begin from: the sheet is accepted, the bytes are a pairing of it, and the witness has a byte for each route
pub record Begins (s pairing witness : List ℕ) : Type 0 where
  pub accepted : reply_of s ≡ answer.accepted
  pub partners : PairingBytes s pairing
  pub long : length witness ≡ order s

-- the set meets the bound: the unpaired routes are as many as its surplus
pub record Shown (s pairing witness : List ℕ) : Type 0 where
  pub accepted : reply_of s ≡ answer.accepted
  pub partners : PairingBytes s pairing
  pub marks : SetBytes s witness
  pub tight : surplus (graph_of s) (set_of witness) ≡ pos (unpaired (graph_of s) (mate_of pairing))

-- no pairing has more pairs, and no plan fewer sessions
pub record Maximum (g : Graph) (mate : ℕ → ℕ) : Type 0 where
  pub most : (other : ℕ → ℕ) → Pairing g other → pairs g other ≤ pairs g mate
  pub fewest : (ss : List Session) → Plan g ss → sessions g mate ≤ length ss

-- the checker's answer: which it is, exactly when it accepts, and what is accepted
pub record Checked (s pairing witness : List ℕ) (r : Verdict) : Type 0 where
  pub is : r ≡ check_of s pairing witness
  pub exactly : (r ≡ answer.accepted) ↔ Shown s pairing witness
  pub maximum : r ≡ answer.accepted → Maximum (graph_of s) (mate_of pairing)

-- the answer of the surplus: the verdict, and the surplus as a signed number and as the difference of two small counts, which are odd parts and members
pub record Surplus (s witness : List ℕ) (r : Verdict) (odd size : ℕ) (z : ℤ) : Type 0 where
  pub is : r ≡ surplus_verdict s witness
  pub surplus : z ≡ surplus_of s witness
  pub counts : sub_ℕ odd size ≡ surplus_of s witness
  pub weighed : is_err r ≡ false → Weighs (graph_of s) (set_of witness) odd size
  pub unweighed : is_err r ≡ true → (odd ≡ 0) × (size ≡ 0)
  pub odd-small : odd ≤ routes
  pub size_small : size ≤ routes

-- the answer of the parts: the verdict, the two counts, and what the buffer then holds
pub record Parted (s witness before after : List ℕ) (r : Verdict) (odd size : ℕ) : Type 0 where
  pub is : r ≡ parts_verdict s witness before
  pub odd-parts : odd ≡ odd_of s witness before
  pub members : size ≡ members_of s witness before
  pub written : after ≡ parts_bytes s witness before
