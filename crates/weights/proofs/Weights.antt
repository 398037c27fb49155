-- The odd parts and the size of a set, from the tables of the code. Assumes nothing.
use Prim.Native.Nat.{ℕ, ◌≤◌}
use mathlib.Core.Path.{◌≡◌, ap, ◌∙◌}
use mathlib.Core.Bool.{not, cond}
use mathlib.Core.List.{List}
use native.Mathlib.Omega.{arith}
use lib.IntN.{sub_ℕ}
use lib.ListN.{length, get_or}
use Rattle.limits.specs.Limits.{routes, none}
use Rattle.graphs.specs.Count.{count}
use Rattle.graphs.specs.Graph.{in_set}
use Rattle.graphs.specs.Parts.{parts}
use Rattle.graphs.specs.Surplus.{odd_root, odd_parts, surplus}
use Rattle.graphs.specs.Pairing.{paired, unpaired}
use Rattle.graphs.proofs.Count.{count-le}
use Rattle.graphs.proofs.Parts.{parts-table}
use Rattle.graphs.proofs.Bound.{odd-fits}
use Rattle.words.specs.Words.{bytes_to}
use Rattle.rows.specs.Sheet.{order, graph_of}
use Rattle.sheet.specs.Reply.{reply_of}
use Rattle.limits.specs.Answer.{accepted}
use Rattle.sheet.proofs.Read.{simple, order-most}
use Rattle.causes.specs.Given.{set_of}
use Rattle.weights.specs.Weight.{Weighs, part_name}

module _ (s witness : List ℕ) (ok : reply_of s ≡ accepted) where
  -- a table of parts has a cell for each route
  pub parts-long : (c : List ℕ) → c ≡ parts (graph_of s) (in_set witness) → length c ≡ order s
  parts-long c e = ap length e ∙ (parts-table (graph_of s) (in_set witness) (simple s ok)).size

  pub weighs : (c set : List ℕ) (odd size : ℕ) → length witness ≡ order s → set ≡ witness → c ≡ parts (graph_of s) (in_set witness)
      → odd ≡ count (length c) (odd_root (length c) c (in_set set)) → size ≡ count (length set) (in_set set)
      → Weighs (graph_of s) (set_of witness) odd size
  unfolding odd_parts
  weighs c set odd size el ew ec eo es = record {
    parts = eo ∙ rw (ew, parts-long c ec, ec);
    members = es ∙ rw (ew, el);
  }

  module _ (odd size : ℕ) (w : Weighs (graph_of s) (set_of witness) odd size) where
    -- both are at most the limit
    pub odd-most : odd ≤ routes
    odd-most = omega (arith, w.parts, odd-fits (graph_of s) (set_of witness), order-most s ok)

    pub size-most : size ≤ routes
    size-most = omega (arith, w.members, count-le (order s) (set_of witness), order-most s ok)

    pub surplus-by : sub_ℕ odd size ≡ surplus (graph_of s) (set_of witness)
    unfolding surplus
    surplus-by = rw (w.parts, w.members)

  -- and so is the number of unpaired routes
  pub unpaired-most : (mate : ℕ → ℕ) (free : ℕ) → free ≡ unpaired (graph_of s) mate → free ≤ routes
  unfolding unpaired
  unpaired-most mate free e = omega (arith, e, count-le (order s) (λ v. not (paired (graph_of s) mate v)), order-most s ok)

  -- the names that the table holds are those of the parts
  pub names-by : (c set b : List ℕ) → set ≡ witness → c ≡ parts (graph_of s) (in_set witness)
      → b ≡ bytes_to (λ v. cond (set_of set v) none (get_or c v 0)) (length c)
      → b ≡ bytes_to (part_name (graph_of s) (set_of witness)) (order s)
  names-by c set b ew e h = h ∙ rw (ew, parts-long c e, e)
