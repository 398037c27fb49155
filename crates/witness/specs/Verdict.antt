-- The answers of surplus, parts, checker and improve: document 01's refusals 1 to 12, each check in its place.
use Rattle.std.specs.Prelude.{ℕ, Bool, false, cond, List, eqb, ℤ, pos, negsuc, Err, is_err}
use Rattle.graphs.specs.Count.{count}
use Rattle.graphs.specs.Graph.{Graph}
use Rattle.graphs.specs.Surplus.{odd_parts, surplus}
use Rattle.graphs.specs.Pairing.{unpaired}
use Rattle.words.specs.Words.{bytes_to}
use Rattle.rows.specs.Sheet.{order, graph_of}
use Rattle.causes.specs.Given.{mate_of, set_of}
use Rattle.weights.specs.Weight.{part_name}
use Rattle.limits.specs.Answer.{accepted, first}
use Rattle.verdicts.specs.Verdict.{Verdict, sheet_verdict, pairing_length, witness_length, parts_length, partner_verdict, mark_verdict}
use Rattle.verdicts.specs.declared.Refusal.TheVariants.{NotShown}

-- whether the signed number z is the count u
abbrev pub is_count : ℤ → ℕ → Bool
is_count (pos k) u = eqb k u
is_count (negsuc k) u = false

-- 12: the unpaired routes are not as many as the surplus of the set
unfoldable pub bound_verdict : Graph → (ℕ → ℕ) → (ℕ → Bool) → Verdict
bound_verdict g mate A = cond (is_count (surplus g A) (unpaired g mate)) accepted (Err (NotShown (unpaired g mate)))

-- improve: 1 to 10
unfoldable pub improve_verdict : List ℕ → List ℕ → List ℕ → Verdict
improve_verdict s pairing witness =
    first (sheet_verdict s)
    (first (pairing_length (order s) pairing)
    (first (witness_length (order s) witness)
    (partner_verdict (graph_of s) (mate_of pairing))))

-- the checker: those, then 11 and 12
unfoldable pub check_of : List ℕ → List ℕ → List ℕ → Verdict
check_of s pairing witness =
    first (improve_verdict s pairing witness)
    (first (mark_verdict (order s) witness)
    (bound_verdict (graph_of s) (mate_of pairing) (set_of witness)))

-- the surplus: 1 to 7, 9, 11
unfoldable pub surplus_verdict : List ℕ → List ℕ → Verdict
surplus_verdict s witness = first (sheet_verdict s) (first (witness_length (order s) witness) (mark_verdict (order s) witness))

-- the surplus of the witness's set, 0 where it is refused
unfoldable pub surplus_of : List ℕ → List ℕ → ℤ
surplus_of s witness = cond (is_err (surplus_verdict s witness)) (pos 0) (surplus (graph_of s) (set_of witness))

-- the parts: 1 to 7, 9 for the witness, 9 for the parts, 11
unfoldable pub parts_verdict : List ℕ → List ℕ → List ℕ → Verdict
parts_verdict s witness buffer =
    first (sheet_verdict s)
    (first (witness_length (order s) witness)
    (first (parts_length (order s) buffer)
    (mark_verdict (order s) witness)))

-- what the buffer for the parts then holds: as lent where it is refused, else the names of the parts, four bytes each
unfoldable pub parts_bytes : List ℕ → List ℕ → List ℕ → List ℕ
parts_bytes s witness buffer =
    cond (is_err (parts_verdict s witness buffer)) buffer (bytes_to (part_name (graph_of s) (set_of witness)) (order s))

-- the odd parts and the routes in the set, 0 where it is refused
unfoldable pub odd_of : List ℕ → List ℕ → List ℕ → ℕ
odd_of s witness buffer = cond (is_err (parts_verdict s witness buffer)) 0 (odd_parts (graph_of s) (set_of witness))

unfoldable pub members_of : List ℕ → List ℕ → List ℕ → ℕ
members_of s witness buffer = cond (is_err (parts_verdict s witness buffer)) 0 (count (order s) (set_of witness))
