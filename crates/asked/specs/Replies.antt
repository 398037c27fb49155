-- What each operation answers, as four numbers: number, A and B of its reply, and a value; and behind them the pairs, where `edges` was asked.
use Rattle.std.specs.Prelude.{ℕ, cond, List, [], ◌∷◌, length, eqb, Result, Ok, Err}
use Rattle.std.specs.Result.{result_map_both, result_unwrap_or}
use Rattle.limits.specs.Limits.{none}
use Rattle.limits.specs.Answer.{told, accepted}
use Rattle.graphs.specs.Count.{bit}
use Rattle.mates.specs.Partners.{id_at}
use Rattle.refusals.specs.Reply.{told_of}
use Rattle.refusals.specs.declared.Refusal.{Refusal}
use Rattle.pairing.specs.Answers.{order_answer, has_node_answer, pair_answer, edges_answer, augment_answer, mate_answer}
use Rattle.pairing.specs.declared.Pairing.{Pairing}
use Rattle.pairing.specs.declared.Refused.{Refused}
use Rattle.listing.specs.declared.Edge.{Edge}
use Rattle.asked.specs.declared.Reply.{Reply}

-- the reply to an operation that hands on this pairing: its value, or 0 where it is refused
abbrev pub answer : Result ℕ Refusal → Pairing → Reply
answer (Ok x) p = record { told = told_of accepted; value = x; pairing = p }
answer (Err r) p = record { told = told_of (Err r); value = 0; pairing = p }

-- the same, where the value is read from what is answered
abbrev pub answer_by : {A : Type 0} → (A → ℕ) → Result A Refusal → Pairing → Reply
answer_by f r p = answer (result_map_both f (λ e. e) r) p

-- `order`: the value is how many ids are paired
unfoldable pub order_reply : Pairing → Reply
order_reply p = answer (order_answer p) p

-- `has_node`: 1 for yes and 0 for no
unfoldable pub has_node_reply : Pairing → ℕ → Reply
has_node_reply p i = answer_by bit (has_node_answer p i) p

-- `edges`: how many pairs there are
unfoldable pub edges_reply : Pairing → Reply
edges_reply p = answer_by length (edges_answer p) p

-- `mate`: the partner
unfoldable pub mate_reply : Pairing → ℕ → Reply
mate_reply p i = answer (mate_answer p i) p

-- `pair` and `augment`: no value, and the next pairing, or the same one where they are refused
abbrev pub next_reply : Result Pairing Refused → Reply
next_reply (Ok p) = answer (Ok 0) p
next_reply (Err r) = answer (Err r.refusal) r.pairing

-- a code that names no operation: a number that no refusal has, and the code
abbrev pub unknown_reply : Pairing → ℕ → Reply
unknown_reply p c = record { told = told none c 0; value = 0; pairing = p }

-- the operations by their codes: 0 `order`, 1 `has_node`, 2 `pair`, 3 `edges`, 4 `augment`, 5 `mate`. An id that is not given is none, which is no id; ids that are not asked for are passed over
unfoldable pub reply_to : Pairing → ℕ → List ℕ → Reply
reply_to p c ids =
    cond (eqb c 0) (order_reply p)
    (cond (eqb c 1) (has_node_reply p (id_at ids 0))
    (cond (eqb c 2) (next_reply (pair_answer p (id_at ids 0) (id_at ids 1)))
    (cond (eqb c 3) (edges_reply p)
    (cond (eqb c 4) (next_reply (augment_answer p ids))
    (cond (eqb c 5) (mate_reply p (id_at ids 0)) (unknown_reply p c))))))

-- the numbers of pairs, the lower id of each before its partner
unfoldable pub pairs_of : List Edge → List ℕ
pairs_of [] = []
pairs_of (e ∷ es) = e.lower ∷ e.upper ∷ pairs_of es

-- the pairs that stand behind an answer: none where `edges` is refused
unfoldable pub behind : Pairing → ℕ → List ℕ
behind p c = cond (eqb c 3) (pairs_of (result_unwrap_or (edges_answer p) [])) []

-- the numbers of a reply
abbrev pub numbers_of : Reply → List ℕ
numbers_of r = r.told.no ∷ r.told.a ∷ r.told.b ∷ r.value ∷ []
