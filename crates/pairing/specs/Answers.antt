-- What each operation answers, for any pairing and any ids: its refusal, or the next pairing, or what was asked.
use Rattle.std.specs.Prelude.{ℕ, Bool, List, Result, Ok, Err}
use Rattle.mates.specs.Partners.{mate_of, is_paired, count_of, paired, augmented}
use Rattle.limits.specs.Answer.{first}
use Rattle.refusals.specs.Reply.{Reply}
use Rattle.checks.specs.Checks.{pairing_reply, id_reply, pair_reply, mate_reply}
use Rattle.paths.specs.Paths.{path_reply}
use Rattle.refusals.specs.declared.Refusal.{Refusal}
use Rattle.listing.specs.Listing.{edges_in}
use Rattle.listing.specs.declared.Edge.{Edge}
use Rattle.pairing.specs.declared.Pairing.{Pairing}
use Rattle.pairing.specs.declared.Refused.{Refused}

-- the pairing with these partners, and with the right count
abbrev pub kept : List ℕ → Pairing
kept ps = record { partner = ps; count = count_of ps }

-- the refusal of a pairing, or else another
abbrev pub reply_to : Pairing → Reply → Reply
reply_to p r = first (pairing_reply p.partner p.count) r

-- a refused operation answers its refusal alone; an accepted one answers what was asked
abbrev pub answered : {A : Type 0} → Reply → A → Result A Refusal
answered (Ok _) x = Ok x
answered (Err r) x = Err r

-- a refused operation hands the same pairing back; an accepted one hands on the pairing with these partners
abbrev pub next : Reply → Pairing → List ℕ → Result Pairing Refused
next (Ok _) p ps = Ok (kept ps)
next (Err r) p ps = Err (record { refusal = r; pairing = p })

-- what an operation in place hands on, by its reply and the pairing that it leaves
abbrev pub handed : Reply → Pairing → Result Pairing Refused
handed (Ok _) p = Ok p
handed (Err r) p = Err (record { refusal = r; pairing = p })

-- `pair`: the first id is position 0, the second 1
unfoldable pub pair_answer : Pairing → ℕ → ℕ → Result Pairing Refused
pair_answer p a b = next (reply_to p (pair_reply a b)) p (paired p.partner a b)

-- `augment`
unfoldable pub augment_answer : Pairing → List ℕ → Result Pairing Refused
augment_answer p path = next (reply_to p (path_reply path)) p (augmented p.partner path)

-- `order`: how many ids have a partner, twice the size
unfoldable pub order_answer : Pairing → Result ℕ Refusal
order_answer p = answered (pairing_reply p.partner p.count) (count_of p.partner)

-- `has_node`: whether the id has a partner
unfoldable pub has_node_answer : Pairing → ℕ → Result Bool Refusal
has_node_answer p i = answered (reply_to p (id_reply 0 i)) (is_paired p.partner i)

-- `mate`: the partner of the id
unfoldable pub mate_answer : Pairing → ℕ → Result ℕ Refusal
mate_answer p i = answered (reply_to p (mate_reply p.partner i)) (mate_of p.partner i)

-- `edges`: the pairs by lower id, rising
unfoldable pub edges_answer : Pairing → Result (List Edge) Refusal
edges_answer p = answered (pairing_reply p.partner p.count) (edges_in p.partner)
