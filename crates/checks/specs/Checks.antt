-- The checks of the operations on a pairing by itself, those of a path aside: document 01's refusals 10 and 14 to 16, in the order in which they are tried.
use Rattle.std.specs.Prelude.{ℕ, not, cond, List, Err, eqb, ltb}
use Rattle.limits.specs.Limits.{routes}
use Rattle.graphs.specs.Count.{least}
use Rattle.mates.specs.Partners.{mate_of, is_paired, count_of, fits}
use Rattle.limits.specs.Answer.{accepted, first}
use Rattle.refusals.specs.Reply.{Reply}
use Rattle.refusals.specs.declared.Refusal.TheVariants.{BadPartner, WrongCount, NoSuchId, SelfPair, Unpaired}

-- the lowest id whose partner does not fit; the limit where there is none
unfoldable pub misfit : List ℕ → ℕ
misfit ps = least routes (λ i. not (fits ps i))

-- 10, which every operation tries first: a partner that does not fit, then a wrong kept count
unfoldable pub pairing_reply : List ℕ → ℕ → Reply
pairing_reply ps n =
    cond (ltb (misfit ps) routes) (Err (BadPartner (misfit ps) (mate_of ps (misfit ps))))
    (cond (eqb n (count_of ps)) accepted (Err (WrongCount n)))

-- 14, for the id i at position k
unfoldable pub id_reply : ℕ → ℕ → Reply
id_reply k i = cond (ltb i routes) accepted (Err (NoSuchId k i))

-- 14 for the first id and for the second, then 15
unfoldable pub pair_reply : ℕ → ℕ → Reply
pair_reply a b = first (id_reply 0 a) (first (id_reply 1 b) (cond (eqb a b) (Err (SelfPair 0 a)) accepted))

-- 14, then 16
unfoldable pub mate_reply : List ℕ → ℕ → Reply
mate_reply ps i = first (id_reply 0 i) (cond (is_paired ps i) accepted (Err (Unpaired i)))
