-- The checks of a path of ids: document 01's refusals 13, 14 and 15, in the order in which they are tried.
use Rattle.std.specs.Prelude.{ℕ, ◌+◌, ◌*◌, ◌/◌, ◌%◌, cond, List, Err, length, eqb, ltb, leb}
use Rattle.limits.specs.Limits.{routes}
use Rattle.limits.specs.Answer.{accepted}
use Rattle.graphs.specs.Count.{least}
use Rattle.mates.specs.Partners.{id_at}
use Rattle.refusals.specs.Reply.{Reply}
use Rattle.refusals.specs.declared.Refusal.TheVariants.{OddPath, NoSuchId, SelfPair}

-- the lowest position of an id that is not below the limit; the length where there is none
unfoldable pub unknown : List ℕ → ℕ
unknown path = least (length path) (λ k. leb routes (id_at path k))

-- the first pair of an id with itself; the number of pairs where there is none
unfoldable pub self_pair : List ℕ → ℕ
self_pair path = least (length path / 2) (λ k. eqb (id_at path (2 * k)) (id_at path (2 * k + 1)))

-- 13, then 14 over all the path, then 15 over all its pairs
unfoldable pub path_reply : List ℕ → Reply
path_reply path =
    cond (eqb (length path % 2) 1) (Err (OddPath (length path)))
    (cond (ltb (unknown path) (length path)) (Err (NoSuchId (unknown path) (id_at path (unknown path))))
    (cond (ltb (self_pair path) (length path / 2)) (Err (SelfPair (2 * self_pair path) (id_at path (2 * self_pair path)))) accepted))
