-- `ids_at` meets its contract: the list ends before the ids, or they are a stretch of it. Assumes nothing.
use mathlib.Core.Path.{refl}
use Rattle.lent.proofs.Ends.{ids-none, ids-part}
use Rattle.std.proofs.Common.{arith}
use Rattle.lent.proofs.ids_at.Goals as goal
use Rattle.lent.proofs.ids_at.Goals.{in_default-via-in-Some+then-get-lt2, in_default-via-in_default}

pub returns-in_default : goal.returns-in_default
returns-in_default c = elim c.in_default.branch [ in_default-via-in-Some+then-get-lt2 w ↦ ids-none _ _ (grind arith) | in_default-via-in_default w ↦ ids-none _ _ (grind arith) ]

pub returns-in-Some-len2-up : goal.returns-in-Some-len2-up
returns-in-Some-len2-up c =
    let b = c.in-Some-len2-up in
    ids-part _ _ _ _ _ b.ensures.lookup.0.2 b.len_at_least refl c.min.ensures
