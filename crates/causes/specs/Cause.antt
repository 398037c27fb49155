-- Refusal 10: what can be wrong with a route's partner, in the order in which it is tried.
use Rattle.std.specs.Prelude.{ℕ, Bool, cond, eqb, ltb, Option, Some, None, is_some}
use Rattle.limits.specs.Limits.{none}
use Rattle.graphs.specs.Count.{least}
use Rattle.graphs.specs.Graph.{Graph, joined}
use Rattle.causes.specs.declared.Cause.{Cause}
use Rattle.causes.specs.declared.Cause.TheVariants.{NoRoute, Itself, Stranger, OneSided}

-- the partner of v: nothing is wrong with none; neither none nor below n; v itself; not a neighbour; does not name v back
unfoldable pub cause_of : Graph → (ℕ → ℕ) → ℕ → Option Cause
cause_of g mate v =
    let w = mate v in
    cond (eqb w none) None
    (cond (ltb w g.order)
    (cond (eqb w v) (Some Itself)
    (cond (joined g v w)
    (cond (eqb (mate w) v) None (Some OneSided))
    (Some Stranger)))
    (Some NoRoute))

-- whether something is wrong
abbrev pub wrong : Option Cause → Bool
wrong c = is_some c

-- the lowest number below n that passes, where there is one
unfoldable pub lowest : ℕ → (ℕ → Bool) → Option ℕ
lowest n P = let v = least n P in cond (ltb v n) (Some v) None

-- the lowest route with a wrong partner, where there is one
unfoldable pub first_wrong : Graph → (ℕ → ℕ) → Option ℕ
first_wrong g mate = lowest g.order (λ v. wrong (cause_of g mate v))

-- the second detail: for each cause the value that stands for the partner
abbrev pub value_for : Option Cause → ℕ → ℕ
value_for c value = value
