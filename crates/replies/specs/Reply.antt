-- The replies to a sheet: document 01's refusals 1 to 7, what each is told as, and the first among several.
use Rattle.std.specs.Prelude.{ℕ, zero, suc, ⊤, Result}
use Rattle.limits.specs.Limits.{routes}
use Rattle.limits.specs.Answer.{told, told_by, accepted, first}
use Rattle.limits.specs.declared.Told.{Told}
use Rattle.replies.specs.declared.Refusal.{Refusal}
use Rattle.replies.specs.declared.Refusal.TheVariants.{Short, TooMany, Contents, UnknownId, DuplicateEdge, MissingEdge, Loop}

-- what a sheet is answered: acceptance, or a refusal
abbrev pub Reply : Type 0
Reply = Result ⊤ Refusal

-- number, A and B of each refusal
abbrev pub refused_as : Refusal → Told
refused_as Short = told 1 0 0
refused_as (TooMany n) = told 2 n routes
refused_as Contents = told 3 0 0
refused_as (UnknownId w) = told 4 w 0
refused_as (DuplicateEdge v w) = told 5 v w
refused_as (MissingEdge w v) = told 6 w v
refused_as (Loop v) = told 7 v 0

-- number, A and B of each reply
abbrev pub told_of : Reply → Told
told_of = told_by refused_as

-- the first refusal among f 0, f 1, .. below n; accepted where there is none
unfoldable pub first_of : ℕ → (ℕ → Reply) → Reply
first_of zero f = accepted
first_of (suc n) f = first (first_of n f) (f n)
