-- The replies of the operations on a pairing by itself: document 01's refusals 10 and 13 to 16, and what each is told as.
use Rattle.std.specs.Prelude.{⊤, Result}
use Rattle.limits.specs.Limits.{routes}
use Rattle.limits.specs.Answer.{told, told_by}
use Rattle.limits.specs.declared.Told.{Told}
use Rattle.refusals.specs.declared.Refusal.{Refusal}
use Rattle.refusals.specs.declared.Refusal.TheVariants.{BadPartner, WrongCount, OddPath, NoSuchId, SelfPair, Unpaired}

-- what a check of an operation answers: acceptance, or a refusal
abbrev pub Reply : Type 0
Reply = Result ⊤ Refusal

-- number, A and B of each refusal
abbrev pub refused_as : Refusal → Told
refused_as (BadPartner i x) = told 10 i x
refused_as (WrongCount n) = told 10 routes n
refused_as (OddPath n) = told 13 n 0
refused_as (NoSuchId k i) = told 14 k i
refused_as (SelfPair k i) = told 15 k i
refused_as (Unpaired i) = told 16 i 0

-- number, A and B of each reply
abbrev pub told_of : Reply → Told
told_of = told_by refused_as
