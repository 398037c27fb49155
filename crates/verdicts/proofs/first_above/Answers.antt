-- `first_above` meets its contract: the search of the positions finds the lowest. Assumes nothing.
use Prim.Native.Nat.{ℕ}
use mathlib.Core.Path.{◌≡◌, refl}
use mathlib.Core.Bool.{Bool, true, false}
use lib.Dec.{ltb}
use lib.ListN.{get_or}
use Rattle.std.proofs.Common.{rules, tests}
use Rattle.std.proofs.lemmas.Iterator.{first_from_Range}
use Rattle.causes.proofs.Lowest.{lowest-found}
use Rattle.verdicts.specs.Verdict.{first_above}
use Rattle.verdicts.proofs.first_above.Goals as goal

pub returns : goal.returns
unfolding first_above
returns c =
    let above : ℕ → Bool = λ k. ltb 1 (get_or c.args.witness.now k 0) in
    lowest-found _ above _ refl _ (first_from_Range _ _ _ _ (λ k. above k ≡ true) (λ k. above k ≡ false) c.find.ensures.ran
    (λ x q k. search (rules, tests))
    (λ x q k. search (rules, tests)))
