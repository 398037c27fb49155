-- `first_wrong` meets its contract: the search of the routes finds the lowest. Assumes nothing.
use mathlib.Core.Path.{◌≡◌}
use mathlib.Core.Bool.{Bool, true, false}
use Prim.Native.Nat.{ℕ}
use Rattle.std.proofs.Common.{rules, tests}
use Rattle.std.proofs.lemmas.Iterator.{first_from_Range}
use Rattle.rows.specs.Sheet.{graph_of}
use Rattle.causes.specs.Given.{mate_of}
use Rattle.causes.specs.Cause.{cause_of, wrong, first_wrong}
use Rattle.causes.proofs.Lowest.{lowest-found}
use Rattle.causes.proofs.first_wrong.Goals as goal

pub returns : goal.returns
unfolding first_wrong
returns c =
    let bad : ℕ → Bool = λ v. wrong (cause_of (graph_of c.args.s.now) (mate_of c.args.pairing.now) v) in
    lowest-found _ bad _ c.order.ensures _ (first_from_Range _ _ _ _ (λ v. bad v ≡ true) (λ v. bad v ≡ false) c.find.ensures.ran
    (λ x q k. search (rules, tests))
    (λ x q k. search (rules, tests)))
