-- `unpaired_routes` meets its contract: the routes that pass are counted. Assumes nothing.
use Prim.Native.Nat.{ℕ}
use mathlib.Core.Bool.{Bool, not}
use native.Mathlib.Omega.{arith}
use Rattle.std.proofs.Common.{rules, tests}
use Rattle.std.proofs.lemmas.Iterator.{YieldsList-from_range}
use Rattle.std.proofs.lemmas.Iterator.Consumers.{YieldsList-from_filter, count_from_yields_List}
use Rattle.graphs.specs.Pairing.{paired, unpaired}
use Rattle.counts.proofs.Counted.{count-range}
use Rattle.rows.specs.Sheet.{order, graph_of}
use Rattle.causes.specs.Given.{mate_of}
use Rattle.causes.proofs.Causes.{at_least}
use Rattle.causes.proofs.unpaired_routes.Goals as goal

pub returns : goal.returns
unfolding unpaired
returns c =
    let s = c.args.s.now in
    let test : ℕ → Bool = λ v. not (paired (graph_of s) (mate_of c.args.pairing.now) v) in
    count-range _ _ _
    (count_from_yields_List c.filter.result _ c.count.ensures.ran
    (YieldsList-from_filter _ test (YieldsList-from_range 0 c.order-n.result (order s) c.filter.ensures.source (omega (arith, c.order-n.ensures))) c.filter.ensures.closure (λ x r q k. search (rules, tests, at_least))))
