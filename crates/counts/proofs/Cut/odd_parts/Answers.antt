-- `odd_parts` meets its contract: the names that pass are counted. Assumes nothing.
use native.Mathlib.Omega.{arith}
use lib.ListN.{length}
use Rattle.std.proofs.Common.{rules, tests}
use Rattle.std.proofs.lemmas.Iterator.{YieldsList-from_range}
use Rattle.std.proofs.lemmas.Iterator.Consumers.{YieldsList-from_filter, count_from_yields_List}
use Rattle.graphs.specs.Graph.{in_set}
use Rattle.graphs.specs.Surplus.{odd_root}
use Rattle.counts.proofs.Counted.{count-range}
use Rattle.counts.proofs.Cut.odd_parts.Goals as goal

pub returns : goal.returns
returns c =
    let a = c.args.self.now in
    let n = length a.names.now in
    count-range _ _ _
    (count_from_yields_List c.filter.result _ c.count.ensures.ran
    (YieldsList-from_filter _ (odd_root n a.names.now (in_set a.set.now)) (YieldsList-from_range 0 n n c.filter.ensures.source (omega arith)) c.filter.ensures.closure (λ x r q k. search (rules, tests))))
