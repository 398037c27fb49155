-- `join` meets its contract: the count falls by what was freed and rises by two. Assumes nothing.
use mathlib.Core.Path.{refl}
use native.Mathlib.Omega.{arith}
use Rattle.mates.specs.Partners.{paired}
use Rattle.joins.proofs.Steps.{fewer-first, fewer-second, two-joined, joined-fits}
use Rattle.joins.proofs.join.Goals as goal

pub overflow_sub-result : goal.overflow_sub-result
overflow_sub-result c =
    let p = c.requires in
    fewer-first _ _ _ _ _ _ _ p.0 p.1 p.2 p.3 p.4 c.free-from_a.ensures.partners c.free-from_a.ensures.count c.free-from_b.ensures.count

pub overflow_sub-result-2 : goal.overflow_sub-result-2
overflow_sub-result-2 c =
    let p = c.requires in
    fewer-second _ _ _ _ _ _ _ p.0 p.1 p.2 p.3 p.4 c.free-from_a.ensures.partners c.free-from_a.ensures.count c.free-from_b.ensures.count

pub overflow_add-result : goal.overflow_add-result
overflow_add-result c =
    let p = c.requires in
    let h = joined-fits _ _ _ _ _ _ _ p.0 p.1 p.2 p.3 p.4 c.free-from_a.ensures.partners c.free-from_a.ensures.count c.free-from_b.ensures.count in
    omega arith

pub returns : goal.returns
unfolding paired
returns c =
    let p = c.requires in
    record {
      partners = rw (c.free-from_b.ensures.partners, c.free-from_a.ensures.partners) refl;
      counted = two-joined _ _ _ _ _ _ _ p.0 p.1 p.2 p.3 p.4 c.free-from_a.ensures.partners c.free-from_a.ensures.count c.free-from_b.ensures.count;
    }
