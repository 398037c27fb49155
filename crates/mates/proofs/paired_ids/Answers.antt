-- `paired_ids` meets its contract. The invariant: n is how many ids below i have a partner. Assumes nothing.
use mathlib.Core.Path.{◌≡◌, sym, ap, ◌∙◌}
use native.Mathlib.Omega.{arith}
use Rattle.limits.specs.Limits.{routes}
use Rattle.graphs.specs.Count.{bit}
use Rattle.mates.specs.Partners.{count_of}
use Rattle.graphs.proofs.Count.{count-zero}
use Rattle.mates.proofs.Steps.{counted_next, counted-fits}
use Rattle.mates.proofs.paired_ids.Goals as goal

pub loop-i-init : goal.loop-i-init
loop-i-init c = sym (count-zero _)

pub overflow_add-n : goal.overflow_add-n
overflow_add-n c =
    let l = c.loop-i in
    let h = counted-fits _ l.i _ _ l.invariant (c.from-n.ensures ∙ ap bit c.is_paired.ensures) in
    omega arith

pub loop-i-preserved : goal.loop-i-preserved
loop-i-preserved c =
    let l = c.loop-i in
    counted_next _ l.i _ _ l.invariant (c.from-n.ensures ∙ ap bit c.is_paired.ensures)

pub returns : goal.returns
unfolding count_of
returns c =
    let l = c.loop-i in
    let e : l.i ≡ routes = omega arith in
    rw e at l.invariant
