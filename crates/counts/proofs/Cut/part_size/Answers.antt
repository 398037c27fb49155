-- `part_size` meets its contract. The invariant: k is how many before v are of the part. Assumes nothing.
use mathlib.Core.Path.{◌≡◌, sym}
use native.Mathlib.Omega.{arith}
use Prim.Native.Nat.{◌+◌}
use Rattle.graphs.specs.Count.{bit}
use Rattle.graphs.specs.Graph.{in_set}
use Rattle.graphs.specs.Surplus.{in_part}
use Rattle.graphs.proofs.Count.{count-zero, count-le}
use Rattle.counts.proofs.Counted.{counted, all-counted}
use Rattle.counts.proofs.Cut.part_size.Goals as goal

pub loop-v-init : goal.loop-v-init
loop-v-init c = sym (count-zero _)

pub overflow_add-k : goal.overflow_add-k
overflow_add-k c =
    let a = c.args.self.now in
    let v = c.loop-v.v in
    let e : c.from-k.result ≡ bit c.in_part.result = c.from-k.ensures in
    let next = counted (in_part a.names.now (in_set a.set.now) c.args.r) v _ (c.loop-v.k + c.from-k.result) _ c.loop-v.invariant c.in_part.ensures (omega (arith, e)) in
    omega (arith, next, count-le (v + 1) (in_part a.names.now (in_set a.set.now) c.args.r), a.few, c.loop-v-test.true)

pub loop-v-preserved : goal.loop-v-preserved
loop-v-preserved c =
    let e : c.from-k.result ≡ bit c.in_part.result = c.from-k.ensures in
    counted _ _ _ _ _ c.loop-v.invariant c.in_part.ensures (omega (arith, e))

pub returns : goal.returns
returns c = all-counted _ _ _ _ c.loop-v.auto.v-end c.loop-v-test.false c.loop-v.invariant
