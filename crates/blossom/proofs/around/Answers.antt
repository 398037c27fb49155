-- `around` meets its contract. The invariant: going round what is left of the ring leads to the end. Assumes nothing.
use Prim.Native.Nat.{◌-◌}
use native.Mathlib.Omega.{arith}
use Rattle.tables.specs.Shapes.{line_of}
use Rattle.blossom.proofs.Laws.{around-on, around-out}
use Rattle.blossom.proofs.around.Goals as goal

pub loop-preserved : goal.loop-preserved
loop-preserved c =
    let l = c.loop in
    around-on _ (c.args.j - l.counter) l.g (line_of l.line) _ _ _ _ (omega (arith, c.loop-test.true)) l.invariant c.admit.ensures c.at-g.ensures (omega arith)

pub returns : goal.returns
returns c =
    let l = c.loop in
    around-out _ (c.args.j - l.counter) l.g (line_of l.line) _ (omega (arith, c.loop-test.false)) l.invariant
