-- `raise` meets its contract. The invariant: what is left to do leads to the end. Assumes nothing.
use Rattle.expose.proofs.Laws.{raised-root, raised-on, raised-out}
use Rattle.expose.proofs.raise.Goals as goal

pub returns-then-i-b : goal.returns-then-i-b
returns-then-i-b c =
    let l = c.loop in
    raised-root _ _ l.counter l.v l.m _ l.invariant c.loop-test.true _ _ _ _
    c.at-g.ensures c.at-b.ensures c.at-i.ensures c.expose.ensures c.if-i-b.true

pub loop-preserved : goal.loop-preserved
loop-preserved c =
    let l = c.loop in
    raised-on _ _ l.counter l.v l.m _ l.invariant c.loop-test.true _ _ _ _
    c.at-g.ensures c.at-b.ensures c.at-i.ensures c.expose.ensures c.if-i-b.false _ _
    c.at-q.ensures c.pair_up.ensures

pub returns : goal.returns
returns c = let l = c.loop in raised-out _ _ l.counter l.v l.m _ l.invariant c.loop-test.false
