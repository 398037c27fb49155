-- `couples` and `expose` meet their contracts together, since each calls the other. Assumes nothing.
use Rattle.expose.proofs.Laws.{couples-on, couples-out, exposed-none, exposed-there, exposed-out, lift-on}
use Rattle.expose.proofs.+couples_expose.Goals as goal

pub couples-loop-preserved : goal.couples-loop-preserved
couples-loop-preserved t c =
    let l = c.loop in
    couples-on _ _ _ l.counter l.g l.m _ l.invariant c.loop-test.true _ _ _ _ _ _ _
    c.at-d.ensures c.at-x.ensures c.at-y.ensures c.pair_up.ensures
    c.expose.ensures c.expose-in-loop.ensures c.at-g.ensures

pub couples-returns : goal.couples-returns
couples-returns t c =
    let l = c.loop in
    couples-out _ _ _ l.counter l.g l.m _ l.invariant c.loop-test.false

pub expose-returns-then-f-eq0 : goal.expose-returns-then-f-eq0
expose-returns-then-f-eq0 t c = exposed-none _ _ _ _ _ _ c.if-f-eq0.true

pub expose-returns-then-c-g : goal.expose-returns-then-c-g
expose-returns-then-c-g t c =
    let l = c.loop in
    exposed-there _ _ _ _ _ _ c.if-f-eq0.false l.counter l.c l.m l.invariant c.if-c-g.true

pub expose-loop-preserved : goal.expose-loop-preserved
expose-loop-preserved t c =
    let l = c.loop in
    lift-on _ _ _ _ l.counter l.c _ l.m _ l.invariant c.loop-test.true c.if-c-g.false _ _ _ _
    c.at-b.ensures c.at-n.ensures c.at-d.ensures c.couples.ensures

pub expose-returns : goal.expose-returns
expose-returns t c =
    let l = c.loop in
    exposed-out _ _ _ _ _ _ c.if-f-eq0.false l.counter l.c l.m l.invariant c.loop-test.false
