-- `climb` meets its contract. The invariant: so many searches have been made, and each found a pair. Assumes nothing.
use mathlib.Core.Path.{refl, sym}
use Rattle.theory.proofs.Search.Steps.{improved-none}
use Rattle.climb.proofs.Climbing.{climb-again, climb-stuck, climb-last}
use Rattle.climb.proofs.climb.Goals as goal

pub loop-init : goal.loop-init
loop-init c = sym (improved-none _ _ _)

pub returns-then-not-searched : goal.returns-then-not-searched
returns-then-not-searched c =
    let l = c.loop in
    climb-stuck _ _ _ l.counter _ _ _ _ _ l.invariant c.searched.ensures _ l.auto.counter-end (rw c.if-not-searched.true refl)

pub loop-preserved : goal.loop-preserved
loop-preserved c =
    let l = c.loop in
    climb-again _ _ _ l.counter _ _ _ _ _ l.invariant c.searched.ensures

pub returns : goal.returns
returns c =
    let l = c.loop in
    climb-last _ _ _ l.counter _ _ _ _ _ l.invariant c.searched-2.ensures _ l.auto.counter-end c.loop-test.false
