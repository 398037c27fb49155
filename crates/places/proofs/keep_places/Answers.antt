-- `keep_places` meets its contract. The invariant: keeping what is left of the row leads to the end. Assumes nothing.
use mathlib.Core.Logic.{inl}
use native.Mathlib.Omega.{arith}
use Rattle.places.specs.Places.{last_places}
use Rattle.words.proofs.Bytes.{numbers-length, over-next, over-none}
use Rattle.places.proofs.keep_places.Goals as goal

pub loop-i-init-derived : goal.loop-i-init-derived
loop-i-init-derived c =
    let e = c.into_iter-i-iterator.ensures.into_iter_gives in
    let i = c.enumerate-i-items.ensures in
    let n = numbers-length c.args.row.now in
    ((tt, tt, inl (rw (e, i.source, i.count, c.numbers_of.ensures) (omega (arith, n)))), tt)

pub loop-i-init : goal.loop-i-init
loop-i-init c =
    let i = c.enumerate-i-items.ensures in
    rw (c.into_iter-i-iterator.ensures.into_iter_gives, i.source, i.count, c.numbers_of.ensures)

pub loop-i-preserved : goal.loop-i-preserved
loop-i-preserved c =
    let s = c.in-Some.ensures.steps in
    over-next _ _ _ _ _ _ _ _ _ s.0 s.2 c.loop-i.invariant (rw (← s.1) c.keep.ensures)

pub returns : goal.returns
unfolding last_places
returns c = over-none _ _ _ _ _ c.in-None.ensures.steps.0.0 c.loop-i.invariant
