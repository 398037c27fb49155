-- `shift` meets its contract. The invariant: the routes below k are told. Assumes nothing.
use mathlib.Core.Path.{sym}
use Rattle.theory.proofs.Search.Steps.{shift_none}
use Rattle.blossom.proofs.Laws.{shifts-on, shifts-out}
use Rattle.blossom.proofs.shift.Goals as goal

pub loop-k-init : goal.loop-k-init
loop-k-init c = sym (shift_none _ _ _ _)

pub loop-k-preserved : goal.loop-k-preserved
loop-k-preserved c =
    let l = c.loop-k in
    shifts-on _ _ l.k _ _ _ l.invariant c.regroup.ensures

pub returns : goal.returns
returns c =
    let l = c.loop-k in
    shifts-out _ _ l.k _ _ _ l.auto.k-end l.invariant c.loop-k-test.false
