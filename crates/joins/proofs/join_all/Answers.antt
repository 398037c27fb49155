-- `join_all` meets its contract. The invariant: the first k pairs of the path are made, and n is the count then. Assumes nothing.
use mathlib.Core.Path.{sym}
use Rattle.paths.proofs.Ids.{pair-read}
use Rattle.joins.proofs.Paths.{after_none}
use Rattle.joins.proofs.Steps.{all-ready, all-next, all_end}
use Rattle.joins.proofs.join_all.Goals as goal

pub loop-k-init : goal.loop-k-init
loop-k-init c = (sym (after_none _ _), c.requires.1)

pub join-n-requires : goal.join-n-requires
join-n-requires c =
    let l = c.loop-k in
    let p = c.requires in
    let ids = pair-read c.args.path.now l.k c.loop-k-test.true in
    all-ready _ _ _ l.k _ _ c.loop-k-test.true l.invariant.0 ids.0 ids.1 _ p.0 p.2 l.invariant.1

pub loop-k-preserved : goal.loop-k-preserved
loop-k-preserved c =
    let l = c.loop-k in
    let ids = pair-read c.args.path.now l.k c.loop-k-test.true in
    all-next _ _ _ l.k _ _ c.loop-k-test.true l.invariant.0 ids.0 ids.1 _ _ c.join-n.ensures.partners c.join-n.ensures.counted

pub returns : goal.returns
returns c =
    let l = c.loop-k in
    let e = all_end _ _ _ l.k _ l.auto.k-end c.loop-k-test.false l.invariant.0 l.invariant.1 in
    record { partners = e.0; counted = e.1 }
