-- `grow` meets its contract: each call is a part of the definition. Assumes nothing.
use Rattle.forest.proofs.Laws.{grown}
use Rattle.forest.proofs.grow.Goals as goal

pub returns : goal.returns
returns c =
    grown c.args.desk.now _ _ _ _ _ _ _ _ _ _ _ _ _
    c.at-u.ensures
    c.at-g.ensures
    c.at-r.ensures
    c.at.ensures
    c.one_more-j.ensures
    c.one_more-k.ensures
    c.put.ensures
    c.put_two.ensures c.put_two-2.ensures
    c.put-2.ensures c.enter.ensures
