-- `left` meets its contract: each call is a part of the definition. Assumes nothing.
use mathlib.Core.Path.{◌≡◌}
use Rattle.tables.specs.declared.Desk.{Desk}
use Rattle.walks.proofs.Laws.{went-left}
use Rattle.walks.proofs.left.Goals as goal

pub returns : goal.returns
returns c =
    let a = c.args in
    λ (d : Desk) (et : d.trees ≡ a.t.now).
    went-left d a.t.now et a.r.now a.z _ _ _ _ _ _ _ _ _ _
    c.at-g.ensures
    c.at-b.ensures
    c.at-i.ensures
    c.at-p.ensures
    c.at-q.ensures
    c.put_two.ensures c.put_two-2.ensures
    c.put_two-3.ensures c.put_two-4.ensures c.one_more.ensures
