-- `bridge` meets its contract: each call is a part of the definition. Assumes nothing.
use mathlib.Core.Path.{◌≡◌}
use Rattle.tables.specs.declared.Desk.{Desk}
use Rattle.walks.proofs.Laws.{bridged}
use Rattle.walks.proofs.bridge.Goals as goal

pub returns : goal.returns
returns c =
    let a = c.args in
    λ (d : Desk) (et : d.trees ≡ a.t.now) (er : d.rings ≡ a.r.now).
    bridged d a.t.now a.r.now et er a.v a.w _ _ _ _ _
    c.at-g.ensures
    c.at-h.ensures c.put.ensures
    c.put-2.ensures c.put-3.ensures
