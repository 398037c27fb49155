-- `stride` meets its contract: the walks have met, or the deeper one goes a step. Assumes nothing.
use mathlib.Core.Path.{◌≡◌, refl}
use Rattle.limits.specs.Limits.{routes}
use Rattle.theory.specs.Search.Tables.{Tables}
use Rattle.theory.specs.Search.Rings.{stride}
use Rattle.tables.specs.declared.Desk.{Desk}
use Rattle.tables.specs.Shapes.{tables_of}
use Rattle.walks.specs.Ways.{way_of}
use Rattle.walks.proofs.Laws.{whatever, with_trees}
use Rattle.linked.proofs.Laws.{rested, strode-right, strode-left}
use Rattle.linked.proofs.stride.Goals as goal

pub returns-then-g-h : goal.returns-then-g-h
returns-then-g-h c =
    let a = c.args in
    λ (d : Desk) (e : d.trees ≡ a.t.now).
    whatever (λ (s : Tables). stride routes s (way_of a.z a.r.now)) _ d a.t.now e
    (rested (tables_of (with_trees d a.t.now)) (way_of a.z a.r.now) _ _ 0 0 c.at-g.ensures c.at-h.ensures c.if-g-h.true)

pub returns-then-i-j : goal.returns-then-i-j
returns-then-i-j c =
    let a = c.args in
    λ (d : Desk) (e : d.trees ≡ a.t.now).
    whatever (λ (s : Tables). stride routes s (way_of a.z a.r.now)) _ d a.t.now e
    (strode-right (tables_of (with_trees d a.t.now)) (way_of a.z a.r.now) _ _ _ _ c.at-g.ensures c.at-h.ensures c.if-g-h.false
    c.at-i.ensures c.at-j.ensures
    _ c.if-i-j.true (c.right.ensures (with_trees d a.t.now) refl))

pub returns : goal.returns
returns c =
    let a = c.args in
    λ (d : Desk) (e : d.trees ≡ a.t.now).
    whatever (λ (s : Tables). stride routes s (way_of a.z a.r.now)) _ d a.t.now e
    (strode-left (tables_of (with_trees d a.t.now)) (way_of a.z a.r.now) _ _ _ _ c.at-g.ensures c.at-h.ensures c.if-g-h.false
    c.at-i.ensures c.at-j.ensures
    _ c.if-i-j.false (c.left.ensures (with_trees d a.t.now) refl))
