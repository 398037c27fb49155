-- `linked` meets its contract. The invariant: the walks are where the strides so far have brought them. Assumes nothing.
use mathlib.Core.Path.{◌≡◌, refl, sym, ◌∙◌}
use native.Mathlib.Omega.{arith}
use borrow.Author.Tests.{eqb-true}
use Rattle.limits.specs.Limits.{routes}
use Rattle.theory.specs.Search.Tables.{Tables}
use Rattle.theory.specs.Search.Rings.{linked}
use Rattle.tables.specs.declared.Desk.{Desk}
use Rattle.tables.specs.Shapes.{tables_of}
use Rattle.walks.specs.Ways.{way_of}
use Rattle.walks.proofs.Laws.{whatever-else, with_both}
use Rattle.linked.proofs.Laws.{walks-none, walks-on, walks-met, walks-out}
use Rattle.linked.proofs.linked.Goals as goal

pub loop-init : goal.loop-init
loop-init c = λ (d : Desk) (e : d.trees ≡ c.args.t.now). walks-none (tables_of d) _

pub returns-then-met : goal.returns-then-met
returns-then-met c =
    let a = c.args in
    let l = c.loop in
    λ (d : Desk) (et : d.trees ≡ a.t.now) (er : d.rings ≡ a.r.now).
    whatever-else (λ (s : Tables). linked routes s a.v a.w) _ d a.t.now a.r.now et er
    (walks-met (tables_of (with_both d a.t.now a.r.now)) a.v a.w _ (c.bridge-z.ensures (with_both d a.t.now a.r.now) refl refl) l.counter (way_of l.z l.r) (omega (arith, c.loop-test.true)) (l.invariant (with_both d a.t.now a.r.now) refl)
    (eqb-true _ _ (sym c.met.ensures ∙ c.if-met.true)))

pub loop-preserved : goal.loop-preserved
loop-preserved c = λ (d : Desk) (e : d.trees ≡ c.args.t.now). walks-on (tables_of d) _ _ _ c.loop.counter (c.loop.invariant d e) (c.stride-z.ensures d e)

pub returns : goal.returns
returns c =
    let a = c.args in
    let l = c.loop in
    λ (d : Desk) (et : d.trees ≡ a.t.now) (er : d.rings ≡ a.r.now).
    walks-out (tables_of d) a.v a.w _ (c.bridge-z.ensures d et er) l.counter (way_of l.z l.r) l.auto.counter-end (l.invariant d et) c.loop-test.false
