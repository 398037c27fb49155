-- `pairing_refusal` meets its contract: each way out is a case of the definition. The invariant: the partner of every lower id fits. Assumes nothing.
use mathlib.Core.Path.{◌≡◌, refl}
use borrow.Author.Tests.{lt-ltb, eq-eqb, ne_eqb}
use Rattle.limits.specs.Limits.{routes}
use Rattle.graphs.proofs.Count.{least-none, least-past, least_at, least-end}
use Rattle.checks.specs.Checks.{pairing_reply, misfit}
use Rattle.checks.proofs.pairing_refusal.Goals as goal

pub loop-id-init : goal.loop-id-init
loop-id-init c = least-none _

pub loop-id-preserved : goal.loop-id-preserved
loop-id-preserved c = least-past _ c.loop-id.id c.loop-id.invariant (rw (← c.fits.ensures, c.if-not-fits.false) refl)

pub returns-then-not-fits : goal.returns-then-not-fits
unfolding pairing_reply misfit
returns-then-not-fits c =
    let l = c.loop-id in
    let e : misfit c.args.t.now ≡ l.id = least_at _ l.id _ c.loop-id-test.true l.invariant (rw (← c.fits.ensures, c.if-not-fits.true) refl) in
    rw (e, lt-ltb l.id routes c.loop-id-test.true, ← c.partner_of.ensures) refl

pub returns-then-count-paired_ids : goal.returns-then-count-paired_ids
unfolding pairing_reply misfit
returns-then-count-paired_ids c =
    let l = c.loop-id in
    let e : misfit c.args.t.now ≡ routes = least-end _ l.id _ l.auto.id-end c.loop-id-test.false l.invariant in
    rw (e, ← c.paired_ids.ensures, ne_eqb _ _ c.if-count-paired_ids.true) refl

pub returns : goal.returns
unfolding pairing_reply misfit
returns c =
    let l = c.loop-id in
    let e : misfit c.args.t.now ≡ routes = least-end _ l.id _ l.auto.id-end c.loop-id-test.false l.invariant in
    rw (e, ← c.paired_ids.ensures, eq-eqb _ _ c.if-count-paired_ids.false) refl
