-- `path_refusal` meets its contract: each way out is a case of the definition. The invariants: every id before the position is below the limit, and no pair
-- before pair k is one of an id with itself. Assumes nothing.
use Prim.Native.Nat.{◌/◌}
use mathlib.Core.Path.{◌≡◌, refl}
use native.Mathlib.Omega.{arith}
use lib.ListN.{length}
use borrow.Author.Tests.{lt-ltb, le-ltb, eq-eqb, ne_eqb, le-leb, lt-leb}
use Rattle.graphs.proofs.Count.{least-none, least-past, least_at, least-end}
use Rattle.paths.proofs.Ids.{id-read, pair-read}
use Rattle.paths.specs.Paths.{path_reply, unknown, self_pair}
use Rattle.paths.proofs.path_refusal.Goals as goal

pub returns-then-count-eq1 : goal.returns-then-count-eq1
unfolding path_reply
returns-then-count-eq1 c = rw (eq-eqb _ _ c.if-count-eq1.true) refl

pub loop-position-init : goal.loop-position-init
loop-position-init c = least-none _

pub loop-position-preserved : goal.loop-position-preserved
loop-position-preserved c =
    let l = c.loop-position in
    let d = id-read c.args.path.now l.position c.loop-position-test.true in
    least-past _ l.position l.invariant (rw (← d) (lt-leb _ _ c.if-id-ge-IDS.false))

pub returns-then-id-ge-IDS : goal.returns-then-id-ge-IDS
unfolding path_reply unknown
returns-then-id-ge-IDS c =
    let l = c.loop-position in
    let d = id-read c.args.path.now l.position c.loop-position-test.true in
    let e : unknown c.args.path.now ≡ l.position = least_at _ l.position _ c.loop-position-test.true l.invariant (rw (← d) (le-leb _ _ c.if-id-ge-IDS.true)) in
    rw (ne_eqb _ _ c.if-count-eq1.false, e, lt-ltb _ _ c.loop-position-test.true, d) refl

pub loop-k-init : goal.loop-k-init
loop-k-init c = least-none _

pub loop-k-preserved : goal.loop-k-preserved
loop-k-preserved c =
    let l = c.loop-k in
    let d = pair-read c.args.path.now l.k c.loop-k-test.true in
    least-past _ l.k l.invariant (rw (← d.0, ← d.1) (ne_eqb _ _ c.if-id-path.false))

pub returns-then-id-path : goal.returns-then-id-path
unfolding path_reply unknown self_pair
returns-then-id-path c =
    let p = c.loop-position in
    let l = c.loop-k in
    let d = pair-read c.args.path.now l.k c.loop-k-test.true in
    let u : unknown c.args.path.now ≡ length c.args.path.now = least-end _ p.position _ p.auto.position-end c.loop-position-test.false p.invariant in
    let s : self_pair c.args.path.now ≡ l.k = least_at _ l.k _ c.loop-k-test.true l.invariant (rw (← d.0, ← d.1) (eq-eqb _ _ c.if-id-path.true)) in
    rw (ne_eqb _ _ c.if-count-eq1.false, u, le-ltb (length c.args.path.now) (length c.args.path.now) (omega arith), s, lt-ltb _ _ c.loop-k-test.true, d.0) refl

pub returns : goal.returns
unfolding path_reply unknown self_pair
returns c =
    let p = c.loop-position in
    let l = c.loop-k in
    let u : unknown c.args.path.now ≡ length c.args.path.now = least-end _ p.position _ p.auto.position-end c.loop-position-test.false p.invariant in
    let s : self_pair c.args.path.now ≡ length c.args.path.now / 2 = least-end _ l.k _ l.auto.k-end c.loop-k-test.false l.invariant in
    rw (
      ne_eqb _ _ c.if-count-eq1.false,
      u,
      le-ltb (length c.args.path.now) (length c.args.path.now) (omega arith),
      s,
      le-ltb (length c.args.path.now / 2) (length c.args.path.now / 2) (omega arith),
    ) refl
