-- `reply_to_places` meets its contract. The invariant: the numbers of the row from a place on are left, and no entry before it is refused. Assumes nothing.
use mathlib.Core.Path.{ap}
use mathlib.Core.Logic.{inl}
use native.Mathlib.Omega.{arith}
use Rattle.std.specs.Prelude.{is_err}
use Rattle.std.proofs.lemmas.Result.{err_from_is_err_and}
use Rattle.replies.proofs.Firsts.{first-none}
use Rattle.words.proofs.Bytes.{numbers-length, taken, all-taken}
use Rattle.entries.proofs.Quick.{places-at, places-past, places-end}
use Rattle.entries.proofs.reply_to_places.Goals as goal

pub loop-i-init : goal.loop-i-init
loop-i-init c =
    let e = c.into_iter-i-iterator.ensures.into_iter_gives in
    let i = c.enumerate-i-items.ensures in
    (rw (e, i.source, i.count, c.numbers_of.ensures), rw (e, i.count) (omega arith), rw (e, i.count) (first-none _))

pub returns-in_err-reply_to_entry : goal.returns-in_err-reply_to_entry
returns-in_err-reply_to_entry c =
    let l = c.loop-i in
    let s = c.in-Some.ensures.steps in
    let t = taken _ _ _ _ c.in-Some.i c.in-Some.w l.invariant.0 s.1 s.0 in
    let p = err_from_is_err_and c.from_residual.result c.from_residual.ensures.1 in
    let was = c.in_err-reply_to_entry.was in
    rw (p.1, p.2, ← was)
    (places-at _ _ _ _ _ c.in-Some.i (rw s.1 l.invariant.2) _ _ t.1 c.reply_to_entry.ensures (ap is_err was) t.0)

pub loop-i-preserved : goal.loop-i-preserved
loop-i-preserved c =
    let l = c.loop-i in
    let s = c.in-Some.ensures.steps in
    let t = taken _ _ _ _ c.in-Some.i c.in-Some.w l.invariant.0 s.1 s.0 in (
      rw (s.2, ← s.1) t.2,
      omega (arith, s.1, s.2, t.0),
      rw (s.2, ← s.1) (places-past _ _ _ _ _ c.in-Some.i (rw s.1 l.invariant.2) _ _ t.1 c.reply_to_entry.ensures (ap is_err c.in_ok-reply_to_entry.was)),
    )

pub returns : goal.returns
returns c =
    let l = c.loop-i in
    let s = c.in-None.ensures.steps in
    places-end _ _ _ _ _ l.i-iterator.count l.invariant.2 l.invariant.1 (all-taken _ _ _ l.invariant.0 s.0.0)

pub loop-i-init-derived : goal.loop-i-init-derived
loop-i-init-derived c =
    let e = c.into_iter-i-iterator.ensures.into_iter_gives in
    let i = c.enumerate-i-items.ensures in
    let n = numbers-length c.args.row.now in
    ((tt, tt, inl (rw (e, i.source, i.count, c.numbers_of.ensures) (omega (arith, n)))), tt)
