-- `join_rows` meets its contract. The invariant: the rows below v are joined. Assumes nothing.
use mathlib.Core.Path.{sym, ap, ◌∙◌}
use lib.ListN.{length}
use Prim.Native.Nat.{◌<◌}
use native.Mathlib.Omega.{arith}
use Rattle.rows.specs.Sheet.{order}
use Rattle.parts.proofs.Joined.{rows-begin, rows-again, rows_end, link_row-length, entry-below}
use Rattle.std.proofs.Common.{rules}
use Rattle.parts.proofs.join_rows.Goals as goal

pub loop-v-init : goal.loop-v-init
loop-v-init c = (c.order-v-end.ensures, c.requires.0.cells, rows-begin _ _ _ c.requires.1)

pub join_row-requires : goal.join_row-requires
join_row-requires c =
    let l = c.loop-v in
    let v : l.v < order c.args.s.now = omega (arith, l.invariant.0, c.loop-v-test.true) in
    record {
      cell = omega (arith, l.invariant.1);
      marks = c.requires.0.marks ∙ sym l.invariant.1;
      entries = λ i h. rw l.invariant.1 (entry-below c.args.s.now _ l.v i c.requires.0.accepted v c.row.ensures h);
    }

pub loop-v-preserved : goal.loop-v-preserved
loop-v-preserved c =
    let e = c.join_row.ensures in
    (c.loop-v.invariant.0, ap length e ∙ link_row-length _ _ _ _ ∙ c.loop-v.invariant.1, rows-again _ _ c.loop-v.v _ _ _ c.loop-v.invariant.2 c.row.ensures e)

pub returns : goal.returns
returns c =
    let l = c.loop-v in
    rows_end _ _ l.v _ _ l.invariant.0 (search rules) c.loop-v-test.false l.invariant.2
