-- `divide_of` meets its contract: the table holds the parts, whose names are written. Assumes nothing.
use mathlib.Core.Path.{sym, ◌∙◌}
use native.Mathlib.Omega.{arith}
use lib.Seq.{length-take-le}
use Rattle.sheet.proofs.Read.{order-most}
use Rattle.weights.proofs.Weights.{parts-long, weighs, names-by}
use Rattle.weights.proofs.divide_of.Goals as goal

pub slice_bounds-table-end : goal.slice_bounds-table-end
slice_bounds-table-end c = omega (arith, c.order-n.ensures, order-most c.args.s.now c.requires.0)

pub slice_bounds-cut_of-end : goal.slice_bounds-cut_of-end
slice_bounds-cut_of-end c = sym (length-take-le _ _ (omega (arith, c.order-n.ensures, order-most c.args.s.now c.requires.0)))

pub cut_of-cut-requires : goal.cut_of-cut-requires
cut_of-cut-requires c =
    record {
      accepted = c.requires.0;
      cells = length-take-le _ _ (omega (arith, c.order-n.ensures, order-most c.args.s.now c.requires.0)) ∙ c.order-n.ensures;
      marks = c.requires.1;
    }

pub write_names-requires : goal.write_names-requires
write_names-requires c =
    let e = parts-long c.args.s.now c.args.witness.now c.requires.0 _ c.cut_of-cut.ensures.1 in
    omega (arith, e, c.requires.2)

pub returns : goal.returns
returns c =
    let s = c.args.s.now in
    let witness = c.args.witness.now in
    let e = c.cut_of-cut.ensures in (
      weighs s witness c.requires.0 _ _ _ _ c.requires.1 e.0 e.1 c.weigh.ensures.0 c.weigh.ensures.1,
      names-by s witness c.requires.0 _ _ _ e.0 e.1 c.write_names.ensures,
    )
