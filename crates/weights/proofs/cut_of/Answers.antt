-- `cut_of` meets its contract: the table holds the parts, and is as long as there are routes. Assumes nothing.
use mathlib.Core.Path.{sym, ◌∙◌}
use native.Mathlib.Omega.{arith}
use Rattle.sheet.proofs.Read.{order-most}
use Rattle.weights.proofs.Weights.{parts-long}
use Rattle.weights.proofs.cut_of.Goals as goal

pub invariant_of-result : goal.invariant_of-result
invariant_of-result c =
    let s = c.args.s.now in
    let e = parts-long s c.args.witness.now c.requires.accepted _ c.part_names.ensures in
    record { marks = c.requires.marks ∙ sym e; few = omega (arith, e, order-most s c.requires.accepted) }
