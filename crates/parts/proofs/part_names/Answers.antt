-- `part_names` meets its contract: each route a part of its own, then row by row. Assumes nothing.
use mathlib.Core.Path.{ap, ◌∙◌}
use native.Mathlib.Omega.{arith}
use lib.ListN.{length}
use Rattle.rows.specs.Sheet.{order}
use Rattle.graphs.specs.Parts.{run}
use Rattle.graphs.proofs.Parts.{run_length}
use Rattle.sheet.proofs.Read.{order-most}
use Rattle.parts.proofs.part_names.Goals as goal

pub name_each-requires : goal.name_each-requires
name_each-requires c = omega (arith, c.requires.cells, order-most c.args.s.now c.requires.accepted)

pub join_rows-requires : goal.join_rows-requires
join_rows-requires c =
    let e = c.name_each.ensures ∙ ap (run 0) c.requires.cells in
    (record { accepted = c.requires.accepted; cells = ap length e ∙ run_length 0 (order c.args.s.now); marks = c.requires.marks }, e)
