-- `contract` meets its contract: the walks, and then the group. Assumes nothing.
use mathlib.Core.Path.{refl}
use Rattle.tables.specs.Shapes.{tables_of}
use Rattle.contract.proofs.Laws.{contracted}
use Rattle.contract.proofs.contract.Goals as goal

pub returns : goal.returns
returns c =
    let d = c.args.desk.now in
    contracted (tables_of d) _ _ _ _ (c.linked-z.ensures d refl refl) (c.absorb.ensures d.rings)
