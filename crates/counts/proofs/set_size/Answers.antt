-- `set_size` meets its contract: the marks that are 1 are counted. Assumes nothing.
use mathlib.Core.Path.{◌≡◌, ◌∙◌}
use lib.Dec.{eqb}
use Rattle.std.specs.List.{count_by}
use Rattle.std.proofs.Common.{rules}
use Rattle.counts.proofs.Counted.{count-list}
use Rattle.counts.proofs.set_size.Goals as goal

pub returns : goal.returns
returns c =
    let e : c.count.result ≡ count_by (λ x. eqb x 1) c.args.set.now = search rules in
    e ∙ count-list _ _
