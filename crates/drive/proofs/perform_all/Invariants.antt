use mathlib.Core.Path.{◌≡◌}
use lib.ListN.{length}
use Rattle.lent.specs.Operations.{operations}
use Rattle.laid.specs.Lays.{laid_in}
use Rattle.drive.proofs.Steps.{Leads}
use Rattle.drive.proofs.perform_all.Given as goal

abbrev pub invariant-loop-operation : goal.invariant-loop-operation
invariant-loop-operation l = record {
  counted : l.count ≡ length l.yielded;
  same : l.answers.numbers.ghost_name ≡ l.initial.answers.numbers.ghost_name;
  leads : Leads (operations l.ops) l.initial.pairing (laid_in l.initial.answers) l.pairing (laid_in l.answers) l.count;
}
