-- `drive_pairing` meets its contract: what was laid down stands in the numbers that are lent. Assumes nothing.
use mathlib.Core.Path.{◌≡◌, sym, ◌∙◌}
use Rattle.std.proofs.Common.{rules}
use Rattle.std.proofs.lemmas.List.Edits.{sets}
use Rattle.lent.specs.State.{pairing_of}
use Rattle.lent.specs.Operations.{operations}
use Rattle.drive.specs.Drive.{said}
use Rattle.drive.proofs.Steps.{answers-end}
use Rattle.drive.proofs.drive_pairing.Goals as goal

pub returns-clause-answers : goal.returns-clause-answers
returns-clause-answers c =
    let e = c.perform_all-count.ensures in
    let n = c.new-answers.ensures in
    let same = sym (e.answers.same ∙ n.lent) in
    let p = c.read_pairing-pairing.ensures in
    let says = said (pairing_of c.args.state.now) (operations c.args.ops.now) in
    let all : c.perform_all-count.new.answers.numbers.now ≡ sets c.args.answers.now 0 says =
    answers-end _ _ _ _ says (rw (p, n.nothing) at e.answers.all) in
    search rules
