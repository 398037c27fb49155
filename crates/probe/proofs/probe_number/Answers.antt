-- `probe::probe_number` meets its contract: what `check` and `tell` ensure, one after the other. Assumes nothing.
use mathlib.Core.Path.{ap, ◌∙◌}
use Rattle.limits.specs.declared.Told.{Told}
use Rattle.limits.proofs.Replies.{told-is}
use Rattle.replies.specs.Reply.{refused_as, told_of}
use Rattle.probe.proofs.probe_number.Goals as goal

pub returns : goal.returns
returns c =
    ap (λ (t : Told). t.no) (told-is refused_as _ _ c.tell.ensures ∙ ap told_of c.check.ensures)
