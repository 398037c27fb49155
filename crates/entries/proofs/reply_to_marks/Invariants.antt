use mathlib.Core.Path.{◌≡◌}
use Rattle.rows.specs.Sheet.{order, graph_of}
use Rattle.replies.specs.Reply.{first_of}
use Rattle.places.specs.Places.{last_places, unkept}
use Rattle.entries.specs.Quick.{quick_row}
use Rattle.limits.specs.Answer.{accepted}
use Rattle.entries.proofs.reply_to_marks.Given as goal

abbrev pub invariant-loop-v : goal.invariant-loop-v
invariant-loop-v l =
    first_of l.v (λ w. quick_row l.marks (last_places unkept ((graph_of l.s).row w)) (order l.s) w ((graph_of l.s).row w)) ≡ accepted
