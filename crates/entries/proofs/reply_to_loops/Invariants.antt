use mathlib.Core.Path.{◌≡◌}
use mathlib.Core.Bool.{cond}
use Rattle.replies.specs.Reply.{first_of}
use Rattle.marks.specs.Marks.{marked}
use Rattle.std.specs.Prelude.{Err}
use Rattle.limits.specs.Answer.{accepted}
use Rattle.replies.specs.declared.Refusal.TheVariants.{Loop}
use Rattle.entries.proofs.reply_to_loops.Given as goal

abbrev pub invariant-loop-v : goal.invariant-loop-v
invariant-loop-v l = (first_of l.v (λ w. cond (marked l.marks w w) (Err (Loop w)) accepted) ≡ accepted)
