use Prim.Native.Nat.{◌≤◌, ◌/◌}
use mathlib.Core.Path.{◌≡◌}
use lib.ListN.{length, get_or, drop}
use Rattle.limits.specs.Limits.{none}
use Rattle.words.specs.Words.{numbers}
use Rattle.replies.specs.Reply.{first_of}
use Rattle.one_entry.specs.OneEntry.{quick_entry}
use Rattle.limits.specs.Answer.{accepted}
use Rattle.entries.proofs.reply_to_places.Given as goal

abbrev pub invariant-loop-i : goal.invariant-loop-i
invariant-loop-i l =
    (numbers l.i-iterator.iter.rest.now ≡ drop l.i-iterator.count (numbers l.row))
    × (l.i-iterator.count ≤ length l.row / 4)
    × (first_of l.i-iterator.count (λ k. quick_entry l.marks l.last l.n l.v (get_or (numbers l.row) k none) k) ≡ accepted)
