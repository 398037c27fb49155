-- The routes of the set below v are put.
use mathlib.Core.Path.{◌≡◌}
use Rattle.text.specs.Put.{followed_by}
use Rattle.lines.specs.Lines.{each, member}
use Rattle.lines.proofs.put_members.Given as goal

abbrev pub invariant-loop-v : goal.invariant-loop-v
invariant-loop-v l = l.text ≡ followed_by l.initial.text (each (member l.witness) l.v)
