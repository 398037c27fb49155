-- The first bytes of the word are put.
use mathlib.Core.Path.{◌≡◌}
use lib.ListN.{take}
use Rattle.text.specs.Put.{followed_by}
use Rattle.text.proofs.Text.put_word.Given as goal

abbrev pub invariant-loop-b : goal.invariant-loop-b
invariant-loop-b l = l.self ≡ followed_by l.initial.self (take l.b-index l.word)
