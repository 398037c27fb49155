use mathlib.Core.Path.{◌≡◌}
use lib.ListN.{drop}
use Rattle.lent.specs.State.{put_words}
use Rattle.lent.proofs.state.put_words.Given as goal

abbrev pub invariant-loop-k : goal.invariant-loop-k
invariant-loop-k l = put_words l.s l.k (drop l.k l.t) ≡ put_words l.initial.s 0 l.t
