use lib.ListN.{take}
use Rattle.asked.specs.Replies.{pairs_of}
use Rattle.laid.specs.Lays.{Lays}
use Rattle.laid.proofs.Answers.put_edges.Given as goal

abbrev pub invariant-loop-edge : goal.invariant-loop-edge
invariant-loop-edge l = Lays l.initial.self l.self (pairs_of (take l.edge-index l.edges))
