-- `put_pair` meets its contract. Assumes nothing.
use Rattle.lines.proofs.Said.{pair_put, pair-none}
use Rattle.lines.proofs.put_pair.Goals as goal

pub returns-then-v-w : goal.returns-then-v-w
returns-then-v-w c = pair_put _ _ _ _ _ _ _ _ _ c.if-w-n.true c.if-v-w.true c.from.ensures c.from-then-v-w.ensures c.put_number.ensures c.put_spaced.ensures c.put.ensures

pub returns-else-w-n : goal.returns-else-w-n
returns-else-w-n c = pair-none _ _ _ _ c.else-w-n.either
