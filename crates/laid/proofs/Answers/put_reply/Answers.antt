-- `put_reply` meets its contract: four numbers, one after the other. Assumes nothing.
use Rattle.laid.proofs.Stretches.{lays-append}
use Rattle.laid.proofs.Answers.put_reply.Goals as goal

pub returns : goal.returns
returns c = rw (← c.from.ensures) (lays-append c.put.ensures (lays-append c.put-2.ensures (lays-append c.put-3.ensures c.put-4.ensures)))
