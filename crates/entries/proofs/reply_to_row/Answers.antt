-- `reply_to_row` meets its contract: the table that the callee fills is handed on. Assumes nothing.
use Rattle.places.specs.Places.{unkept}
use Rattle.entries.proofs.reply_to_row.Goals as goal

pub returns : goal.returns
unfolding unkept
returns c = rw (← c.keep_places.ensures) c.reply_to_places.ensures
