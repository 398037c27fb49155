-- `write_pairing` meets its contract: the partners, then the count. Assumes nothing.
use Rattle.lent.specs.State.{put_pairing}
use Rattle.lent.proofs.state.write_pairing.Goals as goal

pub returns : goal.returns
unfolding put_pairing
returns c = rw (← c.put_words.ensures) c.put_word.ensures
