-- `read_pairing` meets its contract. Assumes nothing.
use mathlib.Core.Path.{refl}
use Rattle.lent.specs.State.{pairing_of}
use Rattle.lent.proofs.state.read_pairing.Goals as goal

pub returns : goal.returns
unfolding pairing_of
returns c = rw (c.partners.ensures, c.word_at.ensures) refl
