-- A pairing as bytes: the partners of all ids and then the kept count, four bytes each, lowest byte first.
use Rattle.std.specs.Prelude.{ℕ, List, map}
use Rattle.limits.specs.Limits.{routes}
use Rattle.graphs.specs.Parts.{run}
use Rattle.words.specs.Words.{word, put_word, over}
use Rattle.pairing.specs.declared.Pairing.{Pairing}

-- the pairing that bytes hold; a number that is not all there is none
unfoldable pub pairing_of : List ℕ → Pairing
pairing_of s = record { partner = map (word s) (run 0 routes); count = word s routes }

-- the bytes with numbers put in the place of their first ones
abbrev pub put_words : List ℕ → ℕ → List ℕ → List ℕ
put_words s k xs = over (λ i x t. put_word t i x) s k xs

-- the bytes with a pairing put in the place of the one that they hold; where the bytes of a number are not all there, they stay
unfoldable pub put_pairing : List ℕ → Pairing → List ℕ
put_pairing s p = put_word (put_words s 0 p.partner) routes p.count
