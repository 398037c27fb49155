-- What operations hand on and say, one after the other.
use Rattle.std.specs.Prelude.{ℕ, List, [], ◌∷◌, ◌++◌}
use Rattle.pairing.specs.declared.Pairing.{Pairing}
use Rattle.lent.specs.Operations.{Operation}
use Rattle.asked.specs.Replies.{reply_to, behind, numbers_of}

-- the pairing that an operation hands on
abbrev pub next_of : Pairing → Operation → Pairing
next_of p o = (reply_to p o.code o.ids).pairing

-- what an operation says: the numbers of its reply, and the pairs behind them
abbrev pub said_of : Pairing → Operation → List ℕ
said_of p o = numbers_of (reply_to p o.code o.ids) ++ behind p o.code

-- the pairing that operations hand on, each to the next
unfoldable pub performed : Pairing → List Operation → Pairing
performed p [] = p
performed p (o ∷ os) = performed (next_of p o) os

-- all that operations say, in order
unfoldable pub said : Pairing → List Operation → List ℕ
said p [] = []
said p (o ∷ os) = said_of p o ++ said (next_of p o) os
