-- The walks and then the group, over any tables: together they are what the definition says. Assumes nothing.
use Prim.Native.Nat.{ℕ}
use mathlib.Core.Path.{◌≡◌, ap, ◌∙◌}
use Rattle.limits.specs.Limits.{routes}
use Rattle.theory.specs.Search.Tables.{Tables}
use Rattle.theory.specs.Search.Rings.{Way, linked, absorb, contract}

pub contracted : (s : Tables) (v w : ℕ) (z : Way) (st : Tables) → z ≡ linked routes s v w → st ≡ absorb routes s v z → st ≡ contract routes s v w
unfolding contract
contracted s v w z st a b = b ∙ ap (absorb routes s v) a
