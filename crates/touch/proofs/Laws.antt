-- An edge between two outer groups, over any tables: each way out of the code is a case of the definition. Assumes nothing.
use Prim.Native.Nat.{ℕ}
use mathlib.Core.Path.{◌≡◌, refl, ◌∙◌}
use borrow.Author.Tests.{eq-eqb, ne_eqb}
use Rattle.limits.specs.Limits.{routes}
use Rattle.theory.specs.Search.Tables.{groups, cell, Tables}
use Rattle.theory.specs.Search.Rings.{contract}
use Rattle.theory.specs.Search.Look.{strike, touch}

module _ (s : Tables) (v w g h p q : ℕ) (eg : g ≡ cell routes s.top v) (eh : h ≡ cell routes s.top w) (ep : p ≡ cell (groups routes) s.root g) (eq : q ≡ cell (groups routes) s.root h) where
  pub touched : p ≡ q → (st : Tables) → st ≡ contract routes s v w → st ≡ touch routes s v w
  unfolding touch
  touched h st e = e ∙ rw (← eg, ← eh, ← ep, ← eq, eq-eqb p q h) refl

  pub hit-there : (p ≡ q → ⊥) → strike s v w ≡ touch routes s v w
  unfolding touch
  hit-there h = rw (← eg, ← eh, ← ep, ← eq, ne_eqb p q h) refl
