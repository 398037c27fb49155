-- An entry of a row, over any tables: each way out of the code is a case of the definition. Assumes nothing.
use Prim.Native.Nat.{ℕ}
use mathlib.Core.Path.{◌≡◌, refl, ◌∙◌}
use mathlib.Core.Bool.{Bool, true, false}
use lib.Dec.{eqb}
use borrow.Author.Tests.{eq-eqb, ne_eqb}
use Rattle.limits.specs.Limits.{routes}
use Rattle.theory.specs.Search.Tables.{cell, unreached, inner, Tables}
use Rattle.theory.specs.Search.Grow.{grow}
use Rattle.theory.specs.Search.Look.{touch, look}

module _ (s : Tables) (v w : ℕ) where
  pub look-found : true ≡ s.hit → s ≡ look routes s v w
  unfolding look
  look-found h = rw (← h) refl

module _ (s : Tables) (v w : ℕ) (quiet : false ≡ s.hit) (m : Bool) (em : m ≡ eqb (cell routes s.top w) (cell routes s.top v)) where
  pub look-same : m ≡ true → s ≡ look routes s v w
  unfolding look
  look-same h = rw (← quiet, ← em, h) refl

  module _ (h : m ≡ false) (l : ℕ) (el : l ≡ cell routes s.line.label w) where
    pub look-inner : l ≡ inner → s ≡ look routes s v w
    unfolding look
    look-inner e = rw (← quiet, ← em, h, ← el, eq-eqb l inner e) refl

    module _ (ne : l ≡ inner → ⊥) where
      pub look-grown : l ≡ unreached → (st : Tables) → st ≡ grow routes s v w → st ≡ look routes s v w
      unfolding look
      look-grown e st p = p ∙ rw (← quiet, ← em, h, ← el, ne_eqb l inner ne, eq-eqb l unreached e) refl

      pub look-touched : (l ≡ unreached → ⊥) → (st : Tables) → st ≡ touch routes s v w → st ≡ look routes s v w
      unfolding look
      look-touched e st p = p ∙ rw (← quiet, ← em, h, ← el, ne_eqb l inner ne, ne_eqb l unreached e) refl
