-- Both walks of a ring, over plain variables: what the calls of a function have done is what the definition says. Assumes nothing.
use Prim.Native.Nat.{ℕ, ◌+◌, ◌≤◌, ◌<◌}
use mathlib.Core.Path.{◌≡◌, sym, refl, ◌∙◌}
use native.Mathlib.Omega.{arith}
use borrow.Author.Tests.{ne_eqb, lt-ltb, le-ltb}
use Rattle.limits.specs.Limits.{routes}
use Rattle.theory.specs.Search.Tables.{groups, cell, Tables, turns}
use Rattle.theory.specs.Search.Rings.{Way, bridge, left, right, stride, linked}
use Rattle.theory.proofs.Search.Steps.{turns-none, turns-again, turns-left, stride-met}

-- the size of a table of groups
abbrev G : ℕ
G = groups routes

-- ---- a step of the deeper walk

module _ (s : Tables) (z : Way) (g h i j : ℕ) (eg : g ≡ cell routes s.top z.x) (eh : h ≡ cell routes s.top z.y) where
  pub rested : g ≡ h → z ≡ stride routes s z
  rested e = sym (stride-met routes s z (sym eg ∙ e ∙ eh))

  module _ (no-meet : g ≡ h → ⊥) (ei : i ≡ cell G s.rank g) (ej : j ≡ cell G s.rank h) (z' : Way) where
    pub strode-right : i < j → z' ≡ right routes s z → z' ≡ stride routes s z
    unfolding stride
    strode-right l e = e ∙ rw (← eg, ← eh, ← ei, ← ej, ne_eqb g h no-meet, lt-ltb i j l) refl

    pub strode-left : j ≤ i → z' ≡ left routes s z → z' ≡ stride routes s z
    unfolding stride
    strode-left l e = e ∙ rw (← eg, ← eh, ← ei, ← ej, ne_eqb g h no-meet, le-ltb i j l) refl

-- ---- until they have met

pub walks-none : (s : Tables) (a : Way) → a ≡ turns 0 (stride routes s) a
walks-none s a = sym (turns-none (stride routes s) a)

pub walks-on : (s : Tables) (a st st' : Way) (t : ℕ) → st ≡ turns t (stride routes s) a → st' ≡ stride routes s st → st' ≡ turns (t + 1) (stride routes s) a
walks-on s a st st' t e p = p ∙ turns-again (stride routes s) a t st e

module _ (s : Tables) (v w : ℕ) (a : Way) (ea : a ≡ bridge routes s v w) (t : ℕ) (st : Way) (le : t ≤ G) (inv : st ≡ turns t (stride routes s) a) where
  pub walks-out : G ≤ t → st ≡ linked routes s v w
  unfolding linked
  walks-out h = let e : t ≡ G = omega arith in (rw e at inv) ∙ rw ea refl

  pub walks-met : cell routes s.top st.x ≡ cell routes s.top st.y → st ≡ linked routes s v w
  unfolding linked
  walks-met h = turns-left (stride routes s) a t G st le inv (stride-met routes s st h) ∙ rw ea refl
