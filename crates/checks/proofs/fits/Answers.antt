-- `fits` meets its contract: each way out is a case of the definition. Assumes nothing.
use mathlib.Core.Path.{refl}
use borrow.Author.Tests.{lt-ltb, le-ltb, eq-eqb, ne_eqb}
use Rattle.mates.specs.Partners.{fits}
use Rattle.checks.proofs.fits.Goals as goal
use native.Mathlib.Omega.{arith}
use Rattle.std.proofs.Common.{inl, inr}
use Rattle.checks.proofs.fits.Goals.{then-m-lt-IDS, else-m-lt-IDS}

pub returns-then-m : goal.returns-then-m
unfolding fits
returns-then-m c = rw (← c.partner_of-m.ensures, c.if-m.true) refl

pub returns-then-m-id : goal.returns-then-m-id
unfolding fits
returns-then-m-id c = rw (← c.partner_of-m.ensures, ← c.partner_of.ensures, ne_eqb _ _ c.if-m.false, lt-ltb _ _ c.if-m-id.true.0, ne_eqb _ _ c.if-m-id.true.1) refl

pub returns-else-m-id : goal.returns-else-m-id
unfolding fits
returns-else-m-id c = elim c.if-m-lt-IDS.branch [
  | then-m-lt-IDS w ↦ elim c.if-m-id.either [
    | inl h ↦ rw (w.t-6-is, ← c.partner_of-m.ensures, ne_eqb _ _ c.if-m.false, lt-ltb _ _ h.0, eq-eqb _ _ h.1) refl
    | inr h ↦ absurd (omega (arith, w.if-m-lt-IDS.true))
  ]
  | else-m-lt-IDS w ↦ rw (w.t-6-is, ← c.partner_of-m.ensures, ne_eqb _ _ c.if-m.false, le-ltb _ _ w.if-m-lt-IDS.false) refl
]
