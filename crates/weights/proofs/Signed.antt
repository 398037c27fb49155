-- A difference of two counts that are at most the limit, at 64 bits. Assumes nothing.
use Prim.Native.Nat.{ℕ, zero, suc, ◌+◌, ◌≤◌}
use mathlib.Core.Path.{◌≡◌, refl, ap, ◌∙◌}
use native.Mathlib.Omega.{arith}
use lib.Dec.{ltb}
use lib.IntN.{pos, ◌-ℤ◌, sub_ℕ}
use lib.Signed.{mag}
use mir.Syntax.{w64}
use mir.Val.{SFits, to_z, of_z}
use mir.Facts.{to_z_pos, to_z-of_z}
use borrow.Author.Tests.{le-ltb, ltb-true, ltb-false}
use Rattle.limits.specs.Limits.{routes}
use Rattle.graphs.proofs.Count.{cases}

sub_is : (a b : ℕ) → pos a -ℤ pos b ≡ sub_ℕ a b
sub_is a zero = rw (le-ltb a 0 (omega arith)) (ap pos (omega arith))
sub_is a (suc b) = refl

mag-sub : (a b : ℕ) → mag (sub_ℕ a b) ≤ a + b
mag-sub a b = cases (ltb a b) (λ t. rw t (omega (arith, ltb-true a b t))) (λ t. rw t (omega (arith, ltb-false a b t)))

module _ (a b : ℕ) (p : a ≤ routes) (q : b ≤ routes) where
  read : to_z w64 a -ℤ to_z w64 b ≡ sub_ℕ a b
  read = rw (to_z_pos w64 {n = a} (omega arith), to_z_pos w64 {n = b} (omega arith)) (sub_is a b)

  pub small-fits : SFits w64 (sub_ℕ a b)
  small-fits = record { sfits = omega (arith, mag-sub a b) }

  pub surplus-fits : SFits w64 (to_z w64 a -ℤ to_z w64 b)
  surplus-fits = rw read small-fits

  pub surplus-read : to_z w64 (of_z w64 (to_z w64 a -ℤ to_z w64 b)) ≡ sub_ℕ a b
  surplus-read = to_z-of_z surplus-fits ∙ read
