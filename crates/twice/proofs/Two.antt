-- What two exported calls leave is what one with the sum leaves. Assumes nothing.
use Prim.Native.Nat.{ℕ}
use mathlib.Core.Path.{◌≡◌, ◌∙◌}
use mathlib.Core.List.{List}
use lib.ListN.{length}
use Rattle.improve.specs.Choice.{pairing_after, witness_after, added_of}
use Rattle.twice.proofs.Twice.{verdict-twice, pairing-twice, witness-twice, finished-twice, size-twice, sessions-twice, added_twice}
use Rattle.improving.specs.ImproveCall.{ImproveCall}
use Rattle.twice.specs.Two.{TwoCalls}

module _ (s p p₁ p₂ w w₁ w₂ : List ℕ) (a b : ℕ) (x x' y y' : List ℕ) (r₁ r₂ : ℕ) where
  pub two-calls : length x ≡ 56 → length y ≡ 56 → ImproveCall s p p₁ w w₁ a x x' r₁ → ImproveCall s p₁ p₂ w₁ w₂ b y y' r₂ → TwoCalls s p p₂ w w₂ a b x' y' r₂
  two-calls ex ey f g =
      let n = f.left ex in
      let k = g.left ey in
      let h : ImproveCall s (pairing_after s p w a) p₂ (witness_after s p w a) w₂ b y y' r₂ = rw (n.0, n.1) at g in
      let i = h.left ey in
      record {
        left = (i.0 ∙ pairing-twice s p w a b, i.1 ∙ witness-twice s p w a b);
        more = added_of s (pairing_after s p w a) (witness_after s p w a) b;
        sum = added_twice s p w a b;
        answered-first = (r₁, f.answered ex);
        answered-second = rw (← verdict-twice s p w a b, ← size-twice s p w a b, ← finished-twice s p w a b, ← sessions-twice s p w a b) (h.answered ey);
      }
