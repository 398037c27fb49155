-- What improve leaves: two calls in a row leave what one call with the sum of their budgets leaves. Assumes nothing.
use Prim.Native.Nat.{ℕ, ◌+◌, ◌-◌, ◌≤◌}
use mathlib.Core.Path.{◌≡◌, refl, sym, ap, ◌∙◌, subst}
use mathlib.Core.Bool.{true, false}
use mathlib.Core.List.{List}
use native.Mathlib.Omega.{arith}
use lib.ListN.{length, get_or}
use Rattle.std.specs.Prelude.{is_err}
use Rattle.limits.specs.Limits.{routes, none}
use Rattle.limits.proofs.Replies.{not-refused}
use Rattle.theory.specs.Search.Searched.{Outcome, found, stuck, searched_in, improved_in}
use Rattle.graphs.proofs.Count.{cases}
use Rattle.theory.proofs.Search.Improved.{improved-add, stuck-stays}
use Rattle.words.specs.Words.{bytes_to}
use Rattle.rows.specs.Sheet.{order, graph_of}
use Rattle.sheet.proofs.Read.{order-most}
use Rattle.witness.specs.Verdict.{improve_verdict}
use Rattle.witness.specs.Promise.{PairingBytes, Begins}
use Rattle.witness.proofs.Checker.{begins, begins-accepted}
use Rattle.buffers.specs.Held.{partners_of, size_of}
use Rattle.improve.specs.Choice.{improved, last, finished_by, witness_by, pairing_after, witness_after, added_of, size_after, finished_of, sessions_after}
use Rattle.improve.proofs.Meaning.{table-bytes, left-tidy, left-length, witness-length, means, grows}
use Rattle.improve.proofs.Calls.{left, left_is, witness-is, pairing-kept, witness-kept}

sums : (x y z : ℕ) → x ≤ y → y ≤ z → (y - x) + (z - y) ≡ z - x
sums x y z h k = omega arith

module _ (s p w : List ℕ) (a b : ℕ) where
  -- the bytes between the calls
  abbrev p₁ : List ℕ
  p₁ = pairing_after s p w a

  abbrev w₁ : List ℕ
  w₁ = witness_after s p w a

  -- refused at first
  module _ (h : is_err (improve_verdict s p w) ≡ true) where
    verdict-refused : improve_verdict s p₁ w₁ ≡ improve_verdict s p w
    verdict-refused = rw (pairing-kept s p w a h, witness-kept s p w a h) refl

  -- accepted at first
  module _ (h : is_err (improve_verdict s p w) ≡ false) where
    abbrev B : Begins s p w
    B = begins s p w (not-refused _ h)

    first-left : p₁ ≡ left s p w a
    first-left = left_is s p w a h

    first-witness : w₁ ≡ witness_by (last s p a) w
    first-witness = witness-is s p w a h

    witness-long : (o : Outcome) → last s p a ≡ o → length (witness_by o w) ≡ order s
    witness-long (found q) e = B.long
    witness-long (stuck x) e = witness-length s p w B a x e

    again : Begins s p₁ w₁
    again = record {
      accepted = B.accepted;
      partners = subst (λ (l : List ℕ). PairingBytes s l) (sym first-left) (means s p w B a).valid;
      long = ap length first-witness ∙ witness-long (last s p a) refl;
    }

    verdict-again : improve_verdict s p₁ w₁ ≡ improve_verdict s p w
    verdict-again = begins-accepted s p₁ w₁ again ∙ sym (begins-accepted s p w B)

    -- the table of the bytes left is the table that was left
    table-again : partners_of p₁ ≡ improved s p a
    table-again = ap partners_of first-left ∙ table-bytes (graph_of s) (improved s p a) (order-most s B.accepted) (left-length s p w B a) (left-tidy s p w B a)

    improved-twice : improved s p₁ b ≡ improved s p (a + b)
    unfolding improved
    improved-twice = ap (λ (t : List ℕ). improved_in routes (graph_of s) t b) table-again ∙ improved-add routes (graph_of s) (partners_of p) a b

    last-twice : last s p₁ b ≡ last s p (a + b)
    unfolding last
    last-twice = ap (searched_in routes (graph_of s)) improved-twice

    -- a first call that is finished finishes the sum
    stays : (x : List ℕ) → last s p a ≡ stuck x → last s p (a + b) ≡ stuck x
    unfolding last improved
    stays x e = ap (searched_in routes (graph_of s)) (sym (improved-add routes (graph_of s) (partners_of p) a b) ∙ stuck-stays routes (graph_of s) (improved_in routes (graph_of s) (partners_of p) a) x e b) ∙ e

    witness-by : (o o₁ : Outcome) → last s p (a + b) ≡ o → last s p a ≡ o₁ → witness_by o (witness_by o₁ w) ≡ witness_by o w
    witness-by (stuck x) o₁ e e₁ = refl
    witness-by (found q) (found q₁) e e₁ = refl
    witness-by (found q) (stuck x) e e₁ = let k : stuck x ≡ found q = sym (stays x e₁) ∙ e in let z : ◌≡◌ {A = ℕ} 0 1 = cc in absurd (omega arith)

  -- ---- refused or not

  pub verdict-twice : improve_verdict s p₁ w₁ ≡ improve_verdict s p w
  verdict-twice = cases (is_err (improve_verdict s p w)) verdict-refused verdict-again

  refused-twice : is_err (improve_verdict s p w) ≡ true → is_err (improve_verdict s p₁ w₁) ≡ true
  refused-twice h = ap is_err verdict-twice ∙ h

  accepted-twice : is_err (improve_verdict s p w) ≡ false → is_err (improve_verdict s p₁ w₁) ≡ false
  accepted-twice h = ap is_err verdict-twice ∙ h

  pub pairing-twice : pairing_after s p₁ w₁ b ≡ pairing_after s p w (a + b)
  pairing-twice = cases (is_err (improve_verdict s p w))
      (λ h. pairing-kept s p₁ w₁ b (refused-twice h) ∙ pairing-kept s p w a h ∙ sym (pairing-kept s p w (a + b) h))
      (λ h. left_is s p₁ w₁ b (accepted-twice h) ∙ ap (λ (q : List ℕ). bytes_to (λ v. get_or q v none) (order s)) (improved-twice h) ∙ sym (left_is s p w (a + b) h))

  pub witness-twice : witness_after s p₁ w₁ b ≡ witness_after s p w (a + b)
  witness-twice = cases (is_err (improve_verdict s p w))
      (λ h. witness-kept s p₁ w₁ b (refused-twice h) ∙ witness-kept s p w a h ∙ sym (witness-kept s p w (a + b) h))
      (λ h. witness-is s p₁ w₁ b (accepted-twice h) ∙ ap (witness_by (last s p₁ b)) (first-witness h) ∙ ap (λ (o : Outcome). witness_by o (witness_by (last s p a) w)) (last-twice h)
      ∙ witness-by h (last s p (a + b)) (last s p a) refl refl ∙ sym (witness-is s p w (a + b) h))

  pub finished-twice : finished_of s p₁ w₁ b ≡ finished_of s p w (a + b)
  unfolding finished_of
  finished-twice = cases (is_err (improve_verdict s p w))
      (λ h. rw (verdict-twice, h) refl)
      (λ h. rw (verdict-twice, h) (ap finished_by (last-twice h)))

  pub size-twice : size_after s p₁ w₁ b ≡ size_after s p w (a + b)
  unfolding size_after
  size-twice = rw (verdict-twice, pairing-twice) refl

  pub sessions-twice : sessions_after s p₁ w₁ b ≡ sessions_after s p w (a + b)
  unfolding sessions_after
  sessions-twice = rw (verdict-twice, pairing-twice) refl

  -- what the two have added is what the one adds
  pub added_twice : added_of s p w a + added_of s p₁ w₁ b ≡ added_of s p w (a + b)
  unfolding added_of
  added_twice = cases (is_err (improve_verdict s p w))
      (λ h. rw (verdict-twice, h) refl)
      (λ h. rw (verdict-twice, h, pairing-twice)
      (sums (size_of s p) (size_of s p₁) (size_of s (pairing_after s p w (a + b)))
      (subst (λ (l : List ℕ). size_of s p ≤ size_of s l) (sym (first-left h)) (grows s p w (B h) a))
      (subst (λ (l : List ℕ). size_of s p₁ ≤ size_of s l) (sym (left_is s p₁ w₁ b (accepted-twice h)) ∙ pairing-twice) (grows s p₁ w₁ (again h) b))))
