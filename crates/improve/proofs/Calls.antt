-- A call, refused or not, over plain variables. Assumes nothing.
use Prim.Native.Nat.{ℕ, ◌-◌, ◌≤◌}
use mathlib.Core.Path.{◌≡◌, refl, sym, ap}
use mathlib.Core.Bool.{true, false, ◌&&◌}
use mathlib.Core.List.{List}
use native.Mathlib.Omega.{arith}
use lib.Dec.{ltb}
use lib.ListN.{get_or}
use Rattle.std.specs.Prelude.{Err, is_err}
use Rattle.limits.specs.Limits.{none}
use Rattle.limits.specs.Answer.{accepted}
use Rattle.graphs.specs.Pairing.{paired, pairs, sessions}
use Rattle.graphs.proofs.Count.{clash, count-le}
use Rattle.words.specs.Words.{bytes_to}
use Rattle.rows.specs.Sheet.{order, graph_of}
use Rattle.causes.specs.Given.{mate_of}
use Rattle.witness.specs.Verdict.{improve_verdict}
use Rattle.witness.specs.Promise.{Begins}
use Rattle.verdicts.specs.declared.Refusal.{Refusal}
use Rattle.witness.proofs.Checker.{begins}
use Rattle.buffers.specs.Held.{size_of, sessions_of}
use Rattle.improve.specs.Choice.{improved, last, finished_by, witness_by, pairing_after, witness_after, added_of, size_after, finished_of, sessions_after}
use Rattle.improve.specs.Promise.{Chosen, Improve}
use Rattle.improve.proofs.Meaning.{means, grows}

-- a pairing has no more pairs than there are routes
pub size-most : (s p : List ℕ) (n size : ℕ) → n ≡ order s → size ≡ size_of s p → size ≤ n
unfolding size_of pairs
size-most s p n size en es = rw (en, es) (count-le (order s) (λ v. paired (graph_of s) (mate_of p) v && ltb v (mate_of p v)))

module _ (s p w : List ℕ) (b : ℕ) where
  -- what is left where no check refuses
  abbrev pub left : List ℕ
  left = bytes_to (λ v. get_or (improved s p b) v none) (order s)

  pub left_is : is_err (improve_verdict s p w) ≡ false → pairing_after s p w b ≡ left
  unfolding pairing_after
  left_is h = rw h refl

  pub witness-is : is_err (improve_verdict s p w) ≡ false → witness_after s p w b ≡ witness_by (last s p b) w
  unfolding witness_after
  witness-is h = rw h refl

  -- what is left where one refuses
  pub pairing-kept : is_err (improve_verdict s p w) ≡ true → pairing_after s p w b ≡ p
  unfolding pairing_after
  pairing-kept h = rw h refl

  pub witness-kept : is_err (improve_verdict s p w) ≡ true → witness_after s p w b ≡ w
  unfolding witness_after
  witness-kept h = rw h refl

  chosen-refused : is_err (improve_verdict s p w) ≡ true → Chosen s p p w w b 0 0 0 0
  unfolding added_of size_after finished_of sessions_after
  chosen-refused h = record { pairing-is = sym (pairing-kept h); witness-is = sym (witness-kept h); added_is = rw h refl; size_is = rw h refl; finished-is = rw h refl; sessions-is = rw h refl }

  chosen-made : is_err (improve_verdict s p w) ≡ false
      → Chosen s p left w (witness_by (last s p b) w) b (size_of s left - size_of s p) (size_of s left) (finished_by (last s p b)) (sessions_of s left)
  unfolding added_of size_after finished_of sessions_after
  chosen-made h = record {
    pairing-is = sym (left_is h);
    witness-is = sym (witness-is h);
    added_is = rw (h, left_is h) refl;
    size_is = rw (h, left_is h) refl;
    finished-is = rw h refl;
    sessions-is = rw (h, left_is h) refl;
  }

  pub improve-refused : (e : Refusal) → Err e ≡ improve_verdict s p w → Improve s p p w w b (Err e) 0 0 0 0
  improve-refused e is = record {
    is = is;
    refused = λ _. (refl, refl);
    means = λ h. clash true refl (ap is_err h);
    chosen = chosen-refused (ap is_err (sym is));
  }

  module _ (is : accepted ≡ improve_verdict s p w) where
    pub begun : Begins s p w
    begun = begins s p w (sym is)

    pub size-grows : (before size : ℕ) (p' : List ℕ) → before ≡ size_of s p → p' ≡ left → size ≡ size_of s p' → before ≤ size
    size-grows before size p' eb ep es = omega (arith, eb, es, ap (size_of s) ep, grows s p w begun b)

    pub improve-made : (n before size finished : ℕ) (p' w' : List ℕ) → n ≡ order s → before ≡ size_of s p → p' ≡ left → w' ≡ witness_by (last s p b) w → size ≡ size_of s p'
        → finished ≡ finished_by (last s p b) → Improve s p p' w w' b accepted (size - before) size finished (n - size)
    unfolding sessions_of size_of sessions
    improve-made n before size finished p' w' en eb ep ew es ef =
        rw (es, en, eb, ef, ew, ep) (record {
          is = is;
          refused = λ k. clash false k refl;
          means = λ _. means s p w begun b;
          chosen = chosen-made (ap is_err (sym is));
        })
