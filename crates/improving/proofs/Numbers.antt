-- The numbers of the answer to a call for more pairs. Assumes nothing.
use Prim.Native.Nat.{ℕ}
use mathlib.Core.Path.{◌≡◌, refl, sym, ap, ◌∙◌}
use mathlib.Core.Bool.{Bool, true, false}
use mathlib.Core.List.{List, [], ◌∷◌}
use lib.ListN.{length}
use mir.Val.{bool_byte}
use Rattle.std.specs.Prelude.{Result, Ok, Err, is_ok, is_err, MatchResult}
use Rattle.std.specs.Result.{result_unwrap_or}
use Rattle.graphs.specs.Count.{bit}
use Rattle.graphs.proofs.Count.{clash}
use Rattle.limits.specs.declared.Told.{Told}
use Rattle.limits.specs.Answer.{accepted}
use Rattle.longs.specs.Longs.{put_long, longs_of}
use Rattle.longs.proofs.Longs.{put-seven}
use Rattle.verdicts.specs.Verdict.{Verdict, told_of}
use Rattle.verdicts.specs.declared.Refusal.{Refusal}
use Rattle.witness.specs.Verdict.{improve_verdict}
use Rattle.improve.specs.Choice.{added_of, size_after, finished_of, sessions_after}
use Rattle.improve.specs.declared.Improved.{Improved}
use Rattle.improve.specs.Promise.{Improve}
use Rattle.checking.proofs.Numbers.{sharp}
use Rattle.improving.specs.ImproveCall.{ImproveCall}

-- a number that is not 0 is a refusal's
not-zero : (v : Verdict) → ((told_of v).no ≡ 0 → ⊥) → is_err v ≡ true
not-zero (Ok tt) h = absurd (h refl)
not-zero (Err e) h = refl

-- what was made of a call, or zeros where it is refused, is what `Improve` says of its verdict
module _ (s p p' w w' : List ℕ) (b : ℕ) where
  pub verdict-of : (r : Result Improved Refusal) (v : Verdict) (P : Improved → Type 0) → MatchResult r P (λ e. v ≡ Err e) → is_ok v ≡ is_ok r
      → MatchResult r (λ i. Improve s p p' w w' b accepted i.added i.size (bit i.finished) i.sessions) (λ e. Improve s p p' w w' b (Err e) 0 0 0 0)
      → (i : Improved) → i ≡ result_unwrap_or r (record { added = 0; size = 0; finished = false; sessions = 0 }) → Improve s p p' w w' b v i.added i.size (bit i.finished) i.sessions
  verdict-of (Ok x) (Ok tt) P h k I i e = rw e I
  verdict-of (Ok x) (Err y) P h k I i e = clash false k refl
  verdict-of (Err y) v P h k I i e = rw (h, e) I

pub as-bit : (b : Bool) → bool_byte b ≡ bit b
as-bit true = refl
as-bit false = refl

module _ (s p w : List ℕ) (b : ℕ) (before : List ℕ) where
  pub improve-unanswered : (length before ≡ 56 → ⊥) → ImproveCall s p p w w b before before 9
  improve-unanswered h = record {
    wrong-length = λ _. record { nine = refl; unwritten = refl };
    unanswered = λ _. (refl, refl);
    answered = λ e. absurd (h e);
    left = λ e. absurd (h e);
    untouched = λ e. absurd (h e);
    means = λ e. absurd (h e);
  }

  pub improve-answered : length before ≡ 56 → (p' w' : List ℕ) (v : Verdict) (added size finished count : ℕ) (t : Told) (mid after : List ℕ) → Improve s p p' w w' b v added size finished count
      → t ≡ told_of v → mid ≡ put_long (put_long (put_long before 0 t.no) 1 t.a) 2 t.b → after ≡ put_long (put_long (put_long (put_long mid 3 added) 4 size) 5 finished) 6 count
      → ImproveCall s p p' w w' b before after t.no
  improve-answered e p' w' v added size finished count t mid after k et q f =
      let same : t ≡ told_of (improve_verdict s p w) = et ∙ ap told_of k.is in
      let c = k.chosen in
      record {
        wrong-length = λ h. absurd (h e);
        unanswered = λ h. absurd (h e);
        answered = λ _. record {
          number = ap (λ (u : Told). u.no) same;
          written = f ∙ rw (q, c.added_is, c.size_is, c.finished-is, c.sessions-is)
              (put-seven before t.no t.a t.b (added_of s p w b) (size_after s p w b) (finished_of s p w b) (sessions_after s p w b) e)
              ∙ ap (λ (u : Told). longs_of (u.no ∷ u.a ∷ u.b ∷ added_of s p w b ∷ size_after s p w b ∷ finished_of s p w b ∷ sessions_after s p w b ∷ [])) same;
        };
        left = λ _. (c.pairing-is, c.witness-is);
        untouched = λ _ h. k.refused (not-zero v (λ z. h (ap (λ (u : Told). u.no) et ∙ z)));
        means = λ _ z. rw (← c.added_is, ← c.size_is, ← c.finished-is, ← c.sessions-is)
            (k.means (sharp v (sym (ap (λ (u : Told). u.no) et) ∙ z)));
      }
