-- The numbers of the checker's answer, and that the number is 0 exactly where nothing is refused. Assumes nothing.
use Prim.Native.Nat.{ℕ, suc}
use mathlib.Core.Path.{◌≡◌, refl, sym, ap, ◌∙◌}
use mathlib.Core.List.{List, [], ◌∷◌}
use native.Mathlib.Omega.{arith}
use lib.ListN.{length}
use Rattle.std.specs.Prelude.{Ok, Err}
use Rattle.limits.specs.Answer.{accepted}
use Rattle.limits.specs.declared.Told.{Told}
use Rattle.longs.specs.Longs.{put_long, longs_of}
use Rattle.longs.proofs.Longs.{put_three}
use Rattle.replies.specs.declared.Refusal as replies
use Rattle.replies.specs.declared.Refusal.TheVariants as reply
use Rattle.verdicts.specs.Verdict.{Verdict, told_of, refused_as}
use Rattle.verdicts.specs.declared.Refusal.{Refusal}
use Rattle.verdicts.specs.declared.Refusal.TheVariants.{Sheet, PairingLength, WitnessLength, PartsLength, Partner, Mark, NotShown}
use Rattle.witness.specs.Verdict.{improve_verdict, check_of}
use Rattle.witness.specs.Promise.{Checked}
use Rattle.checking.specs.Calls.{CheckCall}

-- ---- the number is 0 only where nothing is refused

never : {C : Type 0} (k : ℕ) → suc k ≡ 0 → C
never k h = absurd (omega arith)

-- no refusal has the number 0
sheet-numbered : {C : Type 0} (r : replies.Refusal) → (refused_as (Sheet r)).no ≡ 0 → C
sheet-numbered reply.Short h = never 0 h
sheet-numbered (reply.TooMany n) h = never 1 h
sheet-numbered reply.Contents h = never 2 h
sheet-numbered (reply.UnknownId w) h = never 3 h
sheet-numbered (reply.DuplicateEdge v w) h = never 4 h
sheet-numbered (reply.MissingEdge w v) h = never 5 h
sheet-numbered (reply.Loop v) h = never 6 h

numbered : {C : Type 0} (r : Refusal) → (refused_as r).no ≡ 0 → C
numbered (Sheet r) h = sheet-numbered r h
numbered PairingLength h = never 7 h
numbered WitnessLength h = never 8 h
numbered PartsLength h = never 8 h
numbered (Partner v x) h = never 9 h
numbered (Mark i b) h = never 10 h
numbered (NotShown u) h = never 11 h

-- a verdict whose number is 0 is acceptance
abbrev pub Sharp : Verdict → Type 0
Sharp v = (told_of v).no ≡ 0 → v ≡ accepted

pub sharp : (v : Verdict) → Sharp v
sharp (Ok tt) h = refl
sharp (Err r) h = numbered r h

pub sharp-improve : (s pairing witness : List ℕ) → Sharp (improve_verdict s pairing witness)
sharp-improve s pairing witness = sharp (improve_verdict s pairing witness)

-- ---- the call

module _ (s pairing witness before : List ℕ) where
  pub check-unanswered : (length before ≡ 24 → ⊥) → CheckCall s pairing witness before before 9
  check-unanswered h = record {
    wrong-length = λ _. record { nine = refl; unwritten = refl };
    answered = λ e. absurd (h e);
    exactly = λ e. absurd (h e);
    maximum = λ e. absurd (h e);
  }

  pub check-answered : length before ≡ 24 → (v : Verdict) (t : Told) (after : List ℕ) → Checked s pairing witness v → t ≡ told_of v
      → after ≡ put_long (put_long (put_long before 0 t.no) 1 t.a) 2 t.b → CheckCall s pairing witness before after t.no
  check-answered e v t after k p q =
      let same : t ≡ told_of (check_of s pairing witness) = p ∙ ap told_of k.is in
      let zero : t.no ≡ 0 → v ≡ accepted = λ z. k.is ∙ sharp (check_of s pairing witness) (sym (ap (λ (u : Told). u.no) same) ∙ z) in
      record {
        wrong-length = λ h. absurd (h e);
        answered = λ _. record { number = ap (λ (u : Told). u.no) same; written = q ∙ put_three before t.no t.a t.b e ∙ ap (λ (u : Told). longs_of (u.no ∷ u.a ∷ u.b ∷ [])) same };
        exactly = λ _. (λ z. k.exactly.0 (zero z), λ h. ap (λ (u : Told). u.no) (p ∙ ap told_of (k.exactly.1 h)));
        maximum = λ _ z. k.maximum (zero z);
      }
