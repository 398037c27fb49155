-- The numbers of the answers for surplus and parts. Assumes nothing.
use Prim.Native.Nat.{ℕ}
use mathlib.Core.Path.{◌≡◌, refl, ap, ◌∙◌}
use mathlib.Core.List.{List, [], ◌∷◌}
use lib.ListN.{length}
use Rattle.limits.specs.declared.Told.{Told}
use Rattle.longs.specs.Longs.{put_long, longs_of}
use Rattle.longs.proofs.Longs.{put_four, put_five}
use Rattle.verdicts.specs.Verdict.{told_of}
use Rattle.witness.specs.Verdict.{surplus_verdict, surplus_of, parts_verdict, odd_of, members_of, parts_bytes}
use Rattle.answers.specs.Twos.{twos}
use Rattle.measuring.specs.Measures.{SurplusCall, PartsCall}

module _ (s witness before : List ℕ) where
  pub surplus-unanswered : (length before ≡ 32 → ⊥) → SurplusCall s witness before before 9
  surplus-unanswered h = record { wrong-length = λ _. record { nine = refl; unwritten = refl }; answered = λ e. absurd (h e) }

  pub surplus-answered : length before ≡ 32 → (t : Told) (x : ℕ) (mid after : List ℕ) → t ≡ told_of (surplus_verdict s witness) → x ≡ twos (surplus_of s witness)
      → mid ≡ put_long (put_long (put_long before 0 t.no) 1 t.a) 2 t.b → after ≡ put_long mid 3 x
      → SurplusCall s witness before after t.no
  surplus-answered e t x mid after same bits q r = record {
    wrong-length = λ h. absurd (h e);
    answered = λ _. record {
      number = ap (λ (u : Told). u.no) same;
      written = r ∙ rw (q, bits) (put_four before t.no t.a t.b (twos (surplus_of s witness)) e) ∙ ap (λ (u : Told). longs_of (u.no ∷ u.a ∷ u.b ∷ twos (surplus_of s witness) ∷ [])) same;
    };
  }

module _ (s witness lent before : List ℕ) where
  pub parts-unanswered : (length before ≡ 40 → ⊥) → PartsCall s witness lent lent before before 9
  parts-unanswered h = record {
    wrong-length = λ _. record { nine = refl; unwritten = refl };
    untouched = λ _. refl;
    answered = λ e. absurd (h e);
    filled = λ e. absurd (h e);
  }

  pub parts-answered : length before ≡ 40 → (t : Told) (odd size : ℕ) (parts mid next after : List ℕ) → t ≡ told_of (parts_verdict s witness lent)
      → odd ≡ odd_of s witness lent → size ≡ members_of s witness lent → parts ≡ parts_bytes s witness lent
      → mid ≡ put_long (put_long (put_long before 0 t.no) 1 t.a) 2 t.b → next ≡ put_long mid 3 odd → after ≡ put_long next 4 size
      → PartsCall s witness lent parts before after t.no
  parts-answered e t odd size parts mid next after same eo em eb q r f = record {
    wrong-length = λ h. absurd (h e);
    untouched = λ h. absurd (h e);
    answered = λ _. record {
      number = ap (λ (u : Told). u.no) same;
      written = f ∙ rw (r, q, eo, em) (put_five before t.no t.a t.b (odd_of s witness lent) (members_of s witness lent) e)
          ∙ ap (λ (u : Told). longs_of (u.no ∷ u.a ∷ u.b ∷ odd_of s witness lent ∷ members_of s witness lent ∷ [])) same;
    };
    filled = λ _. eb;
  }
