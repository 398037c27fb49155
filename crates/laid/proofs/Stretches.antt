-- Laws of lists that are laid down by `Answers`, one behind the other. Assumes nothing.
use Prim.Native.Nat.{ℕ, ◌+◌, ◌<◌, ◌≤◌}
use mathlib.Core.Path.{◌≡◌, refl, sym, ap, ◌∙◌}
use mathlib.Core.List.{List, [], ◌∷◌, ◌++◌}
use lib.ListN.{length, set, take, get_or}
use Rattle.std.proofs.lemmas.List.{take_all, take_more}
use borrow.Author.Tests.{ne_eqb}
use Rattle.std.specs.Prelude.{Ok, Err}
use Rattle.refusals.specs.declared.Refusal.{Refusal}
use Rattle.pairing.specs.Answers.{edges_answer}
use Rattle.pairing.specs.declared.Pairing.{Pairing}
use Rattle.asked.specs.Replies.{pairs_of, behind}
use Rattle.listing.specs.declared.Edge.{Edge}
use Rattle.laid.specs.Answers.{laid, lay}
use Rattle.laid.specs.Lays.{Lays, laid_in}
use Rattle.laid.specs.declared.Answers.{Answers}
use Rattle.laid.proofs.Laying.{put-room, put_full, lay-append}

pub one-room : (s : List ℕ) (i x : ℕ) → i < length s → laid (set s i x) (i + 1) ≡ lay (laid s i) (x ∷ [])
unfolding lay
one-room s i x h = put-room s i x h

pub one-full : (s : List ℕ) (i x : ℕ) → length s ≤ i → laid s i ≡ lay (laid s i) (x ∷ [])
unfolding lay
one-full s i x h = put_full s i x h

pub lays-none : (a : Answers) → Lays a a []
unfolding lay
lays-none a = record { same = refl; all = refl }

pub lays-append : {a b c : Answers} {xs ys : List ℕ} → Lays a b xs → Lays b c ys → Lays a c (xs ++ ys)
lays-append {a} {b} {c} {xs} {ys} g h = record {
  same = h.same ∙ g.same;
  all = h.all ∙ ap (λ l. lay l ys) g.all ∙ sym (lay-append (laid_in a) xs ys);
}

pairs-append : (es fs : List Edge) → pairs_of (es ++ fs) ≡ pairs_of es ++ pairs_of fs
unfolding pairs_of
pairs-append [] fs = refl
pairs-append (e ∷ es) fs = ap (λ xs. e.lower ∷ e.upper ∷ xs) (pairs-append es fs)

-- one pair more of a list of pairs
pub pairs_more : (es : List Edge) (k x y : ℕ) → k < length es → x ≡ (get_or es k (record { lower = 0; upper = 0 })).lower
    → y ≡ (get_or es k (record { lower = 0; upper = 0 })).upper → pairs_of (take (k + 1) es) ≡ pairs_of (take k es) ++ x ∷ y ∷ []
unfolding pairs_of
pairs_more es k x y l e f =
    let more : take (k + 1) es ≡ take k es ++ get_or es k (record { lower = 0; upper = 0 }) ∷ [] = take_more es k (record { lower = 0; upper = 0 }) l in
    rw (more, e, f) (pairs-append (take k es) (get_or es k (record { lower = 0; upper = 0 }) ∷ []))

pub pairs_all : (es : List Edge) (k : ℕ) → length es ≤ k → pairs_of (take k es) ≡ pairs_of es
pairs_all es k l = ap pairs_of (take_all k es l)

-- ---- the pairs behind an answer

pub behind-other : (p : Pairing) (code : ℕ) → (code ≡ 3 → ⊥) → [] ≡ behind p code
unfolding behind
behind-other p code h = rw (ne_eqb code 3 h) refl

pub behind-edges : (p : Pairing) (code : ℕ) (es : List Edge) → code ≡ 3 → Ok es ≡ edges_answer p → pairs_of es ≡ behind p code
unfolding behind
behind-edges p code es e f = rw (e, ← f) refl

pub behind-refused : (p : Pairing) (code : ℕ) (r : Refusal) → code ≡ 3 → Err r ≡ edges_answer p → [] ≡ behind p code
unfolding behind pairs_of
behind-refused p code r e f = rw (e, ← f) refl
