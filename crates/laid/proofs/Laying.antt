-- Laws of numbers laid down one after the other. Assumes nothing.
use Prim.Native.Nat.{ℕ, suc, ◌+◌, ◌≤◌, ◌<◌}
use mathlib.Core.Path.{◌≡◌, refl, sym, ap, ◌∙◌}
use mathlib.Core.List.{List, [], ◌∷◌, ◌++◌}
use native.Mathlib.Omega.{arith}
use native.Mathlib.Numerals.{add-one}
use lib.ListN.{length, set}
use lib.Seq.{sets, set_out}
use lib.Dec.{ltb}
use borrow.Author.Tests.{ltb-true, ltb-false, lt-ltb, le-ltb}
use Rattle.graphs.proofs.Count.{cases}
use Rattle.laid.specs.Answers.{Laid, laid, put, lay}

-- one list and then another
pub lay-append : (l : Laid) (xs ys : List ℕ) → lay l (xs ++ ys) ≡ lay (lay l xs) ys
unfolding lay
lay-append l [] ys = refl
lay-append l (x ∷ xs) ys = lay-append (put l x) xs ys

pub put-room : (s : List ℕ) (i x : ℕ) → i < length s → laid (set s i x) (i + 1) ≡ put (laid s i) x
unfolding put
put-room s i x h = rw (lt-ltb i (length s) h) refl

pub put_full : (s : List ℕ) (i x : ℕ) → length s ≤ i → laid s i ≡ put (laid s i) x
unfolding put
put_full s i x h = rw (le-ltb i (length s) h, set_out s i x h) refl

-- past the end nothing is stored
sets-out : (s : List ℕ) (i : ℕ) (xs : List ℕ) → length s ≤ i → sets s i xs ≡ s
sets-out s i [] h = refl
sets-out s i (x ∷ xs) h = rw (set_out s i x h) (sets-out s (suc i) xs (omega arith))

-- what is laid down from a place on is what is stored from there on, as far as there is room
pub lay-sets : (s : List ℕ) (i : ℕ) (xs : List ℕ) → (lay (laid s i) xs).numbers ≡ sets s i xs
unfolding lay
lay-sets s i [] = refl
lay-sets s i (x ∷ xs) = cases (ltb i (length s))
    (λ t.
    let h : i < length s = ltb-true i (length s) t in
    ap (λ (l : Laid). (lay l xs).numbers) (sym (put-room s i x h)) ∙ rw add-one (lay-sets (set s i x) (suc i) xs))
    (λ t.
    let h : length s ≤ i = ltb-false i (length s) t in
    ap (λ (l : Laid). (lay l xs).numbers) (sym (put_full s i x h)) ∙ lay-sets s i xs ∙ sets-out s i xs h
    ∙ sym (rw (set_out s i x h) (sets-out s (suc i) xs (omega arith))))
