-- A pairing read from bytes and put back, place by place. Assumes nothing.
use Prim.Native.Nat.{ℕ, suc, ◌+◌, ◌≤◌, ◌<◌}
use mathlib.Core.Path.{◌≡◌, sym, ap, ◌∙◌}
use mathlib.Core.List.{List, ◌∷◌, map}
use native.Mathlib.Omega.{arith}
use native.Mathlib.Numerals.{add-one}
use lib.ListN.{length, get_or, set, drop, length-map, drop_of_length-le, get_or-map}
use lib.Seq.{ext_get_or, drop-cons, get_or-set_same, get_or-set_other}
use lib.Dec.{eqb}
use borrow.Author.Tests.{eqb-true, eqb-false}
use Rattle.graphs.specs.Parts.{run}
use Rattle.graphs.proofs.Count.{cases}
use Rattle.graphs.proofs.Parts.{run_length, run_at}
use Rattle.words.specs.Words.{put_word, over}
use Rattle.mates.proofs.Sound.{same-default}
use Rattle.lent.specs.State.{put_words}

-- the first k places of a table hold the first k values of f
pub Filled : (ℕ → ℕ) → ℕ → List ℕ → Type 0
Filled f k t = (i : ℕ) → i < k → get_or t i 0 ≡ f i

pub filled_none : (f : ℕ → ℕ) (t : List ℕ) → Filled f 0 t
unfolding Filled
filled_none f t i l = absurd (omega arith)

pub filled_next : (f : ℕ → ℕ) (k : ℕ) (t : List ℕ) (x : ℕ) → k < length t → x ≡ f k → Filled f k t → Filled f (k + 1) (set t k x)
unfolding Filled
filled_next f k t x l e h i m = cases (eqb i k)
    (λ q. let z : i ≡ k = eqb-true i k q in rw z (get_or-set_same t k x 0 l ∙ e))
    (λ q. let n = eqb-false i k q in get_or-set_other t k i x 0 n ∙ h i (omega arith))

pub filled-all : (f : ℕ → ℕ) (n k : ℕ) (t : List ℕ) → length t ≡ n → n ≤ k → Filled f k t → t ≡ map f (run 0 n)
unfolding Filled
filled-all f n k t e l h =
    let m : length (map f (run 0 n)) ≡ n = length-map (run 0 n) f ∙ run_length 0 n in
    ext_get_or 0 t (map f (run 0 n)) (e ∙ sym m)
    (λ i b.
    let at : get_or (run 0 n) i 0 ≡ 0 + i = run_at 0 n i 0 (omega arith) in
    let z : 0 + i ≡ i = omega arith in
    h i (omega arith) ∙ sym (same-default (map f (run 0 n)) i 0 (f 0) (omega arith) ∙ get_or-map f (run 0 n) i 0 ∙ ap f (at ∙ z)))

-- ---- the numbers that are still to be put

pub put_next : (s s' t : List ℕ) (k : ℕ) (x : ℕ) (b : List ℕ) → k < length t → x ≡ get_or t k 0 → s' ≡ put_word s k x
    → put_words s k (drop k t) ≡ b → put_words s' (k + 1) (drop (k + 1) t) ≡ b
unfolding over
put_next s s' t k x b l e f p =
    let d : drop k t ≡ get_or t k 0 ∷ drop (suc k) t = drop-cons t k 0 l in
    let q : put_words (put_word s k (get_or t k 0)) (suc k) (drop (suc k) t) ≡ b = rw d at p in
    rw (add-one, f, e) q

pub put-end : (s t : List ℕ) (k : ℕ) (b : List ℕ) → length t ≤ k → put_words s k (drop k t) ≡ b → s ≡ b
unfolding over
put-end s t k b l p = rw (drop_of_length-le t {i = k} l) at p
