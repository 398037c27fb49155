-- Laws of the numbers in a list of bytes. Assumes nothing.
use Prim.Native.Nat.{ℕ, zero, suc, ◌+◌, ◌*◌, ◌/◌, ◌%◌, ◌≤◌, ◌<◌}
use mathlib.Core.Path.{◌≡◌, refl, sym, ap, ◌∙◌}
use mathlib.Core.Logic.{◌≢◌, ◌⊎◌, inl, inr, ⊎_elim}
use mathlib.Core.Bool.{Bool, true, false}
use mathlib.Core.List.{List, [], ◌∷◌, ◌++◌, map, append_assoc, append-nil}
use native.Mathlib.Omega.{arith}
use native.Mathlib.Numerals.{add-one}
use lib.Dec.{ltb}
use lib.ListN.{length, get_or, set, take, drop, length-append, length-map, length-set, length-take, length-drop, drop_of_length-le, get_or-map, get_or-eq_default}
use native.Mathlib.Decide.{ℕ_discrete}
use lib.Seq.{get_or-take, get_or-drop, take_all, take-suc, set_at, sets, sets-eq, take-append_seam, drop-append-add, drop-drop, drop-cons, get_or-set_same, get_or-set_other}
use borrow.Rule.Slice.PartMut.{put_mid}
use borrow.Author.Tests.{lt-ltb, le-ltb, ltb-true, ltb-false}
use Rattle.std.specs.Int.{from_le_bytes, to_le_bytes, w32}
use Rattle.std.proofs.lemmas.List.{ext_get_or}
use Rattle.limits.specs.Limits.{none}
use Rattle.graphs.specs.Parts.{run}
use Rattle.graphs.proofs.Count.{cases}
use Rattle.graphs.proofs.Parts.{run_length, run_at}
use Rattle.words.specs.Words.{four, word, numbers, put_word, bytes4, bytes_to, over}

-- ---- a number that is there, and one that is not

pub word-there : (s : List ℕ) (k : ℕ) → k < length s / 4 → word s k ≡ four s (4 * k)
unfolding word
word-there s k h = simp (lt-ltb _ _ h)

pub word-past : (s : List ℕ) (k : ℕ) → length s / 4 ≤ k → word s k ≡ none
unfolding word
word-past s k h = simp (le-ltb _ _ h)

-- ---- all numbers

pub numbers-length : (s : List ℕ) → length (numbers s) ≡ length s / 4
unfolding numbers
numbers-length s = length-map (run 0 (length s / 4)) (word s) ∙ run_length 0 (length s / 4)

pub numbers-none : numbers [] ≡ []
unfolding numbers run
numbers-none = refl

-- number k of the list is number k of the bytes, and none past the end of both
pub numbers-at : (s : List ℕ) (k : ℕ) → get_or (numbers s) k none ≡ word s k
unfolding numbers
numbers-at s k = cases (ltb k (length s / 4))
    (λ t. let h : k < length s / 4 = ltb-true _ _ t in
    rw (← word-past s (length s / 4) (omega arith), get_or-map (word s) (run 0 (length s / 4)) k (length s / 4), run_at 0 (length s / 4) k (length s / 4) h)
    (ap (word s) (omega arith)))
    (λ t. let h : length s / 4 ≤ k = ltb-false _ _ t in
    get_or-eq_default (map (word s) (run 0 (length s / 4))) none (omega (arith, length-map (run 0 (length s / 4)) (word s), run_length 0 (length s / 4)))
    ∙ sym (word-past s k h))

pub numbers-drop : (s : List ℕ) (i : ℕ) → i < length s / 4 → drop i (numbers s) ≡ word s i ∷ drop (i + 1) (numbers s)
numbers-drop s i h =
    rw (add-one, ← numbers-at s i) (drop-cons (numbers s) i none (omega (arith, numbers-length s)))

pub numbers-end : (s : List ℕ) (i : ℕ) → length s / 4 ≤ i → drop i (numbers s) ≡ []
numbers-end s i h = drop_of_length-le (numbers s) {i = i} (omega (arith, numbers-length s))

-- past the first four bytes stand the numbers from the second on
word-drop : (s : List ℕ) (i : ℕ) → 4 ≤ length s → word (drop 4 s) i ≡ word s (suc i)
word-drop s i h =
    let d : length (drop 4 s) + 4 ≡ length s = omega (arith, length-drop 4 s) in
    cases (ltb i (length (drop 4 s) / 4))
    (λ t. let l : i < length (drop 4 s) / 4 = ltb-true _ _ t in
    word-there (drop 4 s) i l ∙ four-drop (4 * i) ∙ ap (four s) (omega arith) ∙ sym (word-there s (suc i) (omega arith)))
    (λ t. let l : length (drop 4 s) / 4 ≤ i = ltb-false _ _ t in word-past (drop 4 s) i l ∙ sym (word-past s (suc i) (omega arith)))
  where
    four-drop : (j : ℕ) → four (drop 4 s) j ≡ four s (4 + j)
    four-drop j =
        let a : 4 + (j + 1) ≡ 4 + j + 1 = omega arith in
        let b : 4 + (j + 2) ≡ 4 + j + 2 = omega arith in
        let c : 4 + (j + 3) ≡ 4 + j + 3 = omega arith in
        rw (get_or-drop 4 s j 0, get_or-drop 4 s (j + 1) 0, get_or-drop 4 s (j + 2) 0, get_or-drop 4 s (j + 3) 0, a, b, c)

-- so the numbers are the first, and those of the other bytes
pub numbers-next : (s bytes rest : List ℕ) (x : ℕ) → 4 ≤ length s → bytes ≡ take 4 s → rest ≡ drop 4 s → x ≡ from_le_bytes w32 bytes
    → numbers s ≡ x ∷ numbers rest
numbers-next s bytes rest x h eb er ex =
    rw er (ext_get_or none (numbers s) (x ∷ numbers (drop 4 s))
    (omega (arith, numbers-length s, numbers-length (drop 4 s), length-drop 4 s))
    at)
  where
    first : x ≡ word s 0
    first =
        let e : x ≡ four s 0 = ex ∙ rw (eb, get_or-take 4 s 0 0 (omega arith), get_or-take 4 s 1 0 (omega arith), get_or-take 4 s 2 0 (omega arith), get_or-take 4 s 3 0 (omega arith)) (omega arith) in
        e ∙ sym (word-there s 0 (omega arith))

    at : (i : ℕ) → i < length (numbers s) → get_or (numbers s) i none ≡ get_or (x ∷ numbers (drop 4 s)) i none
    at zero l = numbers-at s 0 ∙ sym first
    at (suc i) l = numbers-at s (suc i) ∙ sym (word-drop s i h) ∙ sym (numbers-at (drop 4 s) i)

pub numbers-few : (s : List ℕ) → length s < 4 → numbers s ≡ []
unfolding numbers run
numbers-few s h = let e : length s / 4 ≡ 0 = omega arith in rw e

-- ---- a loop along the numbers: the invariant is that what is left to do leads to b

module _ {A : Type 0} (f : ℕ → ℕ → A → A) (s : List ℕ) (b : A) where
  pub over-again : (a a' : A) (i : ℕ) → i < length s / 4 → over f a i (drop i (numbers s)) ≡ b → a' ≡ f i (word s i) a
      → over f a' (i + 1) (drop (i + 1) (numbers s)) ≡ b
  unfolding over
  over-again a a' i h p q =
      let step : over f a i (word s i ∷ drop (i + 1) (numbers s)) ≡ b = rw (numbers-drop s i h) at p in
      rw (q, add-one i) (rw (add-one i) at step)

  pub over-end : (a : A) (i : ℕ) → length s / 4 ≤ i → over f a i (drop i (numbers s)) ≡ b → a ≡ b
  unfolding over
  over-end a i h p = rw (numbers-end s i h) at p

-- the same where the numbers are taken one after the other
module _ {A : Type 0} (f : ℕ → ℕ → A → A) (b : A) where
  pub over-next : (a a' : A) (k k' w : ℕ) (left rest : List ℕ) → left ≡ w ∷ rest → k' ≡ k + 1 → over f a k left ≡ b → a' ≡ f k w a → over f a' k' rest ≡ b
  unfolding over
  over-next a a' k k' w left rest e ek p q = rw (q, ek, add-one k) (rw e at p)

  pub over-none : (a : A) (k : ℕ) (left : List ℕ) → left ≡ [] → over f a k left ≡ b → a ≡ b
  unfolding over
  over-none a k left e p = rw e at p

-- and what the one taken is, where the others are what is left of the row
pub taken : (row left rest : List ℕ) (k i w : ℕ) → left ≡ drop k (numbers row) → i ≡ k → left ≡ w ∷ rest
    → (i < length row / 4) × (w ≡ word row i) × (rest ≡ drop (i + 1) (numbers row))
taken row left rest k i w e ei h =
    let d : drop i (numbers row) ≡ w ∷ rest = rw ei (sym e ∙ h) in
    cases (ltb i (length row / 4))
    (λ t. let l : i < length row / 4 = ltb-true _ _ t in
    let m : word row i ∷ drop (i + 1) (numbers row) ≡ w ∷ rest = sym (numbers-drop row i l) ∙ d in
    (l, cc, cc))
    (λ t. let m : [] ≡ w ∷ rest = sym (numbers-end row i (ltb-false _ _ t)) ∙ d in cc)

pub all-taken : (row left : List ℕ) (k : ℕ) → left ≡ drop k (numbers row) → left ≡ [] → length row / 4 ≤ k
all-taken row left k e h = cases (ltb k (length row / 4))
    (λ t. let m : word row k ∷ drop (k + 1) (numbers row) ≡ [] = sym (numbers-drop row k (ltb-true _ _ t)) ∙ sym e ∙ h in cc)
    (λ t. ltb-false _ _ t)

-- ---- a number that is put is read there, and every other byte is as it was

module _ (s : List ℕ) (p a b c d : ℕ) where
  -- four neighbouring bytes stored
  abbrev stored : List ℕ
  stored = set (set (set (set s p a) (p + 1) b) (p + 2) c) (p + 3) d

  stored-long : length stored ≡ length s
  stored-long = simp length-set

  stored-four : p + 4 ≤ length s → four stored p ≡ a + 256 * b + 65536 * c + 16777216 * d
  stored-four h =
      rw (
        get_or-set_same (set (set (set s p a) (p + 1) b) (p + 2) c) (p + 3) d 0 (simp length-set (omega arith)),
        get_or-set_other (set (set (set s p a) (p + 1) b) (p + 2) c) (p + 3) p d 0 (λ e. omega arith),
        get_or-set_other (set (set (set s p a) (p + 1) b) (p + 2) c) (p + 3) (p + 1) d 0 (λ e. omega arith),
        get_or-set_other (set (set (set s p a) (p + 1) b) (p + 2) c) (p + 3) (p + 2) d 0 (λ e. omega arith),
        get_or-set_same (set (set s p a) (p + 1) b) (p + 2) c 0 (simp length-set (omega arith)),
        get_or-set_other (set (set s p a) (p + 1) b) (p + 2) p c 0 (λ e. omega arith),
        get_or-set_other (set (set s p a) (p + 1) b) (p + 2) (p + 1) c 0 (λ e. omega arith),
        get_or-set_same (set s p a) (p + 1) b 0 (simp length-set (omega arith)),
        get_or-set_other (set s p a) (p + 1) p b 0 (λ e. omega arith),
        get_or-set_same s p a 0 (omega arith),
      )

  stored-away : (i : ℕ) → (i < p) ⊎ (p + 4 ≤ i) → get_or stored i 0 ≡ get_or s i 0
  stored-away i f =
      let ne : (k : ℕ) → k < 4 → i ≢ p + k = λ k l e. ⊎_elim (λ q. omega arith) (λ q. omega arith) f in
      rw (
        get_or-set_other (set (set (set s p a) (p + 1) b) (p + 2) c) (p + 3) i d 0 (ne 3 (omega arith)),
        get_or-set_other (set (set s p a) (p + 1) b) (p + 2) i c 0 (ne 2 (omega arith)),
        get_or-set_other (set s p a) (p + 1) i b 0 (ne 1 (omega arith)),
        get_or-set_other s p i a 0 (λ e. ne 0 (omega arith) (omega arith)),
      )

pub put-length : (s : List ℕ) (k x : ℕ) → length (put_word s k x) ≡ length s
unfolding put_word
put-length s k x = cases (ltb k (length s / 4))
    (λ t. rw t (stored-long s (4 * k) (x % 256) (x / 256 % 256) (x / 256 / 256 % 256) (x / 256 / 256 / 256 % 256)))
    (λ t. rw t)

-- number k is x
pub put_same : (s : List ℕ) (k x : ℕ) → k < length s / 4 → x < 4294967296 → word (put_word s k x) k ≡ x
unfolding put_word
put_same s k x h l =
    let e = stored-long s (4 * k) (x % 256) (x / 256 % 256) (x / 256 / 256 % 256) (x / 256 / 256 / 256 % 256) in
    rw (lt-ltb _ _ h)
    (word-there (stored s (4 * k) (x % 256) (x / 256 % 256) (x / 256 / 256 % 256) (x / 256 / 256 / 256 % 256)) k (omega arith)
    ∙ stored-four s (4 * k) (x % 256) (x / 256 % 256) (x / 256 / 256 % 256) (x / 256 / 256 / 256 % 256) (omega arith)
    ∙ omega arith)

-- any other byte is as it was
pub put-away : (s : List ℕ) (k x i : ℕ) → (i < 4 * k) ⊎ (4 * k + 4 ≤ i) → get_or (put_word s k x) i 0 ≡ get_or s i 0
unfolding put_word
put-away s k x i f = cases (ltb k (length s / 4))
    (λ t. rw t (stored-away s (4 * k) (x % 256) (x / 256 % 256) (x / 256 / 256 % 256) (x / 256 / 256 / 256 % 256) i f))
    (λ t. rw t)

-- so any other number is too
pub put_other : (s : List ℕ) (k x j : ℕ) → j ≢ k → word (put_word s k x) j ≡ word s j
unfolding word
put_other s k x j ne =
    let away : (i : ℕ) → i < 4 → get_or (put_word s k x) (4 * j + i) 0 ≡ get_or s (4 * j + i) 0
    = λ i l. put-away s k x (4 * j + i) (side (ltb j k) refl i l) in
    rw (put-length s k x) (cases (ltb j (length s / 4))
    (λ t. rw t (first away))
    (λ t. rw t))
  where
    side : (b : Bool) → ltb j k ≡ b → (i : ℕ) → i < 4 → (4 * j + i < 4 * k) ⊎ (4 * k + 4 ≤ 4 * j + i)
    side true t i l = inl (omega (arith, ltb-true j k t))
    side false t i l = inr (omega (arith, ltb-false j k t))

    first : ((i : ℕ) → i < 4 → get_or (put_word s k x) (4 * j + i) 0 ≡ get_or s (4 * j + i) 0) → four (put_word s k x) (4 * j) ≡ four s (4 * j)
    first away =
        let z : 4 * j + 0 ≡ 4 * j = omega arith in
        rw (rw z at (away 0 (omega arith)), away 1 (omega arith), away 2 (omega arith), away 3 (omega arith))

-- ---- numbers put one after the other

-- bytes stored from the place on where q begins; the crate `longs` stores eight
pub sets-after : (p q bs : List ℕ) (n : ℕ) → length p ≡ n → length bs ≤ length q → sets (p ++ q) n bs ≡ (p ++ bs) ++ drop (length bs) q
sets-after p q bs n e h =
    rw (← e, sets-eq bs (p ++ q) (length p) (omega (arith, length-append p q)), take-append_seam p q, drop-append-add p q (length bs), append_assoc p bs (drop (length bs) q))

-- and bytes copied over a stretch of s are such stores
pub copied : (s bs : List ℕ) (i n : ℕ) → i + n ≤ length s → length bs ≡ n → put_mid i n s bs ≡ sets s i bs
copied s bs i n h e =
    rw (sets-eq bs s i (omega arith), e, drop-drop n i s)
    (sym (append_assoc (take i s) bs (drop (i + n) s)))

-- the bytes of a number, lowest first
pub bytes4-is : (x : ℕ) → to_le_bytes w32 x ≡ bytes4 x
bytes4-is x =
    let c : x / 65536 % 256 ≡ x / 256 / 256 % 256 = omega arith in
    let d : x / 16777216 % 256 ≡ x / 256 / 256 / 256 % 256 = omega arith in
    rw (c, d)

pub put-sets : (s : List ℕ) (k x : ℕ) → k < length s / 4 → put_word s k x ≡ sets s (4 * k) (bytes4 x)
unfolding put_word
put-sets s k x h = rw (lt-ltb k (length s / 4) h, place 2, place 1, add-one (4 * k))
  where
    place : (i : ℕ) → 4 * k + suc i ≡ suc (4 * k + i)
    place i = omega arith

-- so that number k is put by copying its bytes there
pub put-copied : (s bs : List ℕ) (k n x : ℕ) → k < length s / 4 → n ≡ 4 → bs ≡ to_le_bytes w32 x → put_mid (4 * k) n s bs ≡ put_word s k x
put-copied s bs k n x h e q =
    rw (e, q ∙ bytes4-is x) (copied s (bytes4 x) (4 * k) 4 (omega arith) refl ∙ sym (put-sets s k x h))

-- after the numbers that were put, the next
pub put_next : (p q : List ℕ) (k x : ℕ) → length p ≡ 4 * k → 4 ≤ length q → put_word (p ++ q) k x ≡ (p ++ bytes4 x) ++ drop 4 q
put_next p q k x e h = put-sets (p ++ q) k x (omega (arith, length-append p q)) ∙ sets-after p q (bytes4 x) (4 * k) e h

-- ---- a buffer filled number by number

pub bytes_to-length : (f : ℕ → ℕ) (k : ℕ) → length (bytes_to f k) ≡ 4 * k
unfolding bytes_to
bytes_to-length f zero = refl
bytes_to-length f (suc k) = length-append (bytes_to f k) (bytes4 (f k)) ∙ omega (arith, bytes_to-length f k)

-- the invariant of a loop that puts f 0, f 1, ..: what is put, and then what was there
pub fill_none : (f : ℕ → ℕ) (s : List ℕ) → s ≡ bytes_to f 0 ++ drop 0 s
unfolding bytes_to
fill_none f s = refl

pub fill-again : (f : ℕ → ℕ) (s t : List ℕ) (k x : ℕ) → 4 * k + 4 ≤ length s → t ≡ bytes_to f k ++ drop (4 * k) s → x ≡ f k
    → put_word t k x ≡ bytes_to f (k + 1) ++ drop (4 * (k + 1)) s
unfolding bytes_to
fill-again f s t k x h p q =
    let m : 4 * (k + 1) ≡ 4 * k + 4 = omega arith in
    rw (p, q, m, add-one k) (put_next (bytes_to f k) (drop (4 * k) s) k (f k) (bytes_to-length f k) (omega (arith, length-drop (4 * k) s))
    ∙ ap (λ (r : List ℕ). (bytes_to f k ++ bytes4 (f k)) ++ r) (drop-drop 4 (4 * k) s))

pub fill_end : (f : ℕ → ℕ) (s t : List ℕ) (k n : ℕ) → length s ≡ 4 * n → k ≤ n → n ≤ k → t ≡ bytes_to f k ++ drop (4 * k) s → t ≡ bytes_to f n
fill_end f s t k n e h l p =
    let m : k ≡ n = omega arith in
    p ∙ rw (m, drop_of_length-le s {i = 4 * n} (omega arith), append-nil)

module _ (f : ℕ → ℕ) (n : ℕ) where
  -- the first k numbers put over the whole
  abbrev partly : ℕ → List ℕ
  partly k = bytes_to f k ++ drop (4 * k) (bytes_to f n)

  partly-long : (k : ℕ) → k ≤ n → length (partly k) ≡ 4 * n
  partly-long k l = length-append (bytes_to f k) (drop (4 * k) (bytes_to f n)) ∙ omega (arith, bytes_to-length f k, bytes_to-length f n, length-drop (4 * k) (bytes_to f n))

  partly-next : (k : ℕ) → suc k ≤ n → put_word (partly k) k (f k) ≡ partly (suc k)
  partly-next k l = rw (add-one k) at (fill-again f (bytes_to f n) (partly k) k (f k) (omega (arith, bytes_to-length f n)) refl refl)

  partly-word : (v : ℕ) → f v < 4294967296 → (k : ℕ) → k ≤ n → v < k → word (partly k) v ≡ f v
  partly-word v small zero l i = absurd (omega arith)
  partly-word v small (suc k) l i = ap (λ (s : List ℕ). word s v) (sym (partly-next k l)) ∙ go (ℕ_discrete v k) (λ j. partly-word v small k (omega arith) j)
    where
      go : Dec (v ≡ k) → (v < k → word (partly k) v ≡ f v) → word (put_word (partly k) k (f k)) v ≡ f v
      go (yes e) r = rw (← e) (put_same (partly v) v (f v) (omega (arith, partly-long v (omega arith))) small)
      go (no e) r = put_other (partly k) k (f k) v e ∙ r (omega arith)

  -- what is put is read: number v of the bytes is f v
  pub bytes_to-word : (v : ℕ) → v < n → f v < 4294967296 → word (bytes_to f n) v ≡ f v
  bytes_to-word v h small =
      let whole = fill_end f (bytes_to f n) (partly n) n n (bytes_to-length f n) (omega arith) (omega arith) refl in
      ap (λ (s : List ℕ). word s v) (sym whole) ∙ partly-word v small n (omega arith) h

-- ---- a list filled cell by cell

-- the invariant of a loop that sets cell 0, cell 1, .. to the cells of t: those of t, and then what was there
pub cells-again : (t l₀ l : List ℕ) (k x : ℕ) → k < length t → k < length l₀ → l ≡ take k t ++ drop k l₀ → x ≡ get_or t k 0 → set l k x ≡ take (k + 1) t ++ drop (k + 1) l₀
cells-again t l₀ l k x h h₀ e q =
    let n : length (take k t) ≡ k = omega (arith, length-take k t) in
    rw (e, q, add-one k, drop-cons l₀ k 0 h₀, take-suc t k 0 h)
    (set_at (take k t) (get_or l₀ k 0) (drop (suc k) l₀) (get_or t k 0) k n ∙ sym (append_assoc (take k t) (get_or t k 0 ∷ []) (drop (suc k) l₀)))

pub cells-end : (t l₀ l : List ℕ) (k : ℕ) → length t ≡ length l₀ → length l₀ ≤ k → l ≡ take k t ++ drop k l₀ → l ≡ t
cells-end t l₀ l k e h p = p ∙ rw (drop_of_length-le l₀ {i = k} h, take_all k t (omega arith), append-nil)
