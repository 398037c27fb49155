-- Slot zero: entry number e is the four bytes from 8 + 4n + 4e on and no others, no two entries share a byte, and each entry number below the total
-- lies in exactly one row. Assumes nothing.
use Prim.Native.Nat.{ℕ, zero, suc, ◌+◌, ◌*◌, ◌-◌, ◌≤◌, ◌<◌}
use mathlib.Core.Path.{◌≡◌, sym, ap, ◌∙◌}
use mathlib.Core.Logic.{⊎_elim}
use mathlib.Core.List.{List}
use native.Mathlib.Omega.{arith}
use native.Mathlib.Numerals.{add-one}
use native.Mathlib.Nat.{le_refl, le_trans, eq-or-lt_of_le}
use lib.Dec.{ltb}
use lib.ListN.{length, get_or, take, drop, length-take, length-drop}
use lib.Seq.{get_or-take, get_or-drop}
use borrow.Author.Tests.{ltb-true, ltb-false, lt-ltb, le-leb}
use Rattle.graphs.proofs.Count.{cases}
use Rattle.words.specs.Words.{four, word}
use Rattle.rows.specs.Sheet.{Shaped, order, start, total, entry, slot, part, stretch, graph_of, named}
use Rattle.words.proofs.Bytes.{word-there, numbers-length, numbers-at}

-- ---- entries and bytes

-- two entries share no byte
pub slots_apart : (s : List ℕ) (e f i j : ℕ) → i < 4 → j < 4 → slot s e + i ≡ slot s f + j → (e ≡ f) × (i ≡ j)
slots_apart s e f i j hi hj h = (omega arith, omega arith)

module _ (s : List ℕ) (ok : Shaped s) where
  -- the starts never fall
  pub start-le : (k m : ℕ) → k ≤ m → m ≤ order s → start s k ≤ start s m
  start-le k zero h l = let e : k ≡ 0 = omega arith in rw e (le_refl _)
  start-le k (suc m) h l =
      ⊎_elim (λ e. rw e (le_refl _)) (λ p. le_trans (start-le k m (omega arith) (omega arith)) (rw (← add-one m) (ok.rises m l))) (eq-or-lt_of_le h)

  -- an entry below the total is in the sheet
  pub slot-inside : (e : ℕ) → e < total s → slot s e + 4 ≤ length s
  slot-inside e h = omega (arith, ok.long)

  -- entry number e is these four bytes
  pub entry-bytes : (e : ℕ) → e < total s → entry s e ≡ four s (slot s e)
  entry-bytes e h =
      let k : 4 * (order s + 2 + e) ≡ slot s e = omega arith in
      word-there s (order s + 2 + e) (omega (arith, slot-inside e h)) ∙ ap (λ (i : ℕ). four s i) k

  -- and no others: whoever has the same number of routes and the same four bytes there has the same entry
  pub entry-only : (t : List ℕ) → length t ≡ length s → order t ≡ order s → (e : ℕ) → e < total s
      → ((i : ℕ) → i < 4 → get_or t (slot s e + i) 0 ≡ get_or s (slot s e + i) 0)
      → entry t e ≡ entry s e
  entry-only t el en e h same =
      let k : 4 * (order t + 2 + e) ≡ slot s e = omega arith in
      let z : slot s e + 0 ≡ slot s e = omega arith in
      word-there t (order t + 2 + e) (omega (arith, slot-inside e h))
      ∙ ap (λ (i : ℕ). four t i) k
      ∙ four_same t s (slot s e) (rw z at (same 0 (omega arith))) (same 1 (omega arith)) (same 2 (omega arith)) (same 3 (omega arith))
      ∙ sym (entry-bytes e h)
    where
      four_same : (a b : List ℕ) (i : ℕ) → get_or a i 0 ≡ get_or b i 0 → get_or a (i + 1) 0 ≡ get_or b (i + 1) 0 → get_or a (i + 2) 0 ≡ get_or b (i + 2) 0
          → get_or a (i + 3) 0 ≡ get_or b (i + 3) 0 → four a i ≡ four b i
      four_same a b i p q r t = rw (p, q, r, t)

  -- ---- rows and entries

  pub row-bytes : (v : ℕ) → v < order s → stretch s v ≡ take (4 * (start s (v + 1) - start s v)) (drop (4 * (order s + 2 + start s v)) s)
  unfolding stretch part
  row-bytes v l =
      let r = ok.rises v l in
      let m = start-le (v + 1) (order s) (omega arith) (omega arith) in
      let e : slot s (start s (v + 1)) - slot s (start s v) ≡ 4 * (start s (v + 1) - start s v) = omega arith in
      let f : slot s (start s v) ≡ 4 * (order s + 2 + start s v) = omega arith in
      rw (lt-ltb _ _ l, le-leb (slot s (start s v)) (slot s (start s (v + 1))) (omega arith), le-leb (slot s (start s (v + 1))) (length s) (omega (arith, ok.long)), e, f)

  -- a row is as long as its stretch of entry numbers
  pub row-length : (v : ℕ) → v < order s → length ((graph_of s).row v) ≡ start s (v + 1) - start s v
  row-length v l =
      numbers-length (stretch s v)
      ∙ rw (row-bytes v l, length-take, length-drop)
      (omega (arith, ok.rises v l, ok.long, start-le (v + 1) (order s) (omega arith) (omega arith)))

  -- and place i of row v is entry number start v + i
  pub row-entry : (v i : ℕ) → v < order s → i < start s (v + 1) - start s v → named (graph_of s) v i ≡ entry s (start s v + i)
  row-entry v i l h =
      let m = start-le (v + 1) (order s) (omega arith) (omega arith) in
      numbers-at (stretch s v) i
      ∙ rw (row-bytes v l) (word_in (order s + 2 + start s v) (start s (v + 1) - start s v) i h (omega (arith, ok.long)))
      ∙ ap (word s) {x = order s + 2 + start s v + i} {y = order s + 2 + (start s v + i)} (omega arith)
    where
      byte-in : (a m i k : ℕ) → i < 4 * m → k ≡ 4 * a + i → get_or (take (4 * m) (drop (4 * a) s)) i 0 ≡ get_or s k 0
      byte-in a m i k h e = rw (e, get_or-take (4 * m) (drop (4 * a) s) i 0 h, get_or-drop (4 * a) s i 0)

      word_in : (a m j : ℕ) → j < m → 4 * (a + m) ≤ length s → word (take (4 * m) (drop (4 * a) s)) j ≡ word s (a + j)
      word_in a m j h l =
          let t : List ℕ = take (4 * m) (drop (4 * a) s) in
          let e : length t ≡ 4 * m = simp (length-take, length-drop) (omega arith) in
          word-there t j (omega arith)
          ∙ rw (
            byte-in a m (4 * j) (4 * (a + j)) (omega arith) (omega arith),
            byte-in a m (4 * j + 1) (4 * (a + j) + 1) (omega arith) (omega arith),
            byte-in a m (4 * j + 2) (4 * (a + j) + 2) (omega arith) (omega arith),
            byte-in a m (4 * j + 3) (4 * (a + j) + 3) (omega arith) (omega arith),
          )
          (sym (word-there s (a + j) (omega arith)))

  -- each entry number below the total lies in a row
  pub entry_row : (e : ℕ) → e < total s → (v : ℕ) × (v < order s) × (start s v ≤ e) × (e < start s (v + 1))
  entry_row e h = go (order s) (le_refl _) h
    where
      go : (k : ℕ) → k ≤ order s → e < start s k → (v : ℕ) × (v < order s) × (start s v ≤ e) × (e < start s (v + 1))
      go zero l p = absurd (omega (arith, ok.from_zero))
      go (suc k) l p = cases (ltb e (start s k))
          (λ t. go k (omega arith) (ltb-true _ _ t))
          (λ t. (k, l, ltb-false _ _ t, rw (add-one k) p))

  -- and in no other
  pub entry-one-row : (e v w : ℕ) → v < order s → w < order s → start s v ≤ e → e < start s (v + 1) → start s w ≤ e → e < start s (w + 1) → v ≡ w
  entry-one-row e v w lv lw a b c d = cases (ltb v w)
      (λ t. absurd (omega (arith, start-le (v + 1) w (omega (arith, ltb-true v w t)) (omega arith))))
      (λ t. cases (ltb w v)
      (λ u. absurd (omega (arith, start-le (w + 1) v (omega (arith, ltb-true w v u)) (omega arith))))
      (λ u. omega (arith, ltb-false v w t, ltb-false w v u)))
