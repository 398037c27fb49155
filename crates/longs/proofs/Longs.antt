-- Laws of the long numbers in a list of bytes. Assumes nothing.
use Prim.Native.Nat.{ℕ, suc, ◌+◌, ◌*◌, ◌/◌, ◌%◌, ◌≤◌, ◌<◌}
use mathlib.Core.Path.{◌≡◌, refl, sym, ◌∙◌}
use mathlib.Core.List.{List, [], ◌∷◌, ◌++◌, append_assoc}
use native.Mathlib.Omega.{arith}
use native.Mathlib.Numerals.{add-one}
use lib.ListN.{length, drop, length-append, length-drop}
use lib.Seq.{sets}
use borrow.Rule.Slice.PartMut.{put_mid}
use borrow.Author.Tests.{lt-ltb}
use Rattle.std.specs.Int.{to_le_bytes, w64}
use Rattle.words.proofs.Bytes.{copied, sets-after}
use Rattle.longs.specs.Longs.{put_long, bytes8, longs_of}

-- the bytes of a long number, lowest first
pub bytes8-is : (x : ℕ) → to_le_bytes w64 x ≡ bytes8 x
bytes8-is x =
    let c : x / 65536 % 256 ≡ x / 256 / 256 % 256 = omega arith in
    let d : x / 16777216 % 256 ≡ x / 256 / 256 / 256 % 256 = omega arith in
    let e : x / 4294967296 % 256 ≡ x / 256 / 256 / 256 / 256 % 256 = omega arith in
    let f : x / 1099511627776 % 256 ≡ x / 256 / 256 / 256 / 256 / 256 % 256 = omega arith in
    let g : x / 281474976710656 % 256 ≡ x / 256 / 256 / 256 / 256 / 256 / 256 % 256 = omega arith in
    let h : x / 72057594037927936 % 256 ≡ x / 256 / 256 / 256 / 256 / 256 / 256 / 256 % 256 = omega arith in
    rw (c, d, e, f, g, h)

pub put-sets : (s : List ℕ) (k x : ℕ) → k < length s / 8 → put_long s k x ≡ sets s (8 * k) (bytes8 x)
unfolding put_long
put-sets s k x h = rw (lt-ltb k (length s / 8) h, place 6, place 5, place 4, place 3, place 2, place 1, add-one (8 * k))
  where
    place : (i : ℕ) → 8 * k + suc i ≡ suc (8 * k + i)
    place i = omega arith

-- so that long number k is put by copying its bytes there
pub put-copied : (s bs : List ℕ) (k n x : ℕ) → k < length s / 8 → n ≡ 8 → bs ≡ to_le_bytes w64 x → put_mid (8 * k) n s bs ≡ put_long s k x
put-copied s bs k n x h e q =
    rw (e, q ∙ bytes8-is x) (copied s (bytes8 x) (8 * k) 8 (omega arith) refl ∙ sym (put-sets s k x h))

-- after the long numbers that were put, the next
pub put-next-long : (p q : List ℕ) (k x : ℕ) → length p ≡ 8 * k → 8 ≤ length q → put_long (p ++ q) k x ≡ (p ++ bytes8 x) ++ drop 8 q
put-next-long p q k x e h = put-sets (p ++ q) k x (omega (arith, length-append p q)) ∙ sets-after p q (bytes8 x) (8 * k) e h

-- long numbers put at 0, 1, .. fill a buffer of their length
put_all : List ℕ → ℕ → List ℕ → List ℕ
put_all s k [] = s
put_all s k (x ∷ xs) = put_all (put_long s k x) (suc k) xs

put-all : (xs p q : List ℕ) (k : ℕ) → length p ≡ 8 * k → length q ≡ 8 * length xs → put_all (p ++ q) k xs ≡ p ++ longs_of xs
unfolding put_all longs_of
put-all [] p q k e h = rw (no_more q h)
  where
    no_more : (q : List ℕ) → length q ≡ 8 * 0 → q ≡ []
    no_more [] h = refl
    no_more (x ∷ xs) h = absurd (omega arith)
put-all (x ∷ xs) p q k e h =
    rw (put-next-long p q k x e (omega arith))
    (put-all xs (p ++ bytes8 x) (drop 8 q) (suc k) (length-append p (bytes8 x) ∙ omega arith) (length-drop 8 q ∙ omega arith)
    ∙ append_assoc p (bytes8 x) (longs_of xs))

pub put_three : (s : List ℕ) (a b c : ℕ) → length s ≡ 24 → put_long (put_long (put_long s 0 a) 1 b) 2 c ≡ longs_of (a ∷ b ∷ c ∷ [])
unfolding put_all
put_three s a b c e = put-all (a ∷ b ∷ c ∷ []) [] s 0 refl e

pub put_four : (s : List ℕ) (a b c d : ℕ) → length s ≡ 32 → put_long (put_long (put_long (put_long s 0 a) 1 b) 2 c) 3 d ≡ longs_of (a ∷ b ∷ c ∷ d ∷ [])
unfolding put_all
put_four s a b c d e = put-all (a ∷ b ∷ c ∷ d ∷ []) [] s 0 refl e

pub put_five : (s : List ℕ) (a b c d f : ℕ) → length s ≡ 40
    → put_long (put_long (put_long (put_long (put_long s 0 a) 1 b) 2 c) 3 d) 4 f ≡ longs_of (a ∷ b ∷ c ∷ d ∷ f ∷ [])
unfolding put_all
put_five s a b c d f e = put-all (a ∷ b ∷ c ∷ d ∷ f ∷ []) [] s 0 refl e

pub put-seven : (s : List ℕ) (a b c d f g h : ℕ) → length s ≡ 56
    → put_long (put_long (put_long (put_long (put_long (put_long (put_long s 0 a) 1 b) 2 c) 3 d) 4 f) 5 g) 6 h ≡ longs_of (a ∷ b ∷ c ∷ d ∷ f ∷ g ∷ h ∷ [])
unfolding put_all
put-seven s a b c d f g h e = put-all (a ∷ b ∷ c ∷ d ∷ f ∷ g ∷ h ∷ []) [] s 0 refl e
