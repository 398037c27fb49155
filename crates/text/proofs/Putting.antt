-- Putting one thing after another, over plain variables. Assumes nothing.
use Prim.Native.Nat.{ℕ, zero, suc, ◌+◌, ◌-◌, ◌/◌, ◌%◌, ◌≤◌, ◌<◌}
use mathlib.Core.Logic.{◌≢◌}
use mathlib.Core.Path.{◌≡◌, refl, sym, ap, ◌∙◌}
use mathlib.Core.List.{List, [], ◌∷◌, ◌++◌, append_assoc, append-nil}
use native.Mathlib.Omega.{arith}
use native.Mathlib.Numerals.{add-one}
use lib.ListN.{length, take, set, length-append}
use lib.Seq.{take_all, take-suc-set, length-take-le}
use borrow.Author.Tests.{lt-ltb, le-ltb}
use Rattle.text.specs.Put.{room, followed_by}
use Rattle.text.specs.Digits.{digits_in}

-- nothing after a text, and two things that are put one after the other
take_nil : (n : ℕ) → take {A = ℕ} n [] ≡ []
take_nil zero = refl
take_nil (suc n) = refl

pub nothing : (t : List ℕ) → t ≡ followed_by t []
unfolding followed_by
nothing t = rw (take_nil (room - length t), append-nil) refl

take_both : (n : ℕ) (xs ys : List ℕ) → take n xs ++ take (n - length (take n xs)) ys ≡ take n (xs ++ ys)
take_both zero xs ys = refl
take_both (suc n) [] ys =
    let e : suc n - 0 ≡ suc n = omega arith in
    rw e refl
take_both (suc n) (x ∷ xs) ys =
    let e : suc n - suc (length (take n xs)) ≡ n - length (take n xs) = omega arith in
    rw e (ap (λ (l : List ℕ). x ∷ l) (take_both n xs ys))

pub then : (t xs ys : List ℕ) → followed_by (followed_by t xs) ys ≡ followed_by t (xs ++ ys)
unfolding followed_by
then t xs ys =
    let n = room - length t in
    let e : room - length (t ++ take n xs) ≡ n - length (take n xs) = omega (arith, length-append t (take n xs)) in
    rw (e, append_assoc, take_both n xs ys) refl

-- one byte, where there is room and where there is none
pub put-room : (bytes : List ℕ) (k b : ℕ) → length bytes ≡ room → k < room → take (k + 1) (set bytes k b) ≡ followed_by (take k bytes) (b ∷ [])
unfolding followed_by
put-room bytes k b long h =
    let short = length-take-le k bytes (omega (arith, long)) in
    let one : take (room - length (take k bytes)) (b ∷ []) ≡ b ∷ [] = take_all _ (b ∷ []) (omega (arith, short)) in
    rw (one, add-one) (take-suc-set bytes k b (omega (arith, long)))

pub put_full : (t : List ℕ) (b : ℕ) → room ≤ length t → t ≡ followed_by t (b ∷ [])
unfolding followed_by
put_full t b h =
    let e : room - length t ≡ 0 = omega arith in
    rw (e, append-nil) refl

-- a number, digit by digit
more : (f : ℕ) → f ≢ 0 → f ≡ suc (f - 1)
more f h = omega arith

small : (f x : ℕ) → x < 10 → digits_in (suc f) x ≡ (48 + x % 10) ∷ []
unfolding digits_in
small f x h =
    let e : x % 10 ≡ x = omega arith in
    rw (lt-ltb x 10 h, e) refl

tens : (f x : ℕ) → 10 ≤ x → digits_in (suc f) x ≡ digits_in f (x / 10) ++ (48 + x % 10) ∷ []
unfolding digits_in
tens f x h = rw (le-ltb x 10 h) refl

pub digits-none : (f x : ℕ) → f ≡ 0 → [] ≡ digits_in f x
unfolding digits_in
digits-none f x e = rw e refl

pub digits-one : (f x g : ℕ) → f ≢ 0 → x < 10 → g ≡ 48 + x % 10 → g ∷ [] ≡ digits_in f x
digits-one f x g hf hx e = rw (more f hf, small (f - 1) x hx, e) refl

pub digits_more : (f x g : ℕ) → f ≢ 0 → 10 ≤ x → g ≡ 48 + x % 10 → digits_in (f - 1) (x / 10) ++ g ∷ [] ≡ digits_in f x
digits_more f x g hf hx e = ap (λ (y : ℕ). digits_in (f - 1) (x / 10) ++ y ∷ []) e ∙ sym (ap (λ (n : ℕ). digits_in n x) (more f hf) ∙ tens (f - 1) x hx)
