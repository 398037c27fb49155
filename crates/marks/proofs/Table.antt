-- What the table says of who names whom, mark by mark. The crate `entries` cites these laws. Assumes nothing.
use Prim.Native.Nat.{ℕ, suc, ◌+◌, ◌*◌, ◌-◌, ◌/◌, ◌%◌, ◌^◌, ◌≤◌, ◌<◌, max}
use mathlib.Core.Path.{◌≡◌, refl, ap, ◌∙◌}
use mathlib.Core.Logic.{◌≢◌}
use mathlib.Core.Bool.{Bool, true, false, ◌&&◌, ◌||◌}
use mathlib.Core.List.{List}
use native.Mathlib.Omega.{arith}
use native.Mathlib.Nat.{div_self, div-eq_of_lt, zero-div, pow-suc}
use lib.Bits.{bit_or, or_shr, or_step}
use lib.Dec.{eqb, ltb}
use lib.Pow.{pow_pos, pow-lt, pow-add, shl-shr}
use borrow.Author.Tests.{eqb-true, eqb-false, eq-eqb, ne_eqb, ltb-true, ltb-false, lt-ltb}
use lib.ListN.{length, get_or, length-set, get_or-replicate}
use lib.Seq.{get_or-set_same, get_or-set_other}
use Rattle.limits.specs.Limits.{routes}
use Rattle.graphs.specs.Count.{bit}
use Rattle.graphs.proofs.Count.{cases, same_test, tests, and-false}
use Rattle.marks.specs.Marks.{bit_at, with_bit, word_of, bit_of, marked, mark, unmarked}

-- ---- bits

-- bit i of a power of two
power-bit : (i j : ℕ) → 2 ^ j / 2 ^ i % 2 ≡ bit (eqb i j)
power-bit i j = cases (eqb i j)
    (λ t. let e : i ≡ j = eqb-true i j t in rw (t, e, div_self (pow_pos j)))
    (λ t. let ne = eqb-false i j t in
    cases (ltb i j)
    (λ l. let h : i < j = ltb-true i j l in
    let e : j ≡ suc (j - i - 1) + i = omega arith in
    let p : 2 ^ j ≡ 2 ^ suc (j - i - 1) * 2 ^ i = ap (λ (k : ℕ). 2 ^ k) e ∙ pow-add 2 (suc (j - i - 1)) i in
    rw (t, p, shl-shr (2 ^ suc (j - i - 1)) i, pow-suc 2 (j - i - 1)) (omega arith))
    (λ l. let h : j < i = omega (arith, ltb-false i j l) in rw (t, div-eq_of_lt (pow-lt h))))

bit-set : (x i j : ℕ) → bit_at (with_bit x j) i ≡ eqb i j || bit_at x i
bit-set x i j =
    let e : bit_or x (2 ^ j) / 2 ^ i % 2 ≡ max (x / 2 ^ i % 2) (bit (eqb i j))
    = rw (or_shr x (2 ^ j) i, or_step (x / 2 ^ i) (2 ^ j / 2 ^ i), power-bit i j) (parity (bit_or (x / 2 ^ i / 2) (2 ^ j / 2 ^ i / 2)) (x / 2 ^ i) (eqb i j)) in
    rw e (either (x / 2 ^ i) (eqb i j))
  where
    parity : (h y : ℕ) (b : Bool) → (h * 2 + max (y % 2) (bit b)) % 2 ≡ max (y % 2) (bit b)
    parity h y true = omega arith
    parity h y false = omega arith

    either : (y : ℕ) (b : Bool) → eqb (max (y % 2) (bit b)) 1 ≡ b || eqb (y % 2) 1
    either y true = eq-eqb (max (y % 2) 1) 1 (omega arith)
    either y false = let e : max (y % 2) 0 ≡ y % 2 = omega arith in rw e

-- ---- the table of who names whom

abbrev pub Whole : List ℕ → Type 0
Whole t = length t ≡ routes * (routes / 32)

pub mark-whole : (t : List ℕ) (v w : ℕ) → Whole t → Whole (mark t v w)
unfolding mark
mark-whole t v w h = cases (ltb v routes)
    (λ p. cases (ltb w routes) (λ q. rw (p, q, length-set) h) (λ q. rw (p, q) h))
    (λ p. rw p h)

-- a mark more: v names w, and whoever was named is named
pub mark-at : (t : List ℕ) → Whole t → (v w a b : ℕ) → v < routes → a < routes → b < routes
    → marked (mark t v w) a b ≡ eqb a v && eqb b w || marked t a b
unfolding mark marked
mark-at t whole v w a b lv la lb = cases (ltb w routes)
    (λ lw.
    let lw' : w < routes = ltb-true w routes lw in
    let x : ℕ = get_or t (word_of v w) 0 in
    rw (lt-ltb _ _ lv, lt-ltb _ _ la, lt-ltb _ _ lb, lw)
    (cases (eqb (word_of a b) (word_of v w))
    (λ e.
    let e' : word_of a b ≡ word_of v w = eqb-true (word_of a b) (word_of v w) e in
    let ea : a ≡ v = omega arith in
    let eb : eqb (bit_of b) (bit_of w) ≡ eqb b w = same_test (eqb (bit_of b) (bit_of w)) (eqb b w)
    (λ k. let k' : bit_of b ≡ bit_of w = eqb-true (bit_of b) (bit_of w) k in eq-eqb b w (omega arith)) (λ k. eq-eqb (bit_of b) (bit_of w) (ap bit_of (eqb-true b w k))) in
    rw (e', get_or-set_same t (word_of v w) (with_bit x (bit_of w)) 0 (omega (arith, whole)), eq-eqb a v ea)
    (bit-set x (bit_of b) (bit_of w) ∙ ap (λ (z : Bool). z || bit_at x (bit_of b)) eb))
    (λ e.
    let ne : word_of a b ≢ word_of v w = eqb-false (word_of a b) (word_of v w) e in
    let apart : eqb a v && eqb b w ≡ false = cases (eqb a v && eqb b w)
    (λ k. let j : (a ≡ v) × (b ≡ w) = simp tests at k in absurd (ne (rw (j.0, j.1) refl))) (λ k. k) in
    rw (get_or-set_other t (word_of v w) (word_of a b) (with_bit x (bit_of w)) 0 ne, apart))))
    (λ lw.
    let lw' : routes ≤ w = ltb-false w routes lw in
    let ne : eqb b w ≡ false = ne_eqb b w (λ e. omega arith) in
    rw (lt-ltb _ _ lv, lt-ltb _ _ la, lt-ltb _ _ lb, lw, ne, and-false (eqb a v)))

-- in a table with nothing marked no one names anyone
pub nothing-marked : (a b : ℕ) → marked unmarked a b ≡ false
unfolding marked unmarked
nothing-marked a b = cases (ltb a routes)
    (λ p. cases (ltb b routes)
    (λ q. rw (p, q, get_or-replicate {A = ℕ} (routes * (routes / 32)) (word_of a b) 0 0 (omega (arith, ltb-true a routes p, ltb-true b routes q)), zero-div (2 ^ bit_of b)))
    (λ q. rw (p, q)))
    (λ p. rw p)
