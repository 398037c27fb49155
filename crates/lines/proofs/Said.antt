-- The lines of a report, over plain variables. Assumes nothing.
use Prim.Native.Nat.{ℕ, ◌+◌, ◌≤◌, ◌<◌}
use mathlib.Core.Path.{◌≡◌, refl}
use mathlib.Core.Logic.{◌⊎◌, inl, inr}
use mathlib.Core.Bool.{true, false}
use mathlib.Core.List.{List, ◌++◌}
use native.Mathlib.Numerals.{add-one}
use borrow.Author.Tests.{lt-ltb, le-ltb}
use Rattle.causes.specs.Given.{set_of}
use Rattle.text.specs.Put.{followed_by}
use Rattle.text.specs.Digits.{digits, spaced}
use Rattle.text.proofs.Putting.{nothing, then}
use Rattle.lines.specs.Lines.{each, line_end, pair_line, member}

-- the line of a pair, and no line
pub pair_put : (t a b u : List ℕ) (n v w x y : ℕ) → w < n → v < w → x ≡ v → y ≡ w → a ≡ followed_by t (digits x) → b ≡ followed_by a (spaced y) → u ≡ followed_by b line_end → u ≡ followed_by t (pair_line n v w)
unfolding pair_line
pair_put t a b u n v w x y h g ex ey ea eb eu =
    rw (lt-ltb w n h, lt-ltb v w g, eu, eb, ea, ex, ey, then t (digits v) (spaced w), then t (digits v ++ spaced w) line_end) refl

pub pair-none : (t : List ℕ) (n v w : ℕ) → ((w < n) × (w ≤ v)) ⊎ (n ≤ w) → t ≡ followed_by t (pair_line n v w)
unfolding pair_line
pair-none t n v w h = elim h [
  | inl e ↦ let lt : w < n = e.0 in rw (lt-ltb w n lt, le-ltb v w e.1) (nothing t)
  | inr e ↦ rw (le-ltb w n e) (nothing t)
]

-- a route of the set, and one outside it
pub member-put : (t u witness : List ℕ) (v x : ℕ) → true ≡ set_of witness v → x ≡ v → u ≡ followed_by t (spaced x) → u ≡ followed_by t (member witness v)
unfolding member
member-put t u witness v x h e eu = rw (← h, ← e) eu

pub member-none : (t witness : List ℕ) (v : ℕ) → false ≡ set_of witness v → t ≡ followed_by t (member witness v)
unfolding member
member-none t witness v h = rw (← h) (nothing t)

-- a text for each number below n: none, and one more
pub each-none : (f : ℕ → List ℕ) (t : List ℕ) → t ≡ followed_by t (each f 0)
unfolding each
each-none f t = nothing t

pub each-more : (f : ℕ → List ℕ) (t a u xs : List ℕ) (v : ℕ) → a ≡ followed_by t (each f v) → xs ≡ f v → u ≡ followed_by a xs → u ≡ followed_by t (each f (v + 1))
unfolding each
each-more f t a u xs v ea ex eu = rw (eu, ex, ea, add-one) (then t (each f v) (f v))
