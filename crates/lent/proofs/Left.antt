-- The operations that are still to come at a place of a list. Assumes nothing.
use Prim.Native.Nat.{ℕ, zero, suc, ◌+◌, ◌-◌, ◌≤◌, ◌<◌}
use mathlib.Core.Path.{◌≡◌, refl, sym, ap}
use mathlib.Core.List.{List, [], ◌∷◌}
use native.Mathlib.Omega.{arith}
use lib.ListN.{length, get_or}
use mathlib.Core.Bool.{cond}
use lib.Dec.{ltb}
use borrow.Author.Tests.{ltb-true, lt-ltb, le-ltb}
use Rattle.limits.specs.Limits.{none}
use Rattle.graphs.proofs.Count.{cases}
use Rattle.lent.specs.Operations.{end_of, ids_at, operation_at, operations_from, operations}
use Rattle.lent.proofs.Ends.{end_after}

-- at the end of the list there are none
pub left-none : (f at : ℕ) (ops : List ℕ) → length ops ≤ at → operations_from f at ops ≡ []
unfolding operations_from
left-none zero at ops h = refl
left-none (suc f) at ops h = rw (le-ltb at (length ops) h) refl

-- the place of the next one
abbrev pub next_at : List ℕ → ℕ → ℕ
next_at ops at = end_of (length ops) at (get_or ops (at + 1) none)

-- how many are looked for at most does not matter, where it is no fewer than there are numbers
enough : (f g at : ℕ) (ops : List ℕ) → length ops ≤ at + f → length ops ≤ at + g → operations_from f at ops ≡ operations_from g at ops
unfolding operations_from
enough zero g at ops h i = sym (left-none g at ops (omega arith))
enough (suc f) zero at ops h i = left-none (suc f) at ops (omega arith)
enough (suc f) (suc g) at ops h i = cases (ltb at (length ops))
    (λ t.
    let l = ltb-true at (length ops) t in
    let e = end_after (length ops) at (get_or ops (at + 1) none) l in
    ap (λ os. cond (ltb at (length ops)) (operation_at ops at ∷ os) []) (enough f g (next_at ops at) ops (omega arith) (omega arith)))
    (λ t. rw t refl)

-- within the list there is one, and those behind it
pub left-some : (ops : List ℕ) (at : ℕ) → at < length ops
    → operations_from (length ops - at) at ops ≡ operation_at ops at ∷ operations_from (length ops - next_at ops at) (next_at ops at) ops
unfolding operations_from
left-some ops at l =
    let e = end_after (length ops) at (get_or ops (at + 1) none) l in
    let z : length ops - at ≡ suc (length ops - (at + 1)) = omega arith in
    rw (z, operations_from, lt-ltb at (length ops) l) (ap (λ os. operation_at ops at ∷ os) (enough (length ops - (at + 1)) (length ops - next_at ops at) (next_at ops at) ops (omega arith) (omega arith)))

pub left-next : (ops ids : List ℕ) (at code m to : ℕ) → at < length ops → code ≡ get_or ops at none → ids ≡ ids_at ops at
    → m ≡ get_or ops (at + 1) none → to ≡ end_of (length ops) at m
    → operations_from (length ops - at) at ops ≡ record { code = code; ids = ids } ∷ operations_from (length ops - to) to ops
left-next ops ids at code m to l e f g h = rw (h, g, f, e) (left-some ops at l)

pub left-all : (ops : List ℕ) → operations_from (length ops - 0) 0 ops ≡ operations ops
unfolding operations
left-all ops = let z : length ops - 0 ≡ length ops = omega arith in rw z refl
