-- Where an operation of a list ends, and which ids it has. Assumes nothing.
use Prim.Native.Nat.{ℕ, min, ◌+◌, ◌-◌, ◌≤◌, ◌<◌}
use mathlib.Core.Path.{◌≡◌, sym, ap, ap₂, ◌∙◌}
use mathlib.Core.List.{List, []}
use native.Mathlib.Omega.{arith}
use lib.ListN.{length, get_or, take, drop, length-drop, drop_of_length-le}
use lib.Seq.{take-nil}
use Rattle.std.proofs.Math.Nat.{min_comm}
use Rattle.std.proofs.lemmas.List.{take_all, take_min, get_or-drop, drop-drop}
use Rattle.mates.proofs.Sound.{same-default}
use lib.Dec.{ltb}
use Rattle.std.specs.List.{slice_range}
use borrow.Author.Tests.{ltb-true, ltb-false}
use Rattle.limits.specs.Limits.{none}
use Rattle.graphs.proofs.Count.{cases}
use Rattle.lent.specs.Operations.{end_of, ids_at}

-- ---- the place after an operation

-- it is the least of two
pub end-least : (len at m to : ℕ) → to ≡ min (at + 2 + m) len → to ≡ end_of len at m
unfolding end_of
end-least len at m to e = cases (ltb (at + 2 + m) len)
    (λ t. let l = ltb-true (at + 2 + m) len t in rw t (omega arith))
    (λ t. let l = ltb-false (at + 2 + m) len t in rw t (omega arith))

-- it is further on, and at most the end
pub end_after : (len at m : ℕ) → at < len → (at < end_of len at m) × (end_of len at m ≤ len)
unfolding end_of
end_after len at m h = cases (ltb (at + 2 + m) len)
    (λ t. let l = ltb-true (at + 2 + m) len t in rw t (omega arith, omega arith))
    (λ t. rw t (omega arith, omega arith))

-- ---- the ids of an operation

pub ids-none : (ops : List ℕ) (at : ℕ) → length ops ≤ at + 2 → [] ≡ ids_at ops at
unfolding ids_at
ids-none ops at h = rw (drop_of_length-le ops {i = at + 2} h) (sym (take-nil (get_or ops (at + 1) none)))

-- the same as what stands behind the code and the count, as many as there are
pub ids-part : (ops x : List ℕ) (at k m : ℕ) → x ≡ slice_range ops at (length ops) → 2 ≤ length x → k ≡ length x
    → m ≡ min (length (take (k - 2) (drop 2 x))) (get_or x 1 0) → take m (take (k - 2) (drop 2 x)) ≡ ids_at ops at
unfolding ids_at
ids-part ops x at k m e l f h =
    let long : length (drop at ops) ≡ length ops - at = length-drop at ops in
    let whole : x ≡ drop at ops = e ∙ take_all (length ops - at) (drop at ops) (omega arith) in
    let all : take (k - 2) (drop 2 x) ≡ drop 2 x = take_all (k - 2) (drop 2 x) (omega (arith, length-drop 2 x)) in
    let there : at + 1 < length ops = omega (arith, ap length whole) in
    let count : get_or x 1 0 ≡ get_or ops (at + 1) none = ap (λ y. get_or y 1 0) whole ∙ get_or-drop at ops 1 0 ∙ same-default ops (at + 1) 0 none there in
    let ids : drop 2 x ≡ drop (at + 2) ops = ap (drop 2) whole ∙ drop-drop 2 at ops in
    let most : m ≡ min (get_or x 1 0) (length (drop 2 x)) = h ∙ min_comm _ _ ∙ ap (λ (y : List ℕ). min (get_or x 1 0) (length y)) all in
    ap₂ take most all ∙ take_min (get_or x 1 0) (drop 2 x) ∙ ap₂ take count ids
