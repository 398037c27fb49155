-- A table of pairs whose rest holds none: with no pair at first, and with one pair more. Assumes nothing.
use Prim.Native.Nat.{ℕ, suc, ◌+◌, ◌-◌, ◌/◌, ◌≤◌, ◌<◌}
use mathlib.Core.Path.{◌≡◌, refl, sym, ◌∙◌}
use mathlib.Core.List.{List, [], ◌∷◌, ◌++◌, append_assoc}
use native.Mathlib.Omega.{arith}
use lib.ListN.{length, take, drop, set, replicate}
use Rattle.limits.specs.Limits.{routes}
use Rattle.std.proofs.lemmas.List.{take_more_set, length-take-le, length-set, drop-replicate, set_split}
use Rattle.std.proofs.Math.Seq.{drop-append-add}
use Rattle.listing.specs.Listing.{nobody, padded}
use Rattle.listing.specs.declared.Edge.{Edge}

pub none-padded : padded [] ≡ replicate (routes / 2) nobody
unfolding padded
none-padded = refl

-- behind the first pair of what stands past k, one cell less holds none
pub rest : (xs : List Edge) (k : ℕ) → length xs ≡ k → k < routes / 2 → drop (suc k) (padded xs) ≡ replicate (routes / 2 - (k + 1)) nobody
unfolding padded
rest xs k t h =
    let a : drop (length xs + 1) (xs ++ replicate (routes / 2 - length xs) nobody) ≡ drop 1 (replicate (routes / 2 - length xs) nobody) = drop-append-add xs (replicate (routes / 2 - length xs) nobody) 1 in
    let b : drop 1 (replicate (routes / 2 - length xs) nobody) ≡ replicate (routes / 2 - length xs - 1) nobody = drop-replicate 1 (routes / 2 - length xs) nobody in
    let m : length xs + 1 ≡ suc k = omega (arith, t) in
    let n : routes / 2 - length xs - 1 ≡ routes / 2 - (k + 1) = omega (arith, t, h) in
    let c : drop (suc k) (xs ++ replicate (routes / 2 - length xs) nobody) ≡ drop 1 (replicate (routes / 2 - length xs) nobody) = rw m at a in
    c ∙ rw n at b

module _ (es : List Edge) (k : ℕ) (h : k < routes / 2) (l : length es ≡ routes / 2) (p : padded (take k es) ≡ es) where
  pub one-padded : (e : Edge) → padded (take (k + 1) (set es k e)) ≡ set es k e
  unfolding padded
  one-padded e =
      let n : length (take (k + 1) (set es k e)) ≡ k + 1 = length-take-le (k + 1) (set es k e) (omega (arith, h, l, length-set es k e)) in
      let r : drop (suc k) es ≡ replicate (routes / 2 - (k + 1)) nobody = (λ i. drop (suc k) (sym p i)) ∙ rest (take k es) k (length-take-le k es (omega (arith, h, l))) h in
      rw (n, take_more_set es k e (omega (arith, h, l)), set_split es k e (omega (arith, h, l)), r) (append_assoc (take k es) (e ∷ []) (replicate (routes / 2 - (k + 1)) nobody))
