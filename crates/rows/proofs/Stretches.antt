-- Laws of rows as stretches of the sheet, and of lookup. Assumes nothing.
use Prim.Native.Nat.{ℕ, zero, suc, ◌+◌, ◌/◌, ◌<◌}
use mathlib.Core.Path.{◌≡◌, refl, sym, ◌∙◌}
use mathlib.Core.Bool.{Bool, true, false, cond}
use mathlib.Core.List.{List, [], ◌∷◌}
use mathlib.Core.Logic.{⊎_elim}
use native.Mathlib.Nat.{not-suc-le-zero}
use native.Mathlib.Omega.{arith}
use lib.Dec.{eqb, ltb, leb}
use lib.ListN.{length, get_or}
use borrow.Author.Tests.{eqb-true, eq-eqb, ltb-true, ltb-false, lt-ltb, le-ltb, le-leb, lt-leb}
use Rattle.limits.specs.Limits.{none}
use Rattle.graphs.specs.Count.{least}
use Rattle.graphs.specs.Graph.{has, joined}
use Rattle.graphs.proofs.Count.{cases, clash, same_test, least-passes, least-found}
use Rattle.graphs.proofs.Graph.{has-head, has-tail, has-cases}
use Rattle.words.specs.Words.{numbers}
use Rattle.rows.specs.Sheet.{order, start, slot, part, stretch, graph_of}
use Rattle.rows.specs.Lookup.{place, place_in, neighbors_of, unknown}
use Rattle.rows.specs.declared.Stretch.{Stretch}
use Rattle.rows.specs.declared.UnknownId.{UnknownId}
use Rattle.std.specs.Prelude.{Option, Some, None, is_some, Ok, Err}
use Rattle.std.specs.List.{position, position_or_len}
use Rattle.std.specs.Option.{UnwrapsOrElse}
use Rattle.std.specs.Slice.{IsGetRangeResult}
use Rattle.std.proofs.Common.{Bor}
use Rattle.words.proofs.Bytes.{numbers-length}

-- the bytes at two places, or none where there are no such bytes
pub part-got : (s : List ℕ) (a e : ℕ) (got : Option (Bor (List ℕ))) (r : Bor (List ℕ)) → IsGetRangeResult s a e got → UnwrapsOrElse got (λ x. x.now ≡ []) r
    → r.now ≡ part s a e
unfolding part
part-got s a e (Some x) r h u = rw (u, le-leb a e h.0.0, le-leb e (length s) h.0.1) h.0.2
part-got s a e None r h u =
    u
    ∙ ⊎_elim (λ l. rw (lt-leb a e l))
    (λ l. cases (leb a e) (λ t. rw (t, lt-leb e (length s) l)) (λ t. rw t))
    h.0

-- the part between the two places that `neighbors` answers is the row
pub row-there : (s : List ℕ) (v : ℕ) (at : Stretch) → neighbors_of s v ≡ Ok at → part s at.from at.to ≡ stretch s v
unfolding neighbors_of stretch
row-there s v at h = cases (ltb v (order s))
    (λ t. let h' : Ok (record { from = slot s (start s v); to = slot s (start s (v + 1)) }) ≡ Ok at = rw t at h in
    let p : record { from = slot s (start s v); to = slot s (start s (v + 1)) } ≡ at = cc in
    rw (t, ← p))
    (λ t. let h' : Err (unknown v) ≡ Ok at = rw t at h in cc)

-- and an id that is no route has no bytes
pub row-none : (s : List ℕ) (v : ℕ) (e : UnknownId) → neighbors_of s v ≡ Err e → [] ≡ stretch s v
unfolding neighbors_of stretch
row-none s v e h = cases (ltb v (order s))
    (λ t. let h' : Ok (record { from = slot s (start s v); to = slot s (start s (v + 1)) }) ≡ Err e = rw t at h in cc)
    (λ t. rw t)

-- the least that passes: number 0, or the least of those above it
least-shift : (n : ℕ) (P : ℕ → Bool) → least (suc n) P ≡ cond (P 0) 0 (suc (least n (λ i. P (suc i))))
unfolding least
least-shift zero P = cases (P 0) (λ t. rw t) (λ t. rw t)
least-shift (suc n) P = cases (P 0)
    (λ t. let r : least (suc n) P ≡ 0 = rw t at (least-shift n P) in rw (r, t, lt-ltb 0 (suc n) (omega arith)))
    (λ t. let r : least (suc n) P ≡ suc (least n (λ i. P (suc i))) = rw t at (least-shift n P) in
    let k : ℕ = least n (λ i. P (suc i)) in
    rw (r, t) (cases (ltb k n)
    (λ u. rw (u, lt-ltb (suc k) (suc n) (omega (arith, ltb-true k n u))))
    (λ u. rw (u, le-ltb (suc k) (suc n) (omega (arith, ltb-false k n u))) (cases (P (suc n)) (λ q. rw q) (λ q. rw q)))))

-- the first place of x, as a search along the row finds it
place-position : (row : List ℕ) (x : ℕ) → position_or_len (λ w. eqb w x) row ≡ place row x
unfolding place least
place-position [] x = refl
place-position (w ∷ ws) x = cases (eqb w x)
    (λ t. rw t (sym (least-shift (length ws) (λ i. eqb (get_or (w ∷ ws) i none) x) ∙ rw t)))
    (λ t. let one : 1 + position_or_len (λ v. eqb v x) ws ≡ suc (place ws x) = omega (arith, place-position ws x) in rw t (one ∙ sym (least-shift (length ws) (λ i. eqb (get_or (w ∷ ws) i none) x) ∙ rw t)))

pub place_in-position : (row : List ℕ) (x : ℕ) → position (λ w. eqb w x) row ≡ place_in row x
unfolding place_in
place_in-position row x = rw (place-position row x)

-- ---- the first place in a row, and standing in it

pub has-at : (row : List ℕ) (i d : ℕ) → i < length row → has row (get_or row i d) ≡ true
has-at [] i d h = absurd (not-suc-le-zero h)
has-at (x ∷ xs) zero d h = has-head x xs
has-at (x ∷ xs) (suc i) d h = has-tail x xs (get_or xs i d) (has-at xs i d (omega arith))

pub has-place : (row : List ℕ) (x d : ℕ) → has row x ≡ true → (i : ℕ) × (i < length row) × (get_or row i d ≡ x)
unfolding has
has-place [] x d h = clash false h refl
has-place (y ∷ ys) x d h = has-cases y ys x h
    (λ e. (0, omega arith, sym e))
    (λ k. let r = has-place ys x d k in (suc r.0, omega (arith, r.1), r.2))

-- x stands in the row exactly where its first place is below the row's length
pub place-has : (row : List ℕ) (x : ℕ) → ltb (place row x) (length row) ≡ has row x
unfolding place
place-has row x = same_test (ltb (place row x) (length row)) (has row x)
    (λ t. let l = ltb-true _ _ t in
    let e : get_or row (place row x) none ≡ x = eqb-true _ _ (least-passes (length row) (λ i. eqb (get_or row i none) x) l) in
    rw (← e) (has-at row (place row x) none l))
    (λ h. let r = has-place row x none h in
    lt-ltb _ _ (least-found (length row) (λ i. eqb (get_or row i none) x) r.0 r.1 (eq-eqb _ _ r.2)))

-- whether w stands in the row of v, by its first place in the stretch
pub place-joined : (s row : List ℕ) (v w p : ℕ) → row ≡ stretch s v → p ≡ place (numbers row) w → joined (graph_of s) v w ≡ ltb p (length row / 4)
place-joined s row v w p er ep = rw (ep, ← numbers-length row, place-has (numbers row) w, er)

-- the same of the place where it stands: there is one where the first place is within the row
place_in-within : (row : List ℕ) (x : ℕ) → is_some (place_in row x) ≡ ltb (place row x) (length row)
unfolding place_in
place_in-within row x = cases (ltb (place row x) (length row)) (λ t. rw t refl) (λ t. rw t refl)

pub place_in-has : (row : List ℕ) (x : ℕ) → is_some (place_in row x) ≡ has row x
place_in-has row x = place_in-within row x ∙ place-has row x

pub place_in-joined : (s row : List ℕ) (v w : ℕ) (at : Option ℕ) → row ≡ stretch s v → at ≡ place_in (numbers row) w → joined (graph_of s) v w ≡ is_some at
place_in-joined s row v w at er ea =
    let p = place (numbers row) w in
    rw (ea, place_in-within (numbers row) w, numbers-length row) (place-joined s row v w p er refl)
