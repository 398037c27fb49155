-- Each refusal of a path is given exactly when its condition holds and no check that runs before it has fired. Assumes nothing.
use Prim.Native.Nat.{ℕ, ◌+◌, ◌*◌, ◌/◌, ◌%◌, ◌≤◌, ◌<◌}
use mathlib.Core.Path.{◌≡◌, refl, sym, ap}
use mathlib.Core.Logic.{◌≢◌, ◌↔◌}
use mathlib.Core.Bool.{Bool, true}
use mathlib.Core.List.{List}
use native.Mathlib.Omega.{arith}
use lib.ListN.{length}
use Rattle.std.specs.Prelude.{Err, is_err}
use lib.Dec.{eqb, ltb, leb}
use borrow.Author.Tests.{eqb-true, eqb-false, eq-eqb, ne_eqb, ltb-true, ltb-false, lt-ltb, leb-true, leb-false, le-leb, lt-leb}
use Rattle.limits.specs.Limits.{routes}
use Rattle.graphs.proofs.Count.{cases, clash, least_first, least-passes, least-is}
use Rattle.mates.specs.Partners.{id_at}
use Rattle.refusals.specs.Reply.{Reply}
use Rattle.checks.proofs.Exactly.{least-absent}
use Rattle.paths.specs.Paths.{unknown, self_pair, path_reply}
use Rattle.refusals.specs.declared.Refusal.TheVariants.{OddPath, NoSuchId, SelfPair}

-- 13
pub odd-path-exactly : (path : List ℕ) (n : ℕ) → (path_reply path ≡ Err (OddPath n)) ↔ ((length path % 2 ≡ 1) × (n ≡ length path))
unfolding path_reply
odd-path-exactly path n = (
  λ h. cases (eqb (length path % 2) 1)
      (λ t. let z : ◌≡◌ {A = Reply} (Err (OddPath (length path))) (Err (OddPath n)) = rw t at h in (eqb-true (length path % 2) 1 t, cc))
      (λ t. cases (ltb (unknown path) (length path))
      (λ u. let z : ◌≡◌ {A = Reply} (Err (NoSuchId (unknown path) (id_at path (unknown path)))) (Err (OddPath n)) = rw (t, u) at h in let y : ◌≡◌ {A = ℕ} 0 1 = cc in absurd (omega arith))
      (λ u. cases (ltb (self_pair path) (length path / 2))
      (λ v. let z : ◌≡◌ {A = Reply} (Err (SelfPair (2 * self_pair path) (id_at path (2 * self_pair path)))) (Err (OddPath n)) = rw (t, u, v) at h in let y : ◌≡◌ {A = ℕ} 0 1 = cc in absurd (omega arith))
      (λ v. clash true refl (sym (ap is_err (rw (t, u, v) at h)))))),
  λ h. rw (eq-eqb (length path % 2) 1 h.0, h.1) refl,
)

-- 14 in a path: the count is even, the id at k is not below the limit, and all before it are
pub no-such-id-exactly : (path : List ℕ) (k i : ℕ)
    → (path_reply path ≡ Err (NoSuchId k i))
    ↔ ((length path % 2 ≢ 1) × (k < length path) × (routes ≤ id_at path k) × ((j : ℕ) → j < k → id_at path j < routes) × (i ≡ id_at path k))
unfolding path_reply unknown
no-such-id-exactly path k i =
    let P : ℕ → Bool = λ j. leb routes (id_at path j) in (
      λ h. cases (eqb (length path % 2) 1)
          (λ t. let z : ◌≡◌ {A = Reply} (Err (OddPath (length path))) (Err (NoSuchId k i)) = rw t at h in let y : ◌≡◌ {A = ℕ} 0 1 = cc in absurd (omega arith))
          (λ t. cases (ltb (unknown path) (length path))
          (λ u.
          let z : ◌≡◌ {A = Reply} (Err (NoSuchId (unknown path) (id_at path (unknown path)))) (Err (NoSuchId k i)) = rw (t, u) at h in
          let e : unknown path ≡ k = cc in
          let f : id_at path (unknown path) ≡ i = cc in
          let l : unknown path < length path = ltb-true (unknown path) (length path) u in (
            eqb-false (length path % 2) 1 t,
            rw e at l,
            rw (← e) (leb-true routes (id_at path (unknown path)) (least-passes (length path) P l)),
            λ j m. leb-false routes (id_at path j) (least_first (length path) P j (rw (← e) at m)),
            rw (← e) (sym f),
          ))
          (λ u. cases (ltb (self_pair path) (length path / 2))
          (λ v. let z : ◌≡◌ {A = Reply} (Err (SelfPair (2 * self_pair path) (id_at path (2 * self_pair path)))) (Err (NoSuchId k i)) = rw (t, u, v) at h in let y : ◌≡◌ {A = ℕ} 0 1 = cc in absurd (omega arith))
          (λ v. clash true refl (sym (ap is_err (rw (t, u, v) at h)))))),
      λ h.
          let e : unknown path ≡ k = least-is (length path) P k h.1 (le-leb routes (id_at path k) h.2) (λ j m. lt-leb routes (id_at path j) (h.3 j m)) in
          rw (ne_eqb (length path % 2) 1 h.0, e, lt-ltb k (length path) h.1, h.4) refl,
    )

-- 15 in a path: the count is even, all ids are below the limit, pair k is one of an id with itself, and no pair before it is
pub self-pair-exactly : (path : List ℕ) (k i : ℕ)
    → (path_reply path ≡ Err (SelfPair (2 * k) i))
    ↔ ((length path % 2 ≢ 1) × ((j : ℕ) → j < length path → id_at path j < routes) × (k < length path / 2) × (id_at path (2 * k) ≡ id_at path (2 * k + 1))
    × ((j : ℕ) → j < k → id_at path (2 * j) ≢ id_at path (2 * j + 1)) × (i ≡ id_at path (2 * k)))
unfolding path_reply unknown self_pair
self-pair-exactly path k i =
    let P : ℕ → Bool = λ j. leb routes (id_at path j) in
    let Q : ℕ → Bool = λ j. eqb (id_at path (2 * j)) (id_at path (2 * j + 1)) in (
      λ h. cases (eqb (length path % 2) 1)
          (λ t. let z : ◌≡◌ {A = Reply} (Err (OddPath (length path))) (Err (SelfPair (2 * k) i)) = rw t at h in let y : ◌≡◌ {A = ℕ} 0 1 = cc in absurd (omega arith))
          (λ t. cases (ltb (unknown path) (length path))
          (λ u. let z : ◌≡◌ {A = Reply} (Err (NoSuchId (unknown path) (id_at path (unknown path)))) (Err (SelfPair (2 * k) i)) = rw (t, u) at h in let y : ◌≡◌ {A = ℕ} 0 1 = cc in absurd (omega arith))
          (λ u. cases (ltb (self_pair path) (length path / 2))
          (λ v.
          let z : ◌≡◌ {A = Reply} (Err (SelfPair (2 * self_pair path) (id_at path (2 * self_pair path)))) (Err (SelfPair (2 * k) i)) = rw (t, u, v) at h in
          let d : 2 * self_pair path ≡ 2 * k = cc in
          let e : self_pair path ≡ k = omega arith in
          let f : id_at path (2 * self_pair path) ≡ i = cc in
          let l : self_pair path < length path / 2 = ltb-true (self_pair path) (length path / 2) v in (
            eqb-false (length path % 2) 1 t,
            λ j m. leb-false routes (id_at path j) (least_first (length path) P j (omega (arith, ltb-false (unknown path) (length path) u))),
            rw e at l,
            rw (← e) (eqb-true (id_at path (2 * self_pair path)) (id_at path (2 * self_pair path + 1)) (least-passes (length path / 2) Q l)),
            λ j m. eqb-false (id_at path (2 * j)) (id_at path (2 * j + 1)) (least_first (length path / 2) Q j (rw (← e) at m)),
            rw (← e) (sym f),
          ))
          (λ v. clash true refl (sym (ap is_err (rw (t, u, v) at h)))))),
      λ h.
          let e : self_pair path ≡ k = least-is (length path / 2) Q k h.2 (eq-eqb (id_at path (2 * k)) (id_at path (2 * k + 1)) h.3) (λ j m. ne_eqb (id_at path (2 * j)) (id_at path (2 * j + 1)) (h.4 j m)) in
          rw (ne_eqb (length path % 2) 1 h.0, least-absent (length path) P (λ j m. lt-leb routes (id_at path j) (h.1 j m)), e, lt-ltb k (length path / 2) h.2, h.5) refl,
    )
