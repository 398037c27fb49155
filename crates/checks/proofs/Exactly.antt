-- Refusal 10 is given exactly when its condition holds and no check that runs before it has fired. Assumes nothing.
use Prim.Native.Nat.{ℕ, ◌<◌}
use mathlib.Core.Path.{◌≡◌, refl, sym, ap}
use mathlib.Core.Logic.{◌≢◌, ◌↔◌}
use mathlib.Core.Bool.{Bool, true, false, not}
use mathlib.Core.List.{List}
use native.Mathlib.Omega.{arith}
use Rattle.std.specs.Prelude.{Err, is_err}
use lib.Dec.{eqb, ltb}
use borrow.Author.Tests.{eqb-false, ne_eqb, ltb-true, ltb-false, lt-ltb, not-true, not-false}
use Rattle.limits.specs.Limits.{routes}
use Rattle.graphs.specs.Count.{least}
use Rattle.graphs.proofs.Count.{cases, clash, least_first, least-passes, least-is}
use Rattle.mates.specs.Partners.{mate_of, count_of, fits}
use Rattle.refusals.specs.Reply.{Reply}
use Rattle.checks.specs.Checks.{misfit, pairing_reply}
use Rattle.refusals.specs.declared.Refusal.TheVariants.{BadPartner, WrongCount}

-- where none below n passes, the least is n
pub least-absent : (n : ℕ) (P : ℕ → Bool) → ((k : ℕ) → k < n → P k ≡ false) → ltb (least n P) n ≡ false
least-absent n P h = cases (ltb (least n P) n)
    (λ t. let l = ltb-true (least n P) n t in clash (P (least n P)) (least-passes n P l) (h (least n P) l))
    (λ t. t)

-- 10, a partner: it does not fit, every lower one does, and the details are the id and its value
pub bad-partner-exactly : (ps : List ℕ) (n i x : ℕ)
    → (pairing_reply ps n ≡ Err (BadPartner i x)) ↔ ((i < routes) × (fits ps i ≡ false) × ((j : ℕ) → j < i → fits ps j ≡ true) × (x ≡ mate_of ps i))
unfolding pairing_reply misfit
bad-partner-exactly ps n i x =
    let P : ℕ → Bool = λ j. not (fits ps j) in (
      λ h. cases (ltb (misfit ps) routes)
          (λ t.
          let z : ◌≡◌ {A = Reply} (Err (BadPartner (misfit ps) (mate_of ps (misfit ps)))) (Err (BadPartner i x)) = rw t at h in
          let e : misfit ps ≡ i = cc in
          let f : mate_of ps (misfit ps) ≡ x = cc in
          let l : misfit ps < routes = ltb-true (misfit ps) routes t in (
            rw e at l,
            rw (← e) (not-true (fits ps (misfit ps)) (least-passes routes P l)),
            λ j k. not-false (fits ps j) (least_first routes P j (rw (← e) at k)),
            rw (← e) (sym f),
          ))
          (λ t. cases (eqb n (count_of ps))
          (λ u. clash true refl (sym (ap is_err (rw (t, u) at h))))
          (λ u. let z : ◌≡◌ {A = Reply} (Err (WrongCount n)) (Err (BadPartner i x)) = rw (t, u) at h in let y : ◌≡◌ {A = ℕ} 0 1 = cc in absurd (omega arith))),
      λ h.
          let e : misfit ps ≡ i = least-is routes P i h.0 (rw h.1 refl) (λ j k. rw (h.2 j k) refl) in
          rw (e, lt-ltb i routes h.0, h.3) refl,
    )

-- 10, the count: every partner fits, and the count is another
pub wrong-count-exactly : (ps : List ℕ) (n m : ℕ)
    → (pairing_reply ps n ≡ Err (WrongCount m)) ↔ (((i : ℕ) → i < routes → fits ps i ≡ true) × (n ≢ count_of ps) × (m ≡ n))
unfolding pairing_reply misfit
wrong-count-exactly ps n m =
    let P : ℕ → Bool = λ j. not (fits ps j) in (
      λ h. cases (ltb (misfit ps) routes)
          (λ t. let z : ◌≡◌ {A = Reply} (Err (BadPartner (misfit ps) (mate_of ps (misfit ps)))) (Err (WrongCount m)) = rw t at h in let y : ◌≡◌ {A = ℕ} 0 1 = cc in absurd (omega arith))
          (λ t. cases (eqb n (count_of ps))
          (λ u. clash true refl (sym (ap is_err (rw (t, u) at h))))
          (λ u.
          let z : ◌≡◌ {A = Reply} (Err (WrongCount n)) (Err (WrongCount m)) = rw (t, u) at h in
          (λ i l. not-false (fits ps i) (least_first routes P i (omega (arith, ltb-false (misfit ps) routes t))), eqb-false n (count_of ps) u, cc))),
      λ h. rw (least-absent routes P (λ i l. rw (h.0 i l) refl), ne_eqb n (count_of ps) h.1, h.2) refl,
    )
