-- When the replies accept, and what follows: a sound list with the right count, two ids that can be paired. Assumes nothing.
use Prim.Native.Nat.{ℕ, ◌≤◌, ◌<◌}
use mathlib.Core.Path.{◌≡◌, refl, ap}
use mathlib.Core.Logic.{◌≢◌}
use mathlib.Core.Bool.{true, not, ◌&&◌}
use mathlib.Core.List.{List}
use native.Mathlib.Omega.{arith}
use Rattle.std.specs.Prelude.{is_err}
use lib.ListN.{length}
use lib.Dec.{eqb, ltb}
use borrow.Author.Tests.{eqb-true, eqb-false, eq-eqb, ne_eqb, ltb-true, ltb-false, lt-ltb, not-true, not-false}
use Rattle.limits.specs.Limits.{routes, none}
use Rattle.graphs.proofs.Count.{cases, clash, tests, or_cases, or_right, least_first, least-passes}
use Rattle.mates.specs.Partners.{mate_of, count_of, fits, Sound}
use Rattle.limits.specs.Answer.{accepted}
use Rattle.checks.specs.Checks.{misfit, pairing_reply, id_reply, pair_reply}

-- ---- 10

-- a partner that fits is none, or another id that names the id back
fits-cases : {C : Type 0} (ps : List ℕ) (i : ℕ) → fits ps i ≡ true
    → (mate_of ps i ≡ none → C) → (mate_of ps i < routes → mate_of ps i ≢ i → mate_of ps (mate_of ps i) ≡ i → C) → C
unfolding fits
fits-cases ps i h f g = or_cases (eqb (mate_of ps i) none) (ltb (mate_of ps i) routes && not (eqb (mate_of ps i) i) && eqb (mate_of ps (mate_of ps i)) i) h
    (λ t. f (eqb-true (mate_of ps i) none t))
    (λ t. let k : ((mate_of ps i < routes) × (mate_of ps i ≢ i)) × (mate_of ps (mate_of ps i) ≡ i) = simp tests at t in g k.0.0 k.0.1 k.1)

all_fit : (ps : List ℕ) → length ps ≡ routes → ((i : ℕ) → i < routes → fits ps i ≡ true) → Sound ps
all_fit ps e h = record {
  places = e;
  none-or-id = λ i l k. fits-cases ps i (h i l) (λ z. z) (λ a b c. absurd (omega arith));
  apart = λ i l k. fits-cases ps i (h i l) (λ z. absurd (omega arith)) (λ a b c. b);
  back = λ i l k. fits-cases ps i (h i l) (λ z. absurd (omega arith)) (λ a b c. c);
}

sound-fits : (ps : List ℕ) → Sound ps → (i : ℕ) → i < routes → fits ps i ≡ true
unfolding fits
sound-fits ps s i l = cases (ltb (mate_of ps i) routes)
    (λ t.
    let k = ltb-true (mate_of ps i) routes t in
    or_right (eqb (mate_of ps i) none) (ltb (mate_of ps i) routes && not (eqb (mate_of ps i) i) && eqb (mate_of ps (mate_of ps i)) i)
    (simp tests ((k, s.apart i l k), s.back i l k)))
    (λ t. rw (s.none-or-id i l (ltb-false (mate_of ps i) routes t)) refl)

-- no id passes the test for a bad partner: every partner fits
no-misfit : (ps : List ℕ) → routes ≤ misfit ps → (i : ℕ) → i < routes → fits ps i ≡ true
unfolding misfit
no-misfit ps h i l = not-false (fits ps i) (least_first routes (λ j. not (fits ps j)) i (omega arith))

-- 10 is not given: the list is sound and the kept count right
pub pairing-accepted : (ps : List ℕ) (n : ℕ) → length ps ≡ routes → pairing_reply ps n ≡ accepted → Sound ps × (n ≡ count_of ps)
unfolding pairing_reply
pairing-accepted ps n e h = cases (ltb (misfit ps) routes)
    (λ t. clash true refl (ap is_err (rw t at h)))
    (λ t. (
      all_fit ps e (no-misfit ps (ltb-false (misfit ps) routes t)),
      cases (eqb n (count_of ps))
          (eqb-true n (count_of ps))
          (λ u. clash true refl (ap is_err (rw (t, u) at h))),
    ))

-- and it is not given to such a list
pub sound-accepted : (ps : List ℕ) → Sound ps → pairing_reply ps (count_of ps) ≡ accepted
unfolding pairing_reply misfit
sound-accepted ps s = cases (ltb (misfit ps) routes)
    (λ t.
    let l : misfit ps < routes = ltb-true (misfit ps) routes t in
    clash (fits ps (misfit ps)) (sound-fits ps s (misfit ps) l) (not-true (fits ps (misfit ps)) (least-passes routes (λ i. not (fits ps i)) l)))
    (λ t. rw (t, eq-eqb (count_of ps) (count_of ps) refl) refl)

-- ---- 14 and 15

-- neither 14 nor 15 is given to two ids: they are ids, and not the same
pub pair-accepted : (a b : ℕ) → pair_reply a b ≡ accepted → (a < routes) × (b < routes) × (a ≢ b)
unfolding pair_reply id_reply
pair-accepted a b h = cases (ltb a routes)
    (λ t. cases (ltb b routes)
    (λ u. cases (eqb a b)
    (λ v. clash true refl (ap is_err (rw (t, u, v) at h)))
    (λ v. (ltb-true a routes t, ltb-true b routes u, eqb-false a b v)))
    (λ u. clash true refl (ap is_err (rw (t, u) at h))))
    (λ t. clash true refl (ap is_err (rw t at h)))

pub accepted-pair : (a b : ℕ) → a < routes → b < routes → a ≢ b → pair_reply a b ≡ accepted
unfolding pair_reply id_reply
accepted-pair a b la lb ne = rw (lt-ltb a routes la, lt-ltb b routes lb, ne_eqb a b ne) refl
