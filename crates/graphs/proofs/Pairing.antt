-- The laws of a pairing: no route is its own partner, partners differ, each pair has two routes, and two joined unpaired routes make one pair more.
-- Assumes nothing.
use mathlib.Core.Path.{◌≡◌, refl, sym}
use mathlib.Core.Logic.{◌≢◌}
use mathlib.Core.Bool.{Bool, true, not, cond, ◌&&◌}
use Prim.Native.Nat.{ℕ, suc, ◌+◌, ◌≤◌, ◌<◌}
use native.Mathlib.Omega.{arith}
use lib.Dec.{eqb, ltb}
use borrow.Author.Tests.{eqb-true, eqb-false, eq-eqb, ne_eqb, lt-ltb}
use Rattle.graphs.specs.Count.{count, but}
use Rattle.graphs.specs.Graph.{Graph, Simple, joined}
use Rattle.graphs.specs.Pairing.{paired, Pairing, unpaired, pairs, sessions}
use Rattle.graphs.proofs.Count.{cases, count-cong, count-remove, count-not, count-split, count-inj, tests}
use Rattle.graphs.proofs.Graph.{joined-apart}

module _ (g : Graph) (mate : ℕ → ℕ) (s : Simple g) (p : Pairing g mate) where
  pub mate-moves : (v : ℕ) → v < g.order → mate v < g.order → mate v ≢ v
  mate-moves v l k e = joined-apart g s v (mate v) l (p.edge v l k) (sym e)

  pub mate-inj : (v w : ℕ) → v < g.order → w < g.order → mate v < g.order → mate w < g.order → mate v ≡ mate w → v ≡ w
  mate-inj v w l k a b e = cc (p.back v l a, p.back w k b)

  -- each pair has two routes
  pub pairs-unpaired : pairs g mate + pairs g mate + unpaired g mate ≡ g.order
  unfolding pairs unpaired
  pairs-unpaired =
      let n : ℕ = g.order in
      let P : ℕ → Bool = paired g mate in
      let up : ℕ → Bool = λ v. P v && ltb v (mate v) in
      let down : ℕ → Bool = λ v. but (P v) (ltb v (mate v)) in
      let up_is : (v : ℕ) → up v ≡ true → (mate v < n) × (v < mate v) = λ v q. simp tests at q in
      let down_is : (v : ℕ) → v < n → down v ≡ true → (mate v < n) × (mate v < v)
      = λ v l q. let h : (mate v < n) × (mate v ≤ v) = simp tests at q in (h.0, omega (arith, mate-moves v l h.0)) in
      let one : count n up ≤ count n down = count-inj n n up down mate
      (λ v l q. (up_is v q).0)
      (λ v l q. let h = up_is v q in let b = p.back v l h.0 in simp tests (omega arith, omega arith))
      (λ v w l k q r. mate-inj v w l k (up_is v q).0 (up_is w r).0) in
      let two : count n down ≤ count n up = count-inj n n down up mate
      (λ v l q. (down_is v l q).0)
      (λ v l q. let h = down_is v l q in let b = p.back v l h.0 in simp tests (omega arith, omega arith))
      (λ v w l k q r. mate-inj v w l k (down_is v l q).0 (down_is w k r).0) in
      omega (arith, count-split n P (λ v. ltb v (mate v)), count-not n P)

  -- a session for each pair, and one for each unpaired route
  pub sessions-are : sessions g mate ≡ pairs g mate + unpaired g mate
  unfolding sessions
  sessions-are = omega (arith, pairs-unpaired)

-- ---- two joined unpaired routes become a pair

-- v and w are partners, and everyone else's partner is as it was
unfoldable pub pair_up : (ℕ → ℕ) → ℕ → ℕ → ℕ → ℕ
pair_up mate v w x = cond (eqb x v) w (cond (eqb x w) v (mate x))

pub pair_up-first : (mate : ℕ → ℕ) (v w : ℕ) → pair_up mate v w v ≡ w
unfolding pair_up
pair_up-first mate v w = rw (eq-eqb v v refl)

pub pair_up-second : (mate : ℕ → ℕ) (v w : ℕ) → v ≢ w → pair_up mate v w w ≡ v
unfolding pair_up
pair_up-second mate v w ne = rw (ne_eqb w v (λ e. ne (sym e)), eq-eqb w w refl)

pub pair_up-other : (mate : ℕ → ℕ) (v w x : ℕ) → x ≢ v → x ≢ w → pair_up mate v w x ≡ mate x
unfolding pair_up
pair_up-other mate v w x a b = rw (ne_eqb x v a, ne_eqb x w b)

module _ (g : Graph) (s : Simple g) (mate : ℕ → ℕ) (p : Pairing g mate) (v w : ℕ) (lv : v < g.order) (lw : w < g.order)
    (j : joined g v w ≡ true) (fv : g.order ≤ mate v) (fw : g.order ≤ mate w) where
  apart : v ≢ w
  apart = joined-apart g s v w lv j

  -- a route is the first, the second, or another whose partner, if any, is another too
  pair_up-cases : {C : Type 0} (x : ℕ) → (x ≡ v → pair_up mate v w x ≡ w → C) → (x ≡ w → pair_up mate v w x ≡ v → C)
      → (x ≢ v → x ≢ w → pair_up mate v w x ≡ mate x → C) → C
  pair_up-cases x f h k = cases (eqb x v)
      (λ t. let e = eqb-true x v t in f e (rw e (pair_up-first mate v w)))
      (λ t. cases (eqb x w)
      (λ u. let e = eqb-true x w u in h e (rw e (pair_up-second mate v w apart)))
      (λ u. k (eqb-false x v t) (eqb-false x w u) (pair_up-other mate v w x (eqb-false x v t) (eqb-false x w u))))

  pub pair_up-pairing : Pairing g (pair_up mate v w)
  pair_up-pairing = record {
    edge = λ x l k. pair_up-cases x
        (λ e m. rw (m, e) j)
        (λ e m. rw (m, e) (s.both_ways v w lv j))
        (λ a b m. rw m (p.edge x l (rw m at k)));
    back = λ x l k. pair_up-cases x
        (λ e m. cc (pair_up-second mate v w apart))
        (λ e m. cc (pair_up-first mate v w))
        (λ a b m.
        let r : mate x < g.order = rw m at k in
        let q : mate (mate x) ≡ x = p.back x l r in
        let o : pair_up mate v w (mate x) ≡ mate (mate x) = pair_up-other mate v w (mate x) (λ e. let z : mate v ≡ x = cc in omega arith) (λ e. let z : mate w ≡ x = cc in omega arith) in
        cc);
  }

  -- one pair more
  pub pair_up-pairs : pairs g (pair_up mate v w) ≡ suc (pairs g mate)
  unfolding unpaired
  pair_up-pairs =
      let n : ℕ = g.order in
      let F : ℕ → Bool = λ x. not (paired g mate x) in
      let F' : ℕ → Bool = λ x. but (F x) (eqb x v) in
      let rest : count n (λ x. but (F' x) (eqb x w)) ≡ unpaired g (pair_up mate v w)
      = count-cong n (λ x. but (F' x) (eqb x w)) (λ x. not (paired g (pair_up mate v w) x)) (λ x l. pair_up-cases x
      (λ e m. rw (m, eq-eqb x v e, ne_eqb x w (λ u. apart (cc)), lt-ltb w g.order lw))
      (λ e m. rw (m, eq-eqb x w e, lt-ltb v g.order lv))
      (λ a b m. rw (m, ne_eqb x v a, ne_eqb x w b))) in
      omega (
        arith,
        count-remove n F v lv (simp tests fv),
        count-remove n F' w lw (simp tests (fw, λ e. apart (sym e))),
        pairs-unpaired g mate s p,
        pairs-unpaired g (pair_up mate v w) s pair_up-pairing,
      )
