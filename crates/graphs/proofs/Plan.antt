-- The fewest sessions: no plan has fewer than the order less the largest size, and a pairing gives a plan with the order less its own size.
-- The sessions of a plan, taken from the end of the list, yield a pairing: a session of two routes neither of which stands in a later one adds a pair, and
-- any other adds at most one route to those that stand. Assumes nothing.
use mathlib.Core.Path.{◌≡◌, refl, sym, ◌∙◌}
use mathlib.Core.Logic.{◌≢◌}
use mathlib.Core.Bool.{Bool, true, false, not, cond, ◌&&◌}
use mathlib.Core.List.{List, [], ◌∷◌}
use Prim.Native.Nat.{ℕ, zero, suc, ◌+◌, ◌-◌, ◌≤◌, ◌<◌}
use native.Mathlib.Nat.{not-suc-le-zero}
use native.Mathlib.Omega.{arith}
use lib.Dec.{eqb, ltb}
use lib.IntN.{pos}
use lib.ListN.{length}
use borrow.Author.Tests.{eqb-true, eqb-false, eq-eqb, ne_eqb, lt-ltb, ltb-true, ltb-false}
use Rattle.graphs.specs.Count.{count}
use Rattle.graphs.specs.Graph.{Graph, Simple, joined}
use Rattle.graphs.specs.Surplus.{surplus}
use Rattle.graphs.specs.Pairing.{Pairing, paired, unpaired, pairs, sessions}
use Rattle.graphs.specs.Largest.{Largest}
use Rattle.graphs.specs.Plan.{Session, alone, both, may_hold, may_hold_all, stands_in, stands, Plan}
use Rattle.graphs.proofs.Count.{cases, clash, or_cases, or_right, tests, count-all, count_none, count-one-more}
use Rattle.graphs.proofs.Pairing.{mate-moves, sessions-are, pair_up, pair_up-other, pair_up-pairing, pair_up-pairs}
use Rattle.graphs.proofs.Largest.{largest-tight}

-- ---- what a session says

-- two routes that may be held together are routes, and joined
pub both-held : (g : Graph) (v w : ℕ) → may_hold g (both v w) ≡ true → ((v < g.order) × (w < g.order)) × (joined g v w ≡ true)
unfolding may_hold
both-held g v w h = simp tests at h

-- ---- from sessions to a pairing

-- a pairing of routes that stand in the sessions, with a pair for each route that stands beyond the number of sessions
record Yield (g : Graph) (ss : List Session) : Type 0 where
  mate : ℕ → ℕ
  pairing : Pairing g mate
  within : (v : ℕ) → v < g.order → mate v < g.order → stands ss v ≡ true
  enough : count g.order (stands ss) ≤ length ss + pairs g mate

module _ (g : Graph) (s : Simple g) where
  none-stand : Yield g []
  unfolding stands
  none-stand = record {
    mate = λ v. g.order;
    pairing = record { edge = λ v l k. absurd (omega arith); back = λ v l k. absurd (omega arith) };
    within = λ v l k. absurd (omega arith);
    enough = omega (arith, count_none g.order (stands []) (λ v l. refl));
  }

  -- a session that brings at most the route a
  brings-one : (x : Session) (ss : List Session) (a : ℕ) → ((v : ℕ) → v ≢ a → stands_in x v ≡ true → stands ss v ≡ true) → Yield g ss → Yield g (x ∷ ss)
  unfolding stands
  brings-one x ss a h y = record {
    mate = y.mate;
    pairing = y.pairing;
    within = λ v l k. or_right (stands_in x v) (stands ss v) (y.within v l k);
    enough = omega (
      arith,
      y.enough,
      count-one-more g.order (stands ss) (stands (x ∷ ss)) a (λ v l ne q. or_cases (stands_in x v) (stands ss v) q (h v ne) (λ t. t)),
    );
  }

  -- a session of two routes that stand in none of the others
  brings-two : (v w : ℕ) (ss : List Session) → may_hold g (both v w) ≡ true → stands ss v ≡ false → stands ss w ≡ false → Yield g ss → Yield g (both v w ∷ ss)
  unfolding stands stands_in
  brings-two v w ss h nv nw y =
      let l = (both-held g v w h).0 in
      let j = (both-held g v w h).1 in
      let free : (x : ℕ) → x < g.order → stands ss x ≡ false → g.order ≤ y.mate x
      = λ x k t. cases (ltb (y.mate x) g.order) (λ u. clash (stands ss x) (y.within x k (ltb-true (y.mate x) g.order u)) t) (ltb-false (y.mate x) g.order) in
      let fv = free v l.0 nv in
      let fw = free w l.1 nw in
      record {
        mate = pair_up y.mate v w;
        pairing = pair_up-pairing g s y.mate y.pairing v w l.0 l.1 j fv fw;
        within = λ x k m. cases (eqb x v)
            (λ t. rw t)
            (λ t. cases (eqb x w)
            (λ u. rw (t, u))
            (λ u. rw (t, u) (y.within x k (rw (pair_up-other y.mate v w x (eqb-false x v t) (eqb-false x w u)) at m))));
        enough = omega (
          arith,
          y.enough,
          pair_up-pairs g s y.mate y.pairing v w l.0 l.1 j fv fw,
          count-one-more g.order (stands (alone w ∷ ss)) (stands (both v w ∷ ss)) v (λ x k ne q. rw (ne_eqb x v ne) at q),
          count-one-more g.order (stands ss) (stands (alone w ∷ ss)) w (λ x k ne q. rw (ne_eqb x w ne) at q),
        );
      }

  yields : (ss : List Session) → may_hold_all g ss ≡ true → Yield g ss
  unfolding may_hold_all stands_in
  yields [] h = none-stand
  yields (alone v ∷ ss) h =
      let k : (may_hold g (alone v) ≡ true) × (may_hold_all g ss ≡ true) = simp tests at h in
      brings-one (alone v) ss v (λ x ne q. absurd (ne (eqb-true x v q))) (yields ss k.1)
  yields (both v w ∷ ss) h =
      let k : (may_hold g (both v w) ≡ true) × (may_hold_all g ss ≡ true) = simp tests at h in
      let y : Yield g ss = yields ss k.1 in
      cases (stands ss v)
      (λ t. brings-one (both v w) ss w (λ x ne q. or_cases (eqb x v) (eqb x w) q (λ e. rw (eqb-true x v e) t) (λ e. absurd (ne (eqb-true x w e)))) y)
      (λ t. cases (stands ss w)
      (λ u. brings-one (both v w) ss v (λ x ne q. or_cases (eqb x v) (eqb x w) q (λ e. absurd (ne (eqb-true x v e))) (λ e. rw (eqb-true x w e) u)) y)
      (λ u. brings-two v w ss k.0 t u y))

  -- no plan has fewer sessions than the order less the largest size
  pub plan-least : {m : ℕ} {ss : List Session} → Largest g m → Plan g ss → g.order - m ≤ length ss
  plan-least {m} {ss} L p =
      let y : Yield g ss = yields ss p.held in
      omega (arith, y.enough, L.most y.mate y.pairing, count-all g.order (stands ss) (λ v l. p.every v (omega arith)))

-- ---- from a pairing to sessions

-- for the routes below k: a session for each pair, at its lower route, and one for each unpaired route
unfoldable pub planned : Graph → (ℕ → ℕ) → ℕ → List Session
planned g mate zero = []
planned g mate (suc k) = let ss = planned g mate k in cond (paired g mate k) (cond (ltb k (mate k)) (both k (mate k) ∷ ss) ss) (alone k ∷ ss)

module _ (g : Graph) (s : Simple g) (mate : ℕ → ℕ) (p : Pairing g mate) where
  planned-length : (k : ℕ) → length (planned g mate k) ≡ count k (λ v. paired g mate v && ltb v (mate v)) + count k (λ v. not (paired g mate v))
  unfolding planned count
  planned-length zero = refl
  planned-length (suc k) = cases (paired g mate k)
      (λ t. cases (ltb k (mate k)) (λ u. rw (t, u) (omega (arith, planned-length k))) (λ u. rw (t, u) (omega (arith, planned-length k))))
      (λ t. rw t (omega (arith, planned-length k)))

  planned-held : (k : ℕ) → k ≤ g.order → may_hold_all g (planned g mate k) ≡ true
  unfolding planned may_hold_all may_hold
  planned-held zero l = refl
  planned-held (suc k) l =
      let rest = planned-held k (omega arith) in
      cases (paired g mate k)
      (λ t. cases (ltb k (mate k))
      (λ u. rw (t, u) (let m = ltb-true (mate k) g.order t in simp tests (((omega arith, m), p.edge k l m), rest)))
      (λ u. rw (t, u) rest))
      (λ t. rw t (simp tests (omega arith, rest)))

  -- who stands for the routes below k stands for those below more
  planned-keeps : (k x : ℕ) → stands (planned g mate k) x ≡ true → stands (planned g mate (suc k)) x ≡ true
  unfolding planned stands
  planned-keeps k x h = cases (paired g mate k)
      (λ t. cases (ltb k (mate k)) (λ u. rw (t, u) (or_right (stands_in (both k (mate k)) x) (stands (planned g mate k) x) h)) (λ u. rw (t, u) h))
      (λ t. rw t (or_right (stands_in (alone k) x) (stands (planned g mate k) x) h))

  planned-from : (v x k : ℕ) → v < k → stands (planned g mate (suc v)) x ≡ true → stands (planned g mate k) x ≡ true
  planned-from v x zero l h = absurd (not-suc-le-zero l)
  planned-from v x (suc k) l h = cases (eqb v k)
      (λ e. rw (← eqb-true v k e) h)
      (λ e. planned-keeps k x (planned-from v x k (omega (arith, eqb-false v k e)) h))

  planned-alone : (v : ℕ) → paired g mate v ≡ false → stands (planned g mate (suc v)) v ≡ true
  unfolding planned stands stands_in
  planned-alone v t = rw (t, eq-eqb v v refl)

  planned-both : (v x : ℕ) → mate v < g.order → v < mate v → stands_in (both v (mate v)) x ≡ true → stands (planned g mate (suc v)) x ≡ true
  unfolding planned stands
  planned-both v x m u h = rw (lt-ltb (mate v) g.order m, lt-ltb v (mate v) u, h)

  planned-every : (v : ℕ) → v < g.order → stands (planned g mate g.order) v ≡ true
  unfolding stands_in
  planned-every v l = cases (paired g mate v)
      (λ t. let m = ltb-true (mate v) g.order t in
      let b = p.back v l m in
      cases (ltb v (mate v))
      (λ u. planned-from v v g.order l (planned-both v v m (ltb-true v (mate v) u) (rw (eq-eqb v v refl))))
      (λ u. planned-from (mate v) v g.order m (planned-both (mate v) v (omega arith) (omega (arith, ltb-false v (mate v) u, mate-moves g mate s p v l m))
      (or_right (eqb v (mate v)) (eqb v (mate (mate v))) (eq-eqb v (mate (mate v)) (sym b))))))
      (λ t. planned-from v v g.order l (planned-alone v t))

  -- a pairing gives a plan with the order less its size
  pub pairing-plan : (ss : List Session) × Plan g ss × (length ss ≡ sessions g mate)
  unfolding pairs unpaired
  pairing-plan = (
    planned g mate g.order,
    record { held = planned-held g.order (omega arith); every = planned-every },
    planned-length g.order ∙ sym (sessions-are g mate s p),
  )

-- so the order less the largest size is reached
pub largest-plan : (g : Graph) → Simple g → {m : ℕ} → Largest g m → (ss : List Session) × Plan g ss × (length ss ≡ g.order - m)
unfolding sessions
largest-plan g s L = let r = pairing-plan g s L.mate L.pairing in (r.0, r.1, omega (arith, r.2, L.reached))

-- ---- what a set whose surplus is met shows: no plan has fewer sessions than the pairing leaves
pub no-fewer-sessions : (g : Graph) → Simple g → (mate : ℕ → ℕ) → Pairing g mate → (A : ℕ → Bool) → surplus g A ≡ pos (unpaired g mate)
    → {ss : List Session} → Plan g ss → sessions g mate ≤ length ss
unfolding sessions
no-fewer-sessions g s mate p A e q = plan-least g s (largest-tight g s mate p A e) q
