-- An edge between two outer routes v and w of one tree: the walks meet, and the ring becomes a group; this keeps the invariant. Assumes nothing.
use mathlib.Core.Path.{◌≡◌, refl, sym, ap, ◌∙◌, subst}
use mathlib.Core.Logic.{◌≢◌, ◌⊎◌, inl, inr}
use mathlib.Core.List.{List, ◌∷◌, ◌++◌}
use Prim.Native.Nat.{ℕ, zero, suc, ◌+◌, ◌-◌, ◌≤◌, ◌<◌}
use native.Mathlib.Omega.{arith}
use native.Mathlib.Nat.{eq-zero-or-pos}
use native.Mathlib.Decide.{ℕ_discrete, dec_lt}
use lib.Dec.{eqb, ltb}
use lib.ListN.{length, length-append}
use borrow.Author.Tests.{eqb-true, eqb-false, eq-eqb, ne_eqb, ltb-true, ltb-false}
use Rattle.graphs.specs.Graph.{Graph, Simple}
use Rattle.theory.specs.Search.Tables.{groups, cell, store, one_more, Line, Rings, Tables, turns}
use Rattle.theory.specs.Search.Rings.{Way, bridge, left, right, stride, linked, around, shift, absorb, contract}
use Rattle.graphs.proofs.Sets.{is, is-self, Is, same, other, is?, cnt, cnt-append}
use Rattle.trees.proofs.Ring.Chain.{Chain, chain-rotate, Place, place}
use Rattle.trees.proofs.Ring.Stored.{Step}
use Rattle.trees.proofs.Forest.Grow.{Set1}
use Rattle.trees.proofs.Forest.Applied.{partner}
use Rattle.trees.proofs.Forest.Shape.{plain, inner-alone, outer-in}
use Rattle.trees.proofs.Forest.Walk.{leg-head, leg-inner, leg-label}
use Rattle.trees.proofs.Forest.Bow.{not-inner}
use Rattle.trees.proofs.Forest.State.{State, state-bridge}
use Rattle.trees.proofs.Forest.Link.{Tied, tied-start, tied-left, tied-right, not-met, x-out, y-out, x-inner, y-inner, absorbed, go-in}
use Rattle.theory.proofs.Search.Cells.{by-test, cell-past, store_length, store-two-length, store_same, stored_one, stored-two, one_more-is}
use Rattle.theory.proofs.Search.Line.{label_of, tail-room, tail-le, tail-reached, around-all, Admitted, admit-all}
use Rattle.theory.proofs.Search.Shift.{moved, shift-length, shift-off, shift-at}
use Rattle.theory.proofs.Search.Ready.{Adj, swap, bounded, RingsSized, Ready, Later, forest, mate-is, top_in, partner-in}

module _ {g : Graph} {room : ℕ} {s : Tables} (S : Simple g) (R : Ready g room s) (v w : ℕ)
    (ov : label_of s.line.label v ≡ 2) (ow : label_of s.line.label w ≡ 2) (e : Adj g v w)
    (tree : cell (groups room) s.root (cell room s.top v) ≡ cell (groups room) s.root (cell room s.top w)) (ne : cell room s.top w ≢ cell room s.top v) where
  abbrev lim : ℕ
  lim = groups room

  abbrev n : ℕ
  n = g.order

  abbrev t : ℕ → ℕ
  t = cell room s.top

  abbrev lab : ℕ → ℕ
  lab = label_of s.line.label

  abbrev rk : ℕ → ℕ
  rk = cell lim s.rank

  v-in : v < n
  v-in = e.0

  w-in : w < n
  w-in = (bounded S v w e).1

  -- the bridge stored
  abbrev B : Rings
  B = (bridge room s v w).rings

  Q : State (Adj g) n (partner s.mate) s.ids lim (cell lim s.rings.up) (cell lim B.next) (cell lim B.out) (cell lim B.into) (cell lim s.half)
      t (cell lim s.base) (cell room s.parent) rk (cell lim s.root) lab
  unfolding bridge
  Q = state-bridge (R.state.tops w w-in)
      (stored_one lim s.rings.next (t w) (t v) (top_in R w w-in) R.sized.rings.next)
      (stored_one lim s.rings.out (t w) w (top_in R w w-in) R.sized.rings.out)
      (stored_one lim s.rings.into (t w) v (top_in R w w-in) R.sized.rings.into) R.state

  abbrev TiedBy : Way → ℕ → Type 0
  TiedBy z k = Tied (swap S) Q v w z.x z.y k (cell lim z.rings.up) (cell lim z.rings.next) (cell lim z.rings.out) (cell lim z.rings.into)

  -- after j turns: met, or j steps gone
  record Turned (j : ℕ) (z : Way) : Type 0 where
    sized : RingsSized room z.rings
    tied : TiedBy z z.k
    state : (t z.x ≡ t z.y) ⊎ (z.k ≡ j)

  start-turned : Turned 0 (bridge room s v w)
  unfolding bridge
  start-turned = record {
    sized = record {
      up = R.sized.rings.up;
      next = store_length lim s.rings.next (t w) (t v) ∙ R.sized.rings.next;
      out = store_length lim s.rings.out (t w) w ∙ R.sized.rings.out;
      into = store_length lim s.rings.into (t w) v ∙ R.sized.rings.into;
    };
    tied = tied-start (swap S) Q v w ov ow (swap S v w e)
        (store_same lim s.rings.next (t w) (t v) (top_in R w w-in) R.sized.rings.next)
        (store_same lim s.rings.out (t w) w (top_in R w w-in) R.sized.rings.out)
        (store_same lim s.rings.into (t w) v (top_in R w w-in) R.sized.rings.into);
    state = inr refl;
  }

  -- the two walks are no deeper than the queue allows
  deep : rk (t v) + rk (t w) ≤ (s.line.tail + s.line.tail - 2) + (s.line.tail + s.line.tail - 2)
  deep = omega (arith, R.ranks (t v) (top_in R v v-in), R.ranks (t w) (top_in R w w-in))

  tail-small : s.line.tail ≤ room
  tail-small = omega (arith, tail-le R.line, R.fits.routes)

  -- a step up from an outer route x
  module _ (x : ℕ) (o : lab x ≡ 2) where
    x-in : x < n
    x-in = outer-in (forest R) o

    b-in : cell lim s.base (t x) < n
    b-in = (forest R).home-range x x-in

    abbrev i : ℕ
    i = cell room s.mate (cell lim s.base (t x))

    i-is : partner s.mate (cell lim s.base (t x)) ≡ i
    i-is = mate-is R _ b-in

    i-lim : i < lim
    i-lim = omega (arith, partner-in R _ b-in, R.fits.routes)

    module _ (l : lab (partner s.mate (cell lim s.base (t x))) ≡ 1) where
      i-inner : lab i ≡ 1
      i-inner = ap lab (sym i-is) ∙ l

      p-outer : lab (cell room s.parent i) ≡ 2
      p-outer = ((forest R).inner i i-inner).parent

      g-not-i : t x ≢ i
      g-not-i = not-inner (swap S) (forest R) o i-inner

      q-lim : t (cell room s.parent i) < lim
      q-lim = top_in R _ (outer-in (forest R) p-outer)

      i-not-q : i ≢ t (cell room s.parent i)
      i-not-q q = not-inner (swap S) (forest R) p-outer i-inner (sym q)

  module _ (j : ℕ) (z : Way) (T : Turned j z) (d : t z.x ≢ t z.y) where
    -- the steps are counted short of the end
    k-room : suc z.k < lim
    k-room = omega (arith, not-met (swap S) Q T.tied tree d, deep, tail-small)

    k-is : one_more room z.k ≡ suc z.k
    k-is = one_more-is room z.k (omega (arith, k-room))

    gone : (t z.x ≡ t z.y) ⊎ (z.k ≡ j) → one_more room z.k ≡ suc j
    gone (inl q) = absurd (d q)
    gone (inr q) = k-is ∙ ap suc q

    xo : lab z.x ≡ 2
    xo = x-out (swap S) Q T.tied

    yo : lab z.y ≡ 2
    yo = y-out (swap S) Q T.tied

    -- the walk from v is as deep, and goes a step
    left-turned : rk (t z.y) ≤ rk (t z.x) → Turned (suc j) (left room s z)
    unfolding left
    left-turned le =
        let l = x-inner (swap S) Q T.tied tree d le in
        let a = top_in R z.x (x-in z.x xo) in
        let b = i-lim z.x xo in
        let c = g-not-i z.x xo l in
        record {
          sized = record {
            up = store-two-length lim z.rings.up _ _ _ _ ∙ T.sized.up;
            next = store-two-length lim z.rings.next _ _ _ _ ∙ T.sized.next;
            out = store-two-length lim z.rings.out _ _ _ _ ∙ T.sized.out;
            into = store-two-length lim z.rings.into _ _ _ _ ∙ T.sized.into;
          };
          tied = subst (TiedBy (left room s z)) (sym k-is) (tied-left (swap S) Q T.tied tree d le (i-is z.x xo)
              (stored-two lim z.rings.up _ _ _ _ a b T.sized.up c) (stored-two lim z.rings.next _ _ _ _ a b T.sized.next c)
              (stored-two lim z.rings.out _ _ _ _ a b T.sized.out c) (stored-two lim z.rings.into _ _ _ _ a b T.sized.into c));
          state = inr (gone T.state);
        }

    -- the walk from w is deeper
    right-turned : rk (t z.x) < rk (t z.y) → Turned (suc j) (right room s z)
    unfolding right
    right-turned lt =
        let l = y-inner (swap S) Q T.tied lt in
        let b = i-lim z.y yo in
        let c = i-not-q z.y yo l in
        let q = q-lim z.y yo l in
        record {
          sized = record {
            up = store-two-length lim z.rings.up _ _ _ _ ∙ T.sized.up;
            next = store-two-length lim z.rings.next _ _ _ _ ∙ T.sized.next;
            out = store-two-length lim z.rings.out _ _ _ _ ∙ T.sized.out;
            into = store-two-length lim z.rings.into _ _ _ _ ∙ T.sized.into;
          };
          tied = subst (TiedBy (right room s z)) (sym k-is) (tied-right (swap S) Q T.tied lt (i-is z.y yo)
              (stored-two lim z.rings.up _ _ _ _ (top_in R z.y (x-in z.y yo)) b T.sized.up (g-not-i z.y yo l)) (stored-two lim z.rings.next _ _ _ _ b q T.sized.next c)
              (stored-two lim z.rings.out _ _ _ _ b q T.sized.out c) (stored-two lim z.rings.into _ _ _ _ b q T.sized.into c));
          state = inr (gone T.state);
        }

  stride-turned : (j : ℕ) (z : Way) → Turned j z → Turned (suc j) (stride room s z)
  unfolding stride
  stride-turned j z T =
      by-test (Turned (suc j)) (eqb (t z.x) (t z.y)) _ _
      (λ p. record { sized = T.sized; tied = T.tied; state = inl (eqb-true _ _ p) })
      (λ p. by-test (Turned (suc j)) (ltb (rk (t z.x)) (rk (t z.y))) _ _
      (λ q. right-turned j z T (eqb-false _ _ p) (ltb-true _ _ q))
      (λ q. left-turned j z T (eqb-false _ _ p) (ltb-false _ _ q)))

  turns-turned : (j : ℕ) → Turned j (turns j (stride room s) (bridge room s v w))
  unfolding turns
  turns-turned zero = start-turned
  turns-turned (suc j) = stride-turned j _ (turns-turned j)

  abbrev z : Way
  z = linked room s v w

  last : Turned lim z
  unfolding linked
  last = turns-turned lim

  D : TiedBy z z.k
  D = last.tied

  -- the walks have met
  met : t z.x ≡ t z.y
  met = go last.state (ℕ_discrete (t z.x) (t z.y))
    where
      go : (t z.x ≡ t z.y) ⊎ (z.k ≡ lim) → Dec (t z.x ≡ t z.y) → t z.x ≡ t z.y
      go (inl q) d = q
      go (inr q) (yes d) = d
      go (inr q) (no d) = absurd (omega (arith, q, not-met (swap S) Q D tree d, deep, tail-small))

  -- ---- the ring's list, from v's group on round

  abbrev c : ℕ
  c = t z.x

  abbrev In : ℕ → ℕ
  In d = is c d + cnt D.Z d

  -- v's group and w's are in the ring
  v-ring : 0 < In (t v)
  v-ring = go (leg-head D.bow.left)
    where
      go : (v ≡ z.x) ⊎ (0 < cnt D.L (t v)) → 0 < In (t v)
      go (inl q) = omega (arith, is-self c, ap (λ (y : ℕ). is c (t y)) q)
      go (inr h) = omega (arith, h, D.bow.counts (t v))

  w-ring : 0 < In (t w)
  w-ring = go (leg-head D.bow.right)
    where
      go : (w ≡ z.y) ⊎ (0 < cnt D.R (t w)) → 0 < In (t w)
      go (inl q) = omega (arith, is-self c, ap (λ (y : ℕ). is c y) (ap t q ∙ sym met))
      go (inr h) = omega (arith, h, D.bow.counts (t w))

  abbrev Nx : ℕ → ℕ → Type 0
  Nx = Step (Adj g) Q.stored.S (cell lim z.rings.next) (cell lim z.rings.out) (cell lim z.rings.into)

  -- the ring as a list, from v's group on
  record Listed : Type 0 where
    rest : List ℕ
    long : length rest ≡ z.k + z.k
    chain : Chain Nx (t v) rest (t v)
    each : (d : ℕ) → is (t v) d + cnt rest d ≡ In d

  closed : Chain Nx c D.Z c
  closed = subst (λ (a : ℕ). Chain Nx a D.Z c) (sym met) D.bow.steps

  ring-list : Listed
  ring-list = go (is? c (t v))
    where
      at_place : Place D.Z (t v) → Listed
      at_place p = record {
        rest = p.back ++ c ∷ p.front;
        long = omega (arith, length-append p.back (c ∷ p.front), length-append p.front (t v ∷ p.back), ap length p.whole, D.bow.even);
        chain = chain-rotate Nx c p.front (t v) p.back (subst (λ (l : List ℕ). Chain Nx c l c) p.whole closed);
        each = λ d. omega (arith, cnt-append p.back (c ∷ p.front) d, cnt-append p.front (t v ∷ p.back) d, ap (λ (l : List ℕ). cnt l d) p.whole);
      }

      go : Is c (t v) → Listed
      go (same q a) = record {
        rest = D.Z;
        long = D.bow.even;
        chain = subst (λ (a : ℕ). Chain Nx a D.Z a) q closed;
        each = λ d. ap (λ (a : ℕ). is a d + cnt D.Z d) (sym q);
      }
      go (other q a) = at_place (place D.Z (t v) (omega (arith, a, v-ring)))

  -- the labels and the queue after it
  after_line : Line
  after_line = around room z.rings.next (suc (z.k + z.k)) (t v) s.line

  admitted : Admitted n room (t v ∷ ring-list.rest) s.line after_line
  unfolding after_line
  admitted =
      subst (Admitted n room (t v ∷ ring-list.rest) s.line)
      (sym (ap (λ (k : ℕ). around room z.rings.next (suc k) (t v) s.line) (sym ring-list.long)
      ∙ around-all room z.rings.next Nx (λ a b k. k.next) (t v) ring-list.rest (t v) ring-list.chain s.line))
      (admit-all (t v ∷ ring-list.rest) s.line R.line)

  -- what is in the ring is an outer route's group, or an inner route
  ring-label : (d : ℕ) → 0 < In d → ((y : ℕ) × (lab y ≡ 2) × (t y ≡ d)) ⊎ (lab d ≡ 1)
  ring-label d h = go (is? c d) (eq-zero-or-pos (cnt D.L d))
    where
      go : Is c d → (cnt D.L d ≡ 0) ⊎ (0 < cnt D.L d) → ((y : ℕ) × (lab y ≡ 2) × (t y ≡ d)) ⊎ (lab d ≡ 1)
      go (same q a) k = inl (z.x, x-out (swap S) Q D, q)
      go (other q a) (inr k) = leg-label D.bow.left d k
      go (other q a) (inl k) = leg-label D.bow.right d (omega (arith, D.bow.counts d))

  -- every route of the ring is outer then, and no other label is changed
  in-lab : (u : ℕ) → 0 < In (t u) → label_of after_line.label u ≡ 2
  in-lab u h = go (ℕ_discrete (lab u) 2) (ℕ_discrete (lab u) 1)
    where
      u-in : Dec (u < n) → u < n
      u-in (yes i) = i
      u-in (no i) = absurd (no-route (ring-label _ h))
        where
          no-route : ((y : ℕ) × (lab y ≡ 2) × (t y ≡ t u)) ⊎ (lab (t u) ≡ 1) → ⊥
          no-route (inl a) = omega (arith, R.state.new u (omega arith), (forest R).used a.0 (R.line.range a.0 (omega (arith, a.1))), a.2, R.state.room)
          no-route (inr a) = omega (arith, R.state.new u (omega arith), R.line.range (t u) (omega (arith, a)), R.fits.routes)

      go : Dec (lab u ≡ 2) → Dec (lab u ≡ 1) → label_of after_line.label u ≡ 2
      go (yes q) k = admitted.onward.outer u q
      go (no q) (yes k) =
          let a : t u ≡ u = inner-alone (forest R) k in
          admitted.«in» u k (omega (arith, ring-list.each u, ap In a, h))
      go (no q) (no k) = absurd (no_other (ring-label _ h))
        where
          i : u < n
          i = u-in (dec_lt u n)

          a : t u ≡ u
          a = (forest R).single u i q

          no_other : ((y : ℕ) × (lab y ≡ 2) × (t y ≡ t u)) ⊎ (lab (t u) ≡ 1) → ⊥
          no_other (inl b) = q (ap lab (sym (plain (forest R) i q b.0 (b.2 ∙ a))) ∙ b.1)
          no_other (inr b) = k (ap lab (sym a) ∙ b)

  out-lab : (u : ℕ) → In (t u) ≡ 0 → label_of after_line.label u ≡ lab u
  out-lab u h = go (ℕ_discrete (lab u) 1)
    where
      go : Dec (lab u ≡ 1) → label_of after_line.label u ≡ lab u
      go (yes k) = admitted.off u (omega (arith, ring-list.each u, ap In (inner-alone (forest R) k), h))
      go (no k) = admitted.same u k

  -- some route of the ring is inner
  some-inner : (i : ℕ) × (lab i ≡ 1) × (0 < In i)
  some-inner = go (leg-inner D.bow.left) (leg-inner D.bow.right)
    where
      go : (v ≡ z.x) ⊎ ((i : ℕ) × (lab i ≡ 1) × (0 < cnt D.L i)) → (w ≡ z.y) ⊎ ((i : ℕ) × (lab i ≡ 1) × (0 < cnt D.R i)) → (i : ℕ) × (lab i ≡ 1) × (0 < In i)
      go (inr a) k = (a.0, a.1, omega (arith, a.2, D.bow.counts a.0))
      go (inl q) (inr a) = (a.0, a.1, omega (arith, a.2, D.bow.counts a.0))
      go (inl q) (inl k) = absurd (ne (ap t k ∙ sym met ∙ ap t (sym q)))

  -- so at least one route more is queued, and there is room for one group more
  more-tail : s.line.tail < after_line.tail
  more-tail = let a = some-inner in admitted.more a.0 a.1 (omega (arith, a.2, ring-list.each a.0))

  ids-room : s.ids < lim
  ids-room = let a = some-inner in
      omega (arith, R.few, R.fits.routes, tail-reached R.line, tail-room R.line a.0 (R.line.range a.0 (omega (arith, a.1))) (omega (arith, a.1)))

  ids-is : one_more room s.ids ≡ suc s.ids
  ids-is = one_more-is room s.ids ids-room

  -- ---- the tables after it

  abbrev up' : List ℕ
  up' = store lim z.rings.up c s.ids

  abbrev top' : List ℕ
  top' = shift room up' s.ids s.order s.top

  order-room : s.order ≤ room
  order-room = omega (arith, R.order, R.fits.routes)

  beyond : (u : ℕ) → n ≤ u → cell room top' u ≡ t u
  beyond u h = shift-off room up' s.ids s.order s.top u (omega (arith, R.order, h))

  moved_at : (u : ℕ) → u < n → cell room top' u ≡ moved room up' s.ids (t u)
  moved_at u i = shift-at room up' s.ids s.order s.top u R.sized.top order-room (omega (arith, R.order, i))

  -- a number that is no group stays
  moved-past : (d : ℕ) → lim ≤ d → moved room up' s.ids d ≡ d
  unfolding moved
  moved-past d h = rw (ne_eqb (cell lim up' d) s.ids (λ q. omega (arith, q, cell-past lim up' d h, ids-room, R.fits.small))) refl

  moved-top : (a : ℕ) → cell room top' a ≡ moved room up' s.ids (t a)
  moved-top a = go (dec_lt a n)
    where
      go : Dec (a < n) → cell room top' a ≡ moved room up' s.ids (t a)
      go (yes i) = moved_at a i
      go (no i) = beyond a (omega arith) ∙ sym (moved-past _ (R.state.new a (omega arith)))

  is-moved : (u : ℕ) → u < n → cell lim up' (t u) ≡ s.ids → cell room top' u ≡ s.ids
  unfolding moved
  is-moved u i q = moved_at u i ∙ rw (eq-eqb (cell lim up' (t u)) s.ids q) refl

  is-kept : (u : ℕ) → u < n → cell lim up' (t u) ≢ s.ids → cell room top' u ≡ t u
  unfolding moved
  is-kept u i q = moved_at u i ∙ rw (ne_eqb (cell lim up' (t u)) s.ids q) refl

  c-lim : c < lim
  c-lim = top_in R z.x (x-in z.x (x-out (swap S) Q D))

  new-at : (l : List ℕ) (x : ℕ) → length l ≡ lim → Set1 (cell lim l) (cell lim (store lim l s.ids x)) s.ids x
  new-at l x h = stored_one lim l s.ids x ids-room h

  -- a table in which the new group has a number that was in range
  in-range : (l : List ℕ) (x : ℕ) → length l ≡ lim → ((d : ℕ) → d < lim → cell lim l d ≤ s.line.tail + s.line.tail - 2) → x ≤ s.line.tail + s.line.tail - 2
      → (d : ℕ) → d < lim → cell lim (store lim l s.ids x) d ≤ after_line.tail + after_line.tail - 2
  in-range l x h f k d i = go (ℕ_discrete d s.ids)
    where
      go : Dec (d ≡ s.ids) → cell lim (store lim l s.ids x) d ≤ after_line.tail + after_line.tail - 2
      go (yes p) = omega (arith, ap (cell lim (store lim l s.ids x)) p, (new-at l x h).at, k, more-tail)
      go (no p) = omega (arith, (new-at l x h).rest d p, f d i, more-tail)

  half-small : z.k ≤ s.line.tail + s.line.tail - 2
  half-small = omega (arith, D.bow.ranks, deep)

  abbrev After : ℕ → Type 0
  After b = State (Adj g) n (partner s.mate) b lim (cell lim up') (cell lim z.rings.next) (cell lim z.rings.out) (cell lim z.rings.into) (cell lim (store lim s.half s.ids z.k))
      (cell room top') (cell lim (store lim s.base s.ids (cell lim s.base c))) (cell room s.parent) (cell lim (store lim s.rank s.ids (rk c)))
      (cell lim (store lim s.root s.ids (cell lim s.root c))) (label_of after_line.label)

  after-state : After (suc s.ids)
  after-state = absorbed (swap S) Q D met ids-room
      (stored_one lim z.rings.up c s.ids c-lim last.sized.up) (new-at s.half z.k R.sized.half) (new-at s.base _ R.sized.base)
      (new-at s.rank _ R.sized.rank) (new-at s.root _ R.sized.root) beyond is-moved is-kept in-lab out-lab

  pub contract-ready : Ready g room (contract room s v w)
  unfolding contract absorb after_line
  contract-ready = record {
    fits = R.fits;
    order = R.order;
    sized = record {
      mate = R.sized.mate;
      parent = R.sized.parent;
      top = shift-length room up' s.ids s.order s.top ∙ R.sized.top;
      root = store_length lim s.root s.ids _ ∙ R.sized.root;
      base = store_length lim s.base s.ids _ ∙ R.sized.base;
      rank = store_length lim s.rank s.ids _ ∙ R.sized.rank;
      half = store_length lim s.half s.ids _ ∙ R.sized.half;
      rings = record { up = store_length lim z.rings.up c s.ids ∙ last.sized.up; next = last.sized.next; out = last.sized.out; into = last.sized.into };
    };
    line = admitted.queued;
    state = subst After (sym ids-is) after-state;
    few = omega (arith, R.few, more-tail, ids-is, admitted.reach, (R.line.listed v ov).1);
    ranks = in-range s.rank (rk c) R.sized.rank R.ranks (R.ranks c c-lim);
    halves = in-range s.half z.k R.sized.half R.halves half-small;
  }

  pub contract-later : Later room s (contract room s v w)
  unfolding contract absorb after_line
  contract-later = record {
    together = λ a b q. moved-top a ∙ ap (moved room up' s.ids) q ∙ sym (moved-top b);
    onward = admitted.onward;
    mates = refl;
    unhit = λ h. h;
  }

  -- v and w are in one group now
  pub contract-joins : cell room (contract room s v w).top w ≡ cell room (contract room s v w).top v
  unfolding contract absorb
  contract-joins =
      let f : (u : ℕ) → 0 < In (t u) → cell room top' u ≡ s.ids
      = λ u h. (go-in (swap S) Q D met ids-room
      (stored_one lim z.rings.up c s.ids c-lim last.sized.up) (new-at s.half z.k R.sized.half) (new-at s.base _ R.sized.base)
      (new-at s.rank _ R.sized.rank) (new-at s.root _ R.sized.root) beyond is-moved is-kept in-lab out-lab u h).0 in
      f w w-ring ∙ sym (f v v-ring)

  -- one group more
  pub contract-ids : (contract room s v w).ids ≡ suc s.ids
  unfolding contract absorb
  contract-ids = ids-is

  pub contract-hit : (contract room s v w).hit ≡ s.hit
  unfolding contract absorb
  contract-hit = refl
