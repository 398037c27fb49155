-- A step to a route w that is not reached, and to its partner, keeps the invariant. Assumes nothing.
use mathlib.Core.Path.{◌≡◌, refl, sym, ap, ◌∙◌, subst}
use mathlib.Core.Logic.{◌≢◌}
use mathlib.Core.List.{List}
use Prim.Native.Nat.{ℕ, suc, ◌+◌, ◌-◌, ◌≤◌, ◌<◌}
use native.Mathlib.Omega.{arith}
use native.Mathlib.Decide.{ℕ_discrete}
use lib.ListN.{length}
use lib.Seq.{get_or-set_same, get_or-set_other}
use Rattle.graphs.specs.Graph.{Graph, Simple}
use Rattle.theory.specs.Search.Tables.{groups, cell, store, one_more, Line, Tables}
use Rattle.theory.specs.Search.Start.{enter}
use Rattle.theory.specs.Search.Grow.{grow}
use Rattle.trees.proofs.Forest.Grow.{Set2}
use Rattle.trees.proofs.Forest.Applied.{partner}
use Rattle.trees.proofs.Forest.State.{state-grow}
use Rattle.theory.proofs.Search.Cells.{store_is, store_length, store-two-length, stored_one, stored-two, one_more-is}
use Rattle.theory.proofs.Search.Line.{label_of, reached, Queued, Onward, onward_then, inner-line, inner-queued, inner-onward, inner-reached, Entered, entered, tail-room}
use Rattle.theory.proofs.Search.Ready.{Adj, swap, bounded, Ready, Later, forest, mate-is, top_in, partner-in}

module _ {g : Graph} {room : ℕ} {s : Tables} (S : Simple g) (R : Ready g room s) (v w : ℕ) (o : label_of s.line.label v ≡ 2) (e : Adj g v w) (z : label_of s.line.label w ≡ 0) where
  abbrev u : ℕ
  u = cell room s.mate w

  abbrev lim : ℕ
  lim = groups room

  w-in : w < g.order
  w-in = (bounded S v w e).1

  u-is : partner s.mate w ≡ u
  u-is = mate-is R w w-in

  u-in : u < g.order
  u-in = partner-in R w w-in

  u-new : label_of s.line.label u ≡ 0
  u-new = subst (λ (x : ℕ). label_of s.line.label x ≡ 0) u-is ((forest R).apart w w-in z)

  w-not-u : w ≢ u
  w-not-u q = omega (arith, z, ((forest R).free w w-in (u-is ∙ sym q)).1)

  -- w is inner, and then u outer
  abbrev l₁ : Line
  l₁ = record { label = store room s.line.label w 1; queue = s.line.queue; tail = s.line.tail }

  l₁-is : l₁ ≡ inner-line s.line w
  l₁-is = rw (store_is room s.line.label w 1 R.line.label-size) refl

  l₁-queued : Queued g.order room l₁
  l₁-queued = subst (Queued g.order room) (sym l₁-is) (inner-queued R.line w w-in z)

  l₁-onward : Onward room s.line l₁
  l₁-onward = subst (Onward room s.line) (sym l₁-is) (inner-onward R.line w w-in z)

  l₁-at : label_of l₁.label w ≡ 1
  l₁-at = ap (λ (l : Line). label_of l.label w) l₁-is ∙ get_or-set_same s.line.label w 1 0 (omega (arith, w-in, R.line.label-size, R.fits.routes))

  l₁-off : (y : ℕ) → y ≢ w → label_of l₁.label y ≡ label_of s.line.label y
  l₁-off y h = ap (λ (l : Line). label_of l.label y) l₁-is ∙ get_or-set_other s.line.label w y 1 0 h

  u-still : label_of l₁.label u ≡ 0
  u-still = l₁-off u (λ q. w-not-u (sym q)) ∙ u-new

  E : Entered g.order room l₁ u (enter room l₁ u)
  E = entered l₁-queued u u-in (omega (arith, u-still))

  abbrev lab' : ℕ → ℕ
  lab' = label_of (enter room l₁ u).label

  labs : Set2 (label_of s.line.label) lab' w 1 (partner s.mate w) 2
  labs = subst (λ (x : ℕ). Set2 (label_of s.line.label) lab' w 1 x 2) (sym u-is)
      (record { at = E.off w w-not-u ∙ l₁-at; and = E.at; rest = λ y p q. E.off y q ∙ l₁-off y p })

  -- two routes more are reached, and one more is queued
  reached-two : reached g.order (enter room l₁ u).label ≡ suc (suc (reached g.order s.line.label))
  reached-two =
      let a : reached g.order l₁.label ≡ suc (reached g.order s.line.label) = ap (λ (l : Line). reached g.order l.label) l₁-is ∙ inner-reached R.line w w-in z in
      omega (arith, a, E.new u-still)

  -- v is queued, so the queue is not empty
  some : 0 < s.line.tail
  some = let t = R.line.listed v o in omega (arith, t.1)

  abbrev k : ℕ
  k = cell lim s.rank (cell room s.top v)

  k-le : k ≤ s.line.tail + s.line.tail - 2
  k-le = R.ranks (cell room s.top v) (top_in R v e.0)

  tail-less : s.line.tail < room
  tail-less = omega (arith, tail-room R.line w w-in (omega (arith, z)), R.fits.routes)

  -- neither depth comes to its end
  one-is : one_more room k ≡ suc k
  one-is = one_more-is room k (omega (arith, k-le, tail-less))

  two_is : one_more room (one_more room k) ≡ suc (suc k)
  two_is = ap (one_more room) one-is ∙ one_more-is room (suc k) (omega (arith, k-le, tail-less, some))

  two : (l : List ℕ) (a b : ℕ) → length l ≡ lim → Set2 (cell lim l) (cell lim (store lim (store lim l w a) u b)) w a (partner s.mate w) b
  two l a b h = subst (λ (x : ℕ). Set2 (cell lim l) (cell lim (store lim (store lim l w a) u b)) w a x b) (sym u-is)
      (stored-two lim l w a u b (omega (arith, w-in, R.fits.routes)) (omega (arith, u-in, R.fits.routes)) h w-not-u)

  abbrev rank' : List ℕ
  rank' = store lim (store lim s.rank w (one_more room k)) u (one_more room (one_more room k))

  set-ranks : Set2 (cell lim s.rank) (cell lim rank') w (suc k) (partner s.mate w) (suc (suc k))
  set-ranks = let a = two s.rank (one_more room k) (one_more room (one_more room k)) R.sized.rank in
      record { at = a.at ∙ one-is; and = a.and ∙ two_is; rest = a.rest }

  ranks' : (d : ℕ) → d < lim → Dec (d ≡ w) → Dec (d ≡ partner s.mate w) → cell lim rank' d ≤ suc s.line.tail + suc s.line.tail - 2
  ranks' d i (yes p) q = omega (arith, ap (cell lim rank') p, set-ranks.at, k-le, some)
  ranks' d i (no p) (yes q) = omega (arith, ap (cell lim rank') q, set-ranks.and, k-le, some)
  ranks' d i (no p) (no q) = omega (arith, set-ranks.rest d p q, R.ranks d i)

  tail-is : (enter room l₁ u).tail ≡ suc s.line.tail
  tail-is = E.tail

  pub grow-ready : Ready g room (grow room s v w)
  unfolding grow
  grow-ready = record {
    fits = R.fits;
    order = R.order;
    sized = record {
      mate = R.sized.mate;
      parent = store_length room s.parent w v ∙ R.sized.parent;
      top = R.sized.top;
      root = store-two-length lim s.root w _ u _ ∙ R.sized.root;
      base = R.sized.base;
      rank = store-two-length lim s.rank w _ u _ ∙ R.sized.rank;
      half = R.sized.half;
      rings = R.sized.rings;
    };
    line = E.queued;
    state = state-grow (swap S) R.state o w-in z (swap S v w e) labs
        (stored_one room s.parent w v (omega (arith, w-in, R.fits.routes)) R.sized.parent) set-ranks (two s.root _ _ R.sized.root);
    few = omega (arith, R.few, reached-two, tail-is, some);
    ranks = λ d i. omega (arith, ranks' d i (ℕ_discrete d w) (ℕ_discrete d (partner s.mate w)), tail-is);
    halves = λ d i. omega (arith, R.halves d i, tail-is);
  }

  pub grow-later : Later room s (grow room s v w)
  unfolding grow
  grow-later = record { together = λ a b q. q; onward = onward_then l₁-onward E.onward; mates = refl; unhit = λ h. h }

  pub grow-label : label_of (grow room s v w).line.label w ≡ 1
  unfolding grow
  grow-label = labs.at

  pub grow-hit : (grow room s v w).hit ≡ s.hit
  unfolding grow
  grow-hit = refl
