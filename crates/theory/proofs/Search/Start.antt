-- The tables before the first step have the invariant. Assumes nothing.
use mathlib.Core.Path.{◌≡◌, refl, sym, ap, ◌∙◌}
use mathlib.Core.Logic.{◌≢◌}
use mathlib.Core.Bool.{false, not}
use mathlib.Core.List.{List}
use Prim.Native.Nat.{ℕ, zero, suc, ◌≤◌, ◌<◌}
use native.Mathlib.Omega.{arith}
use native.Mathlib.Nat.{not-suc-le-zero}
use native.Mathlib.Decide.{ℕ_discrete, dec_lt}
use lib.Dec.{eqb}
use lib.ListN.{length, replicate, get_or-replicate, get_or-eq_default}
use borrow.Author.Tests.{eqb-true, eqb-false, eq-eqb, ne_eqb}
use Rattle.limits.specs.Limits.{none}
use Rattle.graphs.specs.Graph.{Graph}
use Rattle.theory.specs.Search.Tables.{groups, cell, store, Line}
use Rattle.theory.specs.Search.Start.{enter, plant, seed, fill, start}
use Rattle.theory.specs.Search.Promise.{Fits}
use Rattle.graphs.proofs.Count.{clash, count_none}
use Rattle.trees.proofs.Forest.Inside.{Pairing}
use Rattle.trees.proofs.Forest.Applied.{partner}
use Rattle.trees.proofs.Forest.State.{State, state-start}
use Rattle.theory.proofs.Search.Cells.{by-test, length-rep, cell-any, cell-past, cell-rep, store_length, store_same, store_other}
use Rattle.theory.proofs.Search.Line.{label_of, reached, Queued, Entered, entered}
use Rattle.theory.proofs.Search.Ready.{Adj, Ready}
use Rattle.theory.proofs.Search.Look.{Hunt}

-- ---- a table whose first cells hold their own number

module _ (size : ℕ) (l : List ℕ) where
  fill-length : (k : ℕ) → length (fill size k l) ≡ length l
  unfolding fill
  fill-length zero = refl
  fill-length (suc k) = store_length size (fill size k l) k k ∙ fill-length k

  fill-off : (k v : ℕ) → k ≤ v → cell size (fill size k l) v ≡ cell size l v
  unfolding fill
  fill-off zero v h = refl
  fill-off (suc k) v h = store_other size (fill size k l) k k v (omega arith) ∙ fill-off k v (omega arith)

  fill-at : (k v : ℕ) → length l ≡ size → k ≤ size → v < k → cell size (fill size k l) v ≡ v
  unfolding fill
  fill-at zero v n h i = absurd (not-suc-le-zero i)
  fill-at (suc k) v n h i = go (ℕ_discrete v k) (λ j. fill-at k v n (omega arith) j)
    where
      go : Dec (v ≡ k) → (v < k → cell size (fill size k l) v ≡ v) → cell size (store size (fill size k l) k k) v ≡ v
      go (yes e) f = ap (cell size (store size (fill size k l) k k)) e ∙ store_same size (fill size k l) k k h (fill-length k ∙ n) ∙ sym e
      go (no e) f = store_other size (fill size k l) k k v e ∙ f (omega arith)

-- ---- the roots

-- a label table of one number, read anywhere
label-rep : (k i : ℕ) → label_of (replicate k 0) i ≡ 0
label-rep k i = go (dec_lt i k)
  where
    go : Dec (i < k) → label_of (replicate k 0) i ≡ 0
    go (yes h) = get_or-replicate k i 0 0 h
    go (no h) = get_or-eq_default (replicate k 0) 0 {n = i} (omega (arith, length-rep k 0))

-- the first k routes have been looked at
record Planted (n room : ℕ) (mate : List ℕ) (k : ℕ) (l : Line) : Type 0 where
  queued : Queued n room l
  free : (v : ℕ) → v < k → cell room mate v ≡ v → label_of l.label v ≡ 2
  paired : (v : ℕ) → cell room mate v ≢ v → label_of l.label v ≡ 0
  later : (v : ℕ) → k ≤ v → label_of l.label v ≡ 0
  all : reached n l.label ≡ l.tail

plant-more : {n room : ℕ} {mate : List ℕ} {k : ℕ} {l : Line} → Planted n room mate k l → k < n → Planted n room mate (suc k) (plant room mate l k)
unfolding plant
plant-more {n} {room} {mate} {k} {l} P i = by-test (Planted n room mate (suc k)) (eqb (cell room mate k) k) _ _
    (λ t.
    let e : cell room mate k ≡ k = eqb-true (cell room mate k) k t in
    let z : label_of l.label k ≡ 0 = P.later k (omega arith) in
    let E : Entered n room l k (enter room l k) = entered P.queued k i (omega (arith, z)) in
    record {
      queued = E.queued;
      free = λ v j m. here E v j m (ℕ_discrete v k);
      paired = λ v m. E.off v (λ q. m (ap (cell room mate) q ∙ e ∙ sym q)) ∙ P.paired v m;
      later = λ v j. E.off v (omega arith) ∙ P.later v (omega arith);
      all = E.new z ∙ ap suc P.all ∙ sym E.tail;
    })
    (λ t.
    let e : cell room mate k ≢ k = eqb-false (cell room mate k) k t in
    record {
      queued = P.queued;
      free = λ v j m. P.free v (omega (arith, apart v j m e)) m;
      paired = P.paired;
      later = λ v j. P.later v (omega arith);
      all = P.all;
    })
  where
    here : Entered n room l k (enter room l k) → (v : ℕ) → v < suc k → cell room mate v ≡ v → Dec (v ≡ k) → label_of (enter room l k).label v ≡ 2
    here E v j m (yes e) = ap (label_of (enter room l k).label) e ∙ E.at
    here E v j m (no e) = E.off v e ∙ P.free v (omega arith) m

    apart : (v : ℕ) → v < suc k → cell room mate v ≡ v → cell room mate k ≢ k → v ≢ k
    apart v j m e q = e (ap (cell room mate) (sym q) ∙ m ∙ q)

seed-planted : {n room : ℕ} {mate : List ℕ} {l : Line} → Planted n room mate 0 l → (k : ℕ) → k ≤ n → Planted n room mate k (seed room mate k l)
unfolding seed
seed-planted P zero h = P
seed-planted P (suc k) h = plant-more (seed-planted P k (omega arith)) h

abbrev empty : ℕ → Line
empty room = record { label = replicate room 0; queue = replicate room none; tail = 0 }

empty-planted : (n room : ℕ) (mate : List ℕ) → n ≤ room → Planted n room mate 0 (empty room)
empty-planted n room mate h = record {
  queued = record {
    fits = h;
    label-size = length-rep room 0;
    queue-size = length-rep room none;
    labels = λ v. omega (arith, label-rep room v);
    range = λ v k. absurd (omega (arith, label-rep room v));
    tally = sym (count_none n (λ v. eqb (label_of (replicate room 0) v) 2) (λ v k. ne_eqb (label_of (replicate room 0) v) 2 (omega (arith, label-rep room v))));
    queued = λ j k. absurd (not-suc-le-zero k);
    listed = λ v k. absurd (omega (arith, label-rep room v));
    once = λ i j k. absurd (not-suc-le-zero k);
  };
  free = λ v j m. absurd (not-suc-le-zero j);
  paired = λ v m. label-rep room v;
  later = λ v j. label-rep room v;
  all = count_none n (λ v. not (eqb (label_of (replicate room 0) v) 0)) (λ v k. rw (eq-eqb (label_of (replicate room 0) v) 0 (label-rep room v)) refl);
}

-- ---- the tables

module _ (g : Graph) (room : ℕ) (M : List ℕ) (N : Fits room g) (long : length M ≡ room) (P : Pairing (Adj g) (partner M)) (inside : (v : ℕ) → v < g.order → partner M v < g.order) where
  abbrev n : ℕ
  n = g.order

  abbrev lim : ℕ
  lim = groups room

  abbrev roots : Line
  roots = seed room M n (empty room)

  planted : Planted n room M n roots
  planted = seed-planted (empty-planted n room M N.routes) n (omega arith)

  mate-at : (v : ℕ) → v < n → partner M v ≡ cell room M v
  mate-at v i = sym (cell-any room M v v (omega (arith, N.routes)) long)

  -- the routes are groups of one
  top-at : (v : ℕ) → v < n → cell room (fill room n (replicate room none)) v ≡ v
  top-at v i = fill-at room (replicate room none) n v (length-rep room none) N.routes i

  no_top : (y : ℕ) → n ≤ y → lim ≤ cell room (fill room n (replicate room none)) y
  no_top y h = go (dec_lt y room)
    where
      go : Dec (y < room) → lim ≤ cell room (fill room n (replicate room none)) y
      go (yes i) = omega (arith, fill-off room (replicate room none) n y h, cell-rep room y none i, N.small)
      go (no i) = omega (arith, cell-past room (fill room n (replicate room none)) y (omega arith), N.small)

  own_at : (v : ℕ) → v < n → cell lim (fill lim n (replicate lim none)) v ≡ v
  own_at v i = fill-at lim (replicate lim none) n v (length-rep lim none) (omega (arith, N.routes)) i

  start-state : State (Adj g) n (partner M) n lim (cell lim (replicate lim none)) (cell lim (replicate lim none)) (cell lim (replicate lim none)) (cell lim (replicate lim none)) (cell lim (replicate lim 0))
      (cell room (fill room n (replicate room none))) (cell lim (fill lim n (replicate lim none))) (cell room (replicate room none)) (cell lim (replicate lim 0)) (cell lim (fill lim n (replicate lim none)))
      (label_of roots.label)
  start-state = state-start (cell room (fill room n (replicate room none))) (label_of roots.label) (omega (arith, N.routes)) P inside
      (λ d h. omega (arith, cell-rep lim d none h, N.small))
      top-at no_top own_at
      (λ v h. planted.queued.range v h)
      (λ v i. (own_at v i, cell-rep lim v 0 (omega (arith, N.routes))))
      (λ v i e. planted.free v i (sym (mate-at v i) ∙ e))
      (λ v i h. planted.paired v (λ e. h (mate-at v i ∙ e)))

  start-ready : Ready g room (start room n M)
  unfolding start
  start-ready = record {
    fits = N;
    order = refl;
    sized = record {
      mate = long;
      parent = length-rep room none;
      top = fill-length room (replicate room none) n ∙ length-rep room none;
      root = fill-length lim (replicate lim none) n ∙ length-rep lim none;
      base = fill-length lim (replicate lim none) n ∙ length-rep lim none;
      rank = length-rep lim 0;
      half = length-rep lim 0;
      rings = record { up = length-rep lim none; next = length-rep lim none; out = length-rep lim none; into = length-rep lim none };
    };
    line = planted.queued;
    state = start-state;
    few = omega (arith, planted.all);
    ranks = λ d i. omega (arith, cell-rep lim d 0 i);
    halves = λ d i. omega (arith, cell-rep lim d 0 i);
  }

  pub start-hunt : Hunt g room (start room n M)
  unfolding start
  start-hunt = record { ready = start-ready; struck = λ t. clash false t refl }
