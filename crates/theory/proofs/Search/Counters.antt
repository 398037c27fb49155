-- How far a search goes: no counter comes to its end, the tables hold routes and groups that there are, rings are at most (n - 1) / 2, and no row is scanned twice.
-- All of it is read off the invariant, in which `few` weighs groups made and routes reached against routes queued. Assumes nothing.
use mathlib.Core.Path.{◌≡◌, refl, sym, ap, ◌∙◌, subst}
use mathlib.Core.Bool.{true, false}
use mathlib.Core.List.{List, [], ◌∷◌}
use Prim.Native.Nat.{ℕ, zero, suc, ◌+◌, ◌-◌, ◌/◌, ◌≤◌, ◌<◌}
use native.Mathlib.Omega.{arith}
use native.Mathlib.Nat.{add_comm}
use lib.Dec.{ltb}
use lib.ListN.{take}
use borrow.Author.Tests.{ltb-true}
use Rattle.limits.specs.Limits.{none}
use Rattle.graphs.specs.Graph.{Graph, Simple, has}
use Rattle.theory.specs.Search.Tables.{groups, cell, Tables}
use Rattle.theory.specs.Search.Look.{run}
use Rattle.theory.specs.Search.Searched.{begun}
use Rattle.theory.specs.Search.Promise.{Valid, Fits}
use Rattle.theory.specs.Search.Bounds.{contractions, scanned, partway, Short, Inside}
use Rattle.graphs.proofs.Count.{cases, clash}
use Rattle.graphs.proofs.Graph.{has-head, has-tail, has-cases}
use Rattle.graphs.proofs.Sets.{is-self, cnt}
use Rattle.trees.proofs.Ring.Chain.{Chain}
use Rattle.trees.proofs.Ring.Stored.{Step}
use Rattle.trees.proofs.Forest.Shape.{outer-in}
use Rattle.theory.proofs.Search.Cells.{by-test, cell_in}
use Rattle.theory.proofs.Search.Line.{tail-le, tail-reached}
use Rattle.theory.proofs.Search.Ready.{Adj, Ready, forest, partner-in}
use Rattle.theory.proofs.Search.Look.{Hunt, scan-looked, run-later}
use Rattle.theory.proofs.Search.Searched.{hunt, swept_at, swept}

-- the first entries of a row are entries of it
has-take : (j : ℕ) (l : List ℕ) (x : ℕ) → has (take j l) x ≡ true → has l x ≡ true
unfolding has
has-take zero l x h = clash false h refl
has-take (suc j) [] x h = h
has-take (suc j) (y ∷ ys) x h = has-cases y (take j ys) x h (λ e. rw e (has-head y ys)) (λ k. has-tail y ys x (has-take j ys x k))

ready-short : {g : Graph} {room : ℕ} {s : Tables} → 0 < room → Ready g room s → Short room s
ready-short h R = record {
  tail = omega (arith, tail-le R.line, R.fits.routes);
  ids = omega (arith, R.few, tail-reached R.line, tail-le R.line, R.fits.routes);
  ranks = λ d i. omega (arith, R.ranks d i, tail-le R.line, R.fits.routes);
  halves = λ d i. omega (arith, R.halves d i, tail-le R.line, R.fits.routes);
}

module _ {g : Graph} {room : ℕ} {s : Tables} (R : Ready g room s) where
  abbrev next : ℕ → ℕ
  next = cell (groups room) s.rings.next

  abbrev up : ℕ → ℕ
  up = cell (groups room) s.rings.up

  abbrev Next : ℕ → ℕ → Type 0
  Next = Step (Adj g) R.state.stored.S next (cell (groups room) s.rings.out) (cell (groups room) s.rings.into)

  -- the step from a group of a ring to the next
  first : (c : ℕ) → c < s.ids → up c < s.ids → Next c (next c) × (next c < s.ids)
  first c i u = let A = R.state.stored.around c i u in go A.rest A.steps A.below
    where
      at : (d : ℕ) → Next c d → d < s.ids → Next c (next c) × (next c < s.ids)
      at d k h = (subst (Next c) (sym k.next) k, omega (arith, k.next, h))

      go : (l : List ℕ) → Chain Next c l c → ((d : ℕ) → 0 < cnt l d → (d < up c) × (up d ≡ up c)) → Next c (next c) × (next c < s.ids)
      go [] k b = at c k i
      go (d ∷ l) k b = at d k.0 (omega (arith, (b d (omega (arith, is-self d))).0, u))

  ready-inside : Inside g room s
  ready-inside = record {
    routes = R.fits.routes;
    groups-fit = R.state.room;
    route-tables = (R.sized.mate, R.sized.parent, R.sized.top, R.line.label-size, R.line.queue-size);
    group-tables = (R.sized.root, R.sized.base, R.sized.rank, R.sized.half);
    ring-tables = (R.sized.rings.up, R.sized.rings.next, R.sized.rings.out, R.sized.rings.into);
    queued = λ j i. R.line.range _ (omega (arith, R.line.queued j i));
    mates = partner-in R;
    tops = (forest R).used;
    bases = (forest R).home-range;
    parents = λ v i l. outer-in (forest R) ((forest R).inner v (sym (cell_in room s.line.label v (omega (arith, R.fits.routes))) ∙ l)).parent;
    nexts = λ c i u. (first c i u).1;
    outs = λ c i u. R.state.stored.inside c _ i (first c i u).0.out;
    intos = λ c i u. R.state.stored.inside _ _ (first c i u).1 (first c i u).0.into;
  }

module _ {g : Graph} {room : ℕ} {p : List ℕ} (S : Simple g) (N : Fits room g) (Y : Valid g p) where
  -- the invariant holds at all times of a search
  ready_at : (k j : ℕ) → Ready g room (partway room g p k j)
  unfolding partway
  ready_at k j =
      let s : Tables = run room g k (begun room g p) in
      let H : Hunt g room s = (swept_at S N Y k).hunt in
      let v : ℕ = cell room s.line.queue k in
      by-test (Ready g room) (ltb k s.line.tail) _ _
      (λ t. let o = H.ready.line.queued k (ltb-true k s.line.tail t) in
      (scan-looked S H v o (take j (g.row v)) (λ w e. (H.ready.line.range v (omega (arith, o)), has-take j (g.row v) w e))).hunt.ready)
      (λ t. H.ready)

  -- no counter comes to its end
  pub counters-short : 0 < room → (k j : ℕ) → Short room (partway room g p k j)
  counters-short h k j = ready-short h (ready_at k j)

  -- what the tables hold as a route is a route, and as a group a group
  pub tables-inside : (k j : ℕ) → Inside g room (partway room g p k j)
  tables-inside k j = ready-inside (ready_at k j)

  -- at most (n - 1) / 2 contractions in one search
  pub contractions-few : contractions room g p ≤ (g.order - 1) / 2
  unfolding contractions
  contractions-few = let R = (swept S N Y).hunt.ready in omega (arith, R.few, tail-reached R.line, tail-le R.line)

  -- a route whose row is scanned at turn k stands in the queue at k from then on
  scanned-at : (k d : ℕ) → scanned room g p k < g.order
      → (k < (run room g (k + d) (begun room g p)).line.tail) × (cell room (run room g (k + d) (begun room g p)).line.queue k ≡ scanned room g p k)
  unfolding scanned
  scanned-at k d = cases (ltb k (run room g k (begun room g p)).line.tail)
      (λ t h. let L = run-later S (hunt S N Y) k d in let i = ltb-true k _ t in (omega (arith, L.onward.longer), L.onward.kept k i ∙ rw t refl))
      (λ t h. let z : none < g.order = rw t at h in absurd (omega (arith, N.routes, N.small)))

  -- no row is scanned twice in one search
  pub rows-once : (j k : ℕ) → scanned room g p j < g.order → scanned room g p j ≡ scanned room g p k → j ≡ k
  rows-once j k h e =
      let a = scanned-at j k h in
      let b = scanned-at k j (omega (arith, e)) in
      let same : run room g (j + k) (begun room g p) ≡ run room g (k + j) (begun room g p) = ap (λ (i : ℕ). run room g i (begun room g p)) (add_comm j k) in
      (swept_at S N Y (j + k)).hunt.ready.line.once j k a.0 (omega (arith, b.0, ap (λ (s : Tables). s.line.tail) same))
      (a.1 ∙ e ∙ sym b.1 ∙ sym (ap (λ (s : Tables). cell room s.line.queue k) same))
