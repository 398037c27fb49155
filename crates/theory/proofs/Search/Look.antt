-- An entry, a row, all rows: the search keeps the invariant, and of the rows that are done every neighbour is reached, and two outer routes that are joined
-- are in one group. (A scanned route with an inner neighbour says nothing once that one turns outer, so this speaks of pairs of scanned routes.)
-- Assumes nothing.
use mathlib.Core.Path.{◌≡◌, refl, sym, ap, ◌∙◌, subst}
use mathlib.Core.Logic.{◌≢◌, ◌⊎◌, inl, inr}
use mathlib.Core.Bool.{true, false}
use mathlib.Core.List.{List, [], ◌∷◌}
use Prim.Native.Nat.{ℕ, zero, suc, ◌+◌, ◌≤◌, ◌<◌}
use native.Mathlib.Omega.{arith}
use native.Mathlib.Nat.{not-suc-le-zero, add-zero, add-suc}
use native.Mathlib.Decide.{ℕ_discrete}
use lib.Dec.{eqb, ltb}
use borrow.Author.Tests.{eqb-true, eqb-false, ltb-true, ltb-false}
use Rattle.graphs.specs.Graph.{Graph, Simple, joined, has}
use Rattle.theory.specs.Search.Tables.{groups, cell, Tables}
use Rattle.theory.specs.Search.Grow.{grow}
use Rattle.theory.specs.Search.Rings.{absorb, contract}
use Rattle.theory.specs.Search.Look.{strike, touch, look, scan_row, turn, run}
use Rattle.graphs.proofs.Count.{cases, clash}
use Rattle.graphs.proofs.Graph.{has-head, has-tail, has-cases}
use Rattle.trees.proofs.Forest.Shape.{plain}
use Rattle.theory.proofs.Search.Cells.{by-test, cell_in}
use Rattle.theory.proofs.Search.Line.{label_of, onward-none}
use Rattle.theory.proofs.Search.Ready.{Adj, bounded, Ready, Later, later-none, later-then, forest}
use Rattle.theory.proofs.Search.Grow.{grow-ready, grow-later, grow-label, grow-hit}
use Rattle.theory.proofs.Search.Contract.{contract-ready, contract-later, contract-joins, contract-ids, contract-hit}

-- the edge that was found joins outer routes of two trees
pub record Struck (g : Graph) (room : ℕ) (s : Tables) : Type 0 where
  pub one-outer : label_of s.line.label s.one ≡ 2
  pub two-outer : label_of s.line.label s.two ≡ 2
  pub edge : Adj g s.one s.two
  pub apart : cell (groups room) s.root (cell room s.top s.one) ≢ cell (groups room) s.root (cell room s.top s.two)

-- the invariant, and what a found edge is
pub record Hunt (g : Graph) (room : ℕ) (s : Tables) : Type 0 where
  pub ready : Ready g room s
  pub struck : s.hit ≡ true → Struck g room s

-- from s to s' the entries of P have been looked at from v
pub record Looked (g : Graph) (room : ℕ) (s s' : Tables) (v : ℕ) (P : ℕ → Type 0) : Type 0 where
  pub hunt : Hunt g room s'
  pub later : Later room s s'
  pub seen : s'.hit ≡ false → (w : ℕ) → P w → (0 < label_of s'.line.label w) × (label_of s.line.label w ≡ 2 → cell room s'.top w ≡ cell room s'.top v)

strike-ready : {g : Graph} {room : ℕ} {s : Tables} (v w : ℕ) → Ready g room s → Ready g room (strike s v w)
unfolding strike
strike-ready v w R = record {
  fits = R.fits;
  order = R.order;
  sized = record {
    mate = R.sized.mate;
    parent = R.sized.parent;
    top = R.sized.top;
    root = R.sized.root;
    base = R.sized.base;
    rank = R.sized.rank;
    half = R.sized.half;
    rings = R.sized.rings;
  };
  line = R.line;
  state = R.state;
  few = R.few;
  ranks = R.ranks;
  halves = R.halves;
}

module _ {g : Graph} {room : ℕ} {s : Tables} (S : Simple g) (H : Hunt g room s) (v w : ℕ) (o : label_of s.line.label v ≡ 2) (e : Adj g v w) where
  abbrev Goal : Tables → Type 0
  Goal s' = Looked g room s s' v (λ x. x ≡ w)

  abbrev lab : ℕ → ℕ
  lab = label_of s.line.label

  abbrev t : ℕ → ℕ
  t = cell room s.top

  w-in : w < g.order
  w-in = (bounded S v w e).1

  -- the label that is read
  label_is : cell room s.line.label w ≡ lab w
  label_is = cell_in room s.line.label w (omega (arith, w-in, H.ready.fits.routes))

  -- nothing is done
  idle : (s.hit ≡ false → (0 < lab w) × (lab w ≡ 2 → t w ≡ t v)) → Goal s
  idle f = record {
    hunt = H;
    later = later-none s;
    seen = λ h x q. let p = f h in (subst (λ (y : ℕ). 0 < lab y) (sym q) p.0, λ k. ap t q ∙ p.1 (ap lab (sym q) ∙ k));
  }

  -- a route of an outer route's group is outer
  same-group : t w ≡ t v → lab w ≡ 2
  same-group q = go (ℕ_discrete (lab w) 2)
    where
      go : Dec (lab w ≡ 2) → lab w ≡ 2
      go (yes k) = k
      go (no k) = ap lab (sym (plain (forest H.ready) w-in k v (sym q ∙ (forest H.ready).single w w-in k))) ∙ o

  by-grow : s.hit ≡ false → lab w ≡ 0 → Goal (grow room s v w)
  by-grow f z = record {
    hunt = record { ready = grow-ready S H.ready v w o e z; struck = λ h. clash s.hit (sym (grow-hit S H.ready v w o e z) ∙ h) f };
    later = grow-later S H.ready v w o e z;
    seen = λ h x q. (
      subst (λ (y : ℕ). 0 < label_of (grow room s v w).line.label y) (sym q) (omega (arith, grow-label S H.ready v w o e z)),
      λ k. absurd (omega (arith, z, k, ap lab q)),
    );
  }

  by-contract : s.hit ≡ false → lab w ≡ 2 → cell (groups room) s.root (t v) ≡ cell (groups room) s.root (t w) → t w ≢ t v → Goal (contract room s v w)
  by-contract f z r ne = record {
    hunt = record { ready = contract-ready S H.ready v w o z e r ne; struck = λ h. clash s.hit (sym (contract-hit S H.ready v w o z e r ne) ∙ h) f };
    later = contract-later S H.ready v w o z e r ne;
    seen = λ h x q. (
      subst (λ (y : ℕ). 0 < label_of (contract room s v w).line.label y) (sym q) ((contract-later S H.ready v w o z e r ne).onward.reached w (omega (arith, z))),
      λ k. ap (cell room (contract room s v w).top) q ∙ contract-joins S H.ready v w o z e r ne,
    );
  }

  by-strike : s.hit ≡ false → lab w ≡ 2 → cell (groups room) s.root (t v) ≢ cell (groups room) s.root (t w) → Goal (strike s v w)
  unfolding strike
  by-strike f z r = record {
    hunt = record { ready = strike-ready v w H.ready; struck = λ h. record { one-outer = o; two-outer = z; edge = e; apart = r } };
    later = record { together = λ a b q. q; onward = onward-none s.line; mates = refl; unhit = λ h. clash true refl h };
    seen = λ h. clash true refl h;
  }

  -- a label that is neither of the others
  outer-left : eqb (cell room s.line.label w) 1 ≡ false → eqb (cell room s.line.label w) 0 ≡ false → lab w ≡ 2
  outer-left q r = omega (arith, label_is, eqb-false (cell room s.line.label w) 1 q, eqb-false (cell room s.line.label w) 0 r, H.ready.line.labels w)

  pub look-looked : Goal (look room s v w)
  unfolding look touch
  look-looked =
      by-test Goal s.hit _ _ (λ h. idle (λ f. clash s.hit h f))
      (λ f. by-test Goal (eqb (t w) (t v)) _ _ (λ h. let q = eqb-true _ _ h in idle (λ f. (omega (arith, same-group q), λ k. q)))
      (λ p. by-test Goal (eqb (cell room s.line.label w) 1) _ _
      (λ h. let q : lab w ≡ 1 = sym label_is ∙ eqb-true _ _ h in idle (λ f. (omega (arith, q), λ k. absurd (omega (arith, q, k)))))
      (λ q. by-test Goal (eqb (cell room s.line.label w) 0) _ _ (λ h. by-grow f (sym label_is ∙ eqb-true _ _ h))
      (λ r. let two : lab w ≡ 2 = outer-left q r in
      by-test Goal (eqb (cell (groups room) s.root (t v)) (cell (groups room) s.root (t w))) _ _ (λ h. by-contract f two (eqb-true _ _ h) (eqb-false _ _ p)) (λ h. by-strike f two (eqb-false _ _ h))))))

  -- an entry makes one group, by a contraction, or none
  pub look-ids : ((look room s v w).ids ≡ s.ids) ⊎ ((look room s v w).ids ≡ suc s.ids)
  unfolding look touch grow strike
  look-ids =
      by-test (λ (x : Tables). (x.ids ≡ s.ids) ⊎ (x.ids ≡ suc s.ids)) s.hit _ _ (λ h. inl refl)
      (λ f. by-test (λ (x : Tables). (x.ids ≡ s.ids) ⊎ (x.ids ≡ suc s.ids)) (eqb (t w) (t v)) _ _ (λ h. inl refl)
      (λ p. by-test (λ (x : Tables). (x.ids ≡ s.ids) ⊎ (x.ids ≡ suc s.ids)) (eqb (cell room s.line.label w) 1) _ _ (λ h. inl refl)
      (λ q. by-test (λ (x : Tables). (x.ids ≡ s.ids) ⊎ (x.ids ≡ suc s.ids)) (eqb (cell room s.line.label w) 0) _ _ (λ h. inl grow-ids)
      (λ r. by-test (λ (x : Tables). (x.ids ≡ s.ids) ⊎ (x.ids ≡ suc s.ids)) (eqb (cell (groups room) s.root (t v)) (cell (groups room) s.root (t w))) _ _
      (λ h. inr (contract-ids S H.ready v w o (outer-left q r) e (eqb-true _ _ h) (eqb-false _ _ p))) (λ h. inl strike-ids)))))
    where
      grow-ids : (grow room s v w).ids ≡ s.ids
      grow-ids = refl

      strike-ids : (strike s v w).ids ≡ s.ids
      strike-ids = refl

-- a row
pub scan-looked : {g : Graph} {room : ℕ} {s : Tables} → Simple g → Hunt g room s → (v : ℕ) → label_of s.line.label v ≡ 2 → (ws : List ℕ) → ((w : ℕ) → has ws w ≡ true → Adj g v w)
    → Looked g room s (scan_row room s v ws) v (λ w. has ws w ≡ true)
unfolding scan_row has
scan-looked {s = s} S H v o [] f = record { hunt = H; later = later-none s; seen = λ h w k. clash false k refl }
scan-looked {g} {room} {s} S H v o (w ∷ ws) f =
    let a : Looked g room s (look room s v w) v (λ x. x ≡ w) = look-looked S H v w o (f w (has-head w ws)) in
    join a (scan-looked {s = look room s v w} S a.hunt v (a.later.onward.outer v o) ws (λ x h. f x (has-tail w ws x h)))
  where
    join : {b c : Tables} → Looked g room s b v (λ x. x ≡ w) → Looked g room b c v (λ x. has ws x ≡ true) → Looked g room s c v (λ x. has (w ∷ ws) x ≡ true)
    join {b} {c} p q = record {
      hunt = q.hunt;
      later = later-then p.later q.later;
      seen = λ h x k. has-cases w ws x k
          (λ e. let r = p.seen (q.later.unhit h) x e in (q.later.onward.reached x r.0, λ l. q.later.together x v (r.1 l)))
          (λ m. let r = q.seen h x m in (r.0, λ l. r.1 (p.later.onward.outer x l)));
    }

-- ---- the rows of the first k of the queue are done

pub record Swept (g : Graph) (room k : ℕ) (s : Tables) : Type 0 where
  pub hunt : Hunt g room s
  pub reached : s.hit ≡ false → (j w : ℕ) → j < k → j < s.line.tail → joined g (cell room s.line.queue j) w ≡ true → 0 < label_of s.line.label w
  pub together : s.hit ≡ false → (i j : ℕ) → i < k → j < k → i < s.line.tail → j < s.line.tail → joined g (cell room s.line.queue i) (cell room s.line.queue j) ≡ true
      → cell room s.top (cell room s.line.queue i) ≡ cell room s.top (cell room s.line.queue j)

pub sweep-none : {g : Graph} {room : ℕ} {s : Tables} → Hunt g room s → Swept g room 0 s
sweep-none H = record { hunt = H; reached = λ h j w k. absurd (not-suc-le-zero k); together = λ h i j k. absurd (not-suc-le-zero k) }

module _ {g : Graph} {room k : ℕ} {s : Tables} (S : Simple g) (W : Swept g room k s) where
  abbrev v : ℕ
  v = cell room s.line.queue k

  turn-done : k < s.line.tail → {s' : Tables} → Looked g room s s' v (λ w. has (g.row v) w ≡ true) → Swept g room (suc k) s'
  turn-done l {s'} L = record {
    hunt = L.hunt;
    reached = λ h j w i t a. reach h j w i (ap-queue j (omega arith) w a) (ℕ_discrete j k);
    together = λ h i j a b c d e.
        subst (λ (y : ℕ). cell room s'.top y ≡ cell room s'.top (cell room s'.line.queue j)) (sym (same i (omega arith)))
        (subst (λ (y : ℕ). cell room s'.top (cell room s.line.queue i) ≡ cell room s'.top y) (sym (same j (omega arith)))
        (both h i j a b (subst (λ (y : ℕ). joined g (cell room s.line.queue i) y ≡ true) (same j (omega arith)) (ap-queue i (omega arith) _ e)) (ℕ_discrete i k) (ℕ_discrete j k)));
  }
    where
      same : (j : ℕ) → j < s.line.tail → cell room s'.line.queue j ≡ cell room s.line.queue j
      same j i = L.later.onward.kept j i

      ap-queue : (j : ℕ) → j < s.line.tail → (w : ℕ) → joined g (cell room s'.line.queue j) w ≡ true → joined g (cell room s.line.queue j) w ≡ true
      ap-queue j i w a = subst (λ (y : ℕ). joined g y w ≡ true) (same j i) a

      outer : (j : ℕ) → j < s.line.tail → label_of s.line.label (cell room s.line.queue j) ≡ 2
      outer j i = W.hunt.ready.line.queued j i

      reach : s'.hit ≡ false → (j w : ℕ) → j < suc k → joined g (cell room s.line.queue j) w ≡ true → Dec (j ≡ k) → 0 < label_of s'.line.label w
      reach h j w i a (yes e) = (L.seen h w (subst (λ (y : ℕ). joined g (cell room s.line.queue y) w ≡ true) e a)).0
      reach h j w i a (no e) = L.later.onward.reached w (W.reached (L.later.unhit h) j w (omega arith) (omega arith) a)

      both : s'.hit ≡ false → (i j : ℕ) → i < suc k → j < suc k → joined g (cell room s.line.queue i) (cell room s.line.queue j) ≡ true → Dec (i ≡ k) → Dec (j ≡ k)
          → cell room s'.top (cell room s.line.queue i) ≡ cell room s'.top (cell room s.line.queue j)
      both h i j a b e (no p) (no q) = L.later.together _ _ (W.together (L.later.unhit h) i j (omega arith) (omega arith) (omega arith) (omega arith) e)
      both h i j a b e (yes p) q =
          let e' : joined g v (cell room s.line.queue j) ≡ true = subst (λ (y : ℕ). joined g (cell room s.line.queue y) (cell room s.line.queue j) ≡ true) p e in
          ap (λ (y : ℕ). cell room s'.top (cell room s.line.queue y)) p ∙ sym ((L.seen h (cell room s.line.queue j) e').1 (outer j (omega arith)))
      both h i j a b e (no p) (yes q) =
          let e' : joined g (cell room s.line.queue i) v ≡ true = subst (λ (y : ℕ). joined g (cell room s.line.queue i) (cell room s.line.queue y) ≡ true) q e in
          let i-in : cell room s.line.queue i < g.order = W.hunt.ready.line.range _ (omega (arith, outer i (omega arith))) in
          (L.seen h (cell room s.line.queue i) (S.both_ways _ _ i-in e')).1 (outer i (omega arith)) ∙ ap (λ (y : ℕ). cell room s'.top (cell room s.line.queue y)) (sym q)

  turn-idle : s.line.tail ≤ k → Swept g room (suc k) s
  turn-idle l = record {
    hunt = W.hunt;
    reached = λ h j w i t a. W.reached h j w (omega arith) t a;
    together = λ h i j a b c d e. W.together h i j (omega arith) (omega arith) c d e;
  }

  pub turn-swept : Swept g room (suc k) (turn room g k s)
  unfolding turn
  turn-swept = cases (ltb k s.line.tail)
      (λ t. rw t (turn-done (ltb-true _ _ t) (scan-looked S W.hunt v (W.hunt.ready.line.queued k (ltb-true _ _ t)) (g.row v)
      (λ w h. (W.hunt.ready.line.range v (omega (arith, W.hunt.ready.line.queued k (ltb-true _ _ t))), h)))))
      (λ t. rw t (turn-idle (ltb-false _ _ t)))

pub run-swept : {g : Graph} {room : ℕ} {s : Tables} → Simple g → Hunt g room s → (k : ℕ) → Swept g room k (run room g k s)
unfolding run
run-swept S H zero = sweep-none H
run-swept S H (suc k) = turn-swept S (run-swept S H k)

-- ---- a search only goes on: labels, queue and groups of a later time are those of before and more

turn-later : {g : Graph} {room : ℕ} {s : Tables} → Simple g → Hunt g room s → (k : ℕ) → Later room s (turn room g k s)
unfolding turn
turn-later {g} {room} {s} S H k = by-test (Later room s) (ltb k s.line.tail) _ _
    (λ t. let o = H.ready.line.queued k (ltb-true _ _ t) in
    (scan-looked S H (cell room s.line.queue k) o (g.row (cell room s.line.queue k)) (λ w h. (H.ready.line.range _ (omega (arith, o)), h))).later)
    (λ t. later-none s)

pub run-later : {g : Graph} {room : ℕ} {s : Tables} → Simple g → Hunt g room s → (k d : ℕ) → Later room (run room g k s) (run room g (k + d) s)
unfolding run
run-later {g} {room} {s} S H k zero = rw (add-zero k) (later-none (run room g k s))
run-later {g} {room} {s} S H k (suc d) = rw (add-suc k d) (later-then (run-later S H k d) (turn-later S (run-swept S H (k + d)).hunt (k + d)))

-- ---- a search reads the partners and does not change them

pub look-mate : (room : ℕ) (s : Tables) (v w : ℕ) → (look room s v w).mate ≡ s.mate
unfolding look touch grow contract absorb strike
look-mate room s v w =
    by-test P s.hit _ _ (λ t. refl)
    (λ f. by-test P (eqb (cell room s.top w) (cell room s.top v)) _ _ (λ t. refl)
    (λ p. by-test P (eqb (cell room s.line.label w) 1) _ _ (λ t. refl)
    (λ q. by-test P (eqb (cell room s.line.label w) 0) _ _ (λ t. refl)
    (λ r. by-test P (eqb (cell (groups room) s.root (cell room s.top v)) (cell (groups room) s.root (cell room s.top w))) _ _ (λ t. refl) (λ t. refl)))))
  where
    P : Tables → Type 0
    P x = x.mate ≡ s.mate

pub scan-mate : (room : ℕ) (s : Tables) (v : ℕ) (ws : List ℕ) → (scan_row room s v ws).mate ≡ s.mate
unfolding scan_row
scan-mate room s v [] = refl
scan-mate room s v (w ∷ ws) = scan-mate room (look room s v w) v ws ∙ look-mate room s v w

pub run-mate : (room : ℕ) (g : Graph) (k : ℕ) (s : Tables) → (run room g k s).mate ≡ s.mate
unfolding run turn
run-mate room g zero s = refl
run-mate room g (suc k) s =
    by-test (λ (x : Tables). x.mate ≡ s.mate) (ltb k (run room g k s).line.tail) _ _ (λ t. scan-mate room (run room g k s) _ _ ∙ run-mate room g k s) (λ t. run-mate room g k s)
