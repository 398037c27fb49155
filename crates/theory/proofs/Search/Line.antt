-- The labels and the queue: each outer route is queued once, in order of entry, and a step adds routes at the end. Assumes nothing.
use mathlib.Core.Path.{◌≡◌, refl, sym, ap, ◌∙◌, subst}
use mathlib.Core.Logic.{◌≢◌}
use mathlib.Core.Bool.{Bool, not}
use mathlib.Core.List.{List, [], ◌∷◌}
use Prim.Native.Nat.{ℕ, suc, ◌≤◌, ◌<◌}
use native.Mathlib.Omega.{arith}
use native.Mathlib.Decide.{ℕ_discrete, dec_lt}
use lib.Dec.{eqb}
use lib.ListN.{length, get_or, set, length-set, get_or-eq_default}
use lib.Seq.{get_or-set_same, get_or-set_other}
use borrow.Author.Tests.{eqb-true, eqb-false, eq-eqb, ne_eqb}
use Rattle.graphs.specs.Count.{count, but}
use Rattle.theory.specs.Search.Tables.{groups, cell, store, Line}
use Rattle.theory.specs.Search.Start.{enter}
use Rattle.theory.specs.Search.Rings.{admit, around}
use Rattle.graphs.proofs.Count.{tests, count-cong, count-mono, count-remove, count-not, count-le}
use Rattle.graphs.proofs.Sets.{is, is-self, is_pos, Is, same, other, is?, cnt}
use Rattle.trees.proofs.Ring.Chain.{Chain}
use Rattle.theory.proofs.Search.Cells.{by-test, cell_in, cell-past, store_is, store_length, store_same, store_other, one_more-is}

-- the label of v; what is no route is not reached
abbrev pub label_of : List ℕ → ℕ → ℕ
label_of l v = get_or l v 0

-- how many of n routes are reached
abbrev pub reached : ℕ → List ℕ → ℕ
reached n l = count n (λ v. not (eqb (label_of l v) 0))

-- n routes, in tables of that room
pub record Queued (n room : ℕ) (l : Line) : Type 0 where
  -- the tables have their cells
  pub fits : n ≤ room
  pub label-size : length l.label ≡ room
  pub queue-size : length l.queue ≡ room
  -- a label is one of the three
  pub labels : (v : ℕ) → label_of l.label v ≤ 2
  -- what is reached is a route
  pub range : (v : ℕ) → 0 < label_of l.label v → v < n
  -- the queue is as long as there are outer routes
  pub tally : l.tail ≡ count n (λ v. eqb (label_of l.label v) 2)
  -- what is queued is outer
  pub queued : (j : ℕ) → j < l.tail → label_of l.label (cell room l.queue j) ≡ 2
  -- what is outer is queued
  pub listed : (v : ℕ) → label_of l.label v ≡ 2 → (j : ℕ) × (j < l.tail) × (cell room l.queue j ≡ v)
  -- no route is queued twice
  pub once : (i j : ℕ) → i < l.tail → j < l.tail → cell room l.queue i ≡ cell room l.queue j → i ≡ j

-- what a step keeps
pub record Onward (room : ℕ) (l l' : Line) : Type 0 where
  -- a route that is reached stays so
  pub reached : (v : ℕ) → 0 < label_of l.label v → 0 < label_of l'.label v
  -- an outer route stays outer
  pub outer : (v : ℕ) → label_of l.label v ≡ 2 → label_of l'.label v ≡ 2
  -- the queue is only added to
  pub longer : l.tail ≤ l'.tail
  pub kept : (j : ℕ) → j < l.tail → cell room l'.queue j ≡ cell room l.queue j

pub onward-none : {room : ℕ} (l : Line) → Onward room l l
onward-none l = record { reached = λ v h. h; outer = λ v h. h; longer = omega arith; kept = λ j h. refl }

pub onward_then : {room : ℕ} {a b c : Line} → Onward room a b → Onward room b c → Onward room a c
onward_then p q = record {
  reached = λ v h. q.reached v (p.reached v h);
  outer = λ v h. q.outer v (p.outer v h);
  longer = omega (arith, p.longer, q.longer);
  kept = λ j h. q.kept j (omega (arith, p.longer)) ∙ p.kept j h;
}

-- some route is not outer: there is room in the queue
pub tail-room : {n room : ℕ} {l : Line} → Queued n room l → (v : ℕ) → v < n → label_of l.label v ≢ 2 → l.tail < n
tail-room {n} {l = l} q v i h =
    omega (
      arith,
      q.tally,
      count-not n (λ x. eqb (label_of l.label x) 2),
      count-remove n (λ x. not (eqb (label_of l.label x) 2)) v i (simp tests h),
    )

pub tail-le : {n room : ℕ} {l : Line} → Queued n room l → l.tail ≤ n
tail-le {n} {l = l} q = omega (arith, q.tally, count-le n (λ x. eqb (label_of l.label x) 2))

-- the outer routes are reached
pub tail-reached : {n room : ℕ} {l : Line} → Queued n room l → l.tail ≤ reached n l.label
tail-reached {n} {l = l} q = omega (
  arith,
  q.tally,
  count-mono n (λ x. eqb (label_of l.label x) 2) (λ x. not (eqb (label_of l.label x) 0)) (λ v i t. simp tests (omega (arith, eqb-true (label_of l.label v) 2 t))),
)

-- ---- a label is set

module _ (l : List ℕ) (v x : ℕ) (i : v < length l) where
  label_at : label_of (set l v x) v ≡ x
  label_at = get_or-set_same l v x 0 i

  label-off : (y : ℕ) → y ≢ v → label_of (set l v x) y ≡ label_of l y
  label-off y h = get_or-set_other l v y x 0 h

  by-v : {C : Type 0} (y : ℕ) → (y ≡ v → label_of (set l v x) y ≡ x → C) → (y ≢ v → label_of (set l v x) y ≡ label_of l y → C) → C
  by-v {C} y f g = go (ℕ_discrete y v)
    where
      go : Dec (y ≡ v) → C
      go (yes e) = f e (ap (label_of (set l v x)) e ∙ label_at)
      go (no ne) = g ne (label-off y ne)

  -- one route more is reached
  reached-new : (n : ℕ) → v < n → 0 < x → label_of l v ≡ 0 → reached n (set l v x) ≡ suc (reached n l)
  reached-new n k p z =
      let P : ℕ → Bool = λ y. not (eqb (label_of l y) 0) in
      let P' : ℕ → Bool = λ y. not (eqb (label_of (set l v x) y) 0) in
      let rest : count n (λ y. but (P' y) (eqb y v)) ≡ count n P = count-cong n (λ y. but (P' y) (eqb y v)) P (λ y j. by-v y
      (λ e r. rw (eq-eqb y v e) (sym (rw (eq-eqb (label_of l y) 0 (ap (label_of l) e ∙ z)) refl)))
      (λ ne r. rw (ne_eqb y v ne, r) refl)) in
      omega (arith, count-remove n P' v k (simp tests (omega (arith, label_at))))

  -- or it was before
  reached-old : (n : ℕ) → 0 < x → 0 < label_of l v → reached n (set l v x) ≡ reached n l
  reached-old n p z = count-cong n (λ y. not (eqb (label_of (set l v x) y) 0)) (λ y. not (eqb (label_of l y) 0)) (λ y j. by-v y
      (λ e r. rw (ne_eqb (label_of (set l v x) y) 0 (omega (arith, r)), ne_eqb (label_of l y) 0 (omega (arith, ap (label_of l) e))) refl)
      (λ ne r. rw r refl))

-- ---- v becomes outer

pub record Entered (n room : ℕ) (l : Line) (v : ℕ) (l' : Line) : Type 0 where
  pub queued : Queued n room l'
  pub onward : Onward room l l'
  pub at : label_of l'.label v ≡ 2
  pub off : (x : ℕ) → x ≢ v → label_of l'.label x ≡ label_of l.label x
  pub tail : l'.tail ≡ suc l.tail
  pub new : label_of l.label v ≡ 0 → reached n l'.label ≡ suc (reached n l.label)
  pub old : 0 < label_of l.label v → reached n l'.label ≡ reached n l.label

module _ {n room : ℕ} {l : Line} (q : Queued n room l) (v : ℕ) (i : v < n) (h : label_of l.label v ≢ 2) where
  abbrev l' : Line
  l' = record { label = set l.label v 2; queue = store room l.queue l.tail v; tail = suc l.tail }

  t-room : l.tail < room
  t-room = omega (arith, tail-room q v i h, q.fits)

  enter-is : enter room l v ≡ l'
  unfolding enter
  enter-is = rw (store_is room l.label v 2 q.label-size, one_more-is room l.tail (omega (arith, t-room))) refl

  v-in : v < length l.label
  v-in = omega (arith, q.label-size, q.fits)

  abbrev lab' : ℕ → ℕ
  lab' = label_of (set l.label v 2)

  at-end : cell room l'.queue l.tail ≡ v
  at-end = store_same room l.queue l.tail v t-room q.queue-size

  before : (j : ℕ) → j ≢ l.tail → cell room l'.queue j ≡ cell room l.queue j
  before j ne = store_other room l.queue l.tail v j ne

  -- a route of the queue is not v
  not-v : (j : ℕ) → j < l.tail → cell room l.queue j ≢ v
  not-v j k z = h (ap (label_of l.label) (sym z) ∙ q.queued j k)

  tally' : suc l.tail ≡ count n (λ x. eqb (lab' x) 2)
  tally' =
      let P : ℕ → Bool = λ x. eqb (label_of l.label x) 2 in
      let P' : ℕ → Bool = λ x. eqb (lab' x) 2 in
      let rest : count n (λ x. but (P' x) (eqb x v)) ≡ count n P = count-cong n (λ x. but (P' x) (eqb x v)) P (λ x k.
      by-v l.label v 2 v-in x
      (λ e r. rw (eq-eqb x v e) (sym (ne_eqb (label_of l.label x) 2 (λ z. h (ap (label_of l.label) (sym e) ∙ z)))))
      (λ ne r. rw (ne_eqb x v ne, r) refl)) in
      omega (arith, count-remove n P' v i (eq-eqb _ _ (label_at l.label v 2 v-in)), q.tally)

  queued' : (j : ℕ) → j < suc l.tail → lab' (cell room l'.queue j) ≡ 2
  queued' j k = go (ℕ_discrete j l.tail)
    where
      go : Dec (j ≡ l.tail) → lab' (cell room l'.queue j) ≡ 2
      go (yes e) = ap lab' (ap (cell room l'.queue) e ∙ at-end) ∙ label_at l.label v 2 v-in
      go (no ne) = let o = q.queued j (omega arith) in
          ap lab' (before j ne) ∙ label-off l.label v 2 v-in (cell room l.queue j) (not-v j (omega arith)) ∙ o

  listed' : (x : ℕ) → lab' x ≡ 2 → (j : ℕ) × (j < suc l.tail) × (cell room l'.queue j ≡ x)
  listed' x o = by-v l.label v 2 v-in x
      (λ e r. (l.tail, omega arith, at-end ∙ sym e))
      (λ ne r. let t = q.listed x (sym r ∙ o) in
      (t.0, omega (arith, t.1), before t.0 (omega (arith, t.1)) ∙ t.2))

  once' : (a b : ℕ) → a < suc l.tail → b < suc l.tail → cell room l'.queue a ≡ cell room l'.queue b → a ≡ b
  once' a b j k e = go (ℕ_discrete a l.tail) (ℕ_discrete b l.tail)
    where
      go : Dec (a ≡ l.tail) → Dec (b ≡ l.tail) → a ≡ b
      go (yes p) (yes r) = p ∙ sym r
      go (yes p) (no r) = absurd (not-v b (omega arith) (sym (before b r) ∙ sym e ∙ ap (cell room l'.queue) p ∙ at-end))
      go (no p) (yes r) = absurd (not-v a (omega arith) (sym (before a p) ∙ e ∙ ap (cell room l'.queue) r ∙ at-end))
      go (no p) (no r) = q.once a b (omega arith) (omega arith) (sym (before a p) ∙ e ∙ before b r)

  pub entered : Entered n room l v (enter room l v)
  entered = subst (Entered n room l v) (sym enter-is) (record {
    queued = record {
      fits = q.fits;
      label-size = simp length-set q.label-size;
      queue-size = store_length room l.queue l.tail v ∙ q.queue-size;
      labels = λ x. by-v l.label v 2 v-in x (λ e r. omega (arith, r)) (λ ne r. omega (arith, r, q.labels x));
      range = λ x k. by-v l.label v 2 v-in x (λ e r. omega (arith, e, i)) (λ ne r. q.range x (omega (arith, r, k)));
      tally = tally';
      queued = queued';
      listed = listed';
      once = once';
    };
    onward = record {
      reached = λ x k. by-v l.label v 2 v-in x (λ e r. omega (arith, r)) (λ ne r. omega (arith, r, k));
      outer = λ x o. by-v l.label v 2 v-in x (λ e r. r) (λ ne r. r ∙ o);
      longer = omega arith;
      kept = λ j k. before j (omega arith);
    };
    at = label_at l.label v 2 v-in;
    off = label-off l.label v 2 v-in;
    tail = refl;
    new = λ z. reached-new l.label v 2 v-in n i (omega arith) z;
    old = λ z. reached-old l.label v 2 v-in n (omega arith) z;
  })

-- ---- a route not reached becomes inner

abbrev pub inner-line : Line → ℕ → Line
inner-line l w = record { label = set l.label w 1; queue = l.queue; tail = l.tail }

module _ {n room : ℕ} {l : Line} (q : Queued n room l) (w : ℕ) (i : w < n) (h : label_of l.label w ≡ 0) where
  w-in : w < length l.label
  w-in = omega (arith, q.label-size, q.fits)

  by-w : {C : Type 0} (x : ℕ) → (x ≡ w → label_of (set l.label w 1) x ≡ 1 → label_of l.label x ≡ 0 → C) → (x ≢ w → label_of (set l.label w 1) x ≡ label_of l.label x → C) → C
  by-w x f g = by-v l.label w 1 w-in x (λ e r. f e r (ap (label_of l.label) e ∙ h)) g

  same-2 : (x : ℕ) → label_of l.label x ≡ 2 → label_of (set l.label w 1) x ≡ 2
  same-2 x o = by-w x (λ e r z. absurd (omega (arith, z, o))) (λ ne r. r ∙ o)

  pub inner-queued : Queued n room (inner-line l w)
  inner-queued = record {
    fits = q.fits;
    label-size = simp length-set q.label-size;
    queue-size = q.queue-size;
    labels = λ x. by-w x (λ e r z. omega (arith, r)) (λ ne r. omega (arith, r, q.labels x));
    range = λ x k. by-w x (λ e r z. omega (arith, e, i)) (λ ne r. q.range x (omega (arith, r, k)));
    tally = q.tally ∙ count-cong n (λ x. eqb (label_of l.label x) 2) (λ x. eqb (label_of (set l.label w 1) x) 2) (λ x k. by-w x (λ e r z. rw (r, z) refl) (λ ne r. rw r refl));
    queued = λ j k. same-2 _ (q.queued j k);
    listed = λ x o. q.listed x (by-w x (λ e r z. absurd (omega (arith, r, o))) (λ ne r. sym r ∙ o));
    once = q.once;
  }

  pub inner-onward : Onward room l (inner-line l w)
  inner-onward = record {
    reached = λ x k. by-w x (λ e r z. omega (arith, r)) (λ ne r. omega (arith, r, k));
    outer = same-2;
    longer = omega arith;
    kept = λ j k. refl;
  }

  pub inner-reached : reached n (set l.label w 1) ≡ suc (reached n l.label)
  inner-reached = reached-new l.label w 1 w-in n i (omega arith) h

-- ---- round a ring

-- whether a is an inner route, by the table
pub inner-test : (room : ℕ) (l : List ℕ) (a : ℕ) → length l ≡ room → eqb (cell room l a) 1 ≡ eqb (label_of l a) 1
inner-test room l a h = go (dec_lt a room)
  where
    go : Dec (a < room) → eqb (cell room l a) 1 ≡ eqb (label_of l a) 1
    go (yes i) = ap (λ (x : ℕ). eqb x 1) (cell_in room l a i)
    go (no i) = rw (cell-past room l a (omega arith), get_or-eq_default l 0 {n = a} (omega (arith, h))) refl

-- the groups of a list, one after the other
pub admit_all : ℕ → List ℕ → Line → Line
admit_all room [] l = l
admit_all room (a ∷ r) l = admit_all room r (admit room l a)

pub around-all : (room : ℕ) (next : List ℕ) (K : ℕ → ℕ → Type 0) → ((c d : ℕ) → K c d → cell (groups room) next c ≡ d) → (a : ℕ) (r : List ℕ) (b : ℕ) → Chain K a r b
    → (l : Line) → around room next (suc (length r)) a l ≡ admit_all room (a ∷ r) l
unfolding around admit_all
around-all room next K f a [] b c l = refl
around-all room next K f a (d ∷ r) b c l =
    ap (λ (z : ℕ). around room next (suc (length r)) z (admit room l a)) (f a d c.0) ∙ around-all room next K f d r b c.1 (admit room l a)

-- the inner routes of r are outer, and nothing else is changed
pub record Admitted (n room : ℕ) (r : List ℕ) (l l' : Line) : Type 0 where
  pub queued : Queued n room l'
  pub onward : Onward room l l'
  pub same : (x : ℕ) → label_of l.label x ≢ 1 → label_of l'.label x ≡ label_of l.label x
  pub off : (x : ℕ) → cnt r x ≡ 0 → label_of l'.label x ≡ label_of l.label x
  pub «in» : (x : ℕ) → label_of l.label x ≡ 1 → 0 < cnt r x → label_of l'.label x ≡ 2
  pub more : (x : ℕ) → label_of l.label x ≡ 1 → 0 < cnt r x → l.tail < l'.tail
  pub reach : reached n l'.label ≡ reached n l.label

admit-in : {n room : ℕ} (l : Line) (a : ℕ) → Queued n room l → Admitted n room (a ∷ []) l (admit room l a)
unfolding admit
admit-in {n} {room} l a q = by-test (Admitted n room (a ∷ []) l) (eqb (cell room l.label a) 1) _ _
    (λ t.
    let e : label_of l.label a ≡ 1 = eqb-true _ _ (sym (inner-test room l.label a q.label-size) ∙ t) in
    let i : a < n = q.range a (omega (arith, e)) in
    let E : Entered n room l a (enter room l a) = entered q a i (omega (arith, e)) in
    record {
      queued = E.queued;
      onward = E.onward;
      same = λ x ne. E.off x (λ z. ne (ap (label_of l.label) z ∙ e));
      off = λ x z. E.off x (λ y. omega (arith, z, ap (is a) y, is-self a));
      «in» = λ x o k. subst (λ (z : ℕ). label_of (enter room l a).label z ≡ 2) (is_pos a x (omega arith)) E.at;
      more = λ x o k. omega (arith, E.tail);
      reach = E.old (omega (arith, e));
    })
    (λ t.
    let ne : label_of l.label a ≢ 1 = eqb-false _ _ (sym (inner-test room l.label a q.label-size) ∙ t) in
    record {
      queued = q;
      onward = onward-none l;
      same = λ x z. refl;
      off = λ x z. refl;
      «in» = λ x o k. absurd (ne (ap (label_of l.label) (is_pos a x (omega arith)) ∙ o));
      more = λ x o k. absurd (ne (ap (label_of l.label) (is_pos a x (omega arith)) ∙ o));
      reach = refl;
    })

pub admit-all : {n room : ℕ} (r : List ℕ) (l : Line) → Queued n room l → Admitted n room r l (admit_all room r l)
unfolding admit_all
admit-all [] l q = record {
  queued = q;
  onward = onward-none l;
  same = λ x z. refl;
  off = λ x z. refl;
  «in» = λ x o k. absurd (omega arith);
  more = λ x o k. absurd (omega arith);
  reach = refl;
}
admit-all {n} {room} (a ∷ r) l q =
    let p : Admitted n room (a ∷ []) l (admit room l a) = admit-in l a q in
    join p (admit-all r (admit room l a) p.queued)
  where
    join : {l₁ l₂ : Line} → Admitted n room (a ∷ []) l l₁ → Admitted n room r l₁ l₂ → Admitted n room (a ∷ r) l l₂
    join {l₁} {l₂} p s = record {
      queued = s.queued;
      onward = onward_then p.onward s.onward;
      same = λ x z. s.same x (λ y. z (sym (p.same x z) ∙ y)) ∙ p.same x z;
      off = λ x z. s.off x (omega arith) ∙ p.off x (omega arith);
      «in» = λ x o k. in' x o k (is? a x);
      more = λ x o k. more' x o k (is? a x);
      reach = s.reach ∙ p.reach;
    }
      where
        in' : (x : ℕ) → label_of l.label x ≡ 1 → 0 < cnt (a ∷ r) x → Is a x → label_of l₂.label x ≡ 2
        in' x o k (same e i) = s.onward.outer x (p.«in» x o (omega (arith, i)))
        in' x o k (other e i) = s.«in» x (p.off x (omega (arith, i)) ∙ o) (omega (arith, i, k))

        more' : (x : ℕ) → label_of l.label x ≡ 1 → 0 < cnt (a ∷ r) x → Is a x → l.tail < l₂.tail
        more' x o k (same e i) = omega (arith, p.more x o (omega (arith, i)), s.onward.longer)
        more' x o k (other e i) = omega (arith, p.onward.longer, s.more x (p.off x (omega (arith, i)) ∙ o) (omega (arith, i, k)))
