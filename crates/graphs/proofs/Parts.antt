-- The table of parts says who can walk where outside the set: two routes have one root exactly where a walk leads from one to the other, and the
-- root is the least route of its part. So parts hang on who is joined and on the set, and not on the order of the entries. Assumes nothing.
use mathlib.Core.Path.{◌≡◌, refl, sym, ap, ◌∙◌}
use mathlib.Core.Logic.{◌≢◌, ◌⊎◌, inl, inr}
use mathlib.Core.Bool.{Bool, true, false, ◌||◌}
use mathlib.Core.List.{List, [], ◌∷◌, map}
use Prim.Native.Nat.{ℕ, zero, suc, ◌+◌, ◌≤◌, ◌<◌, min}
use native.Mathlib.Nat.{not-suc-le-zero}
use native.Mathlib.Numerals.{add-one}
use native.Mathlib.Omega.{arith}
use lib.Dec.{eqb, ltb}
use lib.ListN.{length, get_or, take, length-map}
use borrow.Author.Tests.{eqb-true, eqb-false, eq-eqb, ne_eqb, ltb-true, ltb-false}
use Rattle.graphs.specs.Graph.{Graph, Simple, joined, has}
use Rattle.graphs.specs.Parts.{run, merge, join, link, link_row, link_rows, parts, root, Walk, stay, step}
use Rattle.graphs.proofs.Count.{cases, clash}
use Rattle.graphs.proofs.Graph.{has-head, has-tail, has-cases}

-- a relation that each route has to itself, that goes both ways, and that goes on from one route to the next
pub record Same (R : ℕ → ℕ → Type 0) : Type 0 where
  pub self : (x : ℕ) → R x x
  pub back : {x y : ℕ} → R x y → R y x
  pub then : {x y z : ℕ} → R x y → R y z → R x z

-- ---- a table of parts is as long as the graph, and each route's name is the least of its part

pub record Table (n : ℕ) (c : List ℕ) : Type 0 where
  pub size : length c ≡ n
  pub low : (v : ℕ) → v < n → get_or c v 0 ≤ v
  pub fixed : (v : ℕ) → v < n → get_or c (get_or c v 0) 0 ≡ get_or c v 0

pub map_at : (f : ℕ → ℕ) (l : List ℕ) (i : ℕ) → i < length l → get_or (map f l) i 0 ≡ f (get_or l i 0)
map_at f [] i h = absurd (not-suc-le-zero h)
map_at f (x ∷ xs) zero h = refl
map_at f (x ∷ xs) (suc i) h = map_at f xs i (omega arith)

pub run_length : (s n : ℕ) → length (run s n) ≡ n
unfolding run
run_length s zero = refl
run_length s (suc n) = ap suc (run_length (suc s) n)

pub run_at : (s n i d : ℕ) → i < n → get_or (run s n) i d ≡ s + i
unfolding run
run_at s zero i d h = absurd (not-suc-le-zero h)
run_at s (suc n) zero d h = omega arith
run_at s (suc n) (suc i) d h = omega (arith, run_at (suc s) n i d (omega arith))

run-table : (n : ℕ) → Table n (run 0 n)
run-table n = record {
  size = run_length 0 n;
  low = λ v l. omega (arith, run_at 0 n v 0 l);
  fixed = λ v l. let e : get_or (run 0 n) v 0 ≡ v = omega (arith, run_at 0 n v 0 l) in cc;
}

-- what merge does: to one of the two, and to any other
pub merge-left : (a b x : ℕ) → x ≡ a → merge a b x ≡ min a b
unfolding merge
merge-left a b x e = rw (eq-eqb x a e)

pub merge-right : (a b x : ℕ) → x ≡ b → merge a b x ≡ min a b
unfolding merge
merge-right a b x e = cases (eqb x a) (λ t. rw t) (λ t. rw (t, eq-eqb x b e))

pub merge-other : (a b x : ℕ) → x ≢ a → x ≢ b → merge a b x ≡ x
unfolding merge
merge-other a b x f g = rw (ne_eqb x a f, ne_eqb x b g)

merge-cases : {C : Type 0} (a b x : ℕ) → ((x ≡ a) ⊎ (x ≡ b) → merge a b x ≡ min a b → C) → (x ≢ a → x ≢ b → merge a b x ≡ x → C) → C
merge-cases a b x f g = cases (eqb x a)
    (λ t. f (inl (eqb-true x a t)) (merge-left a b x (eqb-true x a t)))
    (λ t. cases (eqb x b)
    (λ s. f (inr (eqb-true x b s)) (merge-right a b x (eqb-true x b s)))
    (λ s. g (eqb-false x a t) (eqb-false x b s) (merge-other a b x (eqb-false x a t) (eqb-false x b s))))

min_cases : {C : Type 0} (a b : ℕ) → (min a b ≡ a → C) → (min a b ≡ b → C) → C
min_cases a b f g = cases (ltb a b) (λ t. f (omega (arith, ltb-true a b t))) (λ t. g (omega (arith, ltb-false a b t)))

merge-le : (a b x : ℕ) → merge a b x ≤ x
merge-le a b x = merge-cases a b x
    (elim [ inl e ↦ λ m. omega arith | inr e ↦ λ m. omega arith ])
    (λ f g m. omega arith)

pub join-length : (c : List ℕ) (v w : ℕ) → length (join c v w) ≡ length c
unfolding join
join-length c v w = length-map c (merge (get_or c v 0) (get_or c w 0))

module _ (n : ℕ) (c : List ℕ) (t : Table n c) (v w : ℕ) (lv : v < n) (lw : w < n) where
  join-at : (x : ℕ) → x < n → get_or (join c v w) x 0 ≡ merge (get_or c v 0) (get_or c w 0) (get_or c x 0)
  unfolding join
  join-at x l = map_at (merge (get_or c v 0) (get_or c w 0)) c x (omega (arith, t.size))

  -- equal names stay equal
  join-keeps : (x y : ℕ) → x < n → y < n → get_or c x 0 ≡ get_or c y 0 → get_or (join c v w) x 0 ≡ get_or (join c v w) y 0
  join-keeps x y l k e = cc (join-at x l, join-at y k)

  -- the two have one name now
  join-joins : get_or (join c v w) v 0 ≡ get_or (join c v w) w 0
  join-joins = cc (join-at v lv, join-at w lw, merge-left (get_or c v 0) (get_or c w 0) (get_or c v 0) refl, merge-right (get_or c v 0) (get_or c w 0) (get_or c w 0) refl)

  join-low : (x : ℕ) → x < n → get_or (join c v w) x 0 ≤ x
  join-low x l = omega (arith, join-at x l, merge-le (get_or c v 0) (get_or c w 0) (get_or c x 0), t.low x l)

  join-fixed : (x : ℕ) → x < n → get_or (join c v w) (get_or (join c v w) x 0) 0 ≡ get_or (join c v w) x 0
  join-fixed x l =
      let a : ℕ = get_or c v 0 in
      let b : ℕ = get_or c w 0 in
      let y : ℕ = get_or (join c v w) x 0 in
      let at_x : y ≡ merge a b (get_or c x 0) = join-at x l in
      let at_y : get_or (join c v w) y 0 ≡ merge a b (get_or c y 0) = join-at y (omega (arith, join-low x l)) in
      let fv = t.fixed v lv in
      let fw = t.fixed w lw in
      let fx = t.fixed x l in
      let ml = merge-left a b a refl in
      let mr = merge-right a b b refl in
      merge-cases a b (get_or c x 0)
      (λ s m. min_cases a b (λ e. cc) (λ e. cc))
      (λ f g m. cc)

  join-table : Table n (join c v w)
  join-table = record {
    size = join-length c v w ∙ t.size;
    low = join-low;
    fixed = join-fixed;
  }

  -- a relation that holds between v and w, and between each route and its name, holds between each route and its new name
  join-finest : {R : ℕ → ℕ → Type 0} → Same R → R v w → ((x : ℕ) → x < n → R (get_or c x 0) x)
      → (x : ℕ) → x < n → R (get_or (join c v w) x 0) x
  join-finest {R} q e h x l =
      let a : ℕ = get_or c v 0 in
      let b : ℕ = get_or c w 0 in
      let ab : R a b = q.then (h v lv) (q.then e (q.back (h w lw))) in
      let hx : R (get_or c x 0) x = h x l in
      rw (join-at x l) (merge-cases a b (get_or c x 0)
      (elim [
        | inl s ↦ λ m. rw m (min_cases a b (λ k. rw (k, ← s) hx) (λ k. rw k (q.then (q.back ab) (rw (← s) hx))))
        | inr s ↦ λ m. rw m (min_cases a b (λ k. rw k (q.then ab (rw (← s) hx))) (λ k. rw (k, ← s) hx))
      ])
      (λ f g m. rw m hx))

-- ---- an entry, a row, the rows. In each: the table stays a table; equal names stay equal; what is entered has one name; and names are no coarser
-- than they have to be

-- an entry counts if neither end is in the set
abbrev pub Live : (ℕ → Bool) → ℕ → ℕ → Type 0
Live A v w = (A v ≡ false) × (A w ≡ false)

-- an entry with an end in the set changes nothing
pub link-out : (A : ℕ → Bool) (c : List ℕ) (v w : ℕ) → A v || A w ≡ true → link A c v w ≡ c
unfolding link
link-out A c v w h = rw h

-- any other joins two parts
pub link-in : (A : ℕ → Bool) (c : List ℕ) (v w : ℕ) → A v || A w ≡ false → link A c v w ≡ join c v w
unfolding link
link-in A c v w h = rw h

link-cases : {C : Type 0} (A : ℕ → Bool) (c : List ℕ) (v w : ℕ)
    → (Live A v w → link A c v w ≡ join c v w → C) → ((Live A v w → ⊥) → link A c v w ≡ c → C) → C
link-cases A c v w f g = cases (A v)
    (λ p. g (λ q. clash (A v) p q.0) (link-out A c v w (rw p)))
    (λ p. cases (A w)
    (λ q. g (λ r. clash (A w) q r.1) (link-out A c v w (rw (p, q))))
    (λ q. f (p, q) (link-in A c v w (rw (p, q)))))

module _ (n : ℕ) (A : ℕ → Bool) where
  link-table : (c : List ℕ) → Table n c → (v w : ℕ) → v < n → w < n → Table n (link A c v w)
  link-table c t v w lv lw = link-cases A c v w (λ q e. rw e (join-table n c t v w lv lw)) (λ q e. rw e t)

  link-keeps : (c : List ℕ) → Table n c → (v w : ℕ) → v < n → w < n → (x y : ℕ) → x < n → y < n
      → get_or c x 0 ≡ get_or c y 0 → get_or (link A c v w) x 0 ≡ get_or (link A c v w) y 0
  link-keeps c t v w lv lw x y l k s = link-cases A c v w (λ q e. rw e (join-keeps n c t v w lv lw x y l k s)) (λ q e. rw e s)

  link-joins : (c : List ℕ) → Table n c → (v w : ℕ) → v < n → w < n → Live A v w → get_or (link A c v w) v 0 ≡ get_or (link A c v w) w 0
  link-joins c t v w lv lw r = link-cases A c v w (λ q e. rw e (join-joins n c t v w lv lw)) (λ q e. absurd (q r))

  link-finest : (c : List ℕ) → Table n c → (v w : ℕ) → v < n → w < n → {R : ℕ → ℕ → Type 0} → Same R → (Live A v w → R v w)
      → ((x : ℕ) → x < n → R (get_or c x 0) x) → (x : ℕ) → x < n → R (get_or (link A c v w) x 0) x
  link-finest c t v w lv lw q s h = link-cases A c v w (λ r e. rw e (join-finest n c t v w lv lw q (s r) h)) (λ r e. rw e h)

  -- a row: each of its entries is a route
  row-table : (c : List ℕ) → Table n c → (v : ℕ) → v < n → (ws : List ℕ) → ((w : ℕ) → has ws w ≡ true → w < n) → Table n (link_row A c v ws)
  unfolding link_row
  row-table c t v lv [] b = t
  row-table c t v lv (w ∷ ws) b =
      row-table (link A c v w) (link-table c t v w lv (b w (has-head w ws))) v lv ws (λ u h. b u (has-tail w ws u h))

  row_keeps : (c : List ℕ) → Table n c → (v : ℕ) → v < n → (ws : List ℕ) → ((w : ℕ) → has ws w ≡ true → w < n)
      → (x y : ℕ) → x < n → y < n → get_or c x 0 ≡ get_or c y 0 → get_or (link_row A c v ws) x 0 ≡ get_or (link_row A c v ws) y 0
  unfolding link_row
  row_keeps c t v lv [] b x y l k e = e
  row_keeps c t v lv (w ∷ ws) b x y l k e =
      let lw = b w (has-head w ws) in
      row_keeps (link A c v w) (link-table c t v w lv lw) v lv ws (λ u h. b u (has-tail w ws u h)) x y l k (link-keeps c t v w lv lw x y l k e)

  row-joins : (c : List ℕ) → Table n c → (v : ℕ) → v < n → (ws : List ℕ) → ((w : ℕ) → has ws w ≡ true → w < n)
      → (u : ℕ) → has ws u ≡ true → Live A v u → get_or (link_row A c v ws) v 0 ≡ get_or (link_row A c v ws) u 0
  unfolding link_row has
  row-joins c t v lv [] b u h r = clash (has [] u) h refl
  row-joins c t v lv (w ∷ ws) b u h r =
      let lw = b w (has-head w ws) in
      let t' = link-table c t v w lv lw in
      let b' : (z : ℕ) → has ws z ≡ true → z < n = λ z k. b z (has-tail w ws z k) in
      has-cases w ws u h
      (λ e. row_keeps (link A c v w) t' v lv ws b' v u lv (b u h) (rw e (link-joins c t v w lv lw (rw e at r))))
      (λ k. row-joins (link A c v w) t' v lv ws b' u k r)

  row-finest : (c : List ℕ) → Table n c → (v : ℕ) → v < n → (ws : List ℕ) → ((w : ℕ) → has ws w ≡ true → w < n)
      → {R : ℕ → ℕ → Type 0} → Same R → ((w : ℕ) → has ws w ≡ true → Live A v w → R v w)
      → ((x : ℕ) → x < n → R (get_or c x 0) x) → (x : ℕ) → x < n → R (get_or (link_row A c v ws) x 0) x
  unfolding link_row
  row-finest c t v lv [] b q s h = h
  row-finest c t v lv (w ∷ ws) b q s h =
      let lw = b w (has-head w ws) in
      row-finest (link A c v w) (link-table c t v w lv lw) v lv ws (λ u k. b u (has-tail w ws u k)) q
      (λ u k. s u (has-tail w ws u k)) (link-finest c t v w lv lw q (s w (has-head w ws)) h)

-- ---- all the rows

module _ (g : Graph) (A : ℕ → Bool) (s : Simple g) where
  pub rows-table : (k : ℕ) → k ≤ g.order → Table g.order (link_rows g A k)
  unfolding link_rows
  rows-table zero l = run-table g.order
  rows-table (suc k) l = row-table g.order A (link_rows g A k) (rows-table k (omega arith)) k l (g.row k) (λ w h. s.below k w l h)

  rows-joins : (k : ℕ) → k ≤ g.order → (v w : ℕ) → v < k → joined g v w ≡ true → Live A v w
      → get_or (link_rows g A k) v 0 ≡ get_or (link_rows g A k) w 0
  unfolding link_rows
  rows-joins zero l v w b h r = absurd (not-suc-le-zero b)
  rows-joins (suc k) l v w b h r =
      let t = rows-table k (omega arith) in
      let lw = s.below v w (omega arith) h in
      cases (eqb v k)
      (λ e. let e' = eqb-true v k e in
      rw e' (row-joins g.order A (link_rows g A k) t k l (g.row k) (λ u. s.below k u l) w (rw e' at h) (rw e' at r)))
      (λ e. row_keeps g.order A (link_rows g A k) t k l (g.row k) (λ u. s.below k u l) v w (omega arith) lw
      (rows-joins k (omega arith) v w (omega (arith, eqb-false v k e)) h r))

  rows-finest : (k : ℕ) → k ≤ g.order → {R : ℕ → ℕ → Type 0} → Same R → ((v w : ℕ) → v < g.order → joined g v w ≡ true → Live A v w → R v w)
      → (x : ℕ) → x < g.order → R (get_or (link_rows g A k) x 0) x
  unfolding link_rows
  rows-finest zero l q h = λ x b. let e : get_or (run 0 g.order) x 0 ≡ x = omega (arith, run_at 0 g.order x 0 b) in rw e (q.self x)
  rows-finest (suc k) l q h =
      row-finest g.order A (link_rows g A k) (rows-table k (omega arith)) k l (g.row k) (λ u. s.below k u l) q
      (λ w. h k w l) (rows-finest k (omega arith) q h)

  -- ---- the laws of `root`

  pub parts-table : Table g.order (parts g A)
  unfolding parts
  parts-table = rows-table g.order (omega arith)

  pub root-le : (v : ℕ) → v < g.order → root g A v ≤ v
  root-le v l = parts-table.low v l

  pub root-root : (v : ℕ) → v < g.order → root g A (root g A v) ≡ root g A v
  root-root v l = parts-table.fixed v l

  -- joined routes outside the set are in one part
  pub root-joined : (v w : ℕ) → v < g.order → joined g v w ≡ true → A v ≡ false → A w ≡ false → root g A v ≡ root g A w
  unfolding parts
  root-joined v w l h p q = rows-joins g.order (omega arith) v w l h (p, q)

  -- and parts are no larger than that asks
  pub root-finest : {R : ℕ → ℕ → Type 0} → Same R
      → ((v w : ℕ) → v < g.order → joined g v w ≡ true → A v ≡ false → A w ≡ false → R v w)
      → (x : ℕ) → x < g.order → R (root g A x) x
  unfolding parts
  root-finest q h = rows-finest g.order (omega arith) q (λ v w l j r. h v w l j r.0 r.1)

  -- the same for a test that does not tell joined routes outside the set apart
  pub root-test : (f : ℕ → Bool) → ((v w : ℕ) → v < g.order → joined g v w ≡ true → A v ≡ false → A w ≡ false → f v ≡ f w)
      → (x : ℕ) → x < g.order → f (root g A x) ≡ f x
  root-test f = root-finest {R = λ x y. f x ≡ f y} (record { self = λ x. refl; back = λ p. sym p; then = λ p r. p ∙ r })

-- ---- what a part is: routes between which one can walk outside the set

walk-then : {g : Graph} {A : ℕ → Bool} {u v w : ℕ} → Walk g A u v → Walk g A v w → Walk g A u w
walk-then p stay = p
walk-then p (step q l j a b) = step (walk-then p q) l j a b

module _ (g : Graph) (A : ℕ → Bool) (s : Simple g) where
  walk-back : {u v : ℕ} → Walk g A u v → Walk g A v u
  walk-back stay = stay
  walk-back (step {v = v} {w = w} q l j a b) = walk-then (step stay (s.below v w l j) (s.both_ways v w l j) b a) (walk-back q)

  walk_same : Same (Walk g A)
  walk_same = record { self = λ x. stay; back = λ p. walk-back p; then = λ p q. walk-then p q }

  -- a walk stays in one part
  pub walk-root : {u v : ℕ} → Walk g A u v → root g A u ≡ root g A v
  walk-root stay = refl
  walk-root (step {v = v} {w = w} q l j a b) = walk-root q ∙ root-joined g A s v w l j a b

  -- and within a part one can walk
  pub root-walk : (u v : ℕ) → u < g.order → v < g.order → root g A u ≡ root g A v → Walk g A u v
  root-walk u v l k e =
      let to-root : (x : ℕ) → x < g.order → Walk g A (root g A x) x = root-finest g A s walk_same (λ x y m j a b. step stay m j a b) in
      walk-then (walk-back (to-root u l)) (rw e (to-root v k))

-- ---- the root is the least route that one can walk to, so it hangs on who is joined and on the set alone: not on the order of the rows' entries

module _ (g : Graph) (A : ℕ → Bool) (s : Simple g) where
  pub root-least : (v u : ℕ) → v < g.order → u < g.order → Walk g A v u → root g A v ≤ u
  root-least v u l k p = omega (arith, walk-root g A s p, root-le g A s u k)

  -- a part of a graph with fewer joins lies in one part
  root-coarser : (h : Graph) (B : ℕ → Bool) → Simple h → g.order ≡ h.order
      → ((v w : ℕ) → v < h.order → joined h v w ≡ true → joined g v w ≡ true)
      → ((v : ℕ) → v < h.order → B v ≡ false → A v ≡ false)
      → (v : ℕ) → v < h.order → root g A v ≤ root h B v
  root-coarser h B t n j o v l =
      let e : root g A (root h B v) ≡ root g A v = root-finest h B t {R = λ x y. root g A x ≡ root g A y}
      (record { self = λ x. refl; back = λ p. sym p; then = λ p q. p ∙ q })
      (λ x y m k a b. root-joined g A s x y (omega arith) (j x y m k) (o x m a) (o y (t.below x y m k) b)) v l in
      omega (arith, root-le g A s (root h B v) (omega (arith, root-le h B t v l)))

pub root-same : (g h : Graph) (A B : ℕ → Bool) → Simple g → Simple h → g.order ≡ h.order
    → ((v w : ℕ) → v < g.order → joined g v w ≡ joined h v w)
    → ((v : ℕ) → v < g.order → A v ≡ B v)
    → (v : ℕ) → v < g.order → root g A v ≡ root h B v
root-same g h A B s t n j o v l =
    omega (
      arith,
      root-coarser g A s h B t n (λ x y m k. j x y (omega arith) ∙ k) (λ x m k. o x (omega arith) ∙ k) v (omega arith),
      root-coarser h B t g A s (sym n) (λ x y m k. sym (j x y m) ∙ k) (λ x m k. sym (o x m) ∙ k) v l,
    )

-- ---- as a loop leaves them part of the way

-- two of one part: nothing to join
pub join-equal : (c : List ℕ) (v w : ℕ) → get_or c v 0 ≡ get_or c w 0 → join c v w ≡ c
unfolding join
join-equal c v w e = rw (← e) (map_same (merge (get_or c v 0) (get_or c v 0)) (merge-same (get_or c v 0)) c)
  where
    merge-same : (a x : ℕ) → merge a a x ≡ x
    merge-same a x = merge-cases a a x (elim [ inl e ↦ λ m. omega arith | inr e ↦ λ m. omega arith ]) (λ f g m. m)

    map_same : (f : ℕ → ℕ) → ((x : ℕ) → f x ≡ x) → (l : List ℕ) → map f l ≡ l
    map_same f h [] = refl
    map_same f h (x ∷ xs) = cc (h x, map_same f h xs)

-- one more entry of a row
pub link_row-step : (A : ℕ → Bool) (c : List ℕ) (v : ℕ) (ws : List ℕ) (j : ℕ) → j < length ws
    → link A (link_row A c v (take j ws)) v (get_or ws j 0) ≡ link_row A c v (take (j + 1) ws)
unfolding link_row
link_row-step A c v ws j h = rw add-one (go c ws j h)
  where
    go : (c : List ℕ) (ws : List ℕ) (j : ℕ) → j < length ws → link A (link_row A c v (take j ws)) v (get_or ws j 0) ≡ link_row A c v (take (suc j) ws)
    go c [] j h = absurd (not-suc-le-zero h)
    go c (w ∷ ws) zero h = refl
    go c (w ∷ ws) (suc j) h = go (link A c v w) ws j (omega arith)

-- one more row
pub link_rows-step : (g : Graph) (A : ℕ → Bool) (k : ℕ) → link_row A (link_rows g A k) k (g.row k) ≡ link_rows g A (k + 1)
unfolding link_rows
link_rows-step g A k = rw add-one
