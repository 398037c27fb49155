-- The checks by the two tables are the checks of document 01. Assumes nothing.
use Prim.Native.Nat.{ℕ, zero, suc, ◌+◌, ◌*◌, ◌/◌, ◌≤◌, ◌<◌}
use mathlib.Core.Path.{◌≡◌, refl, sym, ap, ◌∙◌}
use mathlib.Core.Bool.{Bool, true, false, cond, ◌&&◌, ◌||◌, or-false}
use mathlib.Core.List.{List, [], ◌∷◌}
use native.Mathlib.Omega.{arith}
use native.Mathlib.Numerals.{add-one}
use lib.Dec.{eqb, ltb}
use borrow.Author.Tests.{eqb-true, eqb-false, eq-eqb, ltb-true, lt-ltb, le-ltb}
use lib.ListN.{length, get_or, length-replicate}
use Rattle.limits.specs.Limits.{routes, none}
use Rattle.graphs.specs.Graph.{Graph, has, joined}
use Rattle.graphs.proofs.Count.{cases, same_test, and-false}
use Rattle.words.specs.Words.{word, numbers, over}
use Rattle.rows.specs.Sheet.{order, stretch, graph_of}
use Rattle.std.specs.Prelude.{Err, is_err}
use Rattle.limits.specs.Answer.{accepted, first}
use Rattle.replies.specs.Reply.{Reply, first_of}
use Rattle.replies.specs.declared.Refusal.TheVariants.{Loop}
use Rattle.marks.specs.Marks.{marked, mark, unmarked}
use Rattle.places.specs.Places.{last_places, unkept}
use Rattle.one_entry.specs.OneEntry.{quick_entry}
use Rattle.entries.specs.Entries.{entry_reply, row_reply, rows_reply, loop_reply}
use Rattle.entries.specs.Quick.{mark_row, mark_rows, quick_row, quick_rows, quick_loop}
use Rattle.words.proofs.Bytes.{numbers-length, numbers-at}
use Rattle.replies.proofs.Firsts.{first_past, first-at, first-end, first-same}
use Rattle.marks.proofs.Table.{Whole, mark-whole, mark-at, nothing-marked}
use Rattle.places.proofs.Last.{last_says}

-- ---- the loops, turn by turn

module _ (marks last : List ℕ) (n v : ℕ) (row : List ℕ) (i : ℕ) where
  abbrev f : ℕ → Reply
  f k = quick_entry marks last n v (get_or (numbers row) k none) k

  module _ (p : first_of i f ≡ accepted) where
    here : (w : ℕ) (r : Reply) → w ≡ word row i → r ≡ quick_entry marks last n v w i → r ≡ f i
    here w r e q = q ∙ ap (λ (x : ℕ). quick_entry marks last n v x i) (e ∙ sym (numbers-at row i))

    pub places-past : (w : ℕ) (r : Reply) → w ≡ word row i → r ≡ quick_entry marks last n v w i → is_err r ≡ false → first_of (i + 1) f ≡ accepted
    places-past w r e q h = first_past f i p (rw (← here w r e q) h)

    pub places-at : (w : ℕ) (r : Reply) → w ≡ word row i → r ≡ quick_entry marks last n v w i → is_err r ≡ true → i < length row / 4
        → r ≡ quick_row marks last n v (numbers row)
    unfolding quick_row
    places-at w r e q h l =
        here w r e q ∙ sym (first-at f i (length (numbers row)) (omega (arith, numbers-length row)) p (rw (← here w r e q) h))

    pub places-end : i ≤ length row / 4 → length row / 4 ≤ i → accepted ≡ quick_row marks last n v (numbers row)
    unfolding quick_row
    places-end h l = sym (first-end f i (length (numbers row)) (omega (arith, numbers-length row)) (omega (arith, numbers-length row)) p)

module _ (marks : List ℕ) where
  abbrev h : ℕ → Reply
  h w = cond (marked marks w w) (Err (Loop w)) accepted

  pub loop-past : (v : ℕ) → first_of v h ≡ accepted → (b : Bool) → b ≡ marked marks v v → b ≡ false → first_of (v + 1) h ≡ accepted
  loop-past v p b e t = first_past h v p (rw (← e, t))

  module _ (n v : ℕ) (p : first_of v h ≡ accepted) where
    pub loop-at : (b : Bool) → b ≡ marked marks v v → b ≡ true → v < n → Err (Loop v) ≡ quick_loop marks n
    unfolding quick_loop
    loop-at b e t l =
        let m : marked marks v v ≡ true = sym e ∙ t in
        sym (first-at h v n l p (rw m) ∙ rw m)

    pub loop-end : v ≤ n → n ≤ v → accepted ≡ quick_loop marks n
    unfolding quick_loop
    loop-end k l = sym (first-end h v n k l p)

module _ (s : List ℕ) (t₀ : List ℕ) where
  pub rows_none : t₀ ≡ mark_rows (graph_of s) 0 t₀
  unfolding mark_rows
  rows_none = refl

  pub rows_all : (v n : ℕ) (t : List ℕ) → n ≡ order s → v ≤ n → n ≤ v → t ≡ mark_rows (graph_of s) v t₀ → t ≡ mark_rows (graph_of s) (order s) t₀
  rows_all v n t e h l p = let k : v ≡ order s = omega arith in rw k at p

  -- one row more is marked
  pub rows-again : (v : ℕ) (t t' row : List ℕ) → t ≡ mark_rows (graph_of s) v t₀ → row ≡ stretch s v → t' ≡ mark_row t v (numbers row)
      → t' ≡ mark_rows (graph_of s) (v + 1) t₀
  unfolding mark_rows
  rows-again v t t' row p e q = q ∙ rw (e, p, add-one, mark_rows)

module _ (marks s : List ℕ) where
  -- row v by the tables
  abbrev q : ℕ → Reply
  q v = quick_row marks (last_places unkept ((graph_of s).row v)) (order s) v ((graph_of s).row v)

  module _ (n v : ℕ) (en : n ≡ order s) (p : first_of v q ≡ accepted) where
    on : (row : List ℕ) (r : Reply) → row ≡ stretch s v → r ≡ quick_row marks (last_places unkept (numbers row)) n v (numbers row) → r ≡ q v
    on row r e h = h ∙ rw (e, en)

    pub marks-past : (row : List ℕ) (r : Reply) → row ≡ stretch s v → r ≡ quick_row marks (last_places unkept (numbers row)) n v (numbers row)
        → is_err r ≡ false → first_of (v + 1) q ≡ accepted
    marks-past row r e h t = first_past q v p (rw (← on row r e h) t)

    pub marks-at : (row : List ℕ) (r : Reply) → row ≡ stretch s v → r ≡ quick_row marks (last_places unkept (numbers row)) n v (numbers row)
        → is_err r ≡ true → v < n → r ≡ quick_rows marks (graph_of s)
    unfolding quick_rows
    marks-at row r e h t l = on row r e h ∙ sym (first-at q v (order s) (rw en at l) p (rw (← on row r e h) t))

    pub marks-end : v ≤ n → n ≤ v → accepted ≡ quick_rows marks (graph_of s)
    unfolding quick_rows
    marks-end h l = sym (first-end q v (order s) (rw en at h) (rw en at l) p)

-- ---- the table of who names whom

-- a row more
over-mark : (v : ℕ) (ws : List ℕ) (t : List ℕ) (i : ℕ) → Whole t → v < routes
    → Whole (over (λ k w u. mark u v w) t i ws)
    × ((a b : ℕ) → a < routes → b < routes → marked (over (λ k w u. mark u v w) t i ws) a b ≡ eqb a v && has ws b || marked t a b)
unfolding over has
over-mark v [] t i h lv = (h, λ a b la lb. rw (and-false (eqb a v)))
over-mark v (w ∷ ws) t i h lv =
    let r = over-mark v ws (mark t v w) (suc i) (mark-whole t v w h) lv in
    (r.0, λ a b la lb. r.1 a b la lb ∙ ap (λ (z : Bool). eqb a v && has ws b || z) (mark-at t h v w a b lv la lb) ∙ shuffle (eqb a v) (eqb b w) (has ws b) (marked t a b))
  where
    shuffle : (p x y m : Bool) → (p && y || (p && x || m)) ≡ (p && (x || y) || m)
    shuffle true true true m = refl
    shuffle true true false m = refl
    shuffle true false true m = refl
    shuffle true false false m = refl
    shuffle false x y m = refl

-- the first k rows
rows-marked : (g : Graph) (t : List ℕ) → Whole t → (k : ℕ) → k ≤ routes
    → Whole (mark_rows g k t)
    × ((a b : ℕ) → a < routes → b < routes → marked (mark_rows g k t) a b ≡ ltb a k && joined g a b || marked t a b)
unfolding mark_rows mark_row
rows-marked g t h zero l = (h, λ a b la lb. rw (le-ltb a 0 (omega arith)))
rows-marked g t h (suc k) l =
    let r = rows-marked g t h k (omega arith) in
    let q = over-mark k (g.row k) (mark_rows g k t) 0 r.0 l in
    (q.0, λ a b la lb. q.1 a b la lb ∙ ap (λ (z : Bool). eqb a k && has (g.row k) b || z) (r.1 a b la lb) ∙ one_more a b)
  where
    one_more : (a b : ℕ) → (eqb a k && has (g.row k) b || (ltb a k && joined g a b || marked t a b)) ≡ (ltb a (suc k) && joined g a b || marked t a b)
    one_more a b = cases (eqb a k)
        (λ e. let e' : a ≡ k = eqb-true a k e in rw (e', eq-eqb k k refl, le-ltb k k (omega arith), lt-ltb k (suc k) (omega arith)))
        (λ e. let ne = eqb-false a k e in
        let same : ltb a k ≡ ltb a (suc k) = same_test (ltb a k) (ltb a (suc k))
        (λ t. lt-ltb a (suc k) (omega (arith, ltb-true a k t))) (λ t. lt-ltb a k (omega (arith, ltb-true a (suc k) t))) in
        rw (e, same))

-- what a bit says: a names b
pub marks-say : (g : Graph) (a b : ℕ) → g.order ≤ routes → a < g.order → b < routes → marked (mark_rows g g.order unmarked) a b ≡ joined g a b
unfolding unmarked
marks-say g a b n la lb =
    (rows-marked g unmarked (length-replicate {A = ℕ} (routes * (routes / 32)) 0) g.order n).1 a b (omega arith) lb
    ∙ rw (lt-ltb _ _ la, nothing-marked a b) (or-false (joined g a b))

-- ---- so the checks by the tables are those of document 01

module _ (g : Graph) (n : g.order ≤ routes) where
  quick-entry : (v i : ℕ) → v < g.order → i < length (g.row v)
      → quick_entry (mark_rows g g.order unmarked) (last_places unkept (g.row v)) g.order v (get_or (g.row v) i none) i ≡ entry_reply g v i
  unfolding quick_entry entry_reply
  quick-entry v i lv li =
      let w : ℕ = get_or (g.row v) i none in
      cases (ltb w g.order)
      (λ t. let lw : w < g.order = ltb-true _ _ t in
      rw (t, last_says (g.row v) i li (omega arith), marks-say g w v n lw (omega arith)))
      (λ t. rw t)

  quick-row : (v : ℕ) → v < g.order
      → quick_row (mark_rows g g.order unmarked) (last_places unkept (g.row v)) g.order v (g.row v) ≡ row_reply g v
  unfolding quick_row row_reply
  quick-row v lv = first-same _ (entry_reply g v) (length (g.row v)) (λ i li. quick-entry v i lv li)

  pub quick-rows : quick_rows (mark_rows g g.order unmarked) g ≡ rows_reply g
  unfolding quick_rows rows_reply
  quick-rows = first-same _ (row_reply g) g.order (λ v lv. quick-row v lv)

  pub quick-loop : quick_loop (mark_rows g g.order unmarked) g.order ≡ loop_reply g
  unfolding quick_loop loop_reply
  quick-loop = first-same _ _ g.order (λ v lv. ap (λ (b : Bool). cond b (Err (Loop v)) accepted) (marks-say g v v n lv (omega arith)))

module _ (s t : List ℕ) (r : Reply) (n : order s ≤ routes) (et : t ≡ mark_rows (graph_of s) (order s) unmarked) (er : r ≡ quick_rows t (graph_of s)) where
  rows_are : r ≡ rows_reply (graph_of s)
  rows_are = er ∙ rw et (quick-rows (graph_of s) n)

  pub rows-refused : is_err r ≡ true → r ≡ first (rows_reply (graph_of s)) (loop_reply (graph_of s))
  rows-refused h = rw (← rows_are, h)

  pub rows-fine : is_err r ≡ false → (k : ℕ) (l : Reply) → k ≡ order s → l ≡ quick_loop t k → l ≡ first (rows_reply (graph_of s)) (loop_reply (graph_of s))
  rows-fine h k l ek el = el ∙ rw (ek, et, quick-loop (graph_of s) n) (rw (← rows_are, h))
