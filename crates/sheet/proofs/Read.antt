-- What an accepted sheet is: a graph in which joined goes both ways, with no loop and no neighbour twice; how many entries and bytes it can have; and
-- that half the entry total is the number of edges. Crates above cite these laws. Assumes nothing.
use Prim.Native.Nat.{ℕ, zero, suc, ◌+◌, ◌*◌, ◌-◌, ◌/◌, ◌≤◌, ◌<◌}
use mathlib.Core.Path.{◌≡◌, refl, sym, ap}
use mathlib.Core.Bool.{true, false}
use mathlib.Core.List.{List, [], ◌∷◌}
use native.Mathlib.Omega.{arith}
use native.Mathlib.Nat.{mul-le-mul}
use native.Mathlib.Numerals.{add-one}
use lib.ListN.{length, get_or, drop}
use Rattle.limits.specs.Limits.{routes, none}
use Rattle.graphs.specs.Count.{total}
use Rattle.graphs.specs.Graph.{Simple, has, joined, distinct, edges, entries}
use Rattle.graphs.proofs.Count.{tests}
use Rattle.graphs.proofs.Graph.{entries-edges, entries-le}
use Rattle.rows.specs.Sheet.{Shaped, order, start, graph_of, named}
use Rattle.rows.specs.Sheet as sheet
use Rattle.sheet.specs.Reply.{reply_of}
use Rattle.sheet.specs.Conditions.{Readable, AllClear}
use Rattle.limits.specs.Answer.{accepted}
use Rattle.sheet.proofs.Given.{given}
use Rattle.rows.proofs.Slots.{row-length}
use Rattle.rows.proofs.Stretches.{has-place}

-- a list in which no entry stands again later
once-distinct : (ws : List ℕ) → ((i : ℕ) → i < length ws → has (drop (suc i) ws) (get_or ws i none) ≡ false) → distinct ws ≡ true
unfolding distinct
once-distinct [] h = refl
once-distinct (w ∷ ws) h = simp tests (h 0 (omega arith), once-distinct ws (λ i l. h (suc i) (omega arith)))

module _ (s : List ℕ) (ok : reply_of s ≡ accepted) where
  pub readable : Readable s
  readable = ((given s accepted).0 ok).0

  pub shape : Shaped s
  shape = readable.shape

  clear : AllClear (graph_of s)
  clear = ((given s accepted).0 ok).1

  pub order-most : order s ≤ routes
  order-most = readable.few

  -- neighbours are routes, joined goes both ways, and no route is its own neighbour
  pub simple : Simple (graph_of s)
  simple = record {
    below = λ v w l j. let p = at v w j in rw p.2 at (clear v p.0 l p.1).known;
    both_ways = λ v w l j. let p = at v w j in rw p.2 at (clear v p.0 l p.1).back;
    no_loop = ((given s accepted).0 ok).2;
  }
    where
      at : (v w : ℕ) → joined (graph_of s) v w ≡ true → (i : ℕ) × (i < length ((graph_of s).row v)) × (named (graph_of s) v i ≡ w)
      at v w j = has-place ((graph_of s).row v) w none j

  -- no neighbour stands twice in a row
  pub rows-distinct : (v : ℕ) → v < order s → distinct ((graph_of s).row v) ≡ true
  rows-distinct v l = once-distinct ((graph_of s).row v) (λ i h. (clear v i l h).once)

  -- the rows hold every entry once
  pub entries-total : entries (graph_of s) ≡ sheet.total s
  unfolding entries total
  entries-total = go (order s) (omega arith)
    where
      go : (k : ℕ) → k ≤ order s → total k (λ v. length ((graph_of s).row v)) ≡ start s k
      go zero l = sym shape.from_zero
      go (suc k) l = omega (arith, go k (omega arith), row-length s shape k l, shape.rises k l, ap (λ (j : ℕ). start s j) (add-one k))

  -- E is at most n(n - 1)
  pub total-most : sheet.total s ≤ order s * (order s - 1)
  total-most = rw (← entries-total) (entries-le (graph_of s) simple rows-distinct)

  -- and the sheet at most 8 + 4n + 4n(n - 1) bytes at the largest n: 1,048,584 where the limit is 512
  pub bytes_most : length s ≤ 8 + 4 * routes + 4 * (routes * (routes - 1))
  bytes_most =
      let m : order s * (order s - 1) ≤ routes * (routes - 1) = mul-le-mul {m₁ = order s - 1} {m₂ = routes - 1} order-most (omega (arith, order-most)) in
      omega (arith, shape.long, total-most, order-most)

  -- half the entry total is the number of edges
  pub size-edges : sheet.total s / 2 ≡ edges (graph_of s)
  size-edges = omega (arith, entries-total, entries-edges (graph_of s) simple rows-distinct)
