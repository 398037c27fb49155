-- The queue, turn by turn, over any tables. Assumes nothing.
use Prim.Native.Nat.{ℕ, ◌+◌, ◌≤◌, ◌<◌}
use mathlib.Core.Path.{◌≡◌, refl, sym, ap, ◌∙◌}
use mathlib.Core.Bool.{true}
use mathlib.Core.List.{List}
use native.Mathlib.Omega.{arith}
use borrow.Author.Tests.{lt-ltb}
use Rattle.limits.specs.Limits.{routes}
use Rattle.graphs.specs.Graph.{Graph}
use Rattle.theory.specs.Search.Tables.{cell, Tables}
use Rattle.theory.specs.Search.Look.{scan_row, turn, run}
use Rattle.theory.proofs.Search.Steps as steps
use Rattle.words.specs.Words.{numbers}
use Rattle.rows.specs.Sheet.{stretch, graph_of}

pub run_none : (g : Graph) (s₀ : Tables) → s₀ ≡ run routes g 0 s₀
run_none g s₀ = sym (steps.run_none routes g s₀)

module _ (g : Graph) (s₀ : Tables) (n k : ℕ) (s : Tables) (le : k ≤ n) (inv : s ≡ run routes g k s₀) where
  -- an edge is found
  pub run-hit : true ≡ s.hit → s ≡ run routes g n s₀
  run-hit h = steps.run-left routes g k n s₀ s le inv (λ j l. steps.turn-hit routes g j s (sym h))

  -- past the queue's tail
  pub run-spent : s.line.tail ≤ k → s ≡ run routes g n s₀
  run-spent h = steps.run-left routes g k n s₀ s le inv (λ j l. steps.turn-past routes g j s (omega (arith, h, l)))

  pub run-out : n ≤ k → s ≡ run routes g n s₀
  run-out h = let e : k ≡ n = omega arith in rw e at inv

  pub run-on : k < s.line.tail → (v : ℕ) → v ≡ cell routes s.line.queue k → (st : Tables) → st ≡ scan_row routes s v (g.row v) → st ≡ run routes g (k + 1) s₀
  unfolding turn
  run-on waits v ev st e = e ∙ rw (ev) (sym (rw (lt-ltb k s.line.tail waits) refl)) ∙ steps.run-again routes g k s₀ s inv

-- the bytes that were scanned are those of the row
pub of_row : (b r : List ℕ) (s st : Tables) (v : ℕ) → r ≡ stretch b v → st ≡ scan_row routes s v (numbers r) → st ≡ scan_row routes s v ((graph_of b).row v)
of_row b r s st v e p = p ∙ ap (λ (x : List ℕ). scan_row routes s v (numbers x)) e
