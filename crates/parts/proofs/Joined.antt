-- Joining parts along a row and row by row, turn by turn. Assumes nothing.
use Prim.Native.Nat.{ℕ, suc, ◌+◌, ◌/◌, ◌≤◌, ◌<◌}
use mathlib.Core.Path.{◌≡◌, refl, sym, ◌∙◌}
use mathlib.Core.Bool.{Bool, true, ◌||◌}
use mathlib.Core.List.{List, [], ◌∷◌, map}
use native.Mathlib.Omega.{arith}
use native.Mathlib.Numerals.{add-one}
use lib.ListN.{length, get_or, drop, length-map}
use borrow.Author.Tests.{eq-eqb, ne_eqb}
use Rattle.limits.specs.Limits.{none}
use Rattle.graphs.specs.Graph.{has, in_set}
use Rattle.graphs.specs.Parts.{run, merge, join, link, link_row, link_rows, parts}
use Rattle.graphs.proofs.Count.{cases}
use Rattle.graphs.proofs.Parts.{join-equal}
use Rattle.words.specs.Words.{word, numbers, over}
use Rattle.words.proofs.Bytes.{over-again, over-end, numbers-at, numbers-length}
use Rattle.rows.specs.Sheet.{order, stretch, graph_of}
use Rattle.sheet.specs.Reply.{reply_of}
use Rattle.limits.specs.Answer.{accepted}
use Rattle.rows.proofs.Stretches.{has-at}
use Rattle.sheet.proofs.Read.{simple}

-- ---- an entry, by the tests of the code

module _ (set c : List ℕ) (v w : ℕ) where
  pub entry_left : get_or set v 0 ≡ 1 → c ≡ link (in_set set) c v w
  unfolding link
  entry_left h = rw (eq-eqb _ _ h)

  module _ (a : get_or set v 0 ≡ 1 → ⊥) where
    pub entry_right : get_or set w 0 ≡ 1 → c ≡ link (in_set set) c v w
    unfolding link
    entry_right h = rw (ne_eqb _ _ a, eq-eqb _ _ h)

    module _ (b : get_or set w 0 ≡ 1 → ⊥) where
      joins : link (in_set set) c v w ≡ join c v w
      unfolding link
      joins = rw (ne_eqb _ _ a, ne_eqb _ _ b)

      pub entry_same : get_or c v 0 ≡ get_or c w 0 → c ≡ link (in_set set) c v w
      entry_same h = sym (joins ∙ join-equal c v w h)

      pub entry_merged : (d : List ℕ) → d ≡ map (merge (get_or c v 0) (get_or c w 0)) c → d ≡ link (in_set set) c v w
      unfolding join
      entry_merged d h = h ∙ sym joins

pub link-length : (A : ℕ → Bool) (c : List ℕ) (v w : ℕ) → length (link A c v w) ≡ length c
unfolding link join
link-length A c v w = cases (A v || A w) (λ t. rw t) (λ t. rw t (length-map c (merge (get_or c v 0) (get_or c w 0))))

-- ---- a row

-- a row's joining, as a loop along it
row-over : (A : ℕ → Bool) (v : ℕ) (ws c : List ℕ) (i : ℕ) → link_row A c v ws ≡ over (λ k w t. link A t v w) c i ws
unfolding link_row over
row-over A v [] c i = refl
row-over A v (w ∷ ws) c i = row-over A v ws (link A c v w) (suc i)

pub link_row-length : (A : ℕ → Bool) (v : ℕ) (ws c : List ℕ) → length (link_row A c v ws) ≡ length c
unfolding link_row
link_row-length A v [] c = refl
link_row-length A v (w ∷ ws) c = link_row-length A v ws (link A c v w) ∙ link-length A c v w

module _ (A : ℕ → Bool) (v : ℕ) (row c₀ : List ℕ) where
  -- what is left of the row leads from c to the end
  abbrev Left : List ℕ → ℕ → Type 0
  Left c i = over (λ k w t. link A t v w) c i (drop i (numbers row)) ≡ link_row A c₀ v (numbers row)

  pub row-begins : Left c₀ 0
  row-begins = sym (row-over A v (numbers row) c₀ 0)

  pub row-again : (c d : List ℕ) (w i : ℕ) → i < length row / 4 → Left c i → w ≡ word row i → d ≡ link A c v w → Left d (i + 1)
  row-again c d w i h p e q = over-again (λ k w t. link A t v w) row (link_row A c₀ v (numbers row)) c d i h p (rw e at q)

  pub row_ends : (c : List ℕ) (i : ℕ) → length row / 4 ≤ i → Left c i → c ≡ link_row A c₀ v (numbers row)
  row_ends c i h p = over-end (λ k w t. link A t v w) row (link_row A c₀ v (numbers row)) c i h p

-- ---- row by row

module _ (s : List ℕ) (A : ℕ → Bool) where
  pub rows-begin : (c : List ℕ) → c ≡ run 0 (order s) → c ≡ link_rows (graph_of s) A 0
  unfolding link_rows
  rows-begin c p = p

  pub rows-again : (v : ℕ) (c d row : List ℕ) → c ≡ link_rows (graph_of s) A v → row ≡ stretch s v → d ≡ link_row A c v (numbers row)
      → d ≡ link_rows (graph_of s) A (v + 1)
  unfolding link_rows
  rows-again v c d row p e q = q ∙ rw (e, p, add-one, link_rows)

  pub rows_end : (v n : ℕ) (c : List ℕ) → n ≡ order s → v ≤ n → n ≤ v → c ≡ link_rows (graph_of s) A v → c ≡ parts (graph_of s) A
  unfolding parts
  rows_end v n c e h l p = let k : v ≡ order s = omega arith in rw k at p

-- the entries of an accepted sheet's row are routes
pub entry-below : (s row : List ℕ) (v i : ℕ) → reply_of s ≡ accepted → v < order s → row ≡ stretch s v → i < length row / 4 → word row i < order s
entry-below s row v i ok l e h =
    let at : get_or (numbers row) i none ≡ word row i = numbers-at row i in
    let there : has (numbers row) (get_or (numbers row) i none) ≡ true = has-at (numbers row) i none (omega (arith, numbers-length row)) in
    rw at at ((simple s ok).below v (get_or (numbers row) i none) l (rw (← e) there))
