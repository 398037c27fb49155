-- The work of a call, over plain variables: what is loaded, searched and saved is the choice. Assumes nothing.
use Prim.Native.Nat.{ℕ, ◌≤◌, ◌<◌}
use mathlib.Core.Path.{◌≡◌, sym, ap, ◌∙◌, fun_ext}
use mathlib.Core.Bool.{Bool, true, false}
use mathlib.Core.List.{List, map}
use native.Mathlib.Omega.{arith}
use lib.Dec.{ltb}
use lib.ListN.{length, get_or, take, length-map, get_or-eq_default}
use lib.Seq.{get_or-take, ext_get_or}
use borrow.Author.Tests.{lt-ltb, ltb-true, ltb-false}
use Rattle.limits.specs.Limits.{routes, none}
use Rattle.graphs.specs.Count.{bit}
use Rattle.graphs.specs.Parts.{run}
use Rattle.theory.specs.Search.Tables.{cell}
use Rattle.theory.specs.Search.Searched.{Outcome, found, stuck, mark, searched_in, improved_in}
use Rattle.graphs.proofs.Count.{cases}
use Rattle.theory.proofs.Search.Cells.{get_d_any}
use Rattle.graphs.proofs.Parts.{map_at}
use Rattle.words.specs.Words.{bytes_to}
use Rattle.rows.specs.Sheet.{order, graph_of}
use Rattle.sheet.proofs.Read.{order-most}
use Rattle.witness.specs.Promise.{Begins}
use Rattle.buffers.specs.Held.{partners_of}
use Rattle.buffers.proofs.Written.{listed-length, listed_at}
use Rattle.climb.specs.Climb.{Climbs}
use Rattle.improve.specs.Choice.{improved, last, finished_by, witness_by}
use Rattle.improve.proofs.Meaning.{left-length, witness-length}

-- ---- a cell by its number, and as the list has it

cell-get_or : (room : ℕ) (l : List ℕ) → length l ≡ room → cell room l ≡ (λ v. get_or l v none)
unfolding cell
cell-get_or room l e = fun_ext (λ v. cases (ltb v room)
    (λ t. rw t (get_d_any l v 0 none (omega (arith, e, ltb-true v room t))))
    (λ t. rw t (sym (get_or-eq_default l none (omega (arith, e, ltb-false v room t))))))

-- the marks by the cells of the labels, and by the labels
marks-same : (room n : ℕ) (l : List ℕ) → n ≤ room → length (map mark (take n l)) ≡ n → map (λ v. mark (cell room l v)) (run 0 n) ≡ map mark (take n l)
unfolding cell
marks-same room n l h e = ext_get_or 0 (map (λ v. mark (cell room l v)) (run 0 n)) (map mark (take n l)) (listed-length (λ v. mark (cell room l v)) n ∙ sym e)
    (λ v i.
    let below : v < n = omega (arith, i, listed-length (λ u. mark (cell room l u)) n) in
    listed_at (λ u. mark (cell room l u)) n v below
    ∙ rw (lt-ltb v room (omega arith)) (sym (map_at mark (take n l) v (omega (arith, below, e, length-map (take n l) mark)) ∙ ap mark (get_or-take n l v 0 below))))

-- ---- the work

module _ (s p w : List ℕ) (B : Begins s p w) (b n : ℕ) (t q l : List ℕ) (r : Bool) (en : n ≡ order s) (et : t ≡ partners_of p) (C : Climbs routes (graph_of s) t q l b r) where
  is-improved : q ≡ improved s p b
  unfolding improved
  is-improved = C.partners ∙ ap (λ (x : List ℕ). improved_in routes (graph_of s) x b) et

  pub saved : (p' : List ℕ) → p' ≡ bytes_to (cell routes q) n → p' ≡ bytes_to (λ v. get_or (improved s p b) v none) (order s)
  saved p' e = e ∙ ap (bytes_to (cell routes q)) en ∙ ap (λ (f : ℕ → ℕ). bytes_to f (order s)) (ap (cell routes) is-improved ∙ cell-get_or routes (improved s p b) (left-length s p w B b))

  last-stuck : r ≡ true → last s p b ≡ stuck (map mark (take (order s) l))
  unfolding last
  last-stuck h = ap (searched_in routes (graph_of s)) (sym is-improved) ∙ C.ends h

  last_found : r ≡ false → (x : List ℕ) × (last s p b ≡ found x)
  unfolding last
  last_found h = let k = C.goes_on h in (k.0, ap (searched_in routes (graph_of s)) (sym is-improved) ∙ k.1)

  pub marks-saved : (w' : List ℕ) → r ≡ true → w' ≡ map (λ v. mark (cell routes l v)) (run 0 n) → w' ≡ witness_by (last s p b) w
  marks-saved w' h e =
      let k = last-stuck h in
      e ∙ ap (λ (m : ℕ). map (λ v. mark (cell routes l v)) (run 0 m)) en ∙ marks-same routes (order s) l (order-most s B.accepted) (witness-length s p w B b _ k)
      ∙ sym (ap (λ (o : Outcome). witness_by o w) k)

  pub finished-one : r ≡ true → bit r ≡ finished_by (last s p b)
  finished-one h = ap bit h ∙ sym (ap finished_by (last-stuck h))

  pub marks-kept : r ≡ false → w ≡ witness_by (last s p b) w
  marks-kept h = sym (ap (λ (o : Outcome). witness_by o w) (last_found h).1)

  pub finished-none : r ≡ false → bit r ≡ finished_by (last s p b)
  finished-none h = ap bit h ∙ sym (ap finished_by (last_found h).1)
