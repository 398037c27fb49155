-- The choice means what the promise says: from bytes that pass the checks, what improve leaves is the customer's third demand. Assumes nothing.
use Prim.Native.Nat.{ℕ, ◌+◌, ◌-◌, ◌/◌, ◌≤◌, ◌<◌, min}
use mathlib.Core.Path.{◌≡◌, refl, sym, ap, ◌∙◌, subst, fun_ext}
use mathlib.Core.Logic.{◌↔◌, ◌⊎◌, inl, inr, ⊎_elim}
use mathlib.Core.List.{List}
use native.Mathlib.Omega.{arith}
use lib.Dec.{ltb}
use lib.IntN.{pos}
use lib.ListN.{length, get_or, get_or-eq_default}
use lib.Seq.{ext_get_or}
use borrow.Author.Tests.{ltb-true, ltb-false}
use Rattle.limits.specs.Limits.{routes, none}
use Rattle.graphs.specs.Graph.{Graph, Simple}
use Rattle.graphs.specs.Pairing.{Pairing, pairs, unpaired}
use Rattle.graphs.specs.Largest.{Largest}
use Rattle.theory.specs.Search.Searched.{Outcome, found, stuck}
use Rattle.theory.specs.Search.Promise as search
use Rattle.graphs.proofs.Count.{cases}
use Rattle.theory.proofs.Search.Cells.{get_d_any}
use Rattle.theory.proofs.Search.Improved.{improved-tidy, improved-length, largest-some, promise}
use Rattle.words.specs.Words.{bytes_to}
use Rattle.words.proofs.Bytes.{word-past, bytes_to-length, bytes_to-word}
use Rattle.rows.specs.Sheet.{order, graph_of}
use Rattle.sheet.proofs.Read.{simple, order-most}
use Rattle.causes.specs.Given.{mate_of}
use Rattle.witness.specs.Promise.{PairingBytes, Begins, Shown}
use Rattle.witness.proofs.Checker.{shown-accepted, shown-maximum}
use Rattle.buffers.specs.Held.{partners_of, size_of, sessions_of}
use Rattle.buffers.proofs.Written.{partners-length, partners-cell}
use Rattle.improve.specs.Choice.{improved, last, finished_by, witness_by}
use Rattle.improve.specs.Promise.{Means}

-- ---- the bytes as a table, and the table as bytes

-- the table of the bytes has the partners that the bytes have
partners-mate : (pairing : List ℕ) → length pairing / 4 ≤ routes → search.mate_of (partners_of pairing) ≡ mate_of pairing
partners-mate pairing h = fun_ext (λ v. cases (ltb v routes)
    (λ t. get_d_any (partners_of pairing) v none 0 (omega (arith, partners-length pairing, ltb-true v routes t)) ∙ partners-cell pairing v (ltb-true v routes t))
    (λ t. get_or-eq_default (partners_of pairing) none (omega (arith, partners-length pairing, ltb-false v routes t))
    ∙ sym (word-past pairing v (omega (arith, h, ltb-false v routes t)))))

-- the bytes of a tidy table have the partners of the table
bytes-mate : (g : Graph) (q : List ℕ) → g.order ≤ routes → search.Tidy g q → mate_of (bytes_to (λ v. get_or q v none) g.order) ≡ search.mate_of q
bytes-mate g q h T = fun_ext (λ v. cases (ltb v g.order)
    (λ t. bytes_to-word (λ u. get_or q u none) g.order v (ltb-true v g.order t)
    (⊎_elim (λ e. omega (arith, e)) (λ l. omega (arith, l, h)) (T.partners v (ltb-true v g.order t))))
    (λ t. word-past (bytes_to (λ u. get_or q u none) g.order) v (omega (arith, bytes_to-length (λ u. get_or q u none) g.order, ltb-false v g.order t))
    ∙ sym (T.past v (ltb-false v g.order t))))

-- so the table of these bytes is that table
pub table-bytes : (g : Graph) (q : List ℕ) → g.order ≤ routes → length q ≡ routes → search.Tidy g q → partners_of (bytes_to (λ v. get_or q v none) g.order) ≡ q
table-bytes g q h l T =
    let b : List ℕ = bytes_to (λ v. get_or q v none) g.order in
    ext_get_or none (partners_of b) q (partners-length b ∙ sym l)
    (λ v i. ap (λ (f : ℕ → ℕ). f v) (partners-mate b (omega (arith, bytes_to-length (λ u. get_or q u none) g.order, h)) ∙ bytes-mate g q h T))

-- ---- what the last search says

finished-is : (o : Outcome) → (finished_by o ≡ 1) ↔ ((a : List ℕ) × (o ≡ stuck a))
finished-is (found q) = (λ h. absurd (omega arith), λ h. let e = h.1 in let z : ◌≡◌ {A = ℕ} 0 1 = cc in absurd (omega arith))
finished-is (stuck a) = (λ h. (a, refl), λ h. refl)

finished-or : (o : Outcome) → (finished_by o ≡ 1) ⊎ (finished_by o ≡ 0)
finished-or (found q) = inr refl
finished-or (stuck a) = inl refl

unwritten-is : (o : Outcome) (w : List ℕ) → finished_by o ≡ 0 → witness_by o w ≡ w
unwritten-is (found q) w h = refl
unwritten-is (stuck a) w h = absurd (omega arith)

-- ---- the promise

module _ (s p w : List ℕ) (B : Begins s p w) (b : ℕ) where
  abbrev g : Graph
  g = graph_of s

  abbrev few : g.order ≤ routes
  few = order-most s B.accepted

  abbrev S : Simple g
  S = simple s B.accepted

  abbrev N : search.Fits routes g
  N = record { routes = few; small = omega arith }

  short : length p / 4 ≤ routes
  short = omega (arith, B.partners.long, few)

  same : search.mate_of (partners_of p) ≡ mate_of p
  same = partners-mate p short

  valid : search.Valid g (partners_of p)
  valid = record { long = omega (arith, partners-length p, few); pairing = subst (Pairing g) (sym same) B.partners.valid }

  tidy : search.Tidy g (partners_of p)
  tidy = record {
    partners = λ v i. subst (λ (f : ℕ → ℕ). (f v ≡ none) ⊎ (f v < g.order)) (sym same) (B.partners.partners v i);
    past = λ v h. ap (λ (f : ℕ → ℕ). f v) same ∙ word-past p v (omega (arith, B.partners.long, h));
  }

  pub left-tidy : search.Tidy g (improved s p b)
  unfolding improved
  left-tidy = improved-tidy S N valid tidy b

  pub left-length : length (improved s p b) ≡ routes
  unfolding improved
  left-length = improved-length S N valid b ∙ partners-length p

  -- the bytes that are left
  abbrev p' : List ℕ
  p' = bytes_to (λ v. get_or (improved s p b) v none) (order s)

  abbrev w' : List ℕ
  w' = witness_by (last s p b) w

  left-mate : mate_of p' ≡ search.mate_of (improved s p b)
  left-mate = bytes-mate g (improved s p b) few left-tidy

  abbrev L : (m : ℕ) × Largest g m
  L = largest-some S (omega (arith, few))

  kept : search.Promise g (partners_of p) b L.0 (improved s p b) (last s p b)
  unfolding improved last
  kept = promise S N valid L.1 b

  valid-left : PairingBytes s p'
  valid-left = record {
    long = bytes_to-length (λ v. get_or (improved s p b) v none) (order s);
    partners = λ v i. subst (λ (f : ℕ → ℕ). (f v ≡ none) ⊎ (f v < order s)) (sym left-mate) (left-tidy.partners v i);
    valid = subst (Pairing g) (sym left-mate) kept.valid.pairing;
  }

  size-left : size_of s p' ≡ pairs g (search.mate_of (improved s p b))
  unfolding size_of
  size-left = ap (pairs g) left-mate

  size-before : pairs g (search.mate_of (partners_of p)) ≡ size_of s p
  unfolding size_of
  size-before = ap (pairs g) same

  reached : size_of s p' ≡ size_of s p + min b (L.0 - size_of s p)
  reached = size-left ∙ kept.size ∙ ap (λ (x : ℕ). x + min b (L.0 - x)) size-before

  pub grows : size_of s p ≤ size_of s p'
  grows = omega (arith, reached)

  -- the witness of the last search has a mark for each route
  pub witness-length : (a : List ℕ) → last s p b ≡ stuck a → length a ≡ order s
  witness-length a e = (kept.witness a e).size

  -- the witness that is left, where the last search is stuck
  module _ (a : List ℕ) (e : last s p b ≡ stuck a) where
    is-a : w' ≡ a
    is-a = ap (λ (o : Outcome). witness_by o w) e

    shown-left : Shown s p' w'
    shown-left =
        let h = kept.witness a e in
        subst (Shown s p') (sym is-a) (record {
          accepted = B.accepted;
          partners = valid-left;
          marks = record { long = h.size; marks = λ v i. h.marks v };
          tight = h.tight ∙ ap (λ (f : ℕ → ℕ). pos (unpaired g f)) (sym left-mate);
        })

  finished-exactly : (finished_by (last s p b) ≡ 1) ↔ (size_of s p' ≡ L.0)
  finished-exactly = (
    λ h. size-left ∙ kept.finished.0 ((finished-is (last s p b)).0 h),
    λ h. (finished-is (last s p b)).1 (kept.finished.1 (sym size-left ∙ h)),
  )

  pub means : Means s p p' w w' b (size_of s p' - size_of s p) (size_of s p') (finished_by (last s p b)) (sessions_of s p')
  unfolding sessions_of
  means = record {
    m = L.0;
    largest = L.1;
    valid = valid-left;
    reached = reached;
    size_is = refl;
    added_is = refl;
    keeps = λ v i h. subst (λ (f : ℕ → ℕ). f v < order s) (sym left-mate) (kept.keeps v i (subst (λ (f : ℕ → ℕ). f v < order s) (sym same) h));
    exactly = finished-exactly;
    one-or-none = finished-or (last s p b);
    shown = λ h. let k = (finished-is (last s p b)).0 h in shown-accepted s p' w' (shown-left k.0 k.1);
    fewest = λ h ss P. let k = (finished-is (last s p b)).0 h in (shown-maximum s p' w' (shown-left k.0 k.1)).fewest ss P;
    unwritten = λ h. unwritten-is (last s p b) w h;
    sessions-is = refl;
  }
