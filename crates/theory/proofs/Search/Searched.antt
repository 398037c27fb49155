-- The theorems of one search: what it finds is one pair more (`search-found`), and where it is stuck the inner routes meet the bound, so that no pairing has
-- more pairs (`search-stuck`). Assumes nothing.
use mathlib.Core.Path.{◌≡◌, refl, sym, ap, ◌∙◌, subst}
use mathlib.Core.Logic.{◌≢◌, ◌⊎◌}
use mathlib.Core.Bool.{Bool, true, false}
use mathlib.Core.List.{List, [], ◌∷◌, map}
use Prim.Native.Nat.{ℕ, zero, suc, ◌+◌, ◌≤◌, ◌<◌}
use native.Mathlib.Omega.{arith}
use native.Mathlib.Decide.{ℕ_discrete}
use lib.Dec.{eqb}
use lib.IntN.{pos}
use lib.ListN.{length, get_or, take, length-take, length-map, replicate}
use lib.Seq.{get_or-take}
use borrow.Author.Tests.{eqb-true, eqb-false, eq-eqb, ne_eqb, ltb-false}
use Rattle.limits.specs.Limits.{none}
use Rattle.graphs.specs.Graph.{Graph, Simple, joined, in_set}
use Rattle.graphs.specs.Surplus.{surplus}
use Rattle.graphs.specs.Pairing.{paired, unpaired}
use Rattle.theory.specs.Search.Tables.{groups, cell, Tables}
use Rattle.theory.specs.Search.Start.{start}
use Rattle.theory.specs.Search.Look.{run}
use Rattle.theory.specs.Search.Expose.{augmented}
use Rattle.theory.specs.Search.Searched.{inward, outward, mark, begun, ended, Outcome, found, stuck, searched_in}
use Rattle.theory.specs.Search.Promise.{mate_of, Valid, Tidy, Fits, Gained, Shown}
use Rattle.graphs.proofs.Count.{cases}
use Rattle.graphs.proofs.Parts.{map_at}
use Rattle.graphs.proofs.Pairing.{pairs-unpaired, mate-moves}
use Rattle.graphs.proofs.Largest.{largest-tight}
use Rattle.graphs.proofs.Sets.{is, is-self, is-other, is_le, is_pos}
use Rattle.trees.proofs.Forest.Inside as Inside
use Rattle.trees.proofs.Forest.Applied.{partner}
use Rattle.trees.proofs.Forest.Shape.{plain}
use Rattle.theory.proofs.Search.Tight.{Closed, tight-surplus}
use Rattle.theory.proofs.Search.Cells.{by-test}
use Rattle.theory.proofs.Search.Line.{label_of, tail-le}
use Rattle.theory.proofs.Search.Ready.{Adj, bounded, Ready, forest}
use Rattle.theory.proofs.Search.Look.{Hunt, Swept, run-swept, run-mate}
use Rattle.theory.proofs.Search.Start.{start-hunt}
use Rattle.theory.proofs.Search.Raise.{Better, augmented-better, augmented-length}
use Rattle.theory.proofs.Search.Outside.{Twin, inside-in, partner-out, pairing-in, pairing-out, unpaired-total, inward-twin, inward-long, outward-past, outward-tidy, outward-twin, outward-length}

-- ---- the outcome

module _ (room : ℕ) (g : Graph) (p : List ℕ) where
  abbrev last : Tables
  last = ended room g p

  finish-found : (q : List ℕ) → searched_in room g p ≡ found q → (last.hit ≡ true) × (q ≡ outward room (augmented room last) g.order p)
  unfolding searched_in
  finish-found q = by-test (λ (o : Outcome). o ≡ found q → (last.hit ≡ true) × (q ≡ outward room (augmented room last) g.order p)) last.hit _ _
      (λ t e. (t, cc))
      (λ t e. let z : ◌≡◌ {A = ℕ} 0 1 = cc in absurd (omega arith))

  finish-stuck : (a : List ℕ) → searched_in room g p ≡ stuck a → (last.hit ≡ false) × (a ≡ map mark (take g.order last.line.label))
  unfolding searched_in
  finish-stuck a = by-test (λ (o : Outcome). o ≡ stuck a → (last.hit ≡ false) × (a ≡ map mark (take g.order last.line.label))) last.hit _ _
      (λ t e. let z : ◌≡◌ {A = ℕ} 0 1 = cc in absurd (omega arith))
      (λ t e. (t, cc))

-- ---- the theorems

module _ {g : Graph} {room : ℕ} {p : List ℕ} (S : Simple g) (N : Fits room g) (Y : Valid g p) where
  abbrev n : ℕ
  n = g.order

  abbrev M : List ℕ
  M = inward room n p room (replicate room none)

  twin : Twin n (mate_of p) M
  twin = inward-twin room n p N.routes Y.long (λ v i h. mate-moves g (mate_of p) S Y.pairing v i h)

  M-long : length M ≡ room
  M-long = inward-long room n p N.routes Y.long

  pub hunt : Hunt g room (begun room g p)
  unfolding begun
  hunt = start-hunt g room M N M-long (pairing-in S twin Y.pairing) (inside-in S twin)

  -- after k rows
  pub swept_at : (k : ℕ) → Swept g room k (run room g k (begun room g p))
  swept_at k = run-swept S hunt k

  abbrev s : Tables
  s = ended room g p

  pub swept : Swept g room n s
  unfolding ended
  swept = swept_at n

  mate-is : s.mate ≡ M
  unfolding ended begun start
  mate-is = run-mate room g n (start room n M)

  twin-s : Twin n (mate_of p) s.mate
  twin-s = subst (Twin n (mate_of p)) (sym mate-is) twin

  module _ (q : List ℕ) (e : searched_in room g p ≡ found q) where
    abbrev A : List ℕ
    A = augmented room s

    hits : (s.hit ≡ true) × (q ≡ outward room A n p)
    hits = finish-found room g p q e

    better : Better (Adj g) n s.mate A
    better = augmented-better S swept.hunt.ready (swept.hunt.struck hits.0)

    ins : (v : ℕ) → v < n → partner A v < n
    ins v i = go (ℕ_discrete (partner A v) v)
      where
        go : Dec (partner A v ≡ v) → partner A v < n
        go (yes k) = omega (arith, k, i)
        go (no k) = (bounded S v _ (better.pairing.real v k)).1

    past : (v : ℕ) → n ≤ v → partner A v ≡ v
    past v h = go (ℕ_discrete (partner A v) v)
      where
        go : Dec (partner A v ≡ v) → partner A v ≡ v
        go (yes k) = k
        go (no k) = absurd (omega (arith, h, (better.pairing.real v k).0))

    A-long : length A ≡ room
    A-long = augmented-length room s ∙ ap length mate-is ∙ M-long

    twin-q : Twin n (mate_of q) A
    twin-q = subst (λ (l : List ℕ). Twin n (mate_of l) A) (sym hits.1)
        (outward-twin room n A p N.routes (omega (arith, N.routes, N.small)) Y.long A-long ins past)

    -- a tidy list stays tidy
    pub search-tidy : Tidy g p → Tidy g q
    search-tidy T = record {
      partners = λ v i. subst (λ (l : List ℕ). (mate_of l v ≡ none) ⊎ (mate_of l v < n)) (sym hits.1)
          (outward-tidy room n A p N.routes (omega (arith, N.routes, N.small)) Y.long A-long ins past v i);
      past = λ v h. ap (λ (l : List ℕ). mate_of l v) hits.1 ∙ outward-past room A n p v N.routes h ∙ T.past v h;
    }

    valid-q : Valid g q
    valid-q = record { long = omega (arith, ap length hits.1, outward-length room A n p, Y.long); pairing = pairing-out S twin-q better.pairing }

    -- found: one pair more
    pub search-found : Gained g p q
    search-found = record {
      valid = valid-q;
      size = ap length hits.1 ∙ outward-length room A n p;
      one_more = omega (arith, unpaired-total S twin-s, unpaired-total S twin-q, better.count, pairs-unpaired g (mate_of p) S Y.pairing, pairs-unpaired g (mate_of q) S valid-q.pairing);
      keeps = λ v i h. partner-out S twin-q v i (better.keeps v (λ k. twin-s.moves v i h (sym (twin-s.on v i h) ∙ k)));
    }

  module _ (a : List ℕ) (e : searched_in room g p ≡ stuck a) where
    misses : (s.hit ≡ false) × (a ≡ map mark (take n s.line.label))
    misses = finish-stuck room g p a e

    abbrev R : Ready g room s
    R = swept.hunt.ready

    abbrev lab : ℕ → ℕ
    lab = label_of s.line.label

    abbrev tp : ℕ → ℕ
    tp = cell room s.top

    abbrev base : ℕ → ℕ
    base = cell (groups room) s.base

    abbrev row : ℕ → ℕ
    row = cell room s.line.queue

    mark-is : (x : ℕ) → eqb (mark x) 1 ≡ eqb x 1
    mark-is x = cases (eqb x 1) (λ t. rw t refl) (λ t. rw t refl)

    marked : (v : ℕ) → v < n → in_set a v ≡ eqb (lab v) 1
    marked v i =
        let l : v < length (take n s.line.label) = omega (arith, length-take n s.line.label, R.line.label-size, N.routes) in
        ap (λ (y : ℕ). eqb y 1) (ap (λ (b : List ℕ). get_or b v 0) misses.1 ∙ map_at mark (take n s.line.label) v l ∙ ap mark (get_or-take n s.line.label v 0 i)) ∙ mark-is (lab v)

    is-outer : ℕ → Bool
    is-outer v = eqb (lab v) 2

    inner-1 : (v : ℕ) → v < n → in_set a v ≡ true → lab v ≡ 1
    inner-1 v i h = eqb-true (lab v) 1 (sym (marked v i) ∙ h)

    not-inner : (v : ℕ) → v < n → in_set a v ≡ false → lab v ≢ 1
    not-inner v i h = eqb-false (lab v) 1 (sym (marked v i) ∙ h)

    -- a route whose partner is not itself
    mate-of : (v : ℕ) → v < n → partner s.mate v ≢ v → mate_of p v ≡ partner s.mate v
    mate-of v i h = sym (twin-s.on v i (partner-out S twin-s v i h))

    inner-moves : (v : ℕ) → v < n → lab v ≡ 1 → partner s.mate v ≢ v
    inner-moves v i l h = omega (arith, l, ((forest R).free v i h).1)

    free-is : (v : ℕ) → v < n → paired g (mate_of p) v ≡ false → partner s.mate v ≡ v
    free-is v i h = twin-s.off v i (ltb-false (mate_of p v) n h)

    -- within a group: the partner of a route that is not the base
    in_group : (v : ℕ) → v < n → lab v ≡ 2 → base (tp v) ≢ v
        → (lab (partner s.mate v) ≡ 2) × (tp (partner s.mate v) ≡ tp v) × (base (tp v) ≢ partner s.mate v)
    in_group v i o h = (labelled (ℕ_discrete (lab mv) 2), sym same-t, λ k. omega (arith, near, ap (is (base (tp v))) (sym k), is-self (base (tp v)), is_le (tp v) (tp mv), is-other h, is-self (tp v)))
      where
        mv : ℕ
        mv = partner s.mate v

        near : is (tp v) (tp mv) + is (base (tp v)) v ≡ is (tp v) (tp v) + is (base (tp v)) mv
        near = (forest R).near v i v

        same-t : tp v ≡ tp mv
        same-t = is_pos (tp v) (tp mv) (omega (arith, near, is-other h, is-self (tp v)))

        moves : mv ≢ v
        moves k = h ((forest R).free v i k).0

        labelled : Dec (lab mv ≡ 2) → lab mv ≡ 2
        labelled (yes k) = k
        labelled (no k) = absurd (moves (sym (plain (forest R) ((forest R).inside v i) k v (same-t ∙ (forest R).single mv ((forest R).inside v i) k))))

    joined-groups : (v w : ℕ) → v < n → lab v ≡ 2 → joined g v w ≡ true → lab w ≢ 1 → (lab w ≡ 2) × (tp w ≡ tp v)
    joined-groups v w i o j h =
        let a = R.line.listed v o in
        let r : 0 < lab w = swept.reached misses.0 a.0 w (omega (arith, a.1, tail-le R.line)) a.1 (subst (λ (y : ℕ). joined g y w ≡ true) (sym a.2) j) in
        let l : lab w ≡ 2 = omega (arith, r, h, R.line.labels w) in
        let b = R.line.listed w l in
        let t : tp (row a.0) ≡ tp (row b.0)
        = swept.together misses.0 a.0 b.0 (omega (arith, a.1, tail-le R.line)) (omega (arith, b.1, tail-le R.line)) a.1 b.1
        (subst (λ (y : ℕ). joined g y (row b.0) ≡ true) (sym a.2) (subst (λ (y : ℕ). joined g v y ≡ true) (sym b.2) j)) in
        (l, ap tp (sym b.2) ∙ sym t ∙ ap tp a.2)

    closed : Closed g (mate_of p) is-outer (in_set a) (λ v. base (tp v))
    unfolding is-outer
    closed = record {
      apart = λ v i o. marked v i ∙ ne_eqb (lab v) 1 (omega (arith, eqb-true (lab v) 2 o));
      free-outer = λ v i h. eq-eqb (lab v) 2 ((forest R).free v i (free-is v i h)).1;
      free-base = λ v i h. ((forest R).free v i (free-is v i h)).0;
      inner-outer = λ v i h. let l = inner-1 v i h in subst (λ (y : ℕ). eqb (lab y) 2 ≡ true) (sym (mate-of v i (inner-moves v i l))) (eq-eqb _ 2 ((forest R).inner v l).partner);
      inner-base = λ v i h. let l = inner-1 v i h in subst (λ (y : ℕ). base (tp y) ≡ y) (sym (mate-of v i (inner-moves v i l))) ((forest R).inner v l).based;
      within = λ v i o h.
          let k = in_group v i (eqb-true (lab v) 2 o) h in
          let m = mate-of v i (λ y. h ((forest R).free v i y).0) in
          (ap (λ (y : ℕ). eqb (lab y) 2) m ∙ eq-eqb _ 2 k.0, ap (λ (y : ℕ). base (tp y)) m ∙ ap base k.1, λ y. k.2 (y ∙ m));
      closed = λ v w i o j h.
          let k = joined-groups v w i (eqb-true (lab v) 2 o) j (not-inner w (S.below v w i j) h) in
          (eq-eqb _ 2 k.0, ap base k.1);
    }

    tight : surplus g (in_set a) ≡ pos (unpaired g (mate_of p))
    tight = tight-surplus g (mate_of p) S Y.pairing is-outer (in_set a) (λ v. base (tp v)) closed

    marks : (l : List ℕ) (i : ℕ) → get_or (map mark l) i 0 ≤ 1
    marks [] i = omega arith
    marks (x ∷ xs) zero = by-test (λ (y : ℕ). y ≤ 1) (eqb x 1) 1 0 (λ t. omega arith) (λ t. omega arith)
    marks (x ∷ xs) (suc i) = marks xs i

    -- stuck: the bound is met, and the pairing is largest
    pub search-stuck : Shown g p a
    search-stuck = record {
      size =
          let l : length (map mark (take n s.line.label)) ≡ length (take n s.line.label) = length-map (take n s.line.label) mark in
          ap length misses.1 ∙ l ∙ omega (arith, length-take n s.line.label, R.line.label-size, N.routes);
      marks = λ v. subst (λ (b : List ℕ). get_or b v 0 ≤ 1) (sym misses.1) (marks (take n s.line.label) v);
      tight = tight;
      largest = largest-tight g S (mate_of p) Y.pairing (in_set a) tight;
    }
