-- At most b searches: two calls are one, the size that is left, what is kept; and by the search itself every simple graph has a largest size. Assumes nothing.
use mathlib.Core.Path.{◌≡◌, refl, sym, ap, ◌∙◌}
use mathlib.Core.Logic.{◌⊎◌, inl, inr, ◌↔◌}
use mathlib.Core.Bool.{◌&&◌}
use mathlib.Core.List.{List}
use Prim.Native.Nat.{ℕ, zero, suc, ◌+◌, ◌-◌, ◌≤◌, ◌<◌, min}
use native.Mathlib.Omega.{arith}
use native.Mathlib.Nat.{add-suc, add-zero}
use lib.Dec.{ltb}
use lib.ListN.{length, replicate, get_or-replicate}
use Rattle.limits.specs.Limits.{none}
use Rattle.graphs.specs.Graph.{Graph, Simple}
use Rattle.graphs.specs.Pairing.{paired, pairs}
use Rattle.graphs.specs.Largest.{Largest}
use Rattle.theory.specs.Search.Tables.{groups}
use Rattle.theory.specs.Search.Searched.{Outcome, found, stuck, after, searched_in, improved_in}
use Rattle.theory.specs.Search.Promise.{mate_of, Valid, Tidy, Fits, Promise}
use Rattle.graphs.proofs.Count.{count-le}
use Rattle.graphs.proofs.Largest.{largest-one}
use Rattle.theory.proofs.Search.Cells.{length-rep}
use Rattle.theory.proofs.Search.Searched.{search-found, search-tidy, search-stuck}

-- ---- two calls are one

pub improved-add : (room : ℕ) (g : Graph) (p : List ℕ) (a b : ℕ) → improved_in room g (improved_in room g p a) b ≡ improved_in room g p (a + b)
unfolding improved_in
improved-add room g p a zero = ap (improved_in room g p) (sym (add-zero a))
improved-add room g p a (suc b) =
    ap (λ (q : List ℕ). after (searched_in room g q) q) (improved-add room g p a b) ∙ ap (improved_in room g p) (sym (add-suc a b))

-- ---- once stuck, always stuck

pub stuck-stays : (room : ℕ) (g : Graph) (p a : List ℕ) → searched_in room g p ≡ stuck a → (b : ℕ) → improved_in room g p b ≡ p
unfolding improved_in
stuck-stays room g p a e zero = refl
stuck-stays room g p a e (suc b) =
    ap (λ (q : List ℕ). after (searched_in room g q) q) (stuck-stays room g p a e b) ∙ ap (λ (o : Outcome). after o p) e

-- the loop of the searches stops at the first that is stuck
pub improved-left : (room : ℕ) (g : Graph) (p : List ℕ) (k b : ℕ) (q a : List ℕ) → k ≤ b → q ≡ improved_in room g p k → searched_in room g q ≡ stuck a → q ≡ improved_in room g p b
improved-left room g p k b q a l h e =
    sym (stuck-stays room g q a e (b - k)) ∙ ap (λ (r : List ℕ). improved_in room g r (b - k)) h ∙ improved-add room g p k (b - k) ∙ ap (improved_in room g p) (omega arith)

-- ---- either way out

data Ways (o : Outcome) : Type 0 where
  finds : (q : List ℕ) → o ≡ found q → Ways o
  stops : (a : List ℕ) → o ≡ stuck a → Ways o

ways : (o : Outcome) → Ways o
ways (found q) = finds q refl
ways (stuck a) = stops a refl

module _ {room : ℕ} {g : Graph} (S : Simple g) (N : Fits room g) where
  -- ---- stuck exactly where the pairing is largest, and found exactly where it is not

  pub finished : {p : List ℕ} {m : ℕ} → Valid g p → Largest g m → ((a : List ℕ) × (searched_in room g p ≡ stuck a)) ↔ (pairs g (mate_of p) ≡ m)
  finished {p} {m} Y L = (λ h. largest-one (search-stuck S N Y h.0 h.1).largest L, λ h. go h (ways (searched_in room g p)))
    where
      go : pairs g (mate_of p) ≡ m → Ways (searched_in room g p) → (a : List ℕ) × (searched_in room g p ≡ stuck a)
      go h (stops a e) = (a, e)
      go h (finds q e) = let f = search-found S N Y q e in absurd (omega (arith, h, f.one_more, L.most (mate_of q) f.valid.pairing))

  pub unfinished : {p : List ℕ} {m : ℕ} → Valid g p → Largest g m → ((q : List ℕ) × (searched_in room g p ≡ found q)) ↔ (pairs g (mate_of p) < m)
  unfinished {p} {m} Y L = (λ h. let f = search-found S N Y h.0 h.1 in omega (arith, f.one_more, L.most (mate_of h.0) f.valid.pairing), λ h. go h (ways (searched_in room g p)))
    where
      go : pairs g (mate_of p) < m → Ways (searched_in room g p) → (q : List ℕ) × (searched_in room g p ≡ found q)
      go h (finds q e) = (q, e)
      go h (stops a e) = absurd (omega (arith, h, largest-one (search-stuck S N Y a e).largest L))

  -- ---- what b searches keep

  record Kept (p q : List ℕ) : Type 0 where
    valid : Valid g q
    size : length q ≡ length p
    keeps : (v : ℕ) → v < g.order → mate_of p v < g.order → mate_of q v < g.order

  step : {q : List ℕ} → Valid g q → (o : Outcome) → searched_in room g q ≡ o → Kept q (after o q)
  step Y (found r) e = let f = search-found S N Y r e in record { valid = f.valid; size = f.size; keeps = f.keeps }
  step Y (stuck a) e = record { valid = Y; size = refl; keeps = λ v i h. h }

  module _ {p : List ℕ} (Y : Valid g p) where
    kept : (b : ℕ) → Kept p (improved_in room g p b)
    unfolding improved_in
    kept zero = record { valid = Y; size = refl; keeps = λ v i h. h }
    kept (suc b) = join (kept b) (step (kept b).valid (searched_in room g (improved_in room g p b)) refl)
      where
        join : {q r : List ℕ} → Kept p q → Kept q r → Kept p r
        join x y = record { valid = y.valid; size = y.size ∙ x.size; keeps = λ v i h. y.keeps v i (x.keeps v i h) }

    pub improved-valid : (b : ℕ) → Valid g (improved_in room g p b)
    improved-valid b = (kept b).valid

    pub improved-tidy : Tidy g p → (b : ℕ) → Tidy g (improved_in room g p b)
    unfolding improved_in
    improved-tidy T zero = T
    improved-tidy T (suc b) = go (improved-tidy T b) (searched_in room g (improved_in room g p b)) refl
      where
        go : Tidy g (improved_in room g p b) → (o : Outcome) → searched_in room g (improved_in room g p b) ≡ o → Tidy g (after o (improved_in room g p b))
        go t (found r) e = search-tidy S N (improved-valid b) r e t
        go t (stuck a) e = t

    pub improved-length : (b : ℕ) → length (improved_in room g p b) ≡ length p
    improved-length b = (kept b).size

    -- every route paired before is paired
    pub improved-keeps : (b v : ℕ) → v < g.order → mate_of p v < g.order → mate_of (improved_in room g p b) v < g.order
    improved-keeps b = (kept b).keeps

    more-or-largest : (q : List ℕ) → Valid g q → (o : Outcome) → searched_in room g q ≡ o
        → (pairs g (mate_of (after o q)) ≡ suc (pairs g (mate_of q))) ⊎ ((after o q ≡ q) × Largest g (pairs g (mate_of q)))
    more-or-largest q Z (found r) e = inl (search-found S N Z r e).one_more
    more-or-largest q Z (stuck a) e = inr (refl, (search-stuck S N Z a e).largest)

    -- the size that is left: with the budget b, and m largest
    pub improved-size : {m : ℕ} → Largest g m → (b : ℕ) → pairs g (mate_of (improved_in room g p b)) ≡ pairs g (mate_of p) + min b (m - pairs g (mate_of p))
    unfolding improved_in
    improved-size {m} L zero = omega arith
    improved-size {m} L (suc b) =
        go (improved-size L b) (more-or-largest (improved_in room g p b) (improved-valid b) (searched_in room g (improved_in room g p b)) refl)
      where
        q : List ℕ
        q = improved_in room g p b

        r : List ℕ
        r = after (searched_in room g q) q

        go : pairs g (mate_of q) ≡ pairs g (mate_of p) + min b (m - pairs g (mate_of p)) → (pairs g (mate_of r) ≡ suc (pairs g (mate_of q))) ⊎ ((r ≡ q) × Largest g (pairs g (mate_of q)))
            → pairs g (mate_of r) ≡ pairs g (mate_of p) + min (suc b) (m - pairs g (mate_of p))
        go h (inl k) = omega (arith, h, k, L.most (mate_of r) (improved-valid (suc b)).pairing, L.most (mate_of p) Y.pairing)
        go h (inr k) = ap (λ (l : List ℕ). pairs g (mate_of l)) k.0 ∙ omega (arith, h, largest-one k.1 L, L.most (mate_of p) Y.pairing)

    -- after b searches: b pairs more, or largest
    grown : (b : ℕ) → (pairs g (mate_of (improved_in room g p b)) ≡ pairs g (mate_of p) + b) ⊎ ((m : ℕ) × Largest g m)
    unfolding improved_in
    grown zero = inl (omega arith)
    grown (suc b) = go (pairs g (mate_of p)) (grown b) (more-or-largest (improved_in room g p b) (improved-valid b) (searched_in room g (improved_in room g p b)) refl)
      where
        go : {x y : ℕ} {A : Type 0} (z : ℕ) → (x ≡ z + b) ⊎ ((m : ℕ) × Largest g m) → (y ≡ suc x) ⊎ (A × Largest g x) → (y ≡ z + suc b) ⊎ ((m : ℕ) × Largest g m)
        go z (inr L) k = inr L
        go z (inl h) (inl k) = inl (omega arith)
        go {x} z (inl h) (inr k) = inr (x, k.1)

-- ---- the largest size has a value: the searches from no pair at all come to an end

module _ {g : Graph} (S : Simple g) (small : groups g.order ≤ none) where
  abbrev free : List ℕ
  free = replicate g.order none

  abbrev end : List ℕ
  end = improved_in g.order g free (suc g.order)

  own_room : Fits g.order g
  own_room = record { routes = omega arith; small = small }

  -- no route has a partner
  pub none-paired : Valid g free
  none-paired = record {
    long = omega (arith, length-rep g.order none);
    pairing = record {
      edge = λ v i h. absurd (omega (arith, get_or-replicate g.order v none none i));
      back = λ v i h. absurd (omega (arith, get_or-replicate g.order v none none i));
    };
  }

  pub largest-some : (m : ℕ) × Largest g m
  unfolding pairs
  largest-some = go (grown S own_room none-paired (suc g.order))
    where
      go : (pairs g (mate_of end) ≡ pairs g (mate_of free) + suc g.order) ⊎ ((m : ℕ) × Largest g m) → (m : ℕ) × Largest g m
      go (inr L) = L
      go (inl h) = absurd (omega (arith, h, count-le g.order (λ v. paired g (mate_of end) v && ltb v (mate_of end v))))

-- ---- what a call with the budget b leaves

pub promise : {room : ℕ} {g : Graph} {p : List ℕ} {m : ℕ} → Simple g → Fits room g → Valid g p → Largest g m → (b : ℕ)
    → Promise g p b m (improved_in room g p b) (searched_in room g (improved_in room g p b))
promise S N Y L b = record {
  valid = improved-valid S N Y b;
  as_long = improved-length S N Y b;
  size = improved-size S N Y L b;
  keeps = improved-keeps S N Y b;
  finished = finished S N (improved-valid S N Y b) L;
  witness = λ a e. search-stuck S N (improved-valid S N Y b) a e;
}
