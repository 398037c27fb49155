-- The pairing outside, where a route with no partner has none, and inside, where it is its own partner. Assumes nothing.
use mathlib.Core.Path.{◌≡◌, refl, sym, ap, ◌∙◌, subst}
use mathlib.Core.Logic.{◌≢◌, ◌⊎◌, inl, inr}
use mathlib.Core.Bool.{true, not}
use mathlib.Core.List.{List}
use Prim.Native.Nat.{ℕ, zero, suc, ◌≤◌, ◌<◌}
use native.Mathlib.Omega.{arith}
use native.Mathlib.Nat.{not-suc-le-zero}
use native.Mathlib.Decide.{ℕ_discrete, dec_lt}
use lib.Dec.{eqb, ltb}
use lib.ListN.{length, set, replicate, get_or-eq_default}
use lib.Seq.{get_or-set_same, get_or-set_other}
use borrow.Author.Tests.{eqb-true, eqb-false, ltb-true, ltb-false, lt-ltb, le-ltb}
use Rattle.limits.specs.Limits.{none}
use Rattle.graphs.specs.Count.{count, bit}
use Rattle.graphs.specs.Graph.{Graph, Simple, joined}
use Rattle.graphs.specs.Pairing as Bound
use Rattle.theory.specs.Search.Tables.{cell, store}
use Rattle.theory.specs.Search.Searched.{own_or, inward, none_or, outward}
use Rattle.theory.specs.Search.Promise.{mate_of}
use Rattle.graphs.proofs.Count.{cases}
use Rattle.graphs.proofs.Sets.{is, is-self, is-other, total}
use Rattle.trees.proofs.Forest.Inside as Inside
use Rattle.trees.proofs.Forest.Applied.{partner}
use Rattle.theory.proofs.Search.Cells.{get_d_any, length-rep, cell_in, cell-any, store_in, store_length, store_same, store_other}
use Rattle.theory.proofs.Search.Ready.{Adj}

-- the pairing M inside is the pairing p outside, of n routes
pub record Twin (n : ℕ) (p : ℕ → ℕ) (M : List ℕ) : Type 0 where
  pub on : (v : ℕ) → v < n → p v < n → partner M v ≡ p v
  pub off : (v : ℕ) → v < n → n ≤ p v → partner M v ≡ v
  pub beyond : (v : ℕ) → n ≤ v → partner M v ≡ v
  pub moves : (v : ℕ) → v < n → p v < n → p v ≢ v

module _ {g : Graph} {p : ℕ → ℕ} {M : List ℕ} (S : Simple g) (T : Twin g.order p M) where
  pub inside-in : (v : ℕ) → v < g.order → partner M v < g.order
  inside-in v i = go (dec_lt (p v) g.order)
    where
      go : Dec (p v < g.order) → partner M v < g.order
      go (yes h) = omega (arith, T.on v i h)
      go (no h) = omega (arith, T.off v i (omega arith), i)

  -- a partner inside is a partner outside
  pub partner-out : (v : ℕ) → v < g.order → partner M v ≢ v → p v < g.order
  partner-out v i h = go (dec_lt (p v) g.order)
    where
      go : Dec (p v < g.order) → p v < g.order
      go (yes k) = k
      go (no k) = absurd (h (T.off v i (omega arith)))

  pub pairing-in : Bound.Pairing g p → Inside.Pairing (Adj g) (partner M)
  pairing-in P = record { back = λ y. back y (dec_lt y g.order) (dec_lt (p y) g.order); real = λ y h. real y h (dec_lt y g.order) }
    where
      back : (y : ℕ) → Dec (y < g.order) → Dec (p y < g.order) → partner M (partner M y) ≡ y
      back y (no i) d = ap (partner M) (T.beyond y (omega arith)) ∙ T.beyond y (omega arith)
      back y (yes i) (no h) = ap (partner M) (T.off y i (omega arith)) ∙ T.off y i (omega arith)
      back y (yes i) (yes h) = ap (partner M) (T.on y i h) ∙ T.on (p y) h (omega (arith, P.back y i h)) ∙ P.back y i h

      real : (y : ℕ) → partner M y ≢ y → Dec (y < g.order) → Adj g y (partner M y)
      real y h (no i) = absurd (h (T.beyond y (omega arith)))
      real y h (yes i) = let k = partner-out y i h in (i, subst (λ (z : ℕ). joined g y z ≡ true) (sym (T.on y i k)) (P.edge y i k))

  pub pairing-out : Inside.Pairing (Adj g) (partner M) → Bound.Pairing g p
  pairing-out P = record {
    edge = λ v i h. let e = T.on v i h in subst (λ (z : ℕ). joined g v z ≡ true) e (P.real v (λ q. T.moves v i h (sym e ∙ q))).1;
    back = λ v i h.
        let e = T.on v i h in
        let b : partner M (p v) ≡ v = ap (partner M) (sym e) ∙ P.back v in
        let k : p (p v) < g.order = partner-out (p v) h (λ q. T.moves v i h (sym q ∙ b)) in
        sym (T.on (p v) h k) ∙ b;
  }

  -- the routes with no partner
  pub count-total : (k : ℕ) → k ≤ g.order → count k (λ v. not (Bound.paired g p v)) ≡ total (λ y. is y (partner M y)) k
  unfolding count
  count-total zero h = refl
  count-total (suc k) h =
      let one : bit (not (ltb (p k) g.order)) ≡ is k (partner M k) = at_one k h in
      omega (arith, one, count-total k (omega arith))
    where
      at_one : (v : ℕ) → v < g.order → bit (not (ltb (p v) g.order)) ≡ is v (partner M v)
      at_one v i = cases (ltb (p v) g.order)
          (λ t. let h = ltb-true (p v) g.order t in rw t (sym (is-other (λ q. T.moves v i h (sym (T.on v i h) ∙ sym q)))))
          (λ t. let h = ltb-false (p v) g.order t in rw t (sym (ap (is v) (T.off v i h) ∙ is-self v)))

  pub unpaired-total : Bound.unpaired g p ≡ total (λ y. is y (partner M y)) g.order
  unfolding Bound.unpaired
  unpaired-total = count-total g.order (omega arith)

-- ---- inward

module _ (room n : ℕ) (p : List ℕ) where
  inward-length : (k : ℕ) (m : List ℕ) → length (inward room n p k m) ≡ length m
  unfolding inward
  inward-length zero m = refl
  inward-length (suc k) m = store_length room (inward room n p k m) k (own_or room n p k) ∙ inward-length k m

  inward-at : (k : ℕ) (m : List ℕ) (v : ℕ) → length m ≡ room → k ≤ room → v < k → cell room (inward room n p k m) v ≡ own_or room n p v
  unfolding inward
  inward-at zero m v l h i = absurd (not-suc-le-zero i)
  inward-at (suc k) m v l h i = go (ℕ_discrete v k) (λ j. inward-at k m v l (omega arith) j)
    where
      go : Dec (v ≡ k) → (v < k → cell room (inward room n p k m) v ≡ own_or room n p v) → cell room (store room (inward room n p k m) k (own_or room n p k)) v ≡ own_or room n p v
      go (yes e) f = ap (cell room (store room (inward room n p k m) k (own_or room n p k))) e ∙ store_same room (inward room n p k m) k (own_or room n p k) h (inward-length k m ∙ l) ∙ ap (own_or room n p) (sym e)
      go (no e) f = store_other room (inward room n p k m) k (own_or room n p k) v e ∙ f (omega arith)

  module _ (fits : n ≤ room) (long : n ≤ length p) where
    abbrev M : List ℕ
    M = inward room n p room (replicate room none)

    pub inward-long : length M ≡ room
    inward-long = inward-length room (replicate room none) ∙ length-rep room none

    inside-at : (v : ℕ) → v < room → partner M v ≡ own_or room n p v
    inside-at v i = sym (cell-any room M v v i inward-long) ∙ inward-at room (replicate room none) v (length-rep room none) (omega arith) i

    -- the partner that is read
    read : (v : ℕ) → v < n → cell room p v ≡ mate_of p v
    read v i = cell_in room p v (omega arith) ∙ get_d_any p v 0 none (omega arith)

    pub inward-twin : ((v : ℕ) → v < n → mate_of p v < n → mate_of p v ≢ v) → Twin n (mate_of p) M
    unfolding own_or
    inward-twin mv = record {
      on = λ v i h. inside-at v (omega arith) ∙ rw (lt-ltb v n i, read v i, lt-ltb (mate_of p v) n h) refl;
      off = λ v i h. inside-at v (omega arith) ∙ rw (lt-ltb v n i, read v i, le-ltb (mate_of p v) n h) refl;
      beyond = λ v h. past v h (dec_lt v room);
      moves = mv;
    }
      where
        past : (v : ℕ) → n ≤ v → Dec (v < room) → partner M v ≡ v
        past v h (yes i) = inside-at v i ∙ rw (le-ltb v n h) refl
        past v h (no i) = get_or-eq_default M v {n = v} (omega (arith, inward-long))

-- ---- outward

module _ (room : ℕ) (m : List ℕ) where
  pub outward-length : (k : ℕ) (p : List ℕ) → length (outward room m k p) ≡ length p
  unfolding outward
  outward-length zero p = refl
  outward-length (suc k) p = store_length room (outward room m k p) k (none_or room m k) ∙ outward-length k p

  outward-at : (k : ℕ) (p : List ℕ) (v : ℕ) → k ≤ length p → k ≤ room → v < k → mate_of (outward room m k p) v ≡ none_or room m v
  unfolding outward
  outward-at zero p v h r i = absurd (not-suc-le-zero i)
  outward-at (suc k) p v h r i = subst (λ (l : List ℕ). mate_of l v ≡ none_or room m v) (sym (store_in room (outward room m k p) k (none_or room m k) r)) (go (ℕ_discrete v k) (λ j. outward-at k p v (omega arith) (omega arith) j))
    where
      go : Dec (v ≡ k) → (v < k → mate_of (outward room m k p) v ≡ none_or room m v) → mate_of (set (outward room m k p) k (none_or room m k)) v ≡ none_or room m v
      go (yes e) f = ap (mate_of (set (outward room m k p) k (none_or room m k))) e ∙ get_or-set_same (outward room m k p) k (none_or room m k) none (omega (arith, outward-length k p)) ∙ ap (none_or room m) (sym e)
      go (no e) f = get_or-set_other (outward room m k p) k v (none_or room m k) none e ∙ f (omega arith)

  -- past the routes, what was there
  pub outward-past : (k : ℕ) (p : List ℕ) (v : ℕ) → k ≤ room → k ≤ v → mate_of (outward room m k p) v ≡ mate_of p v
  unfolding outward
  outward-past zero p v r h = refl
  outward-past (suc k) p v r h =
      subst (λ (l : List ℕ). mate_of l v ≡ mate_of p v) (sym (store_in room (outward room m k p) k (none_or room m k) r))
      (get_or-set_other (outward room m k p) k v (none_or room m k) none (omega arith) ∙ outward-past k p v (omega arith) (omega arith))

module _ (room n : ℕ) (m p : List ℕ) (fits : n ≤ room) (small : n ≤ none) (long : n ≤ length p) (m-long : length m ≡ room)
    (ins : (v : ℕ) → v < n → partner m v < n) (past : (v : ℕ) → n ≤ v → partner m v ≡ v) where
  -- a route: free, or with a partner
  out_cases : {C : Type 0} (v : ℕ) → v < n → (partner m v ≡ v → mate_of (outward room m n p) v ≡ none → C) → (partner m v ≢ v → mate_of (outward room m n p) v ≡ partner m v → C) → C
  unfolding none_or
  out_cases v i f g =
      let e : partner m v ≡ cell room m v = sym (cell-any room m v v (omega arith) m-long) in
      let o = outward-at room m n p v long fits i in
      cases (eqb (cell room m v) v)
      (λ t. f (e ∙ eqb-true (cell room m v) v t) (o ∙ rw t refl))
      (λ t. g (λ q. eqb-false (cell room m v) v t (sym e ∙ q)) (o ∙ rw t (sym e)))

  -- a route has a partner or none
  pub outward-tidy : (v : ℕ) → v < n → (mate_of (outward room m n p) v ≡ none) ⊎ (mate_of (outward room m n p) v < n)
  outward-tidy v i = out_cases v i (λ a b. inl b) (λ a b. inr (omega (arith, b, ins v i)))

  pub outward-twin : Twin n (mate_of (outward room m n p)) m
  outward-twin = record {
    on = λ v i h. out_cases v i (λ a b. absurd (omega (arith, b, h, small))) (λ a b. sym b);
    off = λ v i h. out_cases v i (λ a b. a) (λ a b. absurd (omega (arith, b, h, ins v i)));
    beyond = past;
    moves = λ v i h. out_cases v i (λ a b. absurd (omega (arith, b, h, small))) (λ a b q. a (sym b ∙ q));
  }
