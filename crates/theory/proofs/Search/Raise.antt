-- The walks up from the ends of a found edge: each is paired anew but for its start, so that with the edge every route on both is paired. The two are in
-- different trees, so no route is on both; their roots are the two routes that had no partner. Assumes nothing.
use mathlib.Core.Path.{◌≡◌, refl, sym, ap, ◌∙◌, subst}
use mathlib.Core.Logic.{◌≢◌, ◌⊎◌, inl, inr}
use mathlib.Core.List.{List, [], ◌∷◌, ◌++◌}
use Prim.Native.Nat.{ℕ, zero, suc, ◌+◌, ◌≤◌, ◌<◌}
use native.Mathlib.Nat.{not-suc-le-zero}
use native.Mathlib.Omega.{arith}
use lib.Dec.{eqb}
use lib.ListN.{length, set}
use borrow.Author.Tests.{eqb-true, eqb-false}
use Rattle.graphs.specs.Graph.{Graph, Simple}
use Rattle.theory.specs.Search.Tables.{groups, cell, Tables}
use Rattle.theory.specs.Search.Expose.{pair_up, expose, raise, augmented}
use Rattle.graphs.proofs.Sets.{is, sum, sum-append, total}
use Rattle.trees.proofs.Ring.Pairs.{occ-append, Edges, edges-append}
use Rattle.trees.proofs.Ring.Exposed.{Exposed, exposed-none, set_all, set_all-append}
use Rattle.trees.proofs.Forest.Inside.{Pairing, Augmenting, Applied, better, better-keeps, better-count}
use Rattle.trees.proofs.Forest.Applied.{partner, Within, applied-within}
use Rattle.trees.proofs.Forest.Shape.{holds, outer-in, inner-in, mt-group}
use Rattle.trees.proofs.Forest.Walk.{Leg, done, Rooted, all, all-sum, found-by, leg-snoc, leg-end}
use Rattle.theory.proofs.Search.Cells.{by-test}
use Rattle.theory.proofs.Search.Ready.{Adj, swap, bounded, loopless, Ready, forest, mate-is, top_in}
use Rattle.theory.proofs.Search.Line.{label_of, tail-le}
use Rattle.theory.proofs.Search.Look.{Struck}
use Rattle.theory.proofs.Search.Expose.{pair-length, pair_is, expose-length, expose-exposed}

-- ---- lengths

raise-length : (room : ℕ) (s : Tables) (f p : ℕ) (m : List ℕ) → length (raise room s f p m) ≡ length m
unfolding raise
raise-length room s zero p m = refl
raise-length room s (suc f) p m =
    let g = cell room s.top p in
    let b = cell (groups room) s.base g in
    let e : length (expose room s.rings s.half s.ids g p m) ≡ length m = expose-length room s.rings s.half s.ids g p m in
    by-test (λ (l : List ℕ). length l ≡ length m) (eqb (cell room s.mate b) b) _ _ (λ t. e) (λ t. raise-length room s f _ _ ∙ pair-length room _ _ _ ∙ e)

pub augmented-length : (room : ℕ) (s : Tables) → length (augmented room s) ≡ length s.mate
unfolding augmented
augmented-length room s = raise-length room s (groups room) s.two _ ∙ raise-length room s (groups room) s.one _ ∙ pair-length room s.mate s.one s.two

-- ---- pairs after pairs

module _ (Adj : ℕ → ℕ → Type 0) where
  -- what was to stay exposed at p is p's group, exposed at p
  exposed-chain : {v p : ℕ} {T U : ℕ → ℕ} (W : ℕ → ℕ) (M M₀ M₁ : List ℕ) → Exposed Adj v T M M₀ → Exposed Adj p U M₀ M₁
      → ((y : ℕ) → W y + is p y ≡ T y + U y) → Exposed Adj v W M M₁
  exposed-chain W M M₀ M₁ a b h = record {
    pairs = a.pairs ++ b.pairs;
    edges = edges-append Adj a.pairs b.pairs a.edges b.edges;
    each = λ y. omega (arith, h y, occ-append a.pairs b.pairs y, a.each y, b.each y);
    made = b.made ∙ ap (set_all b.pairs) a.made ∙ sym (set_all-append a.pairs b.pairs M);
  }

  -- one pair more
  exposed-pair : {v : ℕ} {T : ℕ → ℕ} (W : ℕ → ℕ) (i q : ℕ) (M M₀ : List ℕ) → Exposed Adj v T M M₀ → Adj i q
      → ((y : ℕ) → W y ≡ T y + (is i y + is q y)) → Exposed Adj v W M (set (set M₀ i q) q i)
  exposed-pair W i q M M₀ a e h = record {
    pairs = a.pairs ++ ((i, q) ∷ []);
    edges = edges-append Adj a.pairs ((i, q) ∷ []) a.edges (e, tt);
    each = λ y. omega (arith, h y, occ-append a.pairs ((i, q) ∷ []) y, a.each y);
    made = ap (λ (N : List ℕ). set (set N i q) q i) a.made ∙ sym (set_all-append a.pairs ((i, q) ∷ []) M);
  }

-- mate' pairs every route that mate pairs, and two more
pub record Better (Adj : ℕ → ℕ → Type 0) (n : ℕ) (mate mate' : List ℕ) : Type 0 where
  pub pairing : Pairing Adj (partner mate')
  pub keeps : (y : ℕ) → partner mate y ≢ y → partner mate' y ≢ y
  pub count : total (λ y. is y (partner mate y)) n ≡ total (λ y. is y (partner mate' y)) n + 2

module _ {g : Graph} {room : ℕ} {s : Tables} (S : Simple g) (R : Ready g room s) where
  abbrev n : ℕ
  n = g.order

  abbrev t : ℕ → ℕ
  t = cell room s.top

  abbrev base : ℕ → ℕ
  base = cell (groups room) s.base

  abbrev par : ℕ → ℕ
  par = cell room s.parent

  abbrev m : ℕ → ℕ
  m = partner s.mate

  abbrev lab : ℕ → ℕ
  lab = label_of s.line.label

  abbrev Set : ℕ → ℕ → ℕ
  Set = R.state.stored.S

  -- ---- a walk

  -- the whole walk from v has been paired anew but for v
  record Walked (v : ℕ) (M M' : List ℕ) : Type 0 where
    way : Rooted (forest R) v
    exposed : Exposed (Adj g) v (λ y. all (forest R) way (t y)) M M'

  -- the walk from v up to p, p's group not yet
  record Part (v p : ℕ) (M M' : List ℕ) : Type 0 where
    list : List ℕ
    leg : Leg m t base par lab v list p
    so_far : Exposed (Adj g) v (λ y. sum Set list y + is p y) M M'

  part-start : (v : ℕ) (M : List ℕ) → lab v ≡ 2 → Part v v M M
  part-start v M o = record { list = []; leg = done o; so_far = exposed-none (Adj g) v (λ y. 0 + is v y) M (λ y. omega arith) }

  module _ {v p : ℕ} {M M₀ M₁ : List ℕ} (c : Part v p M M₀) (e : Exposed (Adj g) p (Set (t p)) M₀ M₁) where
    p-outer : lab p ≡ 2
    p-outer = leg-end (forest R) c.leg

    b-in : base (t p) < n
    b-in = (forest R).home-range p (outer-in (forest R) p-outer)

    i-is : m (base (t p)) ≡ cell room s.mate (base (t p))
    i-is = mate-is R _ b-in

    part_end : cell room s.mate (base (t p)) ≡ base (t p) → Walked v M M₁
    part_end f =
        let r : Rooted (forest R) v = record { list = c.list; top = p; leg = c.leg; free = i-is ∙ f } in
        record { way = r; exposed = exposed-chain (Adj g) _ M M₀ M₁ c.so_far e (λ y. omega (arith, all-sum (forest R) r y)) }

    -- a base that is not its own partner has an inner partner
    inner_up : cell room s.mate (base (t p)) ≢ base (t p) → lab (m (base (t p))) ≡ 1
    inner_up ne = go ((forest R).up p p-outer)
      where
        go : (m (base (t p)) ≡ base (t p)) ⊎ (lab (m (base (t p))) ≡ 1) → lab (m (base (t p))) ≡ 1
        go (inl f) = absurd (ne (sym i-is ∙ f))
        go (inr l) = l

    abbrev More : ℕ → Type 0
    More i = Part v (par i) M (set (set M₁ i (par i)) (par i) i)

    part-more : cell room s.mate (base (t p)) ≢ base (t p) → More (cell room s.mate (base (t p)))
    part-more ne =
        let i = m (base (t p)) in
        let l = inner_up ne in
        subst More i-is (record {
          list = c.list ++ (t p ∷ i ∷ []);
          leg = leg-snoc (forest R) c.leg l;
          so_far = exposed-pair (Adj g) _ i (par i) M M₁
              (exposed-chain (Adj g) (λ y. sum Set c.list y + Set (t p) y) M M₀ M₁ c.so_far e (λ y. omega arith)) ((forest R).inner i l).edge
              (λ y. omega (arith, sum-append Set c.list (t p ∷ i ∷ []) y, (forest R).leaf i (inner-in (forest R) l) y));
        })

    -- the next group is less deep
    less : cell room s.mate (base (t p)) ≢ base (t p) → cell (groups room) s.rank (t (par (cell room s.mate (base (t p))))) < cell (groups room) s.rank (t p)
    less ne = subst (λ (i : ℕ). cell (groups room) s.rank (t (par i)) < cell (groups room) s.rank (t p)) i-is
        (let j = (forest R).inner _ (inner_up ne) in omega (arith, j.above, j.below, ap (cell (groups room) s.rank) (mt-group (forest R) p-outer)))

  raise-walked : {v : ℕ} {M : List ℕ} (f p : ℕ) (N : List ℕ) → Part v p M N → length N ≡ room → cell (groups room) s.rank (t p) < f → Walked v M (raise room s f p N)
  unfolding raise
  raise-walked zero p N c len h = absurd (not-suc-le-zero h)
  raise-walked {v} {M} (suc f) p N c len h =
      let o = leg-end (forest R) c.leg in
      let u = (forest R).used p (outer-in (forest R) o) in
      let E : List ℕ = expose room s.rings s.half s.ids (t p) p N in
      let e : Exposed (Adj g) p (Set (t p)) N E = expose-exposed room s.rings s.half R.state.stored s.ids (t p) p N u u len (holds (forest R) o) in
      let elen : length E ≡ room = expose-length room s.rings s.half s.ids (t p) p N ∙ len in
      let i = cell room s.mate (base (t p)) in
      by-test (Walked v M) (eqb i (base (t p))) _ _
      (λ q. part_end c e (eqb-true _ _ q))
      (λ q. raise-walked f (par i) _ (subst (Part v (par i) M) (sym (pair_is room E i (par i) elen)) (part-more c e (eqb-false _ _ q)))
      (pair-length room E i (par i) ∙ elen) (omega (arith, less c e (eqb-false _ _ q))))

  -- no group is as deep as there is room for groups
  raise-whole : (v : ℕ) (M : List ℕ) → lab v ≡ 2 → length M ≡ room → Walked v M (raise room s (groups room) v M)
  raise-whole v M o len = raise-walked (groups room) v M (part-start v M o) len
      (omega (arith, R.ranks (t v) (top_in R v (outer-in (forest R) o)), (R.line.listed v o).1, tail-le R.line, R.fits.routes))

  -- ---- both walks

  within : (k : ℕ) → n ≤ k → (ps : List (ℕ × ℕ)) → Edges (Adj g) ps → Within k ps
  within k h [] e = tt
  within k h (p ∷ ps) e = let b = bounded S p.0 p.1 e.0 in (omega (arith, b.0), omega (arith, b.1), within k h ps e.1)

  pub augmented-better : Struck g room s → Better (Adj g) n s.mate (augmented room s)
  unfolding augmented
  augmented-better K =
      let v = s.one in
      let w = s.two in
      let M : List ℕ = pair_up room s.mate v w in
      let N : List ℕ = raise room s (groups room) v M in
      let M-len : length M ≡ room = pair-length room s.mate v w ∙ R.sized.mate in
      let a = raise-whole v M K.one-outer M-len in
      let b = raise-whole w N K.two-outer (raise-length room s (groups room) v M ∙ M-len) in
      let ps : List (ℕ × ℕ) = (v, w) ∷ (a.exposed.pairs ++ b.exposed.pairs) in
      let es : Edges (Adj g) ps = (K.edge, edges-append (Adj g) a.exposed.pairs b.exposed.pairs a.exposed.edges b.exposed.edges) in
      let G : Augmenting (Adj g) n m ps = found-by (forest R) K.apart a.way b.way ps es
      (λ y. omega (arith, occ-append a.exposed.pairs b.exposed.pairs y, a.exposed.each y, b.exposed.each y)) in
      let made : raise room s (groups room) w N ≡ set_all ps s.mate =
      b.exposed.made ∙ ap (set_all b.exposed.pairs) (a.exposed.made ∙ ap (set_all a.exposed.pairs) (pair_is room s.mate v w R.sized.mate))
      ∙ sym (set_all-append a.exposed.pairs b.exposed.pairs (set (set s.mate v w) w v)) in
      let A : Applied ps m (partner (raise room s (groups room) w N)) =
      subst (λ (L : List ℕ). Applied ps m (partner L)) (sym made) (applied-within ps s.mate (within (length s.mate) (omega (arith, R.sized.mate, R.fits.routes)) ps es) G.once) in
      record {
        pairing = better (Adj g) (swap S) (loopless S) n m _ ps (forest R).pairing G A;
        keeps = better-keeps (Adj g) (swap S) (loopless S) n m _ ps (forest R).pairing G A;
        count = better-count (Adj g) (swap S) (loopless S) n m _ ps (forest R).pairing G A;
      }
