-- What exposing a group leaves: pairs stored in the table of partners, which are edges and name each route of the group once, but for the one that is exposed. Round
-- a ring they come by couples: the pair of the edge from one group to the next, and both groups exposed at its ends. Assumes nothing.
use mathlib.Core.Path.{◌≡◌, refl, sym, ap, ◌∙◌, subst}
use Prim.Native.Nat.{ℕ, suc, ◌+◌, ◌<◌}
use native.Mathlib.Omega.{arith}
use mathlib.Core.List.{List, [], ◌∷◌, ◌++◌}
use lib.ListN.{length, set}
use Rattle.graphs.proofs.Sets.{is, is-self, cnt, sum}
use Rattle.trees.proofs.Ring.Chain.{Chain}
use Rattle.trees.proofs.Ring.Pairs.{occ, occ-append, Edges, edges-append}
use Rattle.trees.proofs.Ring.Stored.{Step, Stored}

-- ---- pairs as stores

abbrev pub set_all : List (ℕ × ℕ) → List ℕ → List ℕ
set_all [] M = M
set_all (p ∷ ps) M = set_all ps (set (set M p.0 p.1) p.1 p.0)

pub set_all-append : (ps qs : List (ℕ × ℕ)) (M : List ℕ) → set_all (ps ++ qs) M ≡ set_all qs (set_all ps M)
set_all-append [] qs M = refl
set_all-append (p ∷ ps) qs M = set_all-append ps qs (set (set M p.0 p.1) p.1 p.0)

module _ (Adj : ℕ → ℕ → Type 0) where
  -- M' is M with pairs stored that are edges and name each route of T but x once
  pub record Exposed (x : ℕ) (T : ℕ → ℕ) (M M' : List ℕ) : Type 0 where
    pub pairs : List (ℕ × ℕ)
    pub edges : Edges Adj pairs
    pub each : (y : ℕ) → occ pairs y + is x y ≡ T y
    pub made : M' ≡ set_all pairs M

  -- .. and each route of T once
  pub record Covered (T : ℕ → ℕ) (M M' : List ℕ) : Type 0 where
    pub pairs : List (ℕ × ℕ)
    pub edges : Edges Adj pairs
    pub each : (y : ℕ) → occ pairs y ≡ T y
    pub made : M' ≡ set_all pairs M

  pub covered_none : (T : ℕ → ℕ) (M : List ℕ) → ((y : ℕ) → T y ≡ 0) → Covered T M M
  covered_none T M h = record { pairs = []; edges = tt; each = λ y. sym (h y); made = refl }

  pub exposed-none : (x : ℕ) (T : ℕ → ℕ) (M : List ℕ) → ((y : ℕ) → T y ≡ is x y) → Exposed x T M M
  exposed-none x T M h = record { pairs = []; edges = tt; each = λ y. omega (arith, h y); made = refl }

  -- one couple more: its pair stored, and the two groups of it exposed
  pub covered-couple : {T P Q : ℕ → ℕ} (U : ℕ → ℕ) (s t : ℕ) (M M₀ M₁ M₂ : List ℕ) → Covered T M M₀ → Adj s t → Exposed s P (set (set M₀ s t) t s) M₁ → Exposed t Q M₁ M₂
      → ((y : ℕ) → U y ≡ T y + (P y + Q y)) → Covered U M M₂
  covered-couple U s t M M₀ M₁ M₂ a e b c h = record {
    pairs = a.pairs ++ ((s, t) ∷ (b.pairs ++ c.pairs));
    edges = edges-append Adj a.pairs _ a.edges (e, edges-append Adj b.pairs c.pairs b.edges c.edges);
    each = λ y. omega (arith, h y, occ-append a.pairs ((s, t) ∷ (b.pairs ++ c.pairs)) y, occ-append b.pairs c.pairs y, a.each y, b.each y, c.each y);
    made = c.made ∙ ap (set_all c.pairs) (b.made ∙ ap (λ (N : List ℕ). set_all b.pairs (set (set N s t) t s)) a.made)
        ∙ sym (set_all-append a.pairs ((s, t) ∷ (b.pairs ++ c.pairs)) M ∙ set_all-append b.pairs c.pairs _);
  }

  -- one ring more
  pub exposed-more : {x : ℕ} {T P : ℕ → ℕ} (U : ℕ → ℕ) (M M₀ M₁ : List ℕ) → Exposed x T M M₀ → Covered P M₀ M₁ → ((y : ℕ) → U y ≡ T y + P y) → Exposed x U M M₁
  exposed-more U M M₀ M₁ a b h = record {
    pairs = a.pairs ++ b.pairs;
    edges = edges-append Adj a.pairs b.pairs a.edges b.edges;
    each = λ y. omega (arith, h y, occ-append a.pairs b.pairs y, a.each y, b.each y);
    made = b.made ∙ ap (set_all b.pairs) a.made ∙ sym (set_all-append a.pairs b.pairs M);
  }

-- ---- the way round a ring

module _ (Adj : ℕ → ℕ → Type 0) (n B : ℕ) (up nxt ex ey half : ℕ → ℕ) where
  abbrev Rings : Type 0
  Rings = Stored Adj n B up nxt ex ey half

  -- on the way round the ring of b from c: the routes of `done` are paired, and what is left of the ring goes from a on to c
  pub record Round (R : Rings) (b c a left : ℕ) (M M' : List ℕ) : Type 0 where
    pub done : ℕ → ℕ
    -- the group before a, and those from a on: each stores the next, and the last of them c
    pub prev : ℕ
    pub rest : List ℕ
    pub steps : Chain (Step Adj R.S nxt ex ey) prev rest c
    pub here : a ≡ nxt prev
    -- two for each couple that is left
    pub even : length rest ≡ left + left
    pub below : (d : ℕ) → 0 < cnt rest d → (d < b) × (up d ≡ b)
    -- the ring has c's routes, those that are paired, and theirs
    pub all : (y : ℕ) → R.S b y ≡ R.S c y + (done y + sum R.S rest y)
    pub so_far : Covered Adj done M M'

  pub round-start : (R : Rings) (c : ℕ) (M : List ℕ) → c < B → up c < B → Round R (up c) c (nxt c) (half (up c)) M M
  round-start R c M i j =
      let r = R.around c i j in
      record {
        done = λ y. 0;
        prev = c;
        rest = r.rest;
        steps = r.steps;
        here = refl;
        even = r.even;
        below = r.below;
        all = λ y. omega (arith, r.all y);
        so_far = covered_none Adj (λ y. 0) M (λ y. refl);
      }

  pub round-end : (R : Rings) (b c a x : ℕ) (M M₁ M' : List ℕ) → Round R b c a 0 M₁ M' → Exposed Adj x (R.S c) M M₁ → Exposed Adj x (R.S b) M M'
  round-end R b c a x M M₁ M' r o = go r.rest r.even r.all
    where
      go : (l : List ℕ) → length l ≡ 0 + 0 → ((y : ℕ) → R.S b y ≡ R.S c y + (r.done y + sum R.S l y)) → Exposed Adj x (R.S b) M M'
      go [] e h = exposed-more Adj (R.S b) M M₁ M' o r.so_far (λ y. omega (arith, h y))
      go (d ∷ l) e h = absurd (omega arith)

  -- the couple that is next: a, and what is next to it
  pub record Couple (R : Rings) (b c a left : ℕ) (M M' : List ℕ) : Type 0 where
    -- both have lower numbers than the ring
    pub first : a < b
    pub second : nxt a < b
    -- the edge between them
    pub out : R.S a (ex a) ≡ 1
    pub into : R.S (nxt a) (ey a) ≡ 1
    pub edge : Adj (ex a) (ey a)
    -- with that pair stored and both exposed, a couple less is left
    pub then : (M₁ M₂ : List ℕ) → Exposed Adj (ex a) (R.S a) (set (set M' (ex a) (ey a)) (ey a) (ex a)) M₁ → Exposed Adj (ey a) (R.S (nxt a)) M₁ M₂
        → Round R b c (nxt (nxt a)) left M M₂

  pub round-couple : (R : Rings) (b c a left : ℕ) (M M' : List ℕ) → Round R b c a (suc left) M M' → Couple R b c a left M M'
  round-couple R b c a left M M' r = go r.rest r.steps r.even r.below r.all
    where
      at : (d e : ℕ) (l : List ℕ) → d ≡ a → Step Adj R.S nxt ex ey d e → Chain (Step Adj R.S nxt ex ey) e l c → length l ≡ left + left
          → d < b → e < b → ((d : ℕ) → 0 < cnt l d → (d < b) × (up d ≡ b)) → ((y : ℕ) → R.S b y ≡ R.S c y + (r.done y + (R.S d y + (R.S e y + sum R.S l y)))) → Couple R b c a left M M'
      at d e l i st sts len db eb bl h =
          let st' : Step Adj R.S nxt ex ey a e = subst (λ (z : ℕ). Step Adj R.S nxt ex ey z e) i st in
          let en = st'.next in
          record {
            first = omega arith;
            second = omega arith;
            out = st'.out;
            into = subst (λ (z : ℕ). R.S z (ey a) ≡ 1) (sym en) st'.into;
            edge = st'.edge;
            then = λ M₁ M₂ p q. record {
              done = λ y. r.done y + (R.S a y + R.S (nxt a) y);
              prev = nxt a;
              rest = l;
              steps = subst (λ (z : ℕ). Chain (Step Adj R.S nxt ex ey) z l c) (sym en) sts;
              here = refl;
              even = len;
              below = bl;
              all = λ y. omega (arith, h y, ap (λ (z : ℕ). R.S z y) i, ap (λ (z : ℕ). R.S z y) en);
              so_far = covered-couple Adj (λ y. r.done y + (R.S a y + R.S (nxt a) y)) (ex a) (ey a) M M' M₁ M₂ r.so_far st'.edge p q (λ y. refl);
            };
          }

      go : (l : List ℕ) → Chain (Step Adj R.S nxt ex ey) r.prev l c → length l ≡ suc left + suc left → ((d : ℕ) → 0 < cnt l d → (d < b) × (up d ≡ b))
          → ((y : ℕ) → R.S b y ≡ R.S c y + (r.done y + sum R.S l y)) → Couple R b c a left M M'
      go [] st e bl h = absurd (omega arith)
      go (d ∷ []) st e bl h = absurd (omega arith)
      go (d ∷ e' ∷ l) st e bl h = at d e' l (sym st.0.next ∙ sym r.here) st.1.0 st.1.1 (omega arith) (bl d (omega (arith, is-self d))).0 (bl e' (omega (arith, is-self e'))).0 (λ z o. bl z (omega arith)) (λ y. omega (arith, h y))
