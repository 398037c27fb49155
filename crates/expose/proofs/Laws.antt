-- The pairs of a group and of a walk, over plain variables: what is left to do, from where a loop is. Assumes nothing.
use Prim.Native.Nat.{ℕ, ◌+◌, ◌-◌, ◌≤◌, ◌<◌}
use mathlib.Core.Path.{◌≡◌, refl, sym, ap, ◌∙◌}
use mathlib.Core.List.{List}
use Rattle.std.specs.Prelude.{zero, suc}
use native.Mathlib.Omega.{arith}
use Rattle.limits.specs.Limits.{routes}
use Rattle.theory.specs.Search.Tables.{groups, cell, store, Rings, Tables}
use Rattle.theory.specs.Search.Expose.{pair_up, couples, lift, expose, raise, augmented}
use Rattle.theory.proofs.Search.Steps.{expose-spent, expose-again, couples-none, couples-again, lift-none, lift-there, lift-again, raise-spent, raise-end, raise-again}
use Rattle.tables.specs.declared.Edge.{Edge}
use Rattle.tables.specs.declared.Desk.{Desk}
use Rattle.tables.specs.Shapes.{tables_of}
use Rattle.expose.specs.Found.{with_edge}

-- the size of a table of groups
abbrev G : ℕ
G = groups routes

pub paired : (m m₁ m₂ : List ℕ) (a b : ℕ) → m₁ ≡ store routes m a b → m₂ ≡ store routes m₁ b a → m₂ ≡ pair_up routes m a b
unfolding pair_up
paired m m₁ m₂ a b p q = q ∙ rw p refl

-- ---- a group

module _ (e : ℕ → ℕ → List ℕ → List ℕ) (r : Rings) (j k a : ℕ) (m w : List ℕ) (inv : w ≡ couples routes e r (j - k) a m) where
  pub couples-out : j ≤ k → m ≡ w
  couples-out h = let z : j - k ≡ 0 = omega arith in sym (inv ∙ ap (λ (i : ℕ). couples routes e r i a m) z ∙ couples-none routes e r a m)

  pub couples-on : k < j → (d x y : ℕ) (m₀ m₁ m₂ : List ℕ) (a' : ℕ) → d ≡ cell G r.next a → x ≡ cell G r.out a → y ≡ cell G r.into a
      → m₀ ≡ pair_up routes m x y → m₁ ≡ e a x m₀ → m₂ ≡ e d y m₁ → a' ≡ cell G r.next d → w ≡ couples routes e r (j - (k + 1)) a' m₂
  couples-on h d x y m₀ m₁ m₂ a' ed ex ey p q t ea =
      let z : j - k ≡ j - (k + 1) + 1 = omega arith in
      inv ∙ ap (λ (i : ℕ). couples routes e r i a m) z ∙ couples-again routes e r (j - (k + 1)) a d x y m m₁ m₂ ed ex ey (q ∙ ap (e a x) p) t ∙ ap (λ (i : ℕ). couples routes e r (j - (k + 1)) i m₂) (sym ea)

pub lift-on : (e : ℕ → ℕ → List ℕ → List ℕ) (r : Rings) (half : List ℕ) (j k c g : ℕ) (m w : List ℕ) → w ≡ lift routes e r half (j - k) c g m → k < j → (c ≡ g → ⊥)
    → (b n d : ℕ) (m₁ : List ℕ) → b ≡ cell G r.up c → n ≡ cell G half b → d ≡ cell G r.next c → m₁ ≡ couples routes e r n d m
    → w ≡ lift routes e r half (j - (k + 1)) b g m₁
lift-on e r half j k c g m w inv h ne b n d m₁ eb en ed em =
    let z : j - k ≡ j - (k + 1) + 1 = omega arith in
    inv ∙ ap (λ (i : ℕ). lift routes e r half i c g m) z ∙ lift-again routes e r half (j - (k + 1)) c g b m m₁ ne eb (em ∙ rw (en, ed) refl)

module _ (r : Rings) (half : List ℕ) (f g x : ℕ) (m₀ : List ℕ) where
  pub exposed-none : f ≡ 0 → m₀ ≡ expose routes r half f g x m₀
  exposed-none h = sym (expose-spent routes r half f g x m₀ h)

  -- the groups within are exposed with one less
  abbrev pub E : ℕ → ℕ → List ℕ → List ℕ
  E = expose routes r half (f - 1)

  module _ (more : f ≡ 0 → ⊥) (k c : ℕ) (m : List ℕ) (inv : lift routes E r half (f - 1) x g m₀ ≡ lift routes E r half (f - 1 - k) c g m) where
    whole : expose routes r half f g x m₀ ≡ lift routes E r half (f - 1 - k) c g m
    whole = expose-again routes r half f (f - 1) g x m₀ (omega arith) ∙ inv

    pub exposed-there : c ≡ g → m ≡ expose routes r half f g x m₀
    exposed-there h = sym (whole ∙ lift-there routes E r half (f - 1 - k) c g m h)

    pub exposed-out : f - 1 ≤ k → m ≡ expose routes r half f g x m₀
    exposed-out h = let z : f - 1 - k ≡ 0 = omega arith in sym (whole ∙ ap (λ (i : ℕ). lift routes E r half i c g m) z ∙ lift-none routes E r half c g m)

-- ---- a walk

module _ (s : Tables) (f k p : ℕ) (m w : List ℕ) (inv : w ≡ raise routes s (f - k) p m) where
  pub raised-out : f ≤ k → m ≡ w
  raised-out h = let z : f - k ≡ 0 = omega arith in sym (inv ∙ raise-spent routes s (f - k) p m z)

  module _ (h : k < f) (g b i : ℕ) (m₁ : List ℕ) (eg : g ≡ cell routes s.top p) (eb : b ≡ cell G s.base g) (ei : i ≡ cell routes s.mate b)
      (em : m₁ ≡ expose routes s.rings s.half s.ids g p m) where
    -- the steps that are left behind this one
    abbrev f₁ : ℕ
    f₁ = f - (k + 1)

    step : raise routes s (f - k) p m ≡ raise routes s (f₁ + 1) p m
    step = let z : f - k ≡ f₁ + 1 = omega arith in ap (λ (j : ℕ). raise routes s j p m) z

    pub raised-root : i ≡ b → m₁ ≡ w
    raised-root e = sym (inv ∙ step ∙ raise-end routes s f₁ p g b i m m₁ eg eb ei em e)

    pub raised-on : (i ≡ b → ⊥) → (q : ℕ) (m₂ : List ℕ) → q ≡ cell routes s.parent i → m₂ ≡ pair_up routes m₁ i q → w ≡ raise routes s f₁ q m₂
    raised-on ne q m₂ eq ep = inv ∙ step ∙ raise-again routes s f₁ p g b i m m₁ eg eb ei em q eq ne ∙ ap (raise routes s f₁ q) (sym ep)

-- ---- both walks

-- a walk does not read the edge
raise-same : (d : Desk) (e : Edge) (f p : ℕ) (m : List ℕ) → raise routes (tables_of d) f p m ≡ raise routes (tables_of (with_edge d e)) f p m
unfolding raise
raise-same d e zero p m = refl
raise-same d e (suc f) p m = simp (raise-same d e f)

pub augments : (d : Desk) (e : Edge) (m₀ m₁ m₂ : List ℕ) → m₀ ≡ pair_up routes d.trees.mate e.one e.two → m₁ ≡ raise routes (tables_of d) G e.one m₀ → m₂ ≡ raise routes (tables_of d) G e.two m₁
    → m₂ ≡ augmented routes (tables_of (with_edge d e))
unfolding augmented
augments d e m₀ m₁ m₂ p q r = r ∙ raise-same d e G e.two m₁ ∙ rw (q, raise-same d e G e.one m₀, p) refl
