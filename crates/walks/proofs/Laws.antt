-- The steps of the two walks of a ring, over plain variables: what the calls of a function have done is what the definition says. Assumes nothing.
use Prim.Native.Nat.{ℕ}
use mathlib.Core.Path.{◌≡◌, refl, sym, ap, ◌∙◌}
use mathlib.Core.List.{List}
use Rattle.limits.specs.Limits.{routes}
use Rattle.theory.specs.Search.Tables.{groups, cell, store, one_more, Tables}
use Rattle.theory.specs.Search.Rings.{Way, bridge, left, right}
use Rattle.tables.specs.declared.Trees.{Trees}
use Rattle.tables.specs.declared.Rings.{Rings}
use Rattle.tables.specs.declared.Desk.{Desk}
use Rattle.tables.specs.Shapes.{tables_of}
use Rattle.walks.specs.declared.Ends.{Ends}
use Rattle.walks.specs.Ways.{way_of}

-- the size of a table of groups
abbrev G : ℕ
G = groups routes

-- ---- what is shown of one desk with these trees holds of each

abbrev pub with_trees : Desk → Trees → Desk
with_trees d t = record { trees = t; line = d.line; rings = d.rings; found = d.found }

pub whatever : (f : Tables → Way) (w : Way) (d : Desk) (t : Trees) → d.trees ≡ t → w ≡ f (tables_of (with_trees d t)) → w ≡ f (tables_of d)
whatever f w d t e h = h ∙ ap (λ (s : Trees). f (tables_of (with_trees d s))) (sym e)

abbrev pub with_both : Desk → Trees → Rings → Desk
with_both d t r = record { trees = t; line = d.line; rings = r; found = d.found }

pub whatever-else : (f : Tables → Way) (w : Way) (d : Desk) (t : Trees) (r : Rings) → d.trees ≡ t → d.rings ≡ r → w ≡ f (tables_of (with_both d t r)) → w ≡ f (tables_of d)
whatever-else f w d t r et er h = whatever f w d t et (h ∙ ap (λ (q : Rings). f (tables_of (with_both d t q))) (sym er))

-- what stands in the rings after a step
abbrev pub stored : List ℕ → List ℕ → List ℕ → List ℕ → Rings
stored up next out into = record { up = up; next = next; out = out; into = into }

-- ---- before the first step

pub bridged : (d : Desk) (t : Trees) (r : Rings) → d.trees ≡ t → d.rings ≡ r → (v w g h : ℕ) (next out into : List ℕ) → g ≡ cell routes t.top w → h ≡ cell routes t.top v
    → next ≡ store G r.next g h → out ≡ store G r.out g w → into ≡ store G r.into g v
    → way_of (record { x = v; y = w; k = 0 }) (stored r.up next out into) ≡ bridge routes (tables_of d) v w
unfolding bridge
bridged d t r et er v w g h next out into e₁ e₂ e₃ e₄ e₅ = whatever-else (λ (s : Tables). bridge routes s v w) _ d t r et er (rw (e₃, e₄, e₅, e₂, e₁) refl)

-- ---- a step

module _ (d : Desk) (t : Trees) (et : d.trees ≡ t) (r : Rings) (z : Ends) (up next out into : List ℕ) (g b i p h k : ℕ) where
  pub went-left : g ≡ cell routes t.top z.x → b ≡ cell G t.base g → i ≡ cell routes t.mate b → p ≡ cell routes t.parent i → h ≡ cell routes t.top p
      → up ≡ store G (store G r.up g t.ids) i t.ids → next ≡ store G (store G r.next g i) i h → out ≡ store G (store G r.out g b) i i → into ≡ store G (store G r.into g i) i p
      → k ≡ one_more routes z.k → way_of (record { x = p; y = z.y; k = k }) (stored up next out into) ≡ left routes (tables_of d) (way_of z r)
  unfolding left
  went-left e₁ e₂ e₃ e₄ e₅ e₆ e₇ e₈ e₉ e₁₀ = whatever (λ (s : Tables). left routes s (way_of z r)) _ d t et (rw (e₆, e₇, e₈, e₉, e₁₀, e₅, e₄, e₃, e₂, e₁) refl)

  pub went-right : g ≡ cell routes t.top z.y → b ≡ cell G t.base g → i ≡ cell routes t.mate b → p ≡ cell routes t.parent i → h ≡ cell routes t.top p
      → up ≡ store G (store G r.up g t.ids) i t.ids → next ≡ store G (store G r.next i g) h i → out ≡ store G (store G r.out i i) h p → into ≡ store G (store G r.into i b) h i
      → k ≡ one_more routes z.k → way_of (record { x = z.x; y = p; k = k }) (stored up next out into) ≡ right routes (tables_of d) (way_of z r)
  unfolding right
  went-right e₁ e₂ e₃ e₄ e₅ e₆ e₇ e₈ e₉ e₁₀ = whatever (λ (s : Tables). right routes s (way_of z r)) _ d t et (rw (e₆, e₇, e₈, e₉, e₁₀, e₅, e₄, e₃, e₂, e₁) refl)
