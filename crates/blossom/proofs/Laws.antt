-- The ring as a group, over plain variables: what the calls of a function have done is what the definition says. Assumes nothing.
use Prim.Native.Nat.{ℕ, ◌+◌, ◌-◌, ◌≤◌, ◌<◌}
use mathlib.Core.Path.{◌≡◌, refl, sym, ap, ◌∙◌}
use mathlib.Core.List.{List}
use native.Mathlib.Omega.{arith}
use native.Mathlib.Numerals.{add-one}
use borrow.Author.Tests.{eq-eqb, ne_eqb}
use Rattle.limits.specs.Limits.{routes}
use Rattle.theory.specs.Search.Tables as search
use Rattle.theory.specs.Search.Tables.{groups, cell, store, one_more, inner}
use Rattle.theory.specs.Search.Start.{enter}
use Rattle.theory.specs.Search.Rings.{admit, around, regroup, shift, absorb}
use Rattle.theory.proofs.Search.Steps.{around-none, around-again, shift-again}
use Rattle.tables.specs.declared.Line.{Line}
use Rattle.tables.specs.declared.Rings.{Rings}
use Rattle.tables.specs.declared.Desk.{Desk}
use Rattle.tables.specs.Shapes.{line_of, tables_of}
use Rattle.walks.specs.declared.Ends.{Ends}
use Rattle.walks.specs.Ways.{way_of}

-- the size of a table of groups
abbrev G : ℕ
G = groups routes

-- ---- labels and queue

module _ (l : search.Line) (a x : ℕ) (e : x ≡ cell routes l.label a) where
  pub admitted : x ≡ inner → (st : search.Line) → st ≡ enter routes l a → st ≡ admit routes l a
  unfolding admit
  admitted h st p = p ∙ rw (← e, eq-eqb x inner h) refl

  pub passed : (x ≡ inner → ⊥) → l ≡ admit routes l a
  unfolding admit
  passed h = rw (← e, ne_eqb x inner h) refl

-- one group more: what is left to do is what was to do
pub around-on : (next : List ℕ) (j a : ℕ) (l l' w : search.Line) (j' a' : ℕ) → 0 < j → w ≡ around routes next j a l → l' ≡ admit routes l a → a' ≡ cell G next a → j' ≡ j - 1
    → w ≡ around routes next j' a' l'
around-on next j a l l' w j' a' h p q r s =
    let e : j ≡ j' + 1 = omega arith in
    p ∙ ap (λ (k : ℕ). around routes next k a l) e ∙ around-again routes next j' a l ∙ rw (← q, ← r) refl

pub around-out : (next : List ℕ) (j a : ℕ) (l w : search.Line) → j ≤ 0 → w ≡ around routes next j a l → l ≡ w
around-out next j a l w h p =
    let e : j ≡ 0 = omega arith in
    sym (p ∙ ap (λ (k : ℕ). around routes next k a l) e ∙ around-none routes next a l)

-- ---- the groups of the routes

module _ (up top : List ℕ) (b k g u : ℕ) (eg : g ≡ cell routes top k) (eu : u ≡ cell G up g) where
  pub moved : u ≡ b → (top' : List ℕ) → top' ≡ store routes top k b → top' ≡ regroup routes up b top k
  unfolding regroup
  moved h top' e = e ∙ rw (← eg, ← eu, eq-eqb u b h) refl

  pub stayed : (u ≡ b → ⊥) → top ≡ regroup routes up b top k
  unfolding regroup
  stayed h = rw (← eg, ← eu, ne_eqb u b h) refl

pub shifts-on : (up : List ℕ) (b k : ℕ) (top st st' : List ℕ) → st ≡ shift routes up b k top → st' ≡ regroup routes up b st k → st' ≡ shift routes up b (k + 1) top
shifts-on up b k top st st' e p = p ∙ shift-again routes up b top k st e

pub shifts-out : (up : List ℕ) (b k n : ℕ) (top st : List ℕ) → k ≤ n → st ≡ shift routes up b k top → n ≤ k → st ≡ shift routes up b n top
shifts-out up b k n top st i h l = let e : k ≡ n = omega arith in rw e at h

-- ---- the group

-- the desk as the calls have left it
abbrev pub left_so : Desk → List ℕ → List ℕ → List ℕ → List ℕ → List ℕ → ℕ → Line → List ℕ → Desk
left_so d top root base rank half ids l up = record {
  trees = record { order = d.trees.order; mate = d.trees.mate; parent = d.trees.parent; top = top; root = root; base = base; rank = rank; half = half; ids = ids };
  line = l;
  rings = record { up = up; next = d.rings.next; out = d.rings.out; into = d.rings.into };
  found = d.found;
}

pub absorbed : (d : Desk) (v : ℕ) (z : Ends) (c g m : ℕ) (top root base rank half : List ℕ) (ids : ℕ) (l : Line) (up : List ℕ)
    → c ≡ cell routes d.trees.top z.x → g ≡ cell routes d.trees.top v → up ≡ store G d.rings.up c d.trees.ids → top ≡ shift routes up d.trees.ids d.trees.order d.trees.top
    → root ≡ store G d.trees.root d.trees.ids (cell G d.trees.root c) → base ≡ store G d.trees.base d.trees.ids (cell G d.trees.base c) → rank ≡ store G d.trees.rank d.trees.ids (cell G d.trees.rank c)
    → half ≡ store G d.trees.half d.trees.ids z.k → m ≡ z.k → line_of l ≡ around routes d.rings.next (m + m + 1) g (line_of d.line) → ids ≡ one_more routes d.trees.ids
    → (q : Rings) → tables_of (left_so d top root base rank half ids l up) ≡ absorb routes (tables_of (record { trees = d.trees; line = d.line; rings = q; found = d.found })) v (way_of z d.rings)
unfolding absorb
absorbed d v z c g m top root base rank half ids l up e₁ e₂ e₃ e₄ e₅ e₆ e₇ e₈ em e₉ e₁₀ q =
    ap (λ (x : search.Line). record { order = d.trees.order; mate = d.trees.mate; parent = d.trees.parent; top = top; root = root; base = base; rank = rank; half = half; line = x; rings = record { up = up; next = d.rings.next; out = d.rings.out; into = d.rings.into }; ids = ids; hit = (tables_of d).hit; one = (tables_of d).one; two = (tables_of d).two }) e₉
    ∙ rw (e₄, e₃, e₅, e₆, e₇, e₈, e₁₀, em, add-one (z.k + z.k), e₁, e₂) refl
