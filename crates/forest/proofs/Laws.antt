-- The steps of the start and of growing, over plain variables: what the calls of a function have done is what the definition says. Assumes nothing.
use Prim.Native.Nat.{ℕ, ◌+◌, ◌≤◌}
use mathlib.Core.Path.{◌≡◌, refl, ap, ◌∙◌}
use mathlib.Core.List.{List}
use native.Mathlib.Omega.{arith}
use borrow.Author.Tests.{eq-eqb, ne_eqb}
use Rattle.std.specs.Option.{is_some}
use Rattle.limits.specs.Limits.{routes}
use Rattle.theory.specs.Search.Tables.{groups, cell, store, one_more, inner, outer, Line, Tables}
use Rattle.theory.specs.Search.Start.{enter, plant, seed, fill}
use Rattle.theory.specs.Search.Grow.{grow}
use Rattle.theory.proofs.Search.Steps.{seed-again, fill-again}
use Rattle.tables.specs.declared.Desk.{Desk}
use Rattle.tables.specs.Shapes.{rings_of, one_of, two_of, tables_of}

-- the size of a table of groups
abbrev G : ℕ
G = groups routes

abbrev pub line : List ℕ → List ℕ → ℕ → Line
line l q t = record { label = l; queue = q; tail = t }

pub entered : (l l' q q' : List ℕ) (t t' v : ℕ) → l' ≡ store routes l v outer → q' ≡ store routes q t v → t' ≡ one_more routes t → line l' q' t' ≡ enter routes (line l q t) v
unfolding enter
entered l l' q q' t t' v a b c = rw (a, b, c) refl

module _ (mate : List ℕ) (l : Line) (v x : ℕ) (e : x ≡ cell routes mate v) where
  pub planted : x ≡ v → (st : Line) → st ≡ enter routes l v → st ≡ plant routes mate l v
  unfolding plant
  planted h st p = p ∙ rw (← e, eq-eqb x v h) refl

  pub passed : (x ≡ v → ⊥) → l ≡ plant routes mate l v
  unfolding plant
  passed h = rw (← e, ne_eqb x v h) refl

pub seeds-on : (mate : List ℕ) (l st st' : Line) (k : ℕ) → st ≡ seed routes mate k l → st' ≡ plant routes mate st k → st' ≡ seed routes mate (k + 1) l
seeds-on mate l st st' k e p = p ∙ seed-again routes mate l k st e

pub seeds-out : (mate : List ℕ) (l st : Line) (k n : ℕ) → st ≡ seed routes mate k l → k ≤ n → n ≤ k → st ≡ seed routes mate n l
seeds-out mate l st k n e a b = let q : k ≡ n = omega arith in rw q at e

pub fills-on : (size : ℕ) (l st st' : List ℕ) (k : ℕ) → st ≡ fill size k l → st' ≡ store size st k k → st' ≡ fill size (k + 1) l
fills-on size l st st' k e p = p ∙ fill-again size l k st e

pub fills-out : (size : ℕ) (l st : List ℕ) (k n : ℕ) → st ≡ fill size k l → k ≤ n → n ≤ k → st ≡ fill size n l
fills-out size l st k n e a b = let q : k ≡ n = omega arith in rw q at e

-- the tables of a desk, with these in their places
abbrev pub with_grown : Desk → List ℕ → List ℕ → List ℕ → Line → Tables
with_grown d parent root rank l = record {
  order = d.trees.order;
  mate = d.trees.mate;
  parent = parent;
  top = d.trees.top;
  root = root;
  base = d.trees.base;
  rank = rank;
  half = d.trees.half;
  line = l;
  rings = rings_of d.rings;
  ids = d.trees.ids;
  hit = is_some d.found;
  one = one_of d.found;
  two = two_of d.found;
}

pub grown : (d : Desk) (v w u g r k₀ j k : ℕ) (parent root rank label : List ℕ) (l : Line)
    → u ≡ cell routes d.trees.mate w → g ≡ cell routes d.trees.top v → r ≡ cell G d.trees.root g → k₀ ≡ cell G d.trees.rank g → j ≡ one_more routes k₀ → k ≡ one_more routes j
    → parent ≡ store routes d.trees.parent w v → root ≡ store G (store G d.trees.root w r) u r → rank ≡ store G (store G d.trees.rank w j) u k → label ≡ store routes d.line.label w inner
    → l ≡ enter routes (line label d.line.queue d.line.tail) u → with_grown d parent root rank l ≡ grow routes (tables_of d) v w
unfolding grow
grown d v w u g r k₀ j k parent root rank label l e₁ e₂ e₃ e₄ e₅ e₆ e₇ e₈ e₉ e₁₀ e₁₁ =
    ap (with_grown d parent root rank) e₁₁ ∙ rw (e₇, e₈, e₉, e₁₀, e₆, e₅, e₄, e₃, e₂, e₁) refl
