-- The search on small graphs, by computation. Assumes nothing.
use mathlib.Core.Path.{◌≡◌, refl}
use mathlib.Core.List.{List, [], ◌∷◌}
use Prim.Native.Nat.{ℕ, ◌+◌}
use lib.ListN.{length, replicate}
use Rattle.graphs.specs.Layouts.{graph_of, triangle, claw, ten_routes}
use Rattle.limits.specs.Limits.{none}
use Rattle.theory.specs.Search.Tables.{cell, store, one_more, turns}
use Rattle.theory.specs.Search.Start.{enter, plant, seed, fill, start}
use Rattle.theory.specs.Search.Grow.{grow}
use Rattle.theory.specs.Search.Rings.{bridge, left, right, stride, linked, admit, around, regroup, shift, absorb, contract}
use Rattle.theory.specs.Search.Look.{strike, touch, look, scan_row, turn, run}
use Rattle.theory.specs.Search.Expose.{pair_up, couples, lift, expose, raise, augmented}
use Rattle.theory.specs.Search.Searched.{own_or, inward, none_or, outward, begun, ended, Outcome, found, stuck, searched_in, improved_in}

-- one search, in tables that just fit
abbrev pub searched : List (List ℕ) → List ℕ → Outcome
searched rows p = searched_in (length rows) (graph_of rows) p

abbrev improved : List (List ℕ) → List ℕ → ℕ → List ℕ
improved rows p b = improved_in (length rows) (graph_of rows) p b

-- no route has a partner
abbrev free : ℕ → List ℕ
free n = replicate n none

claw-first : searched claw (free 4) ≡ found (1 ∷ 0 ∷ none ∷ none ∷ [])
unfolding turns cell store one_more enter plant seed fill start grow bridge left right stride linked admit around regroup shift absorb contract strike touch look scan_row turn run pair_up couples lift expose raise augmented own_or inward none_or outward begun ended searched_in improved_in
claw-first = refl

pub claw-stuck : searched_in 4 (graph_of claw) (1 ∷ 0 ∷ none ∷ none ∷ []) ≡ stuck (1 ∷ 0 ∷ 0 ∷ 0 ∷ [])
unfolding turns cell store one_more enter plant seed fill start grow bridge left right stride linked admit around regroup shift absorb contract strike touch look scan_row turn run pair_up couples lift expose raise augmented own_or inward none_or outward begun ended searched_in improved_in
claw-stuck = refl

triangle-stuck : searched triangle (1 ∷ 0 ∷ none ∷ []) ≡ stuck (0 ∷ 0 ∷ 0 ∷ [])
unfolding turns cell store one_more enter plant seed fill start grow bridge left right stride linked admit around regroup shift absorb contract strike touch look scan_row turn run pair_up couples lift expose raise augmented own_or inward none_or outward begun ended searched_in improved_in
triangle-stuck = refl

-- a five-cycle 0 1 2 3 4 with a tail 5 at 3
tailed : List (List ℕ)
tailed = (1 ∷ 4 ∷ []) ∷ (0 ∷ 2 ∷ []) ∷ (1 ∷ 3 ∷ []) ∷ (2 ∷ 4 ∷ 5 ∷ []) ∷ (3 ∷ 0 ∷ []) ∷ (3 ∷ []) ∷ []

tailed_found : searched tailed (none ∷ 2 ∷ 1 ∷ 4 ∷ 3 ∷ none ∷ []) ≡ found (4 ∷ 2 ∷ 1 ∷ 5 ∷ 0 ∷ 3 ∷ [])
unfolding tailed turns cell store one_more enter plant seed fill start grow bridge left right stride linked admit around regroup shift absorb contract strike touch look scan_row turn run pair_up couples lift expose raise augmented own_or inward none_or outward begun ended searched_in improved_in
tailed_found = refl

pub ten-found : searched_in 10 (graph_of ten_routes) (none ∷ 2 ∷ 1 ∷ 4 ∷ 3 ∷ 6 ∷ 5 ∷ 8 ∷ 7 ∷ none ∷ []) ≡ found (1 ∷ 0 ∷ 6 ∷ 7 ∷ 5 ∷ 4 ∷ 2 ∷ 3 ∷ 9 ∷ 8 ∷ [])
unfolding turns cell store one_more enter plant seed fill start grow bridge left right stride linked admit around regroup shift absorb contract strike touch look scan_row turn run pair_up couples lift expose raise augmented own_or inward none_or outward begun ended searched_in improved_in
ten-found = refl

ten-all : improved ten_routes (free 10) 10 ≡ (1 ∷ 0 ∷ 3 ∷ 2 ∷ 5 ∷ 4 ∷ 7 ∷ 6 ∷ 9 ∷ 8 ∷ [])
unfolding turns cell store one_more enter plant seed fill start grow bridge left right stride linked admit around regroup shift absorb contract strike touch look scan_row turn run pair_up couples lift expose raise augmented own_or inward none_or outward begun ended searched_in improved_in
ten-all = refl

-- the same where the tables have room for more routes
roomy : searched_in 16 (graph_of ten_routes) (none ∷ 2 ∷ 1 ∷ 4 ∷ 3 ∷ 6 ∷ 5 ∷ 8 ∷ 7 ∷ none ∷ []) ≡ found (1 ∷ 0 ∷ 6 ∷ 7 ∷ 5 ∷ 4 ∷ 2 ∷ 3 ∷ 9 ∷ 8 ∷ [])
unfolding turns cell store one_more enter plant seed fill start grow bridge left right stride linked admit around regroup shift absorb contract strike touch look scan_row turn run pair_up couples lift expose raise augmented own_or inward none_or outward begun ended searched_in improved_in
roomy = refl

-- the order of the queue over a contraction: a nine-cycle from 0, met at 4 and 5. The ring from 4: 4 3 2 1 0 8 7 6 5
nine : List (List ℕ)
nine = (1 ∷ 8 ∷ []) ∷ (0 ∷ 2 ∷ []) ∷ (1 ∷ 3 ∷ []) ∷ (2 ∷ 4 ∷ []) ∷ (3 ∷ 5 ∷ []) ∷ (4 ∷ 6 ∷ []) ∷ (5 ∷ 7 ∷ []) ∷ (6 ∷ 8 ∷ []) ∷ (7 ∷ 0 ∷ []) ∷ []

nine-queue : (ended 9 (graph_of nine) (none ∷ 2 ∷ 1 ∷ 4 ∷ 3 ∷ 6 ∷ 5 ∷ 8 ∷ 7 ∷ [])).line.queue ≡ (0 ∷ 2 ∷ 7 ∷ 4 ∷ 5 ∷ 3 ∷ 1 ∷ 8 ∷ 6 ∷ [])
unfolding nine turns cell store one_more enter plant seed fill start grow bridge left right stride linked admit around regroup shift absorb contract strike touch look scan_row turn run pair_up couples lift expose raise augmented own_or inward none_or outward begun ended searched_in improved_in
nine-queue = refl

-- three rings, one in the other: 0 1 2, that with 3 4, that with 5 6. The way from 11 comes in at 5 by 7, and each ring is exposed where it is entered
nested : List (List ℕ)
nested = (1 ∷ 2 ∷ []) ∷ (0 ∷ 2 ∷ 3 ∷ []) ∷ (0 ∷ 1 ∷ 4 ∷ []) ∷ (1 ∷ 4 ∷ 5 ∷ []) ∷ (2 ∷ 3 ∷ 6 ∷ []) ∷ (3 ∷ 6 ∷ 7 ∷ []) ∷ (4 ∷ 5 ∷ []) ∷ (5 ∷ 8 ∷ []) ∷ (7 ∷ 9 ∷ []) ∷ (8 ∷ 10 ∷ []) ∷ (9 ∷ 11 ∷ []) ∷ (10 ∷ []) ∷ []

abbrev five_pairs : List ℕ
five_pairs = none ∷ 2 ∷ 1 ∷ 4 ∷ 3 ∷ 6 ∷ 5 ∷ 8 ∷ 7 ∷ 10 ∷ 9 ∷ none ∷ []

nested-found : searched nested five_pairs ≡ found (2 ∷ 3 ∷ 0 ∷ 1 ∷ 6 ∷ 7 ∷ 4 ∷ 5 ∷ 9 ∷ 8 ∷ 11 ∷ 10 ∷ [])
unfolding nested turns cell store one_more enter plant seed fill start grow bridge left right stride linked admit around regroup shift absorb contract strike touch look scan_row turn run pair_up couples lift expose raise augmented own_or inward none_or outward begun ended searched_in improved_in
nested-found = refl

nested-rings : (ended 12 (graph_of nested) five_pairs).ids ≡ 12 + 3
unfolding nested turns cell store one_more enter plant seed fill start grow bridge left right stride linked admit around regroup shift absorb contract strike touch look scan_row turn run pair_up couples lift expose raise augmented own_or inward none_or outward begun ended searched_in improved_in
nested-rings = refl
