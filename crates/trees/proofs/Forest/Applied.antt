-- Pairs that name no route twice, stored in a table of partners, are the table's pairs. Assumes nothing.
use mathlib.Core.Path.{◌≡◌, refl, sym, ap, ◌∙◌, subst}
use mathlib.Core.Logic.{◌≢◌}
use Prim.Native.Nat.{ℕ, ◌≤◌, ◌<◌}
use native.Mathlib.Omega.{arith}
use mathlib.Core.List.{List, [], ◌∷◌}
use lib.ListN.{length, get_or, set, length-set}
use lib.Seq.{get_or-set_same, get_or-set_other}
use Rattle.graphs.proofs.Sets.{is, is-self}
use Rattle.trees.proofs.Ring.Pairs.{occ}
use Rattle.trees.proofs.Forest.Inside.{Has, Applied}
use Rattle.trees.proofs.Ring.Exposed.{set_all}

-- the partner of y; what is past the end is its own
abbrev pub partner : List ℕ → ℕ → ℕ
partner M y = get_or M y y

-- every route that the pairs name has a cell
abbrev pub Within : ℕ → List (ℕ × ℕ) → Type 0
Within k [] = Unit {0}
Within k (p ∷ ps) = (p.0 < k) × (p.1 < k) × Within k ps

apart : (a y : ℕ) → is a y ≡ 0 → y ≢ a
apart a y z e = omega (arith, z, ap (is a) e, is-self a)

set2-off : (M : List ℕ) (a b y d : ℕ) → is a y ≡ 0 → is b y ≡ 0 → get_or (set (set M a b) b a) y d ≡ get_or M y d
set2-off M a b y d i j = get_or-set_other (set M a b) b y a d (apart b y j) ∙ get_or-set_other M a y b d (apart a y i)

set_all-off : (ps : List (ℕ × ℕ)) (M : List ℕ) (y d : ℕ) → occ ps y ≡ 0 → get_or (set_all ps M) y d ≡ get_or M y d
set_all-off [] M y d h = refl
set_all-off (p ∷ ps) M y d h = set_all-off ps (set (set M p.0 p.1) p.1 p.0) y d (omega arith) ∙ set2-off M p.0 p.1 y d (omega arith) (omega arith)

set_all-on : (ps : List (ℕ × ℕ)) (M : List ℕ) → Within (length M) ps → ((y : ℕ) → occ ps y ≤ 1) → Has ps (partner (set_all ps M))
set_all-on [] M w o = tt
set_all-on (p ∷ ps) M w o =
    let a = p.0 in
    let b = p.1 in
    let N = set (set M a b) b a in
    let len : length N ≡ length M = length-set (set M a b) b a ∙ length-set M a b in
    let z : is b a ≡ 0 = omega (arith, o a, is-self a) in (
      set_all-off ps N a a (omega (arith, o a, is-self a)) ∙ get_or-set_other (set M a b) b a a a (apart b a z) ∙ get_or-set_same M a b a w.0,
      set_all-off ps N b b (omega (arith, o b, is-self b)) ∙ get_or-set_same (set M a b) b a b (omega (arith, length-set M a b, w.1)),
      set_all-on ps N (subst (λ (k : ℕ). Within k ps) (sym len) w.2) (λ y. omega (arith, o y)),
    )

pub applied-within : (ps : List (ℕ × ℕ)) (M : List ℕ) → Within (length M) ps → ((y : ℕ) → occ ps y ≤ 1) → Applied ps (partner M) (partner (set_all ps M))
applied-within ps M w o = record { on = set_all-on ps M w o; off = λ y z. set_all-off ps M y y z }
