-- The tables of a search, and how a cell is read and set. A table of routes has `room` cells, one for each route; a table of groups has `groups room`
-- cells: each route is a group of one, and each ring makes one group more, with the next number. Past its end a table answers `none`, which is no
-- route, no group and no label, and takes nothing. A counter that comes to its end stays there; `proofs/Search/Counters.antt` shows that none does.
-- Assumes nothing.
use Rattle.std.specs.Prelude.{Bool, cond, List, ℕ, zero, suc, ◌+◌, ltb, get_or, set}
use Rattle.limits.specs.Limits.{none}

-- how many groups there is room for, and the end of every counter
abbrev pub groups : ℕ → ℕ
groups room = room + room

-- cell i of a table of that many cells; past the end, none. (The 0 is not read: a table of that many cells has each of them.)
unfoldable pub cell : ℕ → List ℕ → ℕ → ℕ
cell size l i = cond (ltb i size) (get_or l i 0) none

-- the table with x in cell i; past the end, as it was
unfoldable pub store : ℕ → List ℕ → ℕ → ℕ → List ℕ
store size l i x = cond (ltb i size) (set l i x) l

-- one more, short of the end
unfoldable pub one_more : ℕ → ℕ → ℕ
one_more room t = cond (ltb t (groups room)) (t + 1) t

-- ---- what a label says of a route

-- no walk from a root has come to it
abbrev pub unreached : ℕ
unreached = 0

-- a walk from a root comes to it over an edge, and goes on to its partner
abbrev pub inner : ℕ
inner = 1

-- a walk from a root ends in it, and may go on to any neighbour
abbrev pub outer : ℕ
outer = 2

-- ---- the tables

-- by route: its label; the outer routes in order of entry, and how many they are
pub record Line : Type 0 where
  pub label : List ℕ
  pub queue : List ℕ
  pub tail : ℕ

-- by group: the ring that it has gone into, the group next to it there, and the edge to that one, from `out` in this group to `into` in the next
pub record Rings : Type 0 where
  pub up : List ℕ
  pub next : List ℕ
  pub out : List ℕ
  pub into : List ℕ

-- the number of routes;
-- by route: its partner (its own number where it has none), an inner route's parent, the group that it is in now;
-- by group: the root of its tree, its base (the route by which it hangs from the root), its rank (how deep it hangs), and of a ring of 2 h + 1 groups h;
-- labels and queue; rings; how many groups there are; whether an edge between two trees is found, and its ends
pub record Tables : Type 0 where
  pub order : ℕ
  pub mate : List ℕ
  pub parent : List ℕ
  pub top : List ℕ
  pub root : List ℕ
  pub base : List ℕ
  pub rank : List ℕ
  pub half : List ℕ
  pub line : Line
  pub rings : Rings
  pub ids : ℕ
  pub hit : Bool
  pub one : ℕ
  pub two : ℕ

-- f, k times
unfoldable pub turns : {A : Type 0} → ℕ → (A → A) → A → A
turns zero f a = a
turns (suc k) f a = f (turns k f a)
