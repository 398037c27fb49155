-- Which tables of the definition of the search the code has: a `Desk` as its record, part by part.
use Rattle.std.specs.Prelude.{ℕ, Option, Some, None, is_some}
use Rattle.limits.specs.Limits.{none}
use Rattle.theory.specs.Search.Tables as search
use Rattle.tables.specs.declared.Line.{Line}
use Rattle.tables.specs.declared.Rings.{Rings}
use Rattle.tables.specs.declared.Edge.{Edge}
use Rattle.tables.specs.declared.Desk.{Desk}

-- the ends of an edge between two trees that is found; before, none
abbrev pub one_of : Option Edge → ℕ
one_of None = none
one_of (Some e) = e.one

abbrev pub two_of : Option Edge → ℕ
two_of None = none
two_of (Some e) = e.two

-- labels, queue and its tail
abbrev pub line_of : Line → search.Line
line_of l = record { label = l.label; queue = l.queue; tail = l.tail }

-- the rings: what a group has gone into, what is next to it there, and the edge to that
abbrev pub rings_of : Rings → search.Rings
rings_of r = record { up = r.up; next = r.next; out = r.out; into = r.into }

-- all the tables
abbrev pub tables_of : Desk → search.Tables
tables_of d = record {
  order = d.trees.order;
  mate = d.trees.mate;
  parent = d.trees.parent;
  top = d.trees.top;
  root = d.trees.root;
  base = d.trees.base;
  rank = d.trees.rank;
  half = d.trees.half;
  line = line_of d.line;
  rings = rings_of d.rings;
  ids = d.trees.ids;
  hit = is_some d.found;
  one = one_of d.found;
  two = two_of d.found;
}
