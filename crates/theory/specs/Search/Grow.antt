-- A step from an outer route v to a route w that is not reached, and on to its partner: w is inner, its partner outer. Assumes nothing.
use Rattle.std.specs.Prelude.{ℕ}
use Rattle.theory.specs.Search.Tables.{groups, cell, store, one_more, inner, Tables}
use Rattle.theory.specs.Search.Start.{enter}

-- v is w's parent; w and its partner u hang one and two deeper than v's group, in v's tree
unfoldable pub grow : ℕ → Tables → ℕ → ℕ → Tables
grow room s v w =
    let u = cell room s.mate w in
    let g = cell room s.top v in
    let r = cell (groups room) s.root g in
    let k = cell (groups room) s.rank g in
    record {
      order = s.order;
      mate = s.mate;
      parent = store room s.parent w v;
      top = s.top;
      root = store (groups room) (store (groups room) s.root w r) u r;
      base = s.base;
      rank = store (groups room) (store (groups room) s.rank w (one_more room k)) u (one_more room (one_more room k));
      half = s.half;
      line = enter room (record { label = store room s.line.label w inner; queue = s.line.queue; tail = s.line.tail }) u;
      rings = s.rings;
      ids = s.ids;
      hit = s.hit;
      one = s.one;
      two = s.two;
    }
