-- An edge between two outer routes v and w of one tree closes a ring: from v's group up to the lowest group on both ways, then down to w's group, and
-- back to v's by the edge. The ring is a group from then on, and its inner routes are outer. Assumes nothing.
--
--         a          a is the root, outer; b and c are inner, d and e their partners, outer. The edge between v = d and w = e closes the ring
--       /   \          d b a c e
--      b     c       of five groups. Each stores the next and the edge to it, in the ring's direction: d by (d, b), b by (b, a), a by (a, c), c by (c, e),
--      ‖     ‖       and e by (e, d). The ring is a group with base a.
--      d --- e       Exposed at b: the others are coupled from b's next on, two by two, a with c and e with d. The edge from the one to the other is a
--                    pair, and where the two are rings themselves, each is exposed in its turn at its end of that edge.
use Rattle.std.specs.Prelude.{cond, List, ℕ, zero, suc, ◌+◌, eqb, ltb}
use Rattle.theory.specs.Search.Tables.{groups, cell, store, one_more, inner, Line, Rings, Tables, turns}
use Rattle.theory.specs.Search.Start.{enter}

-- the two walks: where the one from v and the one from w have come to, how many steps they have made, and the rings with what they have stored
pub record Way : Type 0 where
  pub x : ℕ
  pub y : ℕ
  pub k : ℕ
  pub rings : Rings

-- before the first step: w's group is next to v's, by the edge (w, v)
unfoldable pub bridge : ℕ → Tables → ℕ → ℕ → Way
bridge room s v w =
    let g = cell room s.top w in
    record {
      x = v;
      y = w;
      k = 0;
      rings = record {
        up = s.rings.up;
        next = store (groups room) s.rings.next g (cell room s.top v);
        out = store (groups room) s.rings.out g w;
        into = store (groups room) s.rings.into g v;
      };
    }

-- a step up on v's side: from x's group by its base to the partner i, and by (i, p) to the parent's group
unfoldable pub left : ℕ → Tables → Way → Way
left room s z =
    let g = cell room s.top z.x in
    let b = cell (groups room) s.base g in
    let i = cell room s.mate b in
    let p = cell room s.parent i in
    record {
      x = p;
      y = z.y;
      k = one_more room z.k;
      rings = record {
        up = store (groups room) (store (groups room) z.rings.up g s.ids) i s.ids;
        next = store (groups room) (store (groups room) z.rings.next g i) i (cell room s.top p);
        out = store (groups room) (store (groups room) z.rings.out g b) i i;
        into = store (groups room) (store (groups room) z.rings.into g i) i p;
      };
    }

-- a step up on w's side, stored in the ring's direction: from the parent's group by (p, i) to i, and by i's partner to y's group
unfoldable pub right : ℕ → Tables → Way → Way
right room s z =
    let g = cell room s.top z.y in
    let b = cell (groups room) s.base g in
    let i = cell room s.mate b in
    let p = cell room s.parent i in
    let q = cell room s.top p in
    record {
      x = z.x;
      y = p;
      k = one_more room z.k;
      rings = record {
        up = store (groups room) (store (groups room) z.rings.up g s.ids) i s.ids;
        next = store (groups room) (store (groups room) z.rings.next i g) q i;
        out = store (groups room) (store (groups room) z.rings.out i i) q p;
        into = store (groups room) (store (groups room) z.rings.into i b) q i;
      };
    }

-- the walk that is deeper goes a step, until the two have met
unfoldable pub stride : ℕ → Tables → Way → Way
stride room s z =
    let g = cell room s.top z.x in
    let h = cell room s.top z.y in
    let l = left room s z in
    let r = right room s z in
    let t = cond (ltb (cell (groups room) s.rank g) (cell (groups room) s.rank h)) r l in
    cond (eqb g h) z t

-- both walks, until they have met: there are fewer steps than groups
unfoldable pub linked : ℕ → Tables → ℕ → ℕ → Way
linked room s v w = turns (groups room) (stride room s) (bridge room s v w)

-- ---- the ring becomes a group

-- a group a of the ring: an inner route becomes outer, and is queued. (A ring within the ring has no label: its number is no route.)
unfoldable pub admit : ℕ → Line → ℕ → Line
admit room l a = let e = enter room l a in cond (eqb (cell room l.label a) inner) e l

-- so for j groups of the ring, from a on in its order
unfoldable pub around : ℕ → List ℕ → ℕ → ℕ → Line → Line
around room next zero a l = l
around room next (suc j) a l = around room next j (cell (groups room) next a) (admit room l a)

-- route k is in the group b now, where its group has gone into b
unfoldable pub regroup : ℕ → List ℕ → ℕ → List ℕ → ℕ → List ℕ
regroup room up b t k = let r = store room t k b in cond (eqb (cell (groups room) up (cell room t k)) b) r t

-- so for the first k routes
unfoldable pub shift : ℕ → List ℕ → ℕ → ℕ → List ℕ → List ℕ
shift room up b zero t = t
shift room up b (suc k) t = regroup room up b (shift room up b k t) k

-- the new group has the root, the base and the rank of the group c in which the walks have met
unfoldable pub absorb : ℕ → Tables → ℕ → Way → Tables
absorb room s v z =
    let c = cell room s.top z.x in
    let u = store (groups room) z.rings.up c s.ids in
    record {
      order = s.order;
      mate = s.mate;
      parent = s.parent;
      top = shift room u s.ids s.order s.top;
      root = store (groups room) s.root s.ids (cell (groups room) s.root c);
      base = store (groups room) s.base s.ids (cell (groups room) s.base c);
      rank = store (groups room) s.rank s.ids (cell (groups room) s.rank c);
      half = store (groups room) s.half s.ids z.k;
      line = around room z.rings.next (suc (z.k + z.k)) (cell room s.top v) s.line;
      rings = record { up = u; next = z.rings.next; out = z.rings.out; into = z.rings.into };
      ids = one_more room s.ids;
      hit = s.hit;
      one = s.one;
      two = s.two;
    }

-- the ring of the edge between v and w, whole
unfoldable pub contract : ℕ → Tables → ℕ → ℕ → Tables
contract room s v w = absorb room s v (linked room s v w)
