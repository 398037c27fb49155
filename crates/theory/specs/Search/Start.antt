-- The tables before the first step: each route is a group of one, and each route with no partner is the root of a tree, outer and queued. Assumes nothing.
use Rattle.std.specs.Prelude.{false, cond, List, ℕ, zero, suc, eqb, replicate}
use Rattle.limits.specs.Limits.{none}
use Rattle.theory.specs.Search.Tables.{groups, cell, store, one_more, unreached, outer, Line, Tables}

-- v becomes outer, and is queued
unfoldable pub enter : ℕ → Line → ℕ → Line
enter room l v = record { label = store room l.label v outer; queue = store room l.queue l.tail v; tail = one_more room l.tail }

-- v is a root, where it has no partner
unfoldable pub plant : ℕ → List ℕ → Line → ℕ → Line
plant room mate l v = let e = enter room l v in cond (eqb (cell room mate v) v) e l

-- the roots among the first k routes, in id order
unfoldable pub seed : ℕ → List ℕ → ℕ → Line → Line
seed room mate zero l = l
seed room mate (suc k) l = plant room mate (seed room mate k l) k

-- the first k cells hold their own number
unfoldable pub fill : ℕ → ℕ → List ℕ → List ℕ
fill size zero l = l
fill size (suc k) l = store size (fill size k l) k k

-- n routes, with these partners
unfoldable pub start : ℕ → ℕ → List ℕ → Tables
start room n mate = record {
  order = n;
  mate = mate;
  parent = replicate room none;
  top = fill room n (replicate room none);
  root = fill (groups room) n (replicate (groups room) none);
  base = fill (groups room) n (replicate (groups room) none);
  rank = replicate (groups room) 0;
  half = replicate (groups room) 0;
  line = seed room mate n (record { label = replicate room unreached; queue = replicate room none; tail = 0 });
  rings = record {
    up = replicate (groups room) none;
    next = replicate (groups room) none;
    out = replicate (groups room) none;
    into = replicate (groups room) none;
  };
  ids = n;
  hit = false;
  one = none;
  two = none;
}
