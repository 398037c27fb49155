-- Each call of `expose` from `couples` keeps the number f, each call of `couples` from `expose` lowers it, so 2 f + 1 and
-- 2 f fall. The invariant of both loops: what is left to do leads to the end.
use Rattle.std.proofs.Common.{◌≡◌, ◌+◌, ◌-◌, ◌*◌}
use Rattle.limits.specs.Limits.{routes}
use Rattle.theory.specs.Search.Expose.{couples, lift, expose}
use Rattle.tables.specs.Shapes.{rings_of}
use Rattle.expose.proofs.+couples_expose.Given as goal

abbrev pub decreases-couples : goal.decreases-couples
decreases-couples l = 2 * l.f + 1

abbrev pub decreases-expose : goal.decreases-expose
decreases-expose l = 2 * l.f

abbrev pub invariant-couples-loop : goal.invariant-couples-loop
invariant-couples-loop l =
    let r = rings_of l.desk.rings in
    let e = expose routes r l.desk.trees.half l.f in
    couples routes e r l.j l.a l.initial.m ≡ couples routes e r (l.j - l.counter) l.g l.m

abbrev pub invariant-expose-loop : goal.invariant-expose-loop
invariant-expose-loop l =
    let r = rings_of l.desk.rings in
    let e = expose routes r l.desk.trees.half (l.f - 1) in
    lift routes e r l.desk.trees.half (l.f - 1) l.x l.g l.initial.m ≡ lift routes e r l.desk.trees.half (l.f - 1 - l.counter) l.c l.g l.m
