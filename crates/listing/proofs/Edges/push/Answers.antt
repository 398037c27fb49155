-- One pair more: behind it the table still holds none. Assumes nothing.
use mathlib.Core.Path.{◌≡◌, ◌∙◌}
use lib.ListN.{length, take}
use native.Mathlib.Omega.{arith}
use Prim.Native.Nat.{◌<◌, ◌/◌}
use Rattle.limits.specs.Limits.{routes}
use Rattle.std.proofs.lemmas.List.{length-set, length-take-le}
use Rattle.listing.proofs.Padded.{one-padded}
use Rattle.listing.proofs.Edges.push.Goals as goal

pub invariant_of-self : goal.invariant_of-self
invariant_of-self c =
    let s = c.self.inside in
    let i = c.self.invariant in
    let t : length (take s.count s.pairs) ≡ s.count = length-take-le s.count s.pairs i.0 in
    let k : s.count < routes / 2 = omega (arith, c.requires, rw c.self.view_is at t) in
    (omega (arith, k, i.1, length-set s.pairs s.count c.args.edge), length-set s.pairs s.count c.args.edge ∙ i.1, one-padded s.pairs s.count k i.1 i.2 c.args.edge)
