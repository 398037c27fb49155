-- `list_all` meets its contract. The invariant: the pairs are those whose lower id was reached. Assumes nothing.
use mathlib.Core.Path.{◌≡◌, sym, ◌∙◌}
use native.Mathlib.Omega.{arith}
use Rattle.std.proofs.lemmas.List.{length-map}
use Rattle.limits.specs.Limits.{routes}
use Rattle.mates.specs.Partners.{is_lower, rising, lowers}
use Rattle.listing.specs.Listing.{edges_in, edge_of}
use Rattle.listing.proofs.Pairs.{lower-room, one-listed, none-listed}
use Rattle.listing.proofs.Steps.{lower-yes, lower-unpaired, lower-upper}
use Rattle.listing.proofs.list_all.Goals as goal
use Rattle.listing.proofs.list_all.Goals.{then-lower-upper+then-upper-lt-IDS, else-lower-upper, else-lower-upper-via-then-lower-upper+else-upper-lt-IDS, else-lower-upper-via-else-lower-upper}

pub loop-lower-init : goal.loop-lower-init
unfolding rising
loop-lower-init c = c.new-edges.ensures

pub push-requires : goal.push-requires
push-requires c =
    let l = c.loop-lower in
    let t = lower-yes _ _ _ c.partner_of-upper.ensures c.if-lower-upper.true c.if-upper-lt-IDS.true in
    rw (l.invariant, length-map (rising l.lower (is_lower c.args.t.now)) (edge_of c.args.t.now)) (lower-room _ c.requires l.lower c.loop-lower-test.true t)

pub loop-lower-preserved : goal.loop-lower-preserved
loop-lower-preserved c =
    let l = c.loop-lower in
    let e = c.partner_of-upper.ensures in
    elim c.if-lower-upper.branch [
      | then-lower-upper+then-upper-lt-IDS w ↦
          rw (w.edges-is, w.push.ensures, l.invariant, e) (sym (one-listed _ l.lower (lower-yes _ _ _ e w.if-lower-upper.true w.if-upper-lt-IDS.true)))
      | else-lower-upper w ↦ elim w.else-lower-upper.branch [
        | else-lower-upper-via-then-lower-upper+else-upper-lt-IDS v ↦ rw w.edges-is (l.invariant ∙ sym (none-listed _ l.lower (lower-unpaired _ _ _ e v.if-upper-lt-IDS.false)))
        | else-lower-upper-via-else-lower-upper v ↦ rw w.edges-is (l.invariant ∙ sym (none-listed _ l.lower (lower-upper _ _ _ e v.if-lower-upper.false)))
      ]
    ]

pub returns : goal.returns
unfolding edges_in lowers
returns c =
    let l = c.loop-lower in
    let e : l.lower ≡ routes = omega arith in
    rw e at l.invariant
