-- `free` meets its contract: an id that has a partner lies in the table. Assumes nothing.
use Rattle.mates.proofs.Sound.{mate-id}
use Rattle.mates.proofs.Steps.{freed-no, freed-yes}
use Rattle.mates.proofs.free.Goals as goal

pub returns-then-m-ge-ROUTES : goal.returns-then-m-ge-ROUTES
returns-then-m-ge-ROUTES c =
    let e = freed-no _ _ _ c.partner_of-m.ensures c.if-m-ge-ROUTES.true in
    record { partners = e.0; count = e.1 }

pub bounds-t-i : goal.bounds-t-i
bounds-t-i c = mate-id c.args.t.now _ (rw (← c.partner_of-m.ensures) c.if-m-ge-ROUTES.false)

pub returns : goal.returns
returns c =
    let e = freed-yes _ _ _ c.partner_of-m.ensures c.if-m-ge-ROUTES.false in
    record { partners = e.0; count = e.1 }
