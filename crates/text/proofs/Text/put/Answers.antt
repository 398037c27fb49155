-- `put` meets its contract: the byte is put at the end, or there is no room. Assumes nothing.
use mathlib.Core.Path.{◌∙◌, ap}
use mathlib.Core.List.{List, [], ◌∷◌}
use Prim.Native.Nat.{ℕ, ◌≤◌}
use native.Mathlib.Omega.{arith}
use lib.ListN.{length}
use lib.Seq.{length-take-le}
use Rattle.text.specs.Put.{room, followed_by}
use Rattle.text.proofs.Putting.{put-room, put_full}
use Rattle.text.proofs.Text.put.Goals as goal

pub returns-then-self-lt-ROOM : goal.returns-then-self-lt-ROOM
returns-then-self-lt-ROOM c =
    put-room _ _ _ c.self.invariant.0 c.if-self-lt-ROOM.true ∙ ap (λ (t : List ℕ). followed_by t (c.args.b ∷ [])) c.self.view_is

pub returns-else-self-lt-ROOM : goal.returns-else-self-lt-ROOM
returns-else-self-lt-ROOM c =
    let long = length-take-le c.self.inside.len c.self.inside.bytes (omega arith) in
    let full : room ≤ length c.args.self.now = omega (arith, long, ap length c.self.view_is) in
    put_full _ _ full
