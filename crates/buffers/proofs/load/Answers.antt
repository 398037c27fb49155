-- `load` meets its contract: each cell is what the function gives for its number. Assumes nothing.
use Prim.Native.Nat.{◌<◌}
use mathlib.Core.Path.{sym, ◌∙◌}
use native.Mathlib.Omega.{arith}
use lib.Seq.{ext_get_or}
use Rattle.std.proofs.Common.{rules}
use Rattle.limits.specs.Limits.{routes}
use Rattle.words.specs.Words.{word}
use Rattle.buffers.proofs.Written.{partners-length, partners-cell, made-cell}
use Rattle.buffers.proofs.load.Goals as goal

pub returns : goal.returns
returns c =
    let p = c.args.pairing.now in
    let made = c.from_fn.ensures.items in
    ext_get_or 0 _ _ (made.long ∙ sym (partners-length p)) (λ v h.
    let below : v < routes = omega (arith, h, made.long) in
    made-cell _ (word p) _ (λ u x q k. search rules) _ routes made v below ∙ sym (partners-cell p v below))
