-- `with_bit` meets its contract: the shifted one does not wrap, since j is below the width. Assumes nothing.
use lib.Pow.{pow-lt}
use native.Mathlib.Nat.{one-mul, mod-eq_of_lt}
use Prim.Native.Nat.{◌<◌, ◌^◌}
use mathlib.Core.Path.{ap}
use lib.Bits.{bit_or}
use Rattle.marks.proofs.with_bit.Goals as goal

pub returns : goal.returns
returns c =
    let small : 2 ^ c.args.j < 2 ^ 32 = pow-lt c.requires in
    ap (bit_or c.args.x) (rw one-mul (mod-eq_of_lt small))
