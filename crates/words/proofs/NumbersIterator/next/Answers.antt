-- `next` gives the first number and leaves the others, or finds no four bytes. Assumes nothing.
use mathlib.Core.Path.{ap}
use native.Mathlib.Omega.{arith}
use Prim.Native.Nat.{ℕ}
use lib.ListN.{length}
use Rattle.std.proofs.Common.{rules}
use Rattle.words.proofs.Bytes.{numbers-next, numbers-few}
use Rattle.words.proofs.NumbersIterator.next.Goals as goal

pub returns-in_err-bytes-clause-steps : goal.returns-in_err-bytes-clause-steps
returns-in_err-bytes-clause-steps c =
    let n = numbers-few _ c.in_err-bytes.ensures.cases in
    rw c.from_residual.ensures (n, n)

pub returns-clause-steps : goal.returns-clause-steps
returns-clause-steps c =
    let first = c.in_ok-bytes.ensures.cases in
    numbers-next _ _ _ _ (omega (arith, first.2)) first.0 first.1 c.from_le_bytes.ensures

pub returns-clause-goes : goal.returns-clause-goes
returns-clause-goes c =
    let first = c.in_ok-bytes.ensures.cases in
    let n = numbers-next _ _ _ _ (omega (arith, first.2)) first.0 first.1 c.from_le_bytes.ensures in
    let m = ap (length {A = ℕ}) n in
    record { on = λ h. (search rules, search rules, omega (arith, m)); keeps = search rules; rests = search rules }
