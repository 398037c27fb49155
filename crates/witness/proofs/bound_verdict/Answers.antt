-- `bound_verdict` meets its contract: the bound by counts alone. Assumes nothing.
use native.Mathlib.Omega.{arith}
use Rattle.witness.proofs.Verdicts.{bound-met, bound-unmet}
use Rattle.weights.proofs.Weights.{size-most, unpaired-most}
use Rattle.witness.proofs.bound_verdict.Goals as goal

pub overflow_add-free : goal.overflow_add-free
overflow_add-free c =
    let ok = c.requires.0 in
    record { fits = omega (arith, size-most c.args.s.now c.args.witness.now ok _ _ c.weight_of-weight.ensures, unpaired-most c.args.s.now c.args.witness.now ok _ _ c.unpaired_routes-free.ensures) }

pub returns-then-weight-free : goal.returns-then-weight-free
returns-then-weight-free c =
    let w = c.weight_of-weight.ensures in
    bound-met _ _ _ _ _ _ w.parts w.members c.unpaired_routes-free.ensures c.if-weight-free.true

pub returns : goal.returns
returns c =
    let w = c.weight_of-weight.ensures in
    bound-unmet _ _ _ _ _ _ w.parts w.members c.unpaired_routes-free.ensures c.if-weight-free.false
