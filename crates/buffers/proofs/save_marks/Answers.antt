-- `save_marks` meets its contract. Assumes nothing.
use Prim.Native.Nat.{ℕ}
use mathlib.Core.Path.{sym, ◌∙◌}
use native.Mathlib.Omega.{arith}
use Rattle.limits.specs.Limits.{routes}
use Rattle.theory.specs.Search.Tables.{cell}
use Rattle.theory.specs.Search.Searched.{mark}
use Rattle.words.proofs.Bytes.{cells-again, cells-end}
use Rattle.buffers.proofs.Written.{listed-length, listed_at}
use Rattle.buffers.proofs.save_marks.Goals as goal

pub loop-v-preserved : goal.loop-v-preserved
loop-v-preserved c =
    let l = c.loop-v in
    let a = c.args in
    let f : ℕ → ℕ = λ u. mark (cell routes a.label.now u) in
    cells-again _ _ _ l.v _ (omega (arith, listed-length f a.n, c.loop-v-test.true)) (omega (arith, c.requires, c.loop-v-test.true)) l.invariant (c.mark_at.ensures ∙ sym (listed_at f _ l.v c.loop-v-test.true))

pub returns : goal.returns
returns c =
    let l = c.loop-v in
    cells-end _ _ _ l.v (listed-length _ _ ∙ sym c.requires) (omega (arith, c.requires, c.loop-v-test.false)) l.invariant
