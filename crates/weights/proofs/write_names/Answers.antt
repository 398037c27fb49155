-- `write_names` meets its contract. The invariant: the names before v are written, and then stands what was there. Assumes nothing.
use mathlib.Core.Path.{refl, ap, ◌∙◌}
use native.Mathlib.Omega.{arith}
use lib.ListN.{length}
use Rattle.words.proofs.Bytes.{fill_none, fill-again, fill_end, put-length}
use Rattle.std.proofs.Common.{rules}
use Rattle.weights.proofs.write_names.Goals as goal

pub loop-v-init : goal.loop-v-init
loop-v-init c = (refl, fill_none _ _)

pub loop-v-preserved : goal.loop-v-preserved
loop-v-preserved c =
    let l = c.loop-v in
    let e = c.put_word.ensures in
    (ap length e ∙ put-length _ _ _ ∙ l.invariant.0, e ∙ fill-again _ _ _ l.v _ (omega (arith, c.requires, c.loop-v-test.true)) l.invariant.1 c.name_at.ensures)

pub returns : goal.returns
returns c =
    let l = c.loop-v in
    fill_end _ _ _ l.v _ c.requires (search rules) c.loop-v-test.false l.invariant.1
