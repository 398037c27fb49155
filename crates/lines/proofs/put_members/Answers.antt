-- `put_members` meets its contract. Assumes nothing.
use mathlib.Core.Path.{refl}
use Rattle.lines.specs.Lines.{member}
use Rattle.lines.proofs.Said.{each-none, each-more}
use Rattle.lines.proofs.put_members.Goals as goal

pub loop-v-init : goal.loop-v-init
loop-v-init c = each-none (member c.args.witness.now) c.args.text.now

pub loop-v-preserved : goal.loop-v-preserved
loop-v-preserved c = each-more (member c.args.witness.now) _ _ _ _ c.loop-v.v c.loop-v.invariant refl c.put_member.ensures
