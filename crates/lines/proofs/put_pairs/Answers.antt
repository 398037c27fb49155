-- `put_pairs` meets its contract. Assumes nothing.
use Prim.Native.Nat.{ℕ}
use mathlib.Core.Path.{ap}
use Rattle.causes.specs.Given.{mate_of}
use Rattle.lines.specs.Lines.{pair_line}
use Rattle.lines.proofs.Said.{each-none, each-more}
use Rattle.lines.proofs.put_pairs.Goals as goal

pub loop-v-init : goal.loop-v-init
loop-v-init c = each-none _ c.args.text.now

pub loop-v-preserved : goal.loop-v-preserved
loop-v-preserved c =
    each-more (λ (u : ℕ). pair_line c.args.n u (mate_of c.args.pairing.now u)) _ _ _ _ c.loop-v.v c.loop-v.invariant
    (ap (pair_line c.args.n c.loop-v.v) c.word_at.ensures) c.put_pair.ensures
