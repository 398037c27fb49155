-- `put_word` meets its contract: the bytes that are put are one more. Assumes nothing.
use lib.ListN.{get_or, take}
use mathlib.Core.List.{[], ◌∷◌}
use Rattle.std.proofs.lemmas.List.{take_more}
use Rattle.text.proofs.Putting.{nothing, then}
use Rattle.text.proofs.Text.put_word.Goals as goal

pub loop-b-init : goal.loop-b-init
loop-b-init c = nothing c.args.self.now

pub loop-b-preserved : goal.loop-b-preserved
loop-b-preserved c =
    let word = c.args.word.now in
    let i = c.loop-b.b-index in
    let more = take_more word i 0 c.loop-b-test.true in
    let both = then c.args.self.now (take i word) (get_or word i 0 ∷ []) in
    cc
