-- `put_words` meets its contract. The invariant: what is still to be put leads to what is to come out. Assumes nothing.
use mathlib.Core.Path.{refl}
use Rattle.lent.proofs.Lists.{put_next, put-end}
use Rattle.lent.proofs.state.put_words.Goals as goal

pub loop-k-preserved : goal.loop-k-preserved
loop-k-preserved c =
    let l = c.loop-k in
    put_next _ _ _ l.k _ _ c.loop-k-test.true refl c.put_word.ensures l.invariant

pub returns : goal.returns
returns c =
    let l = c.loop-k in
    put-end _ _ l.k _ c.loop-k-test.false l.invariant
