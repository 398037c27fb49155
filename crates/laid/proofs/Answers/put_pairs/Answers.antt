-- `put_pairs` meets its contract: the pairs, or nothing where `edges` was not asked or is refused. Assumes nothing.
use mathlib.Core.Path.{◌≡◌, ap, ◌∙◌}
use mathlib.Core.List.{[]}
use Rattle.asked.specs.Replies.{pairs_of, behind}
use Rattle.laid.proofs.Stretches.{lays-none, behind-other, behind-edges, behind-refused}
use Rattle.laid.proofs.Answers.put_pairs.Goals as goal

pub returns-then-code-from : goal.returns-then-code-from
returns-then-code-from c = let e : [] ≡ behind c.args.p c.args.code = behind-other _ _ (rw c.from.ensures at c.if-code-from.true) in rw (← e) (lays-none _)

pub returns-in-Ok : goal.returns-in-Ok
returns-in-Ok c =
    let code = c.if-code-from.false ∙ c.from.ensures in
    let e : pairs_of c.as_slice.result.now ≡ behind c.args.p c.args.code = ap pairs_of c.as_slice.ensures ∙ behind-edges _ _ _ code c.in-Ok.ensures in
    rw (← e) c.put_edges.ensures

pub returns-in_default : goal.returns-in_default
returns-in_default c =
    let code = c.if-code-from.false ∙ c.from.ensures in
    let e : [] ≡ behind c.args.p c.args.code = behind-refused _ _ _ code c.in_default.ensures in
    rw (← e) (lays-none _)
