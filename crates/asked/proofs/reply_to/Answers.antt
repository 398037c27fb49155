-- `reply_to` meets its contract: each kind of operation is a case of the definition, and so is a code that names none. Assumes nothing.
use mathlib.Core.Path.{ap, ap₂, ◌∙◌}
use lib.ListN.{length}
use Rattle.std.proofs.Common.{rules}
use Rattle.graphs.specs.Count.{bit}
use Rattle.pairing.specs.Answers.{has_node_answer, mate_answer, pair_answer}
use Rattle.asked.specs.Replies.{answer, answer_by, order_reply, has_node_reply, edges_reply, mate_reply, next_reply, unknown_reply}
use Rattle.asked.specs.declared.Kind.TheVariants.{Order, HasNode, Pair, Edges, Augment, Mate}
use Rattle.asked.proofs.Asked.{asked-is, unknown-is, read-is, same-is}
use Rattle.asked.proofs.reply_to.Goals as goal

pub returns-in-Ok-Order : goal.returns-in-Ok-Order
unfolding order_reply
returns-in-Ok-Order c =
    let k = c.in-Ok-Order in
    c.answer.ensures ∙ ap (λ r. answer r c.args.p) (same-is (λ x y h. search rules) _ _ c.map.ensures.cases ∙ c.order.ensures)
    ∙ asked-is c.args.p _ c.args.ids.now Order (rw k.field-0-is at k.ensures)

pub returns-in-Ok-HasNode : goal.returns-in-Ok-HasNode
unfolding has_node_reply
returns-in-Ok-HasNode c =
    let k = c.in-Ok-HasNode in
    let e = c.has_node.ensures ∙ ap (has_node_answer c.args.p) c.number_at.ensures in
    c.answer-in-Ok-HasNode.ensures ∙ ap (λ r. answer r c.args.p) (read-is bit (λ x y h. search rules) _ _ c.map-in-Ok-HasNode.ensures.cases)
    ∙ ap (λ r. answer_by bit r c.args.p) e
    ∙ asked-is c.args.p _ c.args.ids.now HasNode (rw k.field-0-is at k.ensures)

pub returns-in-Ok-Pair : goal.returns-in-Ok-Pair
returns-in-Ok-Pair c =
    let k = c.in-Ok-Pair in
    c.pair_reply.ensures ∙ ap next_reply (ap₂ (pair_answer c.args.p) c.number_at-in-Ok-Pair.ensures c.number_at-in-Ok-Pair-2.ensures)
    ∙ asked-is c.args.p _ c.args.ids.now Pair (rw k.field-0-is at k.ensures)

pub returns-in-Ok-Edges : goal.returns-in-Ok-Edges
unfolding edges_reply
returns-in-Ok-Edges c =
    let k = c.in-Ok-Edges in
    c.answer-in-Ok-Edges.ensures ∙ ap (λ r. answer r c.args.p) (read-is length (λ x y h. search rules) _ _ c.map-in-Ok-Edges.ensures.cases)
    ∙ ap (λ r. answer_by length r c.args.p) c.edges.ensures
    ∙ asked-is c.args.p _ c.args.ids.now Edges (rw k.field-0-is at k.ensures)

pub returns-in-Ok-Augment : goal.returns-in-Ok-Augment
returns-in-Ok-Augment c =
    let k = c.in-Ok-Augment in
    c.augment_reply.ensures
    ∙ asked-is c.args.p _ c.args.ids.now Augment (rw k.field-0-is at k.ensures)

pub returns-in-Ok-Mate : goal.returns-in-Ok-Mate
unfolding mate_reply
returns-in-Ok-Mate c =
    let k = c.in-Ok-Mate in
    c.answer-in-Ok-Mate.ensures
    ∙ ap (λ r. answer r c.args.p) (same-is (λ x y h. search rules) _ _ c.map-in-Ok-Mate.ensures.cases ∙ c.mate.ensures ∙ ap (mate_answer c.args.p) c.number_at-in-Ok-Mate.ensures)
    ∙ asked-is c.args.p _ c.args.ids.now Mate (rw k.field-0-is at k.ensures)

pub returns-in-Err : goal.returns-in-Err
returns-in-Err c =
    let k = c.in-Err in
    c.unknown_reply.ensures ∙ ap (unknown_reply c.args.p) k.ensures.0 ∙ unknown-is c.args.p _ c.args.ids.now k.ensures.1
