-- `work` meets its contract: what is loaded, searched and saved is the choice. Assumes nothing.
use mathlib.Core.Path.{sym, ap, ◌∙◌}
use Prim.Native.Nat.{ℕ, ◌*◌}
use Rattle.improve.proofs.Working.{saved, marks-saved, finished-one, marks-kept, finished-none}
use Rattle.improve.proofs.work.Goals as goal

pub save-requires : goal.save-requires
save-requires c = c.requires.partners.long ∙ ap (λ (k : ℕ). 4 * k) (sym c.order-n.ensures)

pub save_marks-requires : goal.save_marks-requires
save_marks-requires c = c.requires.long ∙ sym c.order-n.ensures

pub returns-then-finished : goal.returns-then-finished
returns-then-finished c = (
  saved _ _ _ c.requires _ _ _ _ _ _ c.order-n.ensures c.load-p.ensures c.climb-finished.ensures _ c.save.ensures,
  marks-saved _ _ _ c.requires _ _ _ _ _ _ c.order-n.ensures c.load-p.ensures c.climb-finished.ensures _ c.if-finished.true c.save_marks.ensures,
  finished-one _ _ _ c.requires _ _ _ _ _ _ c.order-n.ensures c.load-p.ensures c.climb-finished.ensures c.if-finished.true,
)

pub returns-else-finished : goal.returns-else-finished
returns-else-finished c = (
  saved _ _ _ c.requires _ _ _ _ _ _ c.order-n.ensures c.load-p.ensures c.climb-finished.ensures _ c.save.ensures,
  marks-kept _ _ _ c.requires _ _ _ _ _ _ c.order-n.ensures c.load-p.ensures c.climb-finished.ensures c.if-finished.false,
  finished-none _ _ _ c.requires _ _ _ _ _ _ c.order-n.ensures c.load-p.ensures c.climb-finished.ensures c.if-finished.false,
)
