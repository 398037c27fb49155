-- `size` meets its contract: of an accepted sheet, half the entry total is the number of edges. Assumes nothing.
use mathlib.Core.Path.{◌≡◌, ap, ◌∙◌}
use Prim.Native.Nat.{ℕ, ◌+◌, ◌/◌}
use Rattle.words.specs.Words.{word}
use Rattle.rows.specs.Sheet.{total}
use Rattle.sheet.proofs.Read.{size-edges}
use Rattle.sheet.proofs.size.Goals as goal

pub returns : goal.returns
returns c =
    let s = c.args.s.now in
    let half : c.word_at.result / 2 ≡ total s / 2
    = ap (λ (x : ℕ). x / 2) (c.word_at.ensures ∙ ap (λ (n : ℕ). word s (n + 1)) c.word_at-n.ensures) in
    record { half = half; of-edges = λ ok. half ∙ size-edges s ok }
