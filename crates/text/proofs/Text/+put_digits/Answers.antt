-- `put_digits` meets its contract: no digits, or all but the last, if there are any, and then the last. Assumes nothing.
use Prim.Native.Nat.{◌-◌, ◌/◌}
use mathlib.Core.Path.{◌∙◌, ap}
use mathlib.Core.List.{[], ◌∷◌}
use Rattle.text.specs.Put.{followed_by}
use Rattle.text.specs.Digits.{digits_in}
use Rattle.text.proofs.Putting.{nothing, then, digits-none, digits-one, digits_more}
use Rattle.text.proofs.Text.+put_digits.Goals as goal
use Rattle.text.proofs.Text.+put_digits.Goals.{then-x-ge10, else-x-ge10}

pub returns-then-most-eq0 : goal.returns-then-most-eq0
returns-then-most-eq0 t c = nothing c.args.self.now ∙ ap (followed_by c.args.self.now) (digits-none _ c.args.x c.if-most-eq0.true)

pub returns : goal.returns
returns t c =
    let a = c.args in
    elim c.if-x-ge10.branch [
      | then-x-ge10 w ↦
          let both = then a.self.now (digits_in (a.most - 1) (a.x / 10)) (c.glyph.result ∷ []) in
          let all = digits_more _ _ _ c.if-most-eq0.false w.if-x-ge10.true c.glyph.ensures in
          cc
      | else-x-ge10 w ↦
          let all = digits-one _ _ _ c.if-most-eq0.false w.if-x-ge10.false c.glyph.ensures in
          cc
    ]
