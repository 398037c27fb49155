-- `place` meets its contract: the first number that equals x. Assumes nothing.
use mathlib.Core.Path.{ap, ◌∙◌}
use mathlib.Core.Logic.{inl}
use native.Mathlib.Omega.{arith}
use lib.Dec.{eqb}
use Rattle.std.proofs.Common.{rules, tests}
use Rattle.std.proofs.lemmas.Iterator.Search.{position_from_yields_List}
use Rattle.std.proofs.lemmas.Iterator.Consumers.{YieldsList-from_first}
use Rattle.words.specs.Words.{numbers}
use Rattle.words.specs.declared.Numbers.{Numbers}
use Rattle.words.proofs.Bytes.{numbers-length}
use Rattle.rows.proofs.Stretches.{place_in-position}
use Rattle.rows.proofs.place.Goals as goal

pub position-requires-clause-fits : goal.position-requires-clause-fits
position-requires-clause-fits c = inl (rw c.numbers_of.ensures (omega (arith, numbers-length c.args.row.now)))

pub returns : goal.returns
returns c =
    position_from_yields_List (λ w. eqb w c.args.x) c.position.new.self _ _ c.position.ensures.ran
    (YieldsList-from_first (λ x. x) (λ (s : Numbers). numbers s.rest.now) {s = c.numbers_of.result} _ (ap numbers c.numbers_of.ensures))
    (λ w b q h. search (rules, tests))
    ∙ place_in-position _ _
