-- The operations by their codes.
use Rattle.std.specs.Prelude.{ℕ, ◌≡◌, ◌<◌, Result, MatchResult}
use Rattle.asked.specs.declared.Kind.{Kind}
use Rattle.asked.specs.declared.Kind.TheVariants.{Order, HasNode, Pair, Edges, Augment, Mate}
use Rattle.asked.specs.declared.UnknownCode.{UnknownCode}

-- the code of each operation
abbrev pub code_of : Kind → ℕ
code_of Order = 0
code_of HasNode = 1
code_of Pair = 2
code_of Edges = 3
code_of Augment = 4
code_of Mate = 5

-- the operation with this code, or the code, where it names none
abbrev pub Decodes : ℕ → Result Kind UnknownCode → Type 0
Decodes code r = MatchResult r (λ kind. code_of kind ≡ code) (λ e. (e.0 ≡ code) × (5 < code))
