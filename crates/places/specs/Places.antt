-- How the reader works, and nothing that has to be believed: a table of the last place of each id in a row.
use Rattle.std.specs.Prelude.{ℕ, cond, List, get_or, set, replicate, ltb}
use Rattle.limits.specs.Limits.{routes}
use Rattle.words.specs.Words.{over}

-- the place kept for w
unfoldable pub kept : List ℕ → ℕ → ℕ
kept t w = cond (ltb w routes) (get_or t w 0) 0

-- the place of w set to i
unfoldable pub keep : List ℕ → ℕ → ℕ → List ℕ
keep t w i = cond (ltb w routes) (set t w i) t

-- the place of each entry kept in turn, so that the last place of each id stays
unfoldable pub last_places : List ℕ → List ℕ → List ℕ
last_places t ws = over (λ i w u. keep u w i) t 0 ws

-- no place kept
unfoldable pub unkept : List ℕ
unkept = replicate routes 0
