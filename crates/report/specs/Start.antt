-- The bytes that the code begins with: the start for as many routes as there may be.
use Rattle.std.specs.Prelude.{ℕ, ◌*◌, List, replicate}
use Rattle.limits.specs.Limits.{routes}

-- no partner for any route
unfoldable pub unpaired_start : List ℕ
unpaired_start = replicate (4 * routes) 255

-- no route in the set
unfoldable pub empty_set : List ℕ
empty_set = replicate routes 0
