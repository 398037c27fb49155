-- `kept` meets its contract: a place below the limit is read, any other is 0. Assumes nothing.
use Prim.Native.Nat.{ℕ}
use mathlib.Core.Path.{◌≡◌, sym}
use mathlib.Core.List.{List}
use native.Mathlib.Omega.{arith}
use lib.Dec.{ltb}
use lib.ListN.{length, get_or, get_or-eq_default}
use borrow.Author.Tests.{ltb-false}
use Rattle.std.specs.Prelude.{Option, Some, None}
use Rattle.std.specs.Option.{option_copied, unwrap_or}
use Rattle.std.specs.Slice.{IsItemAt}
use Rattle.std.proofs.Common.{Bor}
use Rattle.graphs.proofs.Count.{cases}
use Rattle.limits.specs.Limits.{routes}
use Rattle.places.specs.Places.{kept}
use Rattle.places.proofs.kept.Goals as goal

-- a place that is read, or 0 past the end
read : (xs : List ℕ) (i : ℕ) (r : Option (Bor ℕ)) → IsItemAt xs i r → unwrap_or (option_copied r) 0 ≡ get_or xs i 0
read xs i (Some x) h = h.4 (omega arith) 0
read xs i None h = h.4 (omega arith) 0

kept-read : (t : List ℕ) (w : ℕ) → length t ≡ routes → kept t w ≡ get_or t w 0
unfolding kept
kept-read t w e = cases (ltb w routes) (λ l. rw l) (λ l. rw l (sym (get_or-eq_default t 0 (omega (arith, ltb-false _ _ l)))))

pub returns : goal.returns
returns c = rw (kept-read _ _ c.told-t, c.unwrap_or.ensures, c.copied.ensures) (read _ _ _ c.get.ensures.lookup)
