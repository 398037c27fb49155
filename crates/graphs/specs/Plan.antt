-- A plan: sessions of one route or of two joined routes, in which every route stands. How few can there be? Assumes nothing.
use Rattle.std.specs.Prelude.{◌≡◌, Bool, true, false, ◌&&◌, ◌||◌, List, [], ◌∷◌, ℕ, ◌<◌, eqb, ltb}
use Rattle.graphs.specs.Graph.{Graph, joined}

-- one route alone, or two routes together
pub data Session : Type 0 where
  alone : ℕ → Session
  both : ℕ → ℕ → Session

-- a session may be held: what stands in it are routes, and two routes are joined
unfoldable pub may_hold : Graph → Session → Bool
may_hold g (alone v) = ltb v g.order
may_hold g (both v w) = ltb v g.order && ltb w g.order && joined g v w

-- each session of the list may be held
unfoldable pub may_hold_all : Graph → List Session → Bool
may_hold_all g [] = true
may_hold_all g (s ∷ ss) = may_hold g s && may_hold_all g ss

-- v stands in the session
unfoldable pub stands_in : Session → ℕ → Bool
stands_in (alone a) v = eqb v a
stands_in (both a b) v = eqb v a || eqb v b

-- v stands in some session of the list
unfoldable pub stands : List Session → ℕ → Bool
stands [] v = false
stands (s ∷ ss) v = stands_in s v || stands ss v

-- each session may be held, and every route stands at least once
pub record Plan (g : Graph) (ss : List Session) : Type 0 where
  pub held : may_hold_all g ss ≡ true
  pub every : (v : ℕ) → v < g.order → stands ss v ≡ true
