-- A list of numbers each of which is linked to the next; a closed one may start at any of its numbers. Assumes nothing.
use mathlib.Core.Path.{◌≡◌, ap}
use Prim.Native.Nat.{ℕ, ◌+◌, ◌<◌}
use native.Mathlib.Omega.{arith}
use mathlib.Core.List.{List, [], ◌∷◌, ◌++◌}
use Rattle.graphs.proofs.Sets.{is, is-self, Is, same, other, is?, cnt}

-- a is linked to the first of l, each of l to the next, and the last of l to b
abbrev pub Chain : (ℕ → ℕ → Type 0) → ℕ → List ℕ → ℕ → Type 0
Chain K a [] b = K a b
Chain K a (c ∷ l) b = K a c × Chain K c l b

module _ (K : ℕ → ℕ → Type 0) where
  pub chain-split : (a : ℕ) (l : List ℕ) (c : ℕ) (r : List ℕ) (b : ℕ) → Chain K a (l ++ c ∷ r) b → Chain K a l c × Chain K c r b
  chain-split a [] c r b h = h
  chain-split a (d ∷ l) c r b h = let t = chain-split d l c r b h.1 in ((h.0, t.0), t.1)

  pub chain-join : (a : ℕ) (l : List ℕ) (c : ℕ) (r : List ℕ) (b : ℕ) → Chain K a l c → Chain K c r b → Chain K a (l ++ c ∷ r) b
  chain-join a [] c r b h k = (h, k)
  chain-join a (d ∷ l) c r b h k = (h.0, chain-join d l c r b h.1 k)

  pub chain-rotate : (g : ℕ) (l : List ℕ) (c : ℕ) (r : List ℕ) → Chain K g (l ++ c ∷ r) g → Chain K c (r ++ g ∷ l) c
  chain-rotate g l c r h = let t = chain-split g l c r g h in chain-join c r g l c t.1 t.0

-- other links from the numbers of the chain, to the numbers of the chain
pub chain-map : (K J : ℕ → ℕ → Type 0) (a : ℕ) (l : List ℕ) (b : ℕ) → ((c d : ℕ) → 0 < is a c + cnt l c → 0 < is b d + cnt l d → K c d → J c d) → Chain K a l b → Chain J a l b
chain-map K J a [] b f h = f a b (omega (arith, is-self a)) (omega (arith, is-self b)) h
chain-map K J a (c ∷ l) b f h =
    (f a c (omega (arith, is-self a)) (omega (arith, is-self c)) h.0, chain-map K J c l b (λ d e o p k. f d e (omega arith) (omega arith) k) h.1)

-- where a number of a list stands
pub record Place (l : List ℕ) (d : ℕ) : Type 0 where
  pub front : List ℕ
  pub back : List ℕ
  pub whole : l ≡ front ++ d ∷ back

pub place : (l : List ℕ) (d : ℕ) → 0 < cnt l d → Place l d
place [] d h = absurd (omega arith)
place (c ∷ l) d h = go (is? c d) (λ o. place l d o)
  where
    go : Is c d → (0 < cnt l d → Place l d) → Place (c ∷ l) d
    go (same e i) f = record { front = []; back = l; whole = ap (λ (z : ℕ). z ∷ l) e }
    go (other e i) f = let r = f (omega arith) in record { front = c ∷ r.front; back = r.back; whole = ap (λ (k : List ℕ). c ∷ k) r.whole }
