-- The pairs that an edge between two trees brings. A group is exposed at one of its routes x: pairs match every other route of it, and x is free for a
-- pair with a route outside. From each end of the edge a walk goes up to its root, and exposes each group where it came into it. Assumes nothing.
use Rattle.std.specs.Prelude.{cond, List, ℕ, zero, suc, eqb}
use Rattle.theory.specs.Search.Tables.{groups, cell, store, Rings, Tables}

-- a and b become partners
unfoldable pub pair_up : ℕ → List ℕ → ℕ → ℕ → List ℕ
pair_up room m a b = store room (store room m a b) b a

-- j couples round a ring, from the group a on: the edge from a to the next is a pair, and e exposes both at its ends
unfoldable pub couples : ℕ → (ℕ → ℕ → List ℕ → List ℕ) → Rings → ℕ → ℕ → List ℕ → List ℕ
couples room e r zero a m = m
couples room e r (suc j) a m =
    let d = cell (groups room) r.next a in
    let x = cell (groups room) r.out a in
    let y = cell (groups room) r.into a in
    couples room e r j (cell (groups room) r.next d) (e d y (e a x (pair_up room m x y)))

-- from the group c, which is exposed, by at most j rings up to the group g: in each ring the others are coupled
unfoldable pub lift : ℕ → (ℕ → ℕ → List ℕ → List ℕ) → Rings → List ℕ → ℕ → ℕ → ℕ → List ℕ → List ℕ
lift room e r half zero c g m = m
lift room e r half (suc j) c g m =
    let b = cell (groups room) r.up c in
    let n = lift room e r half j b g (couples room e r (cell (groups room) half b) (cell (groups room) r.next c) m) in
    cond (eqb c g) m n

-- the group g is exposed at its route x; f is above every group's number
unfoldable pub expose : ℕ → Rings → List ℕ → ℕ → ℕ → ℕ → List ℕ → List ℕ
expose room r half zero g x m = m
expose room r half (suc f) g x m = lift room (expose room r half f) r half f x g m

-- from p up to its root, by at most f steps: p's group is exposed at p, and the partner i of its base is paired with i's parent q
unfoldable pub raise : ℕ → Tables → ℕ → ℕ → List ℕ → List ℕ
raise room s zero p m = m
raise room s (suc f) p m =
    let g = cell room s.top p in
    let b = cell (groups room) s.base g in
    let i = cell room s.mate b in
    let q = cell room s.parent i in
    let e = expose room s.rings s.half s.ids g p m in
    let n = raise room s f q (pair_up room e i q) in
    cond (eqb i b) e n

-- the partners after the search: the ends of the edge that was found, and both walks; there are fewer steps than groups
unfoldable pub augmented : ℕ → Tables → List ℕ
augmented room s = raise room s (groups room) s.two (raise room s (groups room) s.one (pair_up room s.mate s.one s.two))
