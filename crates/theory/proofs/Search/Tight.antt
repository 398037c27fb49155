-- A closed forest makes the bound tight: its inner routes have as much surplus as there are unpaired routes. The outer routes with one base are a union of parts,
-- odd in number, so one of these parts is odd; and each unpaired route, and each inner route's partner, is a base. Assumes nothing.
use mathlib.Core.Path.{◌≡◌, sym, ap, ◌∙◌}
use mathlib.Core.Logic.{◌≢◌}
use mathlib.Core.Bool.{Bool, true, false, not, cond, ◌&&◌, ◌||◌}
use Prim.Native.Nat.{ℕ, ◌+◌, ◌%◌, ◌≤◌, ◌<◌}
use native.Mathlib.Omega.{arith}
use lib.Dec.{eqb, ltb}
use lib.IntN.{pos}
use borrow.Author.Tests.{ltb-true, ltb-false, lt-ltb}
use Rattle.graphs.specs.Count.{count, but, least}
use Rattle.graphs.proofs.Count.{cases, clash, tests, same_test, count-inj, count-or, count-cong, count_none, count-remove, count-paired, count-classes, least_first, least-passes}
use Rattle.graphs.specs.Graph.{Graph, Simple, joined}
use Rattle.graphs.specs.Parts.{parts, root}
use Rattle.graphs.proofs.Parts.{root-le, root-root, root-test}
use Rattle.graphs.specs.Surplus.{is_odd, in_part, odd_root, odd_parts, surplus}
use Rattle.graphs.specs.Pairing.{Pairing, paired, unpaired}
use Rattle.graphs.proofs.Pairing.{mate-moves, mate-inj}
use Rattle.graphs.proofs.Bound.{bound, pos-sub}

-- what a search that found no path leaves: each route is outer, inner or neither, and each outer route has a base
pub record Closed (g : Graph) (mate : ℕ → ℕ) (outer inner : ℕ → Bool) (base : ℕ → ℕ) : Type 0 where
  -- no route is both outer and inner
  pub apart : (v : ℕ) → v < g.order → outer v ≡ true → inner v ≡ false
  -- an unpaired route is outer, and a base
  pub free-outer : (v : ℕ) → v < g.order → paired g mate v ≡ false → outer v ≡ true
  pub free-base : (v : ℕ) → v < g.order → paired g mate v ≡ false → base v ≡ v
  -- an inner route's partner is outer, and a base
  pub inner-outer : (v : ℕ) → v < g.order → inner v ≡ true → outer (mate v) ≡ true
  pub inner-base : (v : ℕ) → v < g.order → inner v ≡ true → base (mate v) ≡ mate v
  -- an outer route that is no base is paired with one of the same base, and not with the base itself
  pub within : (v : ℕ) → v < g.order → outer v ≡ true → base v ≢ v → (outer (mate v) ≡ true) × (base (mate v) ≡ base v) × (base v ≢ mate v)
  -- a neighbour of an outer route is inner, or outer with the same base
  pub closed : (v w : ℕ) → v < g.order → outer v ≡ true → joined g v w ≡ true → inner w ≡ false → (outer w ≡ true) × (base w ≡ base v)

module _ (g : Graph) (mate : ℕ → ℕ) (s : Simple g) (p : Pairing g mate) (outer inner : ℕ → Bool) (base : ℕ → ℕ) (f : Closed g mate outer inner base) where
  -- the outer routes with base b
  under : ℕ → ℕ → Bool
  under b v = outer v && eqb (base v) b

  under-is : (b v : ℕ) → under b v ≡ true → (outer v ≡ true) × (base v ≡ b)
  unfolding under
  under-is b v h = simp tests at h

  is-under : (b v : ℕ) → outer v ≡ true → base v ≡ b → under b v ≡ true
  unfolding under
  is-under b v o e = simp tests (o, e)

  -- a base: an outer route that is its own
  is_base : ℕ → Bool
  is_base b = under b b

  paired-of : (v : ℕ) → v < g.order → (paired g mate v ≡ false → ⊥) → mate v < g.order
  paired-of v l h = cases (paired g mate v) (λ t. ltb-true (mate v) g.order t) (λ t. absurd (h t))

  -- the routes under a base are a union of parts
  under-root : (b v : ℕ) → v < g.order → under b (root g inner v) ≡ under b v
  under-root b = root-test g inner s (under b) (λ v w l j a c. same_test (under b v) (under b w)
      (λ h. let k = f.closed v w l (under-is b v h).0 j c in is-under b w k.0 (k.1 ∙ (under-is b v h).1))
      (λ h. let k = f.closed w v (s.below v w l j) (under-is b w h).0 (s.both_ways v w l j) a in is-under b v k.0 (k.1 ∙ (under-is b w h).1)))

  -- and odd in number: the base, and pairs
  under-odd : (b : ℕ) → b < g.order → is_base b ≡ true → count g.order (under b) % 2 ≡ 1
  unfolding is_base
  under-odd b lb hb =
      let n : ℕ = g.order in
      let rest : ℕ → Bool = λ v. but (under b v) (eqb v b) in
      let is : (v : ℕ) → rest v ≡ true → (outer v ≡ true) × (base v ≡ b) × (base v ≢ v)
      = λ v q. let h : (under b v ≡ true) × (v ≢ b) = simp tests at q in let u = under-is b v h.0 in (u.0, u.1, λ e. h.1 (cc)) in
      let mated : (v : ℕ) → v < n → rest v ≡ true → mate v < n = λ v l q. paired-of v l (λ t. (is v q).2 (f.free-base v l t)) in
      let even : count n rest % 2 ≡ 0 = count-paired n rest mate
      (λ v l q. mated v l q)
      (λ v l q. let h = is v q in let k = f.within v l h.0 h.2 in simp tests (is-under b (mate v) k.0 (k.1 ∙ h.1), λ x. k.2 (cc)))
      (λ v l q. p.back v l (mated v l q))
      (λ v l q. mate-moves g mate s p v l (mated v l q)) in
      omega (arith, count-remove n (under b) b lb hb)

  odd_one : ℕ → Bool
  odd_one r = odd_root g.order (parts g inner) inner r

  -- if no root under b had an odd part, the routes under b would be even in number
  class-even : (b r : ℕ) → r < g.order → under b r && odd_one r ≡ false → count g.order (λ v. under b v && eqb (root g inner v) r) % 2 ≡ 0
  unfolding odd_one
  class-even b r l none =
      let n : ℕ = g.order in
      let c : ℕ → ℕ = root g inner in
      let up : (v : ℕ) → v < n → c v ≡ r → under b v ≡ under b r = λ v k e. sym (under-root b v k) ∙ ap (under b) e in
      cases (under b r && eqb (c r) r)
      (λ h.
      let u : (under b r ≡ true) × (c r ≡ r) = simp tests at h in
      let out : (v : ℕ) → v < n → under b v ≡ true → inner v ≡ false = λ v k q. f.apart v k (under-is b v q).0 in
      let same : count n (λ v. under b v && eqb (c v) r) ≡ count n (in_part (parts g inner) inner r)
      = count-cong n (λ v. under b v && eqb (c v) r) (in_part (parts g inner) inner r) (λ v k.
      same_test (under b v && eqb (c v) r) (in_part (parts g inner) inner r v)
      (λ q. let a : (under b v ≡ true) × (c v ≡ r) = simp tests at q in simp tests (a.1, out v k a.0))
      (λ q. let a : (c v ≡ r) × (inner v ≡ false) = simp tests at q in simp tests (up v k a.0 ∙ u.0, a.0))) in
      let root_in : in_part (parts g inner) inner r r ≡ true = simp tests (u.1, out r l u.0) in
      let even : is_odd (count n (in_part (parts g inner) inner r)) ≡ false = rw (u.0, root_in) at none in
      omega (arith, simp tests at even))
      (λ h. rw (count_none n (λ v. under b v && eqb (c v) r) (λ v k. cases (under b v && eqb (c v) r)
      (λ q.
      let a : (under b v ≡ true) × (c v ≡ r) = simp tests at q in
      let own : c r ≡ r = cc (root-root g inner s v k, a.1) in
      clash (under b r && eqb (c r) r) (simp tests (sym (up v k a.1) ∙ a.0, own)) h)
      (λ q. q))))

  under-even : (b : ℕ) → ((r : ℕ) → r < g.order → under b r && odd_one r ≡ false) → count g.order (under b) % 2 ≡ 0
  under-even b none = count-classes g.order (under b) (root g inner) g.order
      (λ v l q. omega (arith, root-le g inner s v l)) (λ r l. class-even b r l (none r l))

  -- the least root under b that has an odd part
  odd_under : ℕ → ℕ
  odd_under b = least g.order (λ r. under b r && odd_one r)

  has-odd : (b : ℕ) → b < g.order → is_base b ≡ true → odd_under b < g.order
  unfolding odd_under
  has-odd b l h = cases (ltb (odd_under b) g.order) (λ t. ltb-true (odd_under b) g.order t)
      (λ t. let e = under-even b (λ r k. least_first g.order (λ x. under b x && odd_one x) r (omega (arith, ltb-false (odd_under b) g.order t))) in
      absurd (omega (arith, under-odd b l h)))

  odd-under-is : (b : ℕ) → b < g.order → is_base b ≡ true → (base (odd_under b) ≡ b) × (odd_one (odd_under b) ≡ true)
  unfolding odd_under
  odd-under-is b l h =
      let k : (under b (odd_under b) ≡ true) × (odd_one (odd_under b) ≡ true) = simp tests at (least-passes g.order (λ r. under b r && odd_one r) (has-odd b l h)) in
      ((under-is b (odd_under b) k.0).1, k.1)

  bases-odd : count g.order is_base ≤ count g.order odd_one
  bases-odd = count-inj g.order g.order is_base odd_one odd_under
      (λ b l h. has-odd b l h)
      (λ b l h. (odd-under-is b l h).1)
      (λ b d l k h q e. cc ((odd-under-is b l h).0, (odd-under-is d k q).0))

  -- an unpaired route is a base, and so is an inner route's partner
  seat : ℕ → ℕ
  seat v = cond (paired g mate v) (mate v) v

  taken : ℕ → Bool
  taken v = not (paired g mate v) || inner v

  taken-cases : {C : Type 0} (v : ℕ) → taken v ≡ true
      → (paired g mate v ≡ false → seat v ≡ v → C) → (inner v ≡ true → mate v < g.order → seat v ≡ mate v → C) → C
  unfolding seat taken
  taken-cases v h k m = cases (paired g mate v)
      (λ t. m (rw t at h) (ltb-true (mate v) g.order t) (rw t))
      (λ t. k t (rw t))

  -- a partner is paired
  not_free : (x y : ℕ) → y < g.order → mate y < g.order → paired g mate x ≡ false → x ≢ mate y
  not_free x y l m t e = let z : mate x ≡ y = cc (p.back y l m) in clash (paired g mate x) (lt-ltb (mate x) g.order (omega arith)) t

  seats : count g.order taken ≤ count g.order is_base
  unfolding is_base
  seats = count-inj g.order g.order taken is_base seat
      (λ v l h. taken-cases v h (λ t e. omega arith) (λ i m e. omega arith))
      (λ v l h. taken-cases v h
      (λ t e. rw e (is-under v v (f.free-outer v l t) (f.free-base v l t)))
      (λ i m e. rw e (is-under (mate v) (mate v) (f.inner-outer v l i) (f.inner-base v l i))))
      (λ v w l k h q e. taken-cases v h
      (λ t a. taken-cases w q (λ t' b. cc) (λ i m b. absurd (not_free v w k m t (cc))))
      (λ i m a. taken-cases w q (λ t' b. absurd (not_free w v l m t' (cc))) (λ i' m' b. mate-inj g mate s p v w l k m m' (cc))))

  pub tight : unpaired g mate + count g.order inner ≤ odd_parts g inner
  unfolding unpaired odd_parts taken odd_one
  tight = omega (
    arith,
    seats,
    bases-odd,
    count-or g.order (λ v. not (paired g mate v)) inner
        (λ v l. cases (paired g mate v) (λ t. rw t) (λ t. rw (t, f.apart v l (f.free-outer v l t)))),
  )

  pub tight-surplus : surplus g inner ≡ pos (unpaired g mate)
  unfolding surplus
  tight-surplus = pos-sub (odd_parts g inner) (count g.order inner) (unpaired g mate) (omega (arith, tight, bound g mate s p inner))
