-- The Tutte-Berge bound: no pairing leaves fewer routes unpaired than the surplus of any set. An odd part has a route that is unpaired or whose
-- partner is in the set, and two odd parts never share it. Assumes nothing.
use mathlib.Core.Path.{◌≡◌, refl, sym, ap, ap₂, ◌∙◌}
use mathlib.Core.Bool.{Bool, true, false, not, ◌&&◌, ◌||◌}
use mathlib.Core.List.{List}
use Prim.Native.Nat.{ℕ, zero, suc, ◌+◌, ◌-◌, ◌%◌, ◌≤◌, ◌<◌}
use native.Mathlib.Omega.{arith}
use lib.Dec.{eqb, ltb, le→leb}
use lib.IntN.{pos, sub_ℕ, neg_ℤ}
use lib.Signed.{◌≤ℤ◌, le_z_yes}
use borrow.Author.Tests.{ltb-true, ltb-false, le-ltb, lt-ltb}
use Rattle.graphs.specs.Count.{count, but, least}
use Rattle.graphs.specs.Graph.{Graph, Simple, joined}
use Rattle.graphs.specs.Parts.{parts, root}
use Rattle.graphs.specs.Surplus.{is_odd, in_part, odd_root, odd_parts, surplus}
use Rattle.graphs.specs.Pairing.{Pairing, paired, unpaired, pairs}
use Rattle.graphs.proofs.Count.{cases, clash, tests, count-mono, count-inj, count-split, count-paired, count-cong, count-not, least_first, least-passes}
use Rattle.graphs.proofs.Parts.{root-joined, root-same}
use Rattle.graphs.proofs.Pairing.{mate-moves, mate-inj, pairs-unpaired}

-- v is unpaired, or its partner is in the set
abbrev leaves : Graph → (ℕ → ℕ) → (ℕ → Bool) → ℕ → Bool
leaves g mate A v = not (paired g mate v) || A (mate v)

stays : (g : Graph) (mate : ℕ → ℕ) (A : ℕ → Bool) (v : ℕ) → leaves g mate A v ≡ false → (mate v < g.order) × (A (mate v) ≡ false)
stays g mate A v h = cases (paired g mate v)
    (λ p. (ltb-true (mate v) g.order p, rw p at h))
    (λ p. clash true refl (rw p at h))

module _ (g : Graph) (mate : ℕ → ℕ) (s : Simple g) (p : Pairing g mate) (A : ℕ → Bool) where
  part : ℕ → ℕ → Bool
  part r v = in_part (parts g A) A r v

  part-is : (r v : ℕ) → part r v ≡ true → (root g A v ≡ r) × (A v ≡ false)
  unfolding part
  part-is r v h = simp tests at h

  -- a part that no pair leaves, and in which each route is paired, has an even number
  even-part : (r : ℕ) → ((v : ℕ) → v < g.order → part r v ≡ true → leaves g mate A v ≡ false) → count g.order (part r) % 2 ≡ 0
  unfolding part
  even-part r h =
      let in-it : (v : ℕ) → v < g.order → part r v ≡ true → (mate v < g.order) × (A (mate v) ≡ false) = λ v l q. stays g mate A v (h v l q) in
      count-paired g.order (part r) mate
      (λ v l q. (in-it v l q).0)
      (λ v l q. let k = in-it v l q in let m = part-is r v q in
      simp tests (sym (root-joined g A s v (mate v) l (p.edge v l k.0) m.1 k.1) ∙ m.0, k.1))
      (λ v l q. p.back v l (in-it v l q).0)
      (λ v l q. mate-moves g mate s p v l (in-it v l q).0)

  -- the least route of r's part that is unpaired or whose pair leaves the part
  way_out : ℕ → ℕ
  way_out r = least g.order (λ v. part r v && leaves g mate A v)

  odd-has-one : (r : ℕ) → odd_root g.order (parts g A) A r ≡ true → way_out r < g.order
  unfolding way_out part
  odd-has-one r q = cases (ltb (way_out r) g.order) (λ t. ltb-true (way_out r) g.order t) (λ t.
      let e = even-part r (λ v l h. cases (leaves g mate A v)
      (λ k. clash (part r v && leaves g mate A v) (rw (h, k))
      (least_first g.order (λ x. part r x && leaves g mate A x) v (omega (arith, ltb-false (way_out r) g.order t))))
      (λ k. k)) in
      let o = simp tests at q in
      absurd (omega (arith, o.1)))

  way-out-is : (r : ℕ) → odd_root g.order (parts g A) A r ≡ true
      → ((root g A (way_out r) ≡ r) × (A (way_out r) ≡ false)) × (leaves g mate A (way_out r) ≡ true)
  unfolding way_out part
  way-out-is r q = simp tests at (least-passes g.order (λ v. part r v && leaves g mate A v) (odd-has-one r q))

  pub bound : odd_parts g A ≤ unpaired g mate + count g.order A
  unfolding odd_parts unpaired
  bound =
      let n : ℕ = g.order in
      let P : ℕ → Bool = paired g mate in
      let E : ℕ → Bool = λ v. but (leaves g mate A v) (A v) in
      let one : count n (odd_root n (parts g A) A) ≤ count n E = count-inj n n (odd_root n (parts g A) A) E way_out
      (λ r l q. odd-has-one r q)
      (λ r l q. simp tests ((way-out-is r q).1, (way-out-is r q).0.1))
      (λ r t l k q h e. cc ((way-out-is r q).0.0, (way-out-is t h).0.0)) in
      let both : (v : ℕ) → E v && P v ≡ true → ((leaves g mate A v ≡ true) × (A v ≡ false)) × (mate v < n) = λ v q. simp tests at q in
      let two : count n (λ v. E v && P v) ≤ count n A = count-inj n n (λ v. E v && P v) A mate
      (λ v l q. (both v q).1)
      (λ v l q. rw (lt-ltb (mate v) n (both v q).1) at (both v q).0.0)
      (λ v w l k q h. mate-inj g mate s p v w l k (both v q).1 (both w h).1) in
      let three : count n (λ v. but (E v) (P v)) ≤ count n (λ v. not (P v)) = count-mono n (λ v. but (E v) (P v)) (λ v. not (P v))
      (λ v l q. let h = simp tests at q in simp tests h.1) in
      omega (arith, count-split n E P)

-- ---- by the surplus, a signed number

pub sub-pos : (a b u : ℕ) → sub_ℕ a b ≡ pos u → a ≡ u + b
sub-pos a b u e = cases (ltb a b)
    (λ t. let z : ◌≡◌ {A = ℕ} 0 1 = cc in absurd (omega arith))
    (λ t. let z : a - b ≡ u = cc in omega (arith, ltb-false a b t))

pub pos-sub : (a b u : ℕ) → a ≡ u + b → sub_ℕ a b ≡ pos u
pos-sub a b u e = rw (le-ltb a b (omega arith)) (ap pos (omega arith))

-- a pairing that leaves as many unpaired as some set's surplus leaves no more than any other
pub no-fewer : (g : Graph) → Simple g → (mate : ℕ → ℕ) (A : ℕ → Bool) → surplus g A ≡ pos (unpaired g mate)
    → (other : ℕ → ℕ) → Pairing g other → unpaired g mate ≤ unpaired g other
unfolding surplus
no-fewer g s mate A e other p =
    omega (arith, sub-pos (odd_parts g A) (count g.order A) (unpaired g mate) e, bound g other s p A)

-- and so has no fewer pairs
pub no-more-pairs : (g : Graph) → Simple g → (mate : ℕ → ℕ) → Pairing g mate → (A : ℕ → Bool) → surplus g A ≡ pos (unpaired g mate)
    → (other : ℕ → ℕ) → Pairing g other → pairs g other ≤ pairs g mate
no-more-pairs g s mate q A e other p =
    omega (arith, no-fewer g s mate A e other p, pairs-unpaired g mate s q, pairs-unpaired g other s p)

-- ---- the surplus lies between -n and n, and hangs on who is joined and on the set alone

pub odd-fits : (g : Graph) (A : ℕ → Bool) → odd_parts g A + count g.order A ≤ g.order
unfolding odd_parts
odd-fits g A =
    let n : ℕ = g.order in
    let c : List ℕ = parts g A in
    omega (
      arith,
      count-not n A,
      count-mono n (odd_root n c A) (λ v. not (A v)) (λ r l q.
          let h = simp tests at q in simp tests h.0.1),
    )

sub-least : (a b n : ℕ) → b ≤ n → neg_ℤ (pos n) ≤ℤ sub_ℕ a b
sub-least a b zero h = rw (le-ltb a b (omega arith)) (le_z_yes (le→leb 0 (a - b) (omega arith)))
sub-least a b (suc n) h = cases (ltb a b) (λ t. rw t (le_z_yes (le→leb (b - suc a) n (omega arith)))) (λ t. rw t (le_z_yes tt))

sub-most : (a b n : ℕ) → a ≤ n → sub_ℕ a b ≤ℤ pos n
sub-most a b n h = cases (ltb a b) (λ t. rw t (le_z_yes tt)) (λ t. rw t (le_z_yes (le→leb (a - b) n (omega arith))))

module _ (g : Graph) (A : ℕ → Bool) where
  -- odd parts less the size of the set
  pub surplus-is : surplus g A ≡ sub_ℕ (odd_parts g A) (count g.order A)
  unfolding surplus
  surplus-is = refl

  -- from -n
  pub surplus-least : neg_ℤ (pos g.order) ≤ℤ surplus g A
  unfolding surplus
  surplus-least = sub-least (odd_parts g A) (count g.order A) g.order (omega (arith, odd-fits g A))

  -- to n
  pub surplus-most : surplus g A ≤ℤ pos g.order
  unfolding surplus
  surplus-most = sub-most (odd_parts g A) (count g.order A) g.order (omega (arith, odd-fits g A))

pub odd-same : (g h : Graph) (A B : ℕ → Bool) → Simple g → Simple h → g.order ≡ h.order
    → ((v w : ℕ) → v < g.order → joined g v w ≡ joined h v w)
    → ((v : ℕ) → v < g.order → A v ≡ B v)
    → odd_parts g A ≡ odd_parts h B
unfolding odd_parts
odd-same g h A B s t n j o =
    let same : (v : ℕ) → v < g.order → root g A v ≡ root h B v = root-same g h A B s t n j o in
    let member : (r v : ℕ) → v < g.order → in_part (parts g A) A r v ≡ in_part (parts h B) B r v
    = λ r v l. ap₂ (λ (x : ℕ) (y : Bool). but (eqb x r) y) (same v l) (o v l) in
    let size : (r : ℕ) → count g.order (in_part (parts g A) A r) ≡ count g.order (in_part (parts h B) B r)
    = λ r. count-cong g.order (in_part (parts g A) A r) (in_part (parts h B) B r) (λ v l. member r v l) in
    count-cong g.order (odd_root g.order (parts g A) A) (odd_root g.order (parts h B) B)
    (λ r l. ap₂ (λ (x : Bool) (k : ℕ). x && is_odd k) (member r r l) (size r))
    ∙ ap (λ (k : ℕ). count k (odd_root k (parts h B) B)) n
