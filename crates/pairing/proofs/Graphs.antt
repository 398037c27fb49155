-- A list of partners that is a pairing of a graph stays one, where the new pairs are edges. Assumes nothing.
use Prim.Native.Nat.{ℕ, zero, suc, ◌+◌, ◌*◌, ◌/◌, ◌≤◌, ◌<◌}
use mathlib.Core.Path.{◌≡◌, refl, ap, ◌∙◌}
use mathlib.Core.Logic.{◌≢◌}
use mathlib.Core.Bool.{Bool, true, false, ◌&&◌}
use mathlib.Core.List.{List}
use native.Mathlib.Omega.{arith}
use lib.ListN.{length}
use lib.Dec.{ltb}
use borrow.Author.Tests.{ltb-true, ltb-false, lt-ltb}
use Rattle.limits.specs.Limits.{routes, none}
use Rattle.graphs.specs.Graph.{Graph, Simple, joined}
use Rattle.graphs.specs.Count.{count}
use Rattle.graphs.specs.Pairing.{Pairing, pairs, unpaired, paired as paired-in}
use Rattle.graphs.proofs.Pairing.{mate-moves}
use Rattle.graphs.proofs.Count.{cases, same_test, count-cong, count-not}
use Rattle.mates.specs.Partners.{mate_of, is_paired, count_of, Sound, fresh, is_lower, lowers, paired, id_at, Pairable, after, augmented}
use Rattle.mates.proofs.Sound.{mate-id, mate-back, fresh-mate, paired-sound, paired-cases}
use Rattle.listing.proofs.Pairs.{rising-length, order-twice}
use Rattle.joins.proofs.Paths.{after-sound}

-- ids from k on do not pass: none is counted there
count-above : (k n : ℕ) (P : ℕ → Bool) → k ≤ n → ((v : ℕ) → k ≤ v → P v ≡ false) → count n P ≡ count k P
unfolding count
count-above k zero P l h = let z : k ≡ 0 = omega arith in rw z refl
count-above k (suc n) P l h = cases (ltb k (suc n))
    (λ t. let m : k ≤ n = omega (arith, ltb-true k (suc n) t) in rw (h n m) (omega (arith, count-above k n P m h)))
    (λ t. let z : k ≡ suc n = omega (arith, ltb-false k (suc n) t) in rw z refl)

-- ---- the count, and the pairs and unpaired routes of a graph whose routes alone are paired

module _ (g : Graph) (small : g.order ≤ routes) (ps : List ℕ) (s : Sound ps) (inside : (v : ℕ) → g.order ≤ v → mate_of ps v ≡ none) where
  partner-inside : (v : ℕ) → mate_of ps v < routes → mate_of ps v < g.order
  partner-inside v l = cases (ltb (mate_of ps v) g.order) (ltb-true (mate_of ps v) g.order)
      (λ t. let z = inside (mate_of ps v) (ltb-false (mate_of ps v) g.order t) in absurd (omega (arith, mate-back ps s v l, mate-id ps v l)))

  same-test-inside : (v : ℕ) → is_paired ps v ≡ paired-in g (mate_of ps) v
  same-test-inside v = same_test (is_paired ps v) (paired-in g (mate_of ps) v)
      (λ t. lt-ltb (mate_of ps v) g.order (partner-inside v (ltb-true (mate_of ps v) routes t)))
      (λ t. lt-ltb (mate_of ps v) routes (omega (arith, ltb-true (mate_of ps v) g.order t)))

  outside : (v : ℕ) → g.order ≤ v → is_paired ps v ≡ false
  outside v l = rw (inside v l) refl

  -- the order and the unpaired routes are all routes
  pub order-unpaired : count_of ps + unpaired g (mate_of ps) ≡ g.order
  unfolding count_of unpaired
  order-unpaired = omega (
    arith,
    count-above g.order routes (is_paired ps) small outside,
    count-cong g.order (is_paired ps) (paired-in g (mate_of ps)) (λ v l. same-test-inside v),
    count-not g.order (paired-in g (mate_of ps)),
  )

  -- the lower ids are the pairs that the graph counts, so that the order is twice their number
  pub lowers-pairs : length (lowers ps) ≡ pairs g (mate_of ps)
  unfolding lowers pairs
  lowers-pairs =
      rising-length routes (is_lower ps)
      ∙ count-above g.order routes (is_lower ps) small (λ v l. rw (outside v l) refl)
      ∙ count-cong g.order (is_lower ps) (λ v. paired-in g (mate_of ps) v && ltb v (mate_of ps v)) (λ v l. rw (same-test-inside v) refl)

  pub order-pairs : count_of ps ≡ 2 * pairs g (mate_of ps)
  order-pairs = order-twice ps s ∙ ap (λ (n : ℕ). 2 * n) lowers-pairs

-- a pairing of a simple graph, with none for everyone else, is a sound list
pub valid-sound : (g : Graph) → Simple g → g.order ≤ routes → (ps : List ℕ) → length ps ≡ routes → Pairing g (mate_of ps)
    → ((v : ℕ) → g.order ≤ mate_of ps v → mate_of ps v ≡ none) → ((v : ℕ) → g.order ≤ v → mate_of ps v ≡ none) → Sound ps
valid-sound g simple small ps e p past inside =
    let in_graph : (v : ℕ) → mate_of ps v < routes → (v < g.order) × (mate_of ps v < g.order)
    = λ v l. (
      cases (ltb v g.order) (ltb-true v g.order) (λ t. let z = inside v (ltb-false v g.order t) in absurd (omega arith)),
      cases (ltb (mate_of ps v) g.order) (ltb-true (mate_of ps v) g.order) (λ t. let z = past v (ltb-false (mate_of ps v) g.order t) in absurd (omega arith)),
    ) in
    record {
      places = e;
      none-or-id = λ v lv l. past v (omega arith);
      apart = λ v lv l. let k = in_graph v l in mate-moves g (mate_of ps) simple p v k.0 k.1;
      back = λ v lv l. let k = in_graph v l in p.back v k.0 k.1;
    }

-- ---- a pairing of the graph stays one

-- nobody paired
pub fresh-valid : (g : Graph) → g.order ≤ routes → Pairing g (mate_of fresh)
fresh-valid g small = record {
  edge = λ v lv l. let z = fresh-mate v in absurd (omega arith);
  back = λ v lv l. let z = fresh-mate v in absurd (omega arith);
}

module _ (g : Graph) (small : g.order ≤ routes) where
  pub paired-valid : (ps : List ℕ) → Sound ps → (a b : ℕ) → a ≢ b → a < routes → b < routes → joined g a b ≡ true → joined g b a ≡ true
      → Pairing g (mate_of ps) → Pairing g (mate_of (paired ps a b))
  paired-valid ps s a b ne la lb ab ba v = record {
    edge = λ x lx l. paired-cases ps s a b ne la lb x
        (λ e m. rw (m, e) ab)
        (λ e m. rw (m, e) ba)
        (λ m. absurd (omega arith))
        (λ _ _ _ _ m. rw m (v.edge x lx (rw m at l)));
    back = λ x lx l. (paired-sound ps s a b ne la lb).back x (omega arith) (omega arith);
  }

  -- routes alone stay paired
  pub paired-inside : (ps : List ℕ) → Sound ps → (a b : ℕ) → a ≢ b → a < g.order → b < g.order
      → ((v : ℕ) → g.order ≤ v → mate_of ps v ≡ none) → (v : ℕ) → g.order ≤ v → mate_of (paired ps a b) v ≡ none
  paired-inside ps s a b ne la lb inside v l = paired-cases ps s a b ne (omega arith) (omega arith) v
      (λ e m. absurd (omega arith))
      (λ e m. absurd (omega arith))
      (λ m. m)
      (λ _ _ _ _ m. m ∙ inside v l)

  module _ (ps path : List ℕ) (s : Sound ps) (p : Pairable path) (ids : (k : ℕ) → k < length path → id_at path k < g.order)
      (inside : (v : ℕ) → g.order ≤ v → mate_of ps v ≡ none) where
    after-inside : (k : ℕ) → k ≤ length path / 2 → (v : ℕ) → g.order ≤ v → mate_of (after k path ps) v ≡ none
    unfolding after
    after-inside zero l = inside
    after-inside (suc k) l = paired-inside (after k path ps) (after-sound ps path s p k (omega arith)) (id_at path (2 * k)) (id_at path (2 * k + 1))
        (p.no_self k l) (ids (2 * k) (omega arith)) (ids (2 * k + 1) (omega arith)) (after-inside k (omega arith))

    pub augmented-inside : (v : ℕ) → g.order ≤ v → mate_of (augmented ps path) v ≡ none
    unfolding augmented
    augmented-inside = after-inside (length path / 2) (omega arith)

  module _ (ps path : List ℕ) (s : Sound ps) (p : Pairable path)
      (edges : (k : ℕ) → k < length path / 2 → (joined g (id_at path (2 * k)) (id_at path (2 * k + 1)) ≡ true) × (joined g (id_at path (2 * k + 1)) (id_at path (2 * k)) ≡ true))
      (v : Pairing g (mate_of ps)) where
    after-valid : (k : ℕ) → k ≤ length path / 2 → Pairing g (mate_of (after k path ps))
    unfolding after
    after-valid zero l = v
    after-valid (suc k) l = paired-valid (after k path ps) (after-sound ps path s p k (omega arith)) (id_at path (2 * k)) (id_at path (2 * k + 1))
        (p.no_self k l) (p.ids (2 * k) (omega arith)) (p.ids (2 * k + 1) (omega arith)) (edges k l).0 (edges k l).1 (after-valid k (omega arith))

    pub augmented-valid : Pairing g (mate_of (augmented ps path))
    unfolding augmented
    augmented-valid = after-valid (length path / 2) (omega arith)
