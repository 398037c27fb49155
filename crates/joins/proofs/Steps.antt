-- What the proofs of the functions cite: the count after a pair, and the loop over a path, part of the way. Assumes nothing.
use Prim.Native.Nat.{ℕ, ◌+◌, ◌*◌, ◌-◌, ◌/◌, ◌≤◌, ◌<◌}
use mathlib.Core.Path.{◌≡◌, sym, ap, ◌∙◌}
use mathlib.Core.Logic.{◌≢◌}
use mathlib.Core.List.{List}
use native.Mathlib.Omega.{arith}
use lib.ListN.{length}
use Rattle.limits.specs.Limits.{routes}
use Rattle.graphs.specs.Count.{bit}
use Rattle.graphs.proofs.Count.{count-le}
use Rattle.mates.specs.Partners.{is_paired, count_of, Sound, freed, paired, id_at, after, augmented}
use Rattle.paths.specs.Paths.{path_reply}
use Rattle.limits.specs.Answer.{accepted}
use Rattle.paths.proofs.Replies.{path-accepted}
use Rattle.mates.proofs.Sound.{paired-count, freed-count, freed-sound}
use Rattle.joins.proofs.Paths.{after_next, after-sound}

pub count_fits : (ps : List ℕ) → count_of ps ≤ routes
unfolding count_of
count_fits ps = count-le routes (is_paired ps)

-- the count after a and b were made partners: r ids were freed with a, and q with b
module _ (ps qs : List ℕ) (n a b r q : ℕ) (s : Sound ps) (e : n ≡ count_of ps) (la : a < routes) (lb : b < routes) (ne : a ≢ b)
    (f : qs ≡ freed ps a) (er : r ≡ 2 * bit (is_paired ps a)) (eq : q ≡ 2 * bit (is_paired qs b)) where
  pub fewer-first : r ≤ n
  fewer-first = omega (arith, freed-count ps s a la)

  second : q ≡ 2 * bit (is_paired (freed ps a) b)
  second = rw f at eq

  pub fewer-second : q ≤ n - r
  fewer-second = omega (arith, second, freed-count ps s a la, freed-count (freed ps a) (freed-sound ps s a la) b lb)

  pub two-joined : n - r - q + 2 ≡ count_of (paired ps a b)
  two-joined = omega (arith, second, fewer-first, fewer-second, paired-count ps s a b ne la lb)

  pub joined-fits : n - r - q + 2 ≤ routes
  joined-fits = omega (arith, two-joined, count_fits (paired ps a b))

-- ---- a path, pair by pair: the first k pairs are made, qs is the list then, and a and b are the ids of pair k

module _ (ps path qs : List ℕ) (k a b : ℕ) (l : k < length path / 2) (e : qs ≡ after k path ps) (ea : a ≡ id_at path (2 * k)) (eb : b ≡ id_at path (2 * k + 1)) where
  pub all-ready : (n : ℕ) → Sound ps → path_reply path ≡ accepted → n ≡ count_of qs → Sound qs × (n ≡ count_of qs) × (a < routes) × (b < routes) × (a ≢ b)
  all-ready n s h c =
      let p = path-accepted path h in
      rw (e, ea, eb) (after-sound ps path s p k (omega arith), rw e at c, p.ids (2 * k) (omega arith), p.ids (2 * k + 1) (omega arith), p.no_self k l)

  pub all-next : (rs : List ℕ) (n : ℕ) → rs ≡ paired qs a b → n ≡ count_of (paired qs a b) → (rs ≡ after (k + 1) path ps) × (n ≡ count_of rs)
  all-next rs n f c = (f ∙ rw (e, ea, eb) (sym (after_next k path ps)), c ∙ ap count_of (sym f))

pub all_end : (ps path qs : List ℕ) (k n : ℕ) → k ≤ length path / 2 → length path / 2 ≤ k → qs ≡ after k path ps → n ≡ count_of qs
    → (qs ≡ augmented ps path) × (n ≡ count_of (augmented ps path))
unfolding augmented
all_end ps path qs k n h l e c =
    let z : k ≡ length path / 2 = omega arith in
    (rw z at e, c ∙ ap count_of (rw z at e))
