-- When the reply to a path accepts, and what follows: a path that can be paired. Assumes nothing.
use Prim.Native.Nat.{ℕ, ◌+◌, ◌*◌, ◌/◌, ◌%◌, ◌<◌}
use mathlib.Core.Path.{◌≡◌, refl, ap}
use mathlib.Core.Bool.{true}
use mathlib.Core.List.{List}
use native.Mathlib.Omega.{arith}
use Rattle.std.specs.Prelude.{is_err}
use lib.ListN.{length}
use lib.Dec.{eqb, ltb, leb}
use borrow.Author.Tests.{eqb-true, eqb-false, ne_eqb, ltb-true, ltb-false, leb-false, lt-leb}
use Rattle.limits.specs.Limits.{routes}
use Rattle.graphs.proofs.Count.{cases, clash, least_first, least-passes}
use Rattle.mates.specs.Partners.{id_at, Pairable}
use Rattle.limits.specs.Answer.{accepted}
use Rattle.paths.specs.Paths.{unknown, self_pair, path_reply}

-- none of 13, 14 and 15 is given to a path
pub path-accepted : (path : List ℕ) → path_reply path ≡ accepted → Pairable path
unfolding path_reply unknown self_pair
path-accepted path h = cases (eqb (length path % 2) 1)
    (λ t. clash true refl (ap is_err (rw t at h)))
    (λ t. cases (ltb (unknown path) (length path))
    (λ u. clash true refl (ap is_err (rw (t, u) at h)))
    (λ u. cases (ltb (self_pair path) (length path / 2))
    (λ v. clash true refl (ap is_err (rw (t, u, v) at h)))
    (λ v. record {
      even = omega (arith, eqb-false (length path % 2) 1 t);
      ids = λ k l. leb-false routes (id_at path k) (least_first (length path) (λ j. leb routes (id_at path j)) k (omega (arith, ltb-false (unknown path) (length path) u)));
      no_self = λ k l. eqb-false (id_at path (2 * k)) (id_at path (2 * k + 1))
          (least_first (length path / 2) (λ j. eqb (id_at path (2 * j)) (id_at path (2 * j + 1))) k (omega (arith, ltb-false (self_pair path) (length path / 2) v)));
    })))

pub accepted-path : (path : List ℕ) → Pairable path → path_reply path ≡ accepted
unfolding path_reply unknown self_pair
accepted-path path p = cases (ltb (unknown path) (length path))
    (λ u.
    let l : unknown path < length path = ltb-true (unknown path) (length path) u in
    clash (leb routes (id_at path (unknown path))) (least-passes (length path) (λ j. leb routes (id_at path j)) l) (lt-leb routes (id_at path (unknown path)) (p.ids (unknown path) l)))
    (λ u. cases (ltb (self_pair path) (length path / 2))
    (λ v.
    let k : ℕ = self_pair path in
    let l : self_pair path < length path / 2 = ltb-true (self_pair path) (length path / 2) v in
    absurd (p.no_self k l (eqb-true (id_at path (2 * k)) (id_at path (2 * k + 1)) (least-passes (length path / 2) (λ j. eqb (id_at path (2 * j)) (id_at path (2 * j + 1))) l))))
    (λ v. rw (ne_eqb (length path % 2) 1 (λ e. omega (arith, p.even)), u, v) refl))
