-- The surplus and the parts, where they are refused and where they are not. Assumes nothing.
use Prim.Native.Nat.{ℕ, ◌≤◌}
use mathlib.Core.Path.{◌≡◌, refl, sym, ◌∙◌}
use mathlib.Core.Bool.{true, false}
use mathlib.Core.List.{List}
use native.Mathlib.Omega.{arith}
use lib.IntN.{ℤ, pos}
use Rattle.std.specs.Prelude.{Err}
use Rattle.limits.specs.Limits.{routes}
use Rattle.limits.specs.Answer.{accepted}
use Rattle.graphs.proofs.Count.{clash}
use Rattle.words.specs.Words.{bytes_to}
use Rattle.rows.specs.Sheet.{order, graph_of}
use Rattle.causes.specs.Given.{set_of}
use Rattle.weights.specs.Weight.{Weighs, part_name}
use Rattle.weights.proofs.Weights.{odd-most, size-most, surplus-by}
use Rattle.verdicts.specs.declared.Refusal.{Refusal}
use Rattle.witness.specs.Verdict.{surplus_verdict, surplus_of, parts_verdict, odd_of, members_of, parts_bytes}
use Rattle.witness.specs.Promise.{Surplus, Parted}
use Rattle.witness.proofs.Checker.{passed-surplus}
use lib.IntN.{sub_ℕ}

module _ (s witness : List ℕ) where
  pub surplus-refused : (e : Refusal) → Err e ≡ surplus_verdict s witness → Surplus s witness (Err e) 0 0 (pos 0)
  unfolding surplus_of
  surplus-refused e h = record {
    is = h;
    surplus = rw (← h);
    counts = rw (← h);
    weighed = λ k. clash true refl k;
    unweighed = λ _. (refl, refl);
    odd-small = omega arith;
    size_small = omega arith;
  }

  -- both counts are at most the limit
  pub counts-most : accepted ≡ surplus_verdict s witness → (odd size : ℕ) → Weighs (graph_of s) (set_of witness) odd size → (odd ≤ routes) × (size ≤ routes)
  counts-most h odd size w = let ok = (passed-surplus s witness (sym h)).0 in (odd-most s witness ok odd size w, size-most s witness ok odd size w)

  pub surplus-given : accepted ≡ surplus_verdict s witness → (odd size : ℕ) (z : ℤ) → Weighs (graph_of s) (set_of witness) odd size → z ≡ sub_ℕ odd size
      → Surplus s witness accepted odd size z
  unfolding surplus_of
  surplus-given h odd size z w e =
      let ok = (passed-surplus s witness (sym h)).0 in
      let counts : sub_ℕ odd size ≡ surplus_of s witness = rw (← h) (surplus-by s witness ok odd size w) in
      record {
        is = h;
        surplus = e ∙ counts;
        counts = counts;
        weighed = λ _. w;
        unweighed = λ k. clash false k refl;
        odd-small = (counts-most h odd size w).0;
        size_small = (counts-most h odd size w).1;
      }

module _ (s witness before : List ℕ) where
  pub parts-refused : (e : Refusal) → Err e ≡ parts_verdict s witness before → Parted s witness before before (Err e) 0 0
  unfolding odd_of members_of parts_bytes
  parts-refused e h = record { is = h; odd-parts = rw (← h); members = rw (← h); written = rw (← h) }

  pub parts-given : accepted ≡ parts_verdict s witness before → (after : List ℕ) (odd size : ℕ) → Weighs (graph_of s) (set_of witness) odd size
      → after ≡ bytes_to (part_name (graph_of s) (set_of witness)) (order s) → Parted s witness before after accepted odd size
  unfolding odd_of members_of parts_bytes
  parts-given h after odd size w b = record { is = h; odd-parts = rw (← h) w.parts; members = rw (← h) w.members; written = rw (← h) b }
