-- The bound by counts. Assumes nothing.
use Prim.Native.Nat.{ℕ, ◌+◌, ◌-◌}
use mathlib.Core.Path.{◌≡◌}
use mathlib.Core.Bool.{Bool}
use native.Mathlib.Omega.{arith}
use lib.Dec.{eqb, ltb}
use lib.IntN.{sub_ℕ}
use borrow.Author.Tests.{eq-eqb, ne_eqb, ltb-true, ltb-false, eqb-true, eqb-false}
use Rattle.graphs.specs.Count.{count}
use Rattle.graphs.specs.Graph.{Graph}
use Rattle.graphs.specs.Surplus.{odd_parts, surplus}
use Rattle.graphs.specs.Pairing.{unpaired}
use Rattle.graphs.proofs.Count.{cases}
use Rattle.std.specs.Prelude.{Err}
use Rattle.limits.specs.Answer.{accepted}
use Rattle.witness.specs.Verdict.{is_count, bound_verdict}
use Rattle.verdicts.specs.declared.Refusal.TheVariants.{NotShown}

-- 12: the bound by counts alone
pub count-sub : (a b u : ℕ) → is_count (sub_ℕ a b) u ≡ eqb a (u + b)
count-sub a b u = cases (ltb a b)
    (λ t. let l = ltb-true a b t in rw (t, ne_eqb a (u + b) (λ e. omega arith)))
    (λ t. let l = ltb-false a b t in
    rw t (cases (eqb a (u + b))
    (λ e. rw (e, eq-eqb (a - b) u (omega (arith, eqb-true a (u + b) e))))
    (λ e. rw (e, ne_eqb (a - b) u (λ k. eqb-false a (u + b) e (omega arith))))))

module _ (g : Graph) (mate : ℕ → ℕ) (A : ℕ → Bool) (odd size free : ℕ) (eo : odd ≡ odd_parts g A) (es : size ≡ count g.order A) (ef : free ≡ unpaired g mate) where
  test : is_count (surplus g A) (unpaired g mate) ≡ eqb odd (free + size)
  unfolding surplus
  test = rw (← eo, ← es, ← ef) (count-sub odd size free)

  pub bound-met : odd ≡ free + size → accepted ≡ bound_verdict g mate A
  unfolding bound_verdict
  bound-met h = rw (test, eq-eqb _ _ h)

  pub bound-unmet : (odd ≡ free + size → ⊥) → Err (NotShown free) ≡ bound_verdict g mate A
  unfolding bound_verdict
  bound-unmet h = rw (test, ne_eqb _ _ h, ← ef)
