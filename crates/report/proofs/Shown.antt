-- What an accepted sheet's text shows: no limit means the largest size, and the set after `over` is one that the checker accepts. And the start is never
-- refused, so that what is refused is the sheet. Assumes nothing.
use Prim.Native.Nat.{ℕ, ◌+◌, ◌*◌, ◌-◌, ◌≤◌, ◌<◌}
use mathlib.Core.Path.{◌≡◌, sym, ◌∙◌, subst}
use mathlib.Core.Logic.{inl}
use mathlib.Core.Bool.{false, ◌&&◌}
use mathlib.Core.List.{List}
use native.Mathlib.Omega.{arith}
use lib.Dec.{ltb}
use lib.ListN.{length-replicate, get_or-replicate}
use Rattle.std.specs.Prelude.{is_err}
use Rattle.limits.specs.Limits.{routes, none}
use Rattle.limits.specs.Answer.{accepted}
use Rattle.limits.proofs.Replies.{not-refused}
use Rattle.graphs.specs.Largest.{Largest}
use Rattle.graphs.specs.Pairing.{pairs, paired}
use Rattle.graphs.proofs.Count.{count-le}
use Rattle.rows.specs.Sheet.{order, graph_of}
use Rattle.words.proofs.Bytes.{word-there}
use Rattle.sheet.specs.Reply.{reply_of}
use Rattle.sheet.proofs.Read.{order-most}
use Rattle.causes.specs.Given.{mate_of}
use Rattle.witness.specs.Verdict.{improve_verdict, check_of}
use Rattle.witness.specs.Promise.{Begins}
use Rattle.witness.proofs.Checker.{begins, begins-accepted}
use Rattle.buffers.specs.Held.{size_of, sessions_of}
use Rattle.improve.specs.Choice.{last, witness_by, finished_by, pairing_after, witness_after, size_after}
use Rattle.improve.specs.Promise.{Means}
use Rattle.report.specs.Text.{no_limit, no_pairs, no_members}
use Rattle.improve.proofs.Meaning.{means}
use Rattle.improve.proofs.Calls.{left, left_is, witness-is}

module _ (s p w : List ℕ) (h : is_err (improve_verdict s p w) ≡ false) where
  begun : Begins s p w
  begun = begins s p w (not-refused _ h)

  meant : Means s p (left s p w no_limit) w (witness_by (last s p no_limit) w) no_limit (size_of s (left s p w no_limit) - size_of s p) (size_of s (left s p w no_limit)) (finished_by (last s p no_limit)) (sessions_of s (left s p w no_limit))
  meant = means s p w begun no_limit

  -- no pairing has more pairs than there are routes, so the largest budget is no limit
  largest-most : meant.m ≤ routes
  unfolding pairs
  largest-most = omega (
    arith,
    meant.largest.reached,
    count-le (order s) (λ v. paired (graph_of s) meant.largest.mate v && ltb v (meant.largest.mate v)),
    order-most s begun.accepted,
  )

  start-most : size_of s p ≤ meant.m
  unfolding size_of
  start-most = meant.largest.most (mate_of p) begun.partners.valid

  full : size_of s (left s p w no_limit) ≡ meant.m
  full = omega (arith, meant.reached, largest-most, start-most)

  -- the number after `pairs` is the largest size
  pub size-largest : Largest (graph_of s) (size_after s p w no_limit)
  unfolding size_after
  size-largest = rw (h, left_is s p w no_limit h) (subst (Largest (graph_of s)) (sym full) meant.largest)

  -- the pairs and the set that are written are accepted by the checker
  pub set-shows : check_of s (pairing_after s p w no_limit) (witness_after s p w no_limit) ≡ accepted
  set-shows = rw (left_is s p w no_limit h, witness-is s p w no_limit h) (meant.shown (meant.exactly.1 full))

-- the start is a pairing of any accepted sheet
module _ (s : List ℕ) (ok : reply_of s ≡ accepted) where
  start-partner : (v : ℕ) → v < order s → mate_of (no_pairs s) v ≡ none
  start-partner v h =
      word-there (no_pairs s) v (simp length-replicate (omega arith))
      ∙ simp (
        get_or-replicate {A = ℕ} (4 * order s) (4 * v) 255 0 (omega arith),
        get_or-replicate {A = ℕ} (4 * order s) (4 * v + 1) 255 0 (omega arith),
        get_or-replicate {A = ℕ} (4 * order s) (4 * v + 2) 255 0 (omega arith),
        get_or-replicate {A = ℕ} (4 * order s) (4 * v + 3) 255 0 (omega arith),
      )

  alone : {C : Type 0} (v : ℕ) → v < order s → mate_of (no_pairs s) v < order s → C
  alone v h g = absurd (omega (arith, start-partner v h, order-most s ok))

  pub start-accepted : improve_verdict s (no_pairs s) (no_members s) ≡ accepted
  start-accepted = begins-accepted s (no_pairs s) (no_members s) (record {
    accepted = ok;
    partners = record {
      long = length-replicate (4 * order s) 255;
      partners = λ v h. inl (start-partner v h);
      valid = record { edge = λ v h g. alone v h g; back = λ v h g. alone v h g };
    };
    long = length-replicate (order s) 0;
  })
