-- Laws of a list of operations: what comes out in the end, from what the first n of them left. Assumes nothing.
use Prim.Native.Nat.{ℕ, zero, suc, ◌+◌, ◌≤◌, ◌<◌}
use mathlib.Core.Path.{◌≡◌, refl, sym, ap, ◌∙◌}
use mathlib.Core.List.{List, [], ◌∷◌, ◌++◌}
use native.Mathlib.Omega.{arith}
use native.Mathlib.Numerals.{add-one}
use lib.ListN.{length, get_or, drop, drop_of_length-le}
use lib.Seq.{sets, drop-cons}
use lib.Dec.{ltb}
use Rattle.graphs.proofs.Count.{cases}
use Rattle.limits.specs.Limits.{none}
use Rattle.pairing.specs.declared.Pairing.{Pairing}
use Rattle.std.specs.Iterator.{YieldsFirstBy}
use Rattle.std.proofs.lemmas.Iterator.{YieldsList}
use Rattle.std.proofs.lemmas.Iterator.Consumers.{YieldsList-from_first}
use Rattle.lent.specs.Given.{given, left}
use Rattle.lent.specs.declared.Operations.{Operations}
use Rattle.lent.specs.Operations.{Operation, end_of, operations_from, operations}
use Rattle.laid.specs.Answers.{Laid, laid, lay}
use Rattle.laid.proofs.Laying.{lay-append, lay-sets}
use Rattle.drive.specs.Drive.{next_of, said_of, performed, said}

-- there are no more operations than numbers
few-from : (f at : ℕ) (ops : List ℕ) → length (operations_from f at ops) ≤ f
unfolding operations_from
few-from zero at ops = omega arith
few-from (suc f) at ops = cases (ltb at (length ops))
    (λ t. let h = few-from f (end_of (length ops) at (get_or ops (at + 1) none)) ops in rw t (omega arith))
    (λ t. rw t (omega arith))

pub few : (ops : List ℕ) → length (operations ops) ≤ length ops
unfolding operations
few ops = few-from (length ops) 0 ops

-- a loop over the operations of a list goes over all of them
pub come-all : {s t : Operations} (ops : List ℕ) → t ≡ s → left s ≡ operations ops → YieldsList (YieldsFirstBy given left) given t (operations ops)
come-all ops e f = YieldsList-from_first given left (operations ops) (ap left e ∙ f)

-- the pairing and the answers that come out in the end, from what the first n operations left
pub record Leads (os : List Operation) (p₀ : Pairing) (l₀ : Laid) (p : Pairing) (l : Laid) (n : ℕ) : Type 0 where
  pub pairing : performed p (drop n os) ≡ performed p₀ os
  pub answers : lay l (said p (drop n os)) ≡ lay l₀ (said p₀ os)

pub leads-start : (os : List Operation) (p : Pairing) (l : Laid) → Leads os p l p l 0
leads-start os p l = record { pairing = refl; answers = refl }

module _ (os : List Operation) (p₀ : Pairing) (l₀ : Laid) (p : Pairing) (l : Laid) (n : ℕ) (h : Leads os p₀ l₀ p l n) where
  pub leads-next : (o : Operation) (p' : Pairing) (l' : Laid) → n < length os → o ≡ get_or os n o → p' ≡ next_of p o → l' ≡ lay l (said_of p o)
      → Leads os p₀ l₀ p' l' (n + 1)
  unfolding performed said
  leads-next o p' l' b g e f =
      let some : drop n os ≡ o ∷ drop (n + 1) os = drop-cons os n o b ∙ rw (← g, add-one) refl in
      let one : performed (next_of p o) (drop (n + 1) os) ≡ performed p₀ os = rw some at h.pairing in
      let two : lay l (said_of p o ++ said (next_of p o) (drop (n + 1) os)) ≡ lay l₀ (said p₀ os) = rw some at h.answers in
      record {
        pairing = rw e one;
        answers = rw (e, f) (sym (lay-append l (said_of p o) (said (next_of p o) (drop (n + 1) os))) ∙ two);
      }

  pub leads-end : n ≡ length os → (p ≡ performed p₀ os) × (l ≡ lay l₀ (said p₀ os))
  unfolding performed said lay
  leads-end b =
      let none_left : drop n os ≡ [] = drop_of_length-le os {i = n} (omega arith) in
      (rw none_left at h.pairing, rw none_left at h.answers)

pub answers-end : (s t : List ℕ) (i j : ℕ) (xs : List ℕ) → laid s i ≡ lay (laid t j) xs → s ≡ sets t j xs
answers-end s t i j xs e = ap (λ (l : Laid). l.numbers) e ∙ lay-sets t j xs
