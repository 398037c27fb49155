-- What an operation is answered, by its kind. Assumes nothing.
use Prim.Native.Nat.{ℕ, ◌<◌}
use mathlib.Core.Path.{◌≡◌, refl, ap}
use mathlib.Core.List.{List}
use native.Mathlib.Omega.{arith}
use borrow.Author.Tests.{ne_eqb}
use Rattle.std.specs.Prelude.{⊤, Result, Ok, Err, IsOkAnd, MatchResult}
use Rattle.std.specs.Result.{result_map_both}
use Rattle.mates.specs.Partners.{id_at}
use Rattle.pairing.specs.Answers.{pair_answer, augment_answer, handed}
use Rattle.pairing.specs.declared.Pairing.{Pairing}
use Rattle.refusals.specs.declared.Refusal.{Refusal}
use Rattle.asked.specs.Kinds.{code_of}
use Rattle.asked.specs.Replies.{answer, order_reply, has_node_reply, edges_reply, mate_reply, next_reply, unknown_reply, reply_to}
use Rattle.asked.specs.declared.Kind.{Kind}
use Rattle.asked.specs.declared.Kind.TheVariants.{Order, HasNode, Pair, Edges, Augment, Mate}
use Rattle.asked.specs.declared.Reply.{Reply}

-- what each operation is answered
abbrev pub reply_of : Pairing → Kind → List ℕ → Reply
reply_of p Order ids = order_reply p
reply_of p HasNode ids = has_node_reply p (id_at ids 0)
reply_of p Pair ids = next_reply (pair_answer p (id_at ids 0) (id_at ids 1))
reply_of p Edges ids = edges_reply p
reply_of p Augment ids = next_reply (augment_answer p ids)
reply_of p Mate ids = mate_reply p (id_at ids 0)

pub asked-is : (p : Pairing) (code : ℕ) (ids : List ℕ) (kind : Kind) → code_of kind ≡ code → reply_of p kind ids ≡ reply_to p code ids
unfolding reply_to
asked-is p code ids Order e = rw (← e) refl
asked-is p code ids HasNode e = rw (← e) refl
asked-is p code ids Pair e = rw (← e) refl
asked-is p code ids Edges e = rw (← e) refl
asked-is p code ids Augment e = rw (← e) refl
asked-is p code ids Mate e = rw (← e) refl

pub unknown-is : (p : Pairing) (code : ℕ) (ids : List ℕ) → 5 < code → unknown_reply p code ≡ reply_to p code ids
unfolding reply_to
unknown-is p code ids h =
    rw
    (ne_eqb code 0 (λ e. omega arith), ne_eqb code 1 (λ e. omega arith), ne_eqb code 2 (λ e. omega arith), ne_eqb code 3 (λ e. omega arith), ne_eqb code 4 (λ e. omega arith), ne_eqb code 5 (λ e. omega arith))
    refl

-- an operation in place answers what it would hand on
pub handed-is : {P : ⊤ → ℕ → Type 0} → ((x : ⊤) (y : ℕ) → P x y → y ≡ 0)
    → (r : Result ⊤ Refusal) (s : Result ℕ Refusal) (p : Pairing) → MatchResult r (λ x. IsOkAnd s (P x)) (λ e. s ≡ Err e) → answer s p ≡ next_reply (handed r p)
handed-is k (Ok x) (Ok y) p h = rw (k x y h) refl
handed-is k (Ok x) (Err e) p h = absurd h
handed-is k (Err e) s p h = rw h refl

-- an answer whose value is read by f
pub read-is : {A E : Type 0} (f : A → ℕ) {P : A → ℕ → Type 0} → ((x : A) (y : ℕ) → P x y → y ≡ f x)
    → (r : Result A E) (s : Result ℕ E) → MatchResult r (λ x. IsOkAnd s (P x)) (λ e. s ≡ Err e) → s ≡ result_map_both f (λ e. e) r
read-is f k (Ok x) (Ok y) h = ap Ok (k x y h)
read-is f k (Ok x) (Err e) h = absurd h
read-is f k (Err d) s h = h

-- and one whose value is the answer
pub same-is : {E : Type 0} {P : ℕ → ℕ → Type 0} → ((x y : ℕ) → P x y → y ≡ x)
    → (r s : Result ℕ E) → MatchResult r (λ x. IsOkAnd s (P x)) (λ e. s ≡ Err e) → s ≡ r
same-is k (Ok x) (Ok y) h = ap Ok (k x y h)
same-is k (Ok x) (Err e) h = absurd h
same-is k (Err d) s h = h
