-- What is read from the lent bytes, and what is written to them, as lists. Laws over plain variables, for the loops of this crate. Assumes nothing.
use Prim.Native.Nat.{ℕ, zero, suc, ◌+◌, ◌<◌}
use mathlib.Core.Path.{◌≡◌, ap, ◌∙◌, subst}
use mathlib.Core.List.{List, map}
use native.Mathlib.Omega.{arith}
use lib.ListN.{length, get_or, length-map}
use denote.Param.Members.{Mut, Called}
use Rattle.std.specs.Array.{IsFromFnResultFrom, IsFromFnResult}
use Rattle.limits.specs.Limits.{routes}
use Rattle.graphs.specs.Parts.{run}
use Rattle.graphs.proofs.Parts.{map_at, run_length, run_at}
use Rattle.words.specs.Words.{word}
use Rattle.buffers.specs.Held.{partners_of}

-- ---- f 0, f 1, .. as a list

pub listed-length : (f : ℕ → ℕ) (n : ℕ) → length (map f (run 0 n)) ≡ n
listed-length f n = length-map (run 0 n) f ∙ run_length 0 n

pub listed_at : (f : ℕ → ℕ) (n v : ℕ) → v < n → get_or (map f (run 0 n)) v 0 ≡ f v
listed_at f n v h = map_at f (run 0 n) v (omega (arith, run_length 0 n)) ∙ ap f (run_at 0 n v 0 h ∙ omega arith)

-- ---- the partners that the bytes hold

pub partners-length : (pairing : List ℕ) → length (partners_of pairing) ≡ routes
unfolding partners_of
partners-length pairing = listed-length (word pairing) routes

pub partners-cell : (pairing : List ℕ) (v : ℕ) → v < routes → get_or (partners_of pairing) v 0 ≡ word pairing v
unfolding partners_of
partners-cell pairing v h = listed_at (word pairing) routes v h

-- ---- an array that is made by one call for each number, where each call leaves the callee as it was

made_from : {F : Type 0} (g : Mut F (ℕ × Unit {0}) ℕ) (t : ℕ → ℕ) (f : F) → ((v x : ℕ) (q : F) → Called g f (v, tt) x q → (x ≡ t v) × (q ≡ f))
    → (cells : List ℕ) (i n : ℕ) → IsFromFnResultFrom g f cells i n → (v : ℕ) → v < n → get_or cells (i + v) 0 ≡ t (i + v)
made_from g t f step cells i zero made v h = absurd (omega arith)
made_from g t f step cells i (suc n) made zero h =
    let z : i + 0 ≡ i = omega arith in
    rw z (made.2.1 0 ∙ (step i made.1 made.0 made.3).0)
made_from {F} g t f step cells i (suc n) made (suc v) h =
    let z : i + suc v ≡ i + 1 + v = omega arith in
    let rest = subst (λ (q : F). IsFromFnResultFrom g q cells (i + 1) n) (step i made.1 made.0 made.3).1 made.4 in
    rw z (made_from g t f step cells (i + 1) n rest v (omega arith))

pub made-cell : {F : Type 0} (g : Mut F (ℕ × Unit {0}) ℕ) (t : ℕ → ℕ) (f : F) → ((v x : ℕ) (q : F) → Called g f (v, tt) x q → (x ≡ t v) × (q ≡ f))
    → (cells : List ℕ) (n : ℕ) → IsFromFnResult g f cells n → (v : ℕ) → v < n → get_or cells v 0 ≡ t v
made-cell g t f step cells n made v h =
    let z : 0 + v ≡ v = omega arith in
    rw z at (made_from g t f step cells 0 n made.each v h)
