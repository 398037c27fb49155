-- What a check answers, and the form in which it is told.
use Rattle.std.specs.Prelude.{ℕ, ◌≡◌, cond, ⊤, Result, Ok, Err, is_err}
use Rattle.limits.specs.declared.Told.{Told}

-- the answer with this number and these details A and B
abbrev pub told : ℕ → ℕ → ℕ → Told
told n x y = record { no = n; a = x; b = y }

-- nothing to refuse
abbrev pub accepted : {E : Type 0} → Result ⊤ E
accepted = Ok tt

-- the first of two replies that refuses
abbrev pub first : {E : Type 0} → Result ⊤ E → Result ⊤ E → Result ⊤ E
first x y = cond (is_err x) x y

-- what a reply is told as: 0, or the number and the details of its refusal
abbrev pub told_by : {E : Type 0} → (E → Told) → Result ⊤ E → Told
told_by told_of (Ok _) = told 0 0 0
told_by told_of (Err e) = told_of e

-- the same of a refusal that is converted: t is one of what it converts to
abbrev pub Tells : {E : Type 0} → (E → Told → Type 0) → Result ⊤ E → Told → Type 0
Tells converts (Ok _) t = t ≡ told 0 0 0
Tells converts (Err e) t = converts e t
