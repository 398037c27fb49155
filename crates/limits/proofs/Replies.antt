-- Of any reply: which one does not refuse, when the first of two does not, and what it is told as where each refusal converts to one answer. Assumes nothing.
use Rattle.std.specs.Prelude.{◌≡◌, true, false, ⊤, Result, Ok, Err, is_err}
use Rattle.std.proofs.Common.{refl}
use Rattle.std.proofs.lemmas.Bool.{true≢false}
use Rattle.limits.specs.Answer.{accepted, first, Tells, told_by}
use Rattle.limits.specs.declared.Told.{Told}

-- the one reply that does not refuse
pub not-refused : {E : Type 0} (r : Result ⊤ E) → is_err r ≡ false → r ≡ accepted
not-refused (Ok tt) h = refl
not-refused (Err e) h = absurd (true≢false h)

-- the first of two that refuses does not refuse: neither does
pub first-accepted : {E : Type 0} (x y : Result ⊤ E) → is_err (first x y) ≡ false → (x ≡ accepted) × (y ≡ accepted)
first-accepted (Ok tt) y h = (refl, not-refused y h)
first-accepted (Err e) y h = absurd (true≢false h)

-- what `tell` answers is that
pub told-is : {E : Type 0} (told_of : E → Told) (r : Result ⊤ E) (t : Told) → Tells (λ e x. x ≡ told_of e) r t → t ≡ told_by told_of r
told-is told_of (Ok u) t h = h
told-is told_of (Err e) t h = h
