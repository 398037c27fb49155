-- Of an input no more is read than the report looks at and one byte, and that is enough: the text is the whole input's.
-- Assumes nothing.
use Rattle.std.proofs.Common.{◌≡◌, ◌∙◌, ℕ, ◌<◌, List, [], ◌++◌, Bool, true, false, length, take, IfSome, arith, ap, sym, refl}
use Rattle.std.specs.Prelude.{None, Some, ltb}
use Rattle.std.proofs.lemmas.List.{take_all, length-take-le}
use Rattle.std.proofs.lemmas.Bool.{lt-ltb, ltb-true, ltb-false}
use Rattle.std.specs.Option.{option_map}
use Rattle.std.specs.declared.option.Option.{Option}
use Rattle.std.specs.declared.io.traits.Take.{Take}
use Rattle.std.specs.Io.Take.{take_remaining}
use Rattle.report.specs.Text.{too_long, text_of}

-- the first n of the known bytes, read behind nothing
first_known : (n : ℕ) (old new : List ℕ) (known : Option (List ℕ)) → old ≡ [] → IfSome (option_map (take n) known) (λ xs. new ≡ old ++ xs) → IfSome known (λ xs. new ≡ take n xs)
first_known n old new None o h = tt
first_known n old new (Some xs) o h = h ∙ ap (λ (z : List ℕ). z ++ take n xs) o

-- the same as a reader with a limit has them
pub first_read : {R : Type 0} (remaining : R → Option (List ℕ)) (t : Take R) (r : R) (n : ℕ) (old new : List ℕ) → t.limit ≡ n → t.inner ≡ r → old ≡ [] → IfSome (take_remaining remaining t) (λ xs. new ≡ old ++ xs) → IfSome (remaining r) (λ xs. new ≡ take n xs)
first_read remaining t r n old new l i o h = rw (← l, ← i) (first_known t.limit old new (remaining t.inner) o h)

-- what is not looked at
too_many : (s : List ℕ) → 65536 < length s → text_of s ≡ too_long
unfolding text_of
too_many s h = rw (lt-ltb 65536 (length s) h)

by_length : (s : List ℕ) (b : Bool) → ltb 65537 (length s) ≡ b → text_of (take 65537 s) ≡ text_of s
by_length s true e =
    let h : 65537 < length s = ltb-true _ _ e in
    let l : length (take 65537 s) ≡ 65537 = length-take-le 65537 s (omega (arith, h)) in
    too_many (take 65537 s) (omega (arith, l)) ∙ sym (too_many s (omega (arith, h)))
by_length s false e = ap text_of (take_all 65537 s (ltb-false _ _ e))

-- the text of what is read is the text of all
pub text_read : (s : List ℕ) → text_of (take 65537 s) ≡ text_of s
text_read s = by_length s (ltb 65537 (length s)) refl
