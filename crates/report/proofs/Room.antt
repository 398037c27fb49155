-- Every text has room: how long the lines are. Assumes nothing.
use Prim.Native.Nat.{ℕ, zero, suc, ◌+◌, ◌*◌, ◌/◌, ◌≤◌, ◌<◌}
use mathlib.Core.Bool.{◌&&◌}
use mathlib.Core.Path.{◌≡◌, ◌∙◌}
use mathlib.Core.List.{List, [], ◌++◌}
use native.Mathlib.Omega.{arith}
use lib.Dec.{ltb}
use lib.ListN.{length, length-append}
use lib.Seq.{take_all}
use borrow.Author.Tests.{lt-ltb}
use Rattle.std.specs.Prelude.{is_err}
use Rattle.limits.specs.Limits.{routes}
use Rattle.limits.proofs.Replies.{not-refused}
use Rattle.limits.specs.declared.Told.{Told}
use Rattle.graphs.proofs.Count.{cases, tests}
use Rattle.rows.specs.Sheet.{order}
use Rattle.sheet.proofs.Read.{order-most}
use Rattle.causes.specs.Given.{mate_of, set_of}
use Rattle.verdicts.specs.Verdict.{told_of}
use Rattle.witness.specs.Verdict.{improve_verdict}
use Rattle.witness.proofs.Checker.{begins}
use Rattle.text.specs.Put.{room, followed_by}
use Rattle.text.specs.Digits.{digits_in, digits, spaced}
use Rattle.lines.specs.Lines.{each, refusal, counts, pair_line, pair_lines, member, over_line}
use Rattle.report.specs.Text.{plan_text, text_of}

-- at most f digits, and one more than a tenth of the number has
digits-most : (f x : ℕ) → length (digits_in f x) ≤ f
unfolding digits_in
digits-most zero x = omega arith
digits-most (suc f) x = cases (ltb x 10)
    (λ h. rw h (omega arith))
    (λ h. rw h (simp length-append (omega (arith, digits-most f (x / 10)))))

digits_step : (f x d : ℕ) → length (digits_in f (x / 10)) ≤ d → length (digits_in (suc f) x) ≤ d + 1
unfolding digits_in
digits_step f x d g = cases (ltb x 10)
    (λ h. rw h (omega arith))
    (λ h. rw h (simp length-append (omega arith)))

digits-one : (f x : ℕ) → x < 10 → length (digits_in (suc f) x) ≤ 1
unfolding digits_in
digits-one f x h = rw (lt-ltb x 10 h) (omega arith)

small-digits : (x : ℕ) → x < routes → length (digits x) ≤ 3
unfolding digits
small-digits x h = digits_step 19 x 2 (digits_step 18 (x / 10) 1 (digits-one 17 (x / 10 / 10) (omega arith)))

number-most : (x : ℕ) → length (digits x) ≤ 20
unfolding digits
number-most x = digits-most 20 x

spaced-most : (x : ℕ) → length (spaced x) ≤ 21
unfolding spaced
spaced-most x = omega (arith, number-most x)

small-spaced : (x : ℕ) → x < routes → length (spaced x) ≤ 4
unfolding spaced
small-spaced x h = omega (arith, small-digits x h)

-- the lines
refusal-most : (t : Told) → length (refusal t) ≤ room
unfolding refusal
refusal-most t = simp length-append (omega (arith, spaced-most t.no, spaced-most t.a, spaced-most t.b))

counts-most : (n size free sessions : ℕ) → length (counts n size free sessions) ≤ 128
unfolding counts
counts-most n size free sessions = simp length-append (omega (arith, spaced-most n, spaced-most size, spaced-most free, spaced-most sessions))

pair-most : (n v w : ℕ) → v < n → n ≤ routes → length (pair_line n v w) ≤ 8
unfolding pair_line
pair-most n v w h g = cases (ltb w n && ltb v w)
    (λ e.
    let a : (w < n) × (v < w) = simp tests at e in
    rw e (simp length-append (omega (arith, small-digits v (omega arith), small-spaced w (omega (arith, a.0))))))
    (λ e. rw e (omega arith))

member-most : (witness : List ℕ) (v : ℕ) → v < routes → length (member witness v) ≤ 4
unfolding member
member-most witness v h = cases (set_of witness v) (λ e. rw e (small-spaced v h)) (λ e. rw e (omega arith))

each-most : (f : ℕ → List ℕ) (m n : ℕ) → ((v : ℕ) → v < n → length (f v) ≤ m) → length (each f n) ≤ n * m
unfolding each
each-most f m zero h = omega arith
each-most f m (suc n) h = simp length-append (omega (arith, each-most f m n (λ v l. h v (omega arith)), h n (omega arith)))

pairs-most : (n : ℕ) (pairing : List ℕ) → n ≤ routes → length (pair_lines n pairing) ≤ n * 8
unfolding pair_lines
pairs-most n pairing g = each-most _ 8 n (λ v h. pair-most n v (mate_of pairing v) h g)

over-most : (n : ℕ) (witness : List ℕ) → n ≤ routes → length (over_line n witness) ≤ 5 + n * 4
unfolding over_line
over-most n witness g = simp length-append (omega (arith, each-most (member witness) 4 n (λ v h. member-most witness v (omega arith))))

lines-most : (n size free sessions : ℕ) (p w : List ℕ) → n ≤ routes → length (counts n size free sessions ++ pair_lines n p ++ over_line n w) ≤ room
lines-most n size free sessions p w g = simp length-append (omega (arith, counts-most n size free sessions, pairs-most n p g, over-most n w g))

pub plan-most : (s p w : List ℕ) → length (plan_text s p w) ≤ room
unfolding plan_text
plan-most s p w = cases (is_err (improve_verdict s p w))
    (λ h. rw h (refusal-most (told_of (improve_verdict s p w))))
    (λ h. rw h (lines-most (order s) _ _ _ _ _ (order-most s (begins s p w (not-refused _ h)).accepted)))

pub text-most : (s : List ℕ) → length (text_of s) ≤ room
unfolding text_of
text-most s = cases (ltb 65536 (length s)) (λ h. rw h (omega arith)) (λ h. rw h (plan-most s _ _))

-- so that what is put into an empty text is all of it
pub reported : (s t u : List ℕ) → u ≡ [] → t ≡ followed_by u (text_of s) → t ≡ text_of s
unfolding followed_by
reported s t u eu h = h ∙ rw eu (take_all room (text_of s) (text-most s))
