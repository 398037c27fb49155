-- The whole text, over plain variables. Assumes nothing.
use Prim.Native.Nat.{ℕ, zero, suc, ◌+◌, ◌-◌, ◌*◌, ◌≤◌, ◌<◌, min}
use mathlib.Core.Path.{◌≡◌, refl, sym, ap, ◌∙◌}
use mathlib.Core.Bool.{true}
use mathlib.Core.List.{List, ◌∷◌, ◌++◌}
use native.Mathlib.Omega.{arith}
use lib.Dec.{ltb}
use lib.ListN.{length, take, replicate, length-replicate}
use borrow.Author.Tests.{ltb-true, ltb-false, lt-ltb, le-ltb}
use Rattle.std.specs.Prelude.{Err, is_err}
use Rattle.limits.specs.Limits.{routes}
use Rattle.limits.specs.Answer.{accepted}
use Rattle.limits.proofs.Replies.{not-refused}
use Rattle.limits.specs.declared.Told.{Told}
use Rattle.graphs.specs.Pairing.{unpaired, sessions}
use Rattle.graphs.proofs.Count.{cases}
use Rattle.graphs.proofs.Pairing.{pairs-unpaired}
use Rattle.rows.specs.Sheet.{order, graph_of}
use Rattle.sheet.proofs.Read.{order-most, simple}
use Rattle.causes.specs.Given.{mate_of}
use Rattle.verdicts.specs.Verdict.{told_of, refused_as, sheet_verdict}
use Rattle.witness.specs.Verdict.{improve_verdict}
use Rattle.witness.specs.Promise.{Begins}
use Rattle.verdicts.specs.declared.Refusal.{Refusal}
use Rattle.witness.proofs.Checker.{passed-sheet, begins}
use Rattle.buffers.specs.Held.{size_of, sessions_of}
use Rattle.improve.specs.Promise.{Means, Improve}
use Rattle.text.specs.Put.{followed_by}
use Rattle.text.proofs.Putting.{then}
use Rattle.lines.specs.Lines.{refusal, counts, pair_lines, over_line}
use Rattle.report.specs.Text.{no_limit, too_long, plan_text, text_of, no_pairs, no_members}
use Rattle.report.specs.Start.{unpaired_start, empty_set}

-- three things one after the other
three : (t a b u xs ys zs : List ℕ) → a ≡ followed_by t xs → b ≡ followed_by a ys → u ≡ followed_by b zs → u ≡ followed_by t (xs ++ ys ++ zs)
three t a b u xs ys zs ea eb eu = rw (eu, eb, ea, then t xs ys, then t (xs ++ ys) zs) refl

-- an answer of improve as lines
module _ (s p p' w w' : List ℕ) where
  pub plan-refused : (e : Refusal) → Improve s p p' w w' no_limit (Err e) 0 0 0 0 → (t u : List ℕ) (told : Told) → told ≡ refused_as e → u ≡ followed_by t (refusal told) → u ≡ followed_by t (plan_text s p w)
  unfolding plan_text
  plan-refused e I t u told et eu = rw (← I.is, ← et) eu

  module _ (added size finished ended : ℕ) (I : Improve s p p' w w' no_limit accepted added size finished ended) where
    begun : Begins s p w
    begun = begins s p w (sym I.is)

    meant : Means s p p' w w' no_limit added size finished ended
    meant = I.means refl

    -- the routes are the pairs twice and the unpaired
    shared : size + size + unpaired (graph_of s) (mate_of p') ≡ order s
    unfolding size_of
    shared = rw meant.size_is (pairs-unpaired (graph_of s) (mate_of p') (simple s begun.accepted) meant.valid.valid)

    left_over : ended ≡ order s - size
    unfolding sessions_of sessions size_of
    left_over = meant.sessions-is ∙ ap (λ (k : ℕ). order s - k) (sym meant.size_is)

    pub size_fits : size ≤ ended
    size_fits = omega (arith, shared, left_over)

    free : ended - size ≡ unpaired (graph_of s) (mate_of p')
    free = omega (arith, shared, left_over)

    pub plan-made : (t a b u : List ℕ) (n : ℕ) → n ≡ order s → a ≡ followed_by t (counts n size (ended - size) ended) → b ≡ followed_by a (pair_lines n p') → u ≡ followed_by b (over_line n w') → u ≡ followed_by t (plan_text s p w)
    unfolding plan_text
    plan-made t a b u n en ea eb eu =
        let e : counts n size (ended - size) ended ++ pair_lines n p' ++ over_line n w' ≡ plan_text s p w =
        rw (← I.is, free, en, I.chosen.size_is, I.chosen.sessions-is, I.chosen.pairing-is, I.chosen.witness-is) refl
        in
        rw e at (three t a b u _ _ _ ea eb eu)

-- the start: the first of all the bytes that the code begins with
take-replicate : (k n a : ℕ) → k ≤ n → take k (replicate n a) ≡ replicate k a
take-replicate zero n a h = refl
take-replicate (suc k) zero a h = absurd (omega arith)
take-replicate (suc k) (suc n) a h = ap (λ (l : List ℕ). a ∷ l) (take-replicate k n a (omega arith))

start_is : (m : ℕ) → m ≤ routes → take (4 * m) unpaired_start ≡ replicate (4 * m) 255
unfolding unpaired_start
start_is m h = take-replicate (4 * m) (4 * routes) 255 (omega arith)

set_is : (m : ℕ) → m ≤ routes → take m empty_set ≡ replicate m 0
unfolding empty_set
set_is m h = take-replicate m routes 0 h

pub start-long : (m n : ℕ) (p : List ℕ) → m ≡ min n routes → p ≡ unpaired_start → 4 * m ≡ length (take (4 * m) p)
start-long m n p em ep = sym (ap (λ (l : List ℕ). length (take (4 * m) l)) ep ∙ ap length (start_is m (omega arith)) ∙ length-replicate (4 * m) 255)

pub set_long : (m n : ℕ) (w : List ℕ) → m ≡ min n routes → w ≡ empty_set → m ≡ length (take m w)
set_long m n w em ew = sym (ap (λ (l : List ℕ). length (take m l)) ew ∙ ap length (set_is m (omega arith)) ∙ length-replicate m 0)

-- a sheet of too many routes is refused whatever is lent with it
module _ (s : List ℕ) (many : routes < order s) where
  sheet-refused : is_err (sheet_verdict s) ≡ true
  sheet-refused = cases (is_err (sheet_verdict s)) (λ h. h) (λ h. absurd (omega (arith, order-most s (passed-sheet s (not-refused _ h)))))

  first-refusal : (p w : List ℕ) → plan_text s p w ≡ refusal (told_of (sheet_verdict s))
  unfolding plan_text improve_verdict
  first-refusal p w = rw (sheet-refused, sheet-refused) refl

-- the text is that from the start of the right length
start-text : (s : List ℕ) (m : ℕ) → m ≡ min (order s) routes → plan_text s (take (4 * m) unpaired_start) (take m empty_set) ≡ plan_text s (no_pairs s) (no_members s)
start-text s m em = cases (ltb routes (order s))
    (λ h.
    let many = ltb-true routes (order s) h in
    first-refusal s many _ _ ∙ sym (first-refusal s many _ _))
    (λ h.
    let few = ltb-false routes (order s) h in
    let e : m ≡ order s = omega arith in
    rw (start_is m (omega arith), set_is m (omega arith), e) refl)

-- what is put for an input is its text
module _ (s t u : List ℕ) where
  pub report-long : 65536 < length s → t ≡ followed_by u too_long → t ≡ followed_by u (text_of s)
  unfolding text_of
  report-long g h = rw (lt-ltb 65536 (length s) g) h

  pub report-plan : (p w : List ℕ) (n m : ℕ) → length s ≤ 65536 → n ≡ order s → m ≡ min n routes → p ≡ unpaired_start → w ≡ empty_set → t ≡ followed_by u (plan_text s (take (4 * m) p) (take m w)) → t ≡ followed_by u (text_of s)
  unfolding text_of
  report-plan p w n m g en em ep ew h =
      let start = start-text s m (em ∙ ap (λ (k : ℕ). min k routes) en) in
      let e : plan_text s (take (4 * m) p) (take m w) ≡ plan_text s (no_pairs s) (no_members s) = rw (ep, ew) start in
      rw (le-ltb 65536 (length s) g, ← e) h
