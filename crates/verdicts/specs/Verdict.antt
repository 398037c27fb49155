-- The verdicts 1 to 12 of surplus, parts, checker and improve: the number and the values of each, and the checks 1 to 11 of document 01, one by one.
use Rattle.std.specs.Prelude.{ℕ, ◌*◌, cond, List, eqb, ltb, length, get_or, ⊤, Option, Some, None, Result, Ok, Err}
use Rattle.limits.specs.Answer.{told, told_by, accepted}
use Rattle.limits.specs.declared.Told.{Told}
use Rattle.graphs.specs.Graph.{Graph}
use Rattle.replies.specs.Reply as replies
use Rattle.sheet.specs.Reply as sheet
use Rattle.causes.specs.Cause.{cause_of, lowest, first_wrong, value_for}
use Rattle.verdicts.specs.declared.Refusal.{Refusal}
use Rattle.verdicts.specs.declared.Refusal.TheVariants.{Sheet, PairingLength, WitnessLength, PartsLength, Partner, Mark, NotShown}

-- what surplus, parts, checker and improve answer: acceptance, or a refusal
abbrev pub Verdict : Type 0
Verdict = Result ⊤ Refusal

-- number, A and B of each refusal
abbrev pub refused_as : Refusal → Told
refused_as (Sheet r) = replies.refused_as r
refused_as PairingLength = told 8 0 0
refused_as WitnessLength = told 9 0 0
refused_as PartsLength = told 9 0 0
refused_as (Partner v x) = told 10 v x
refused_as (Mark i b) = told 11 i b
refused_as (NotShown u) = told 12 u 0

-- number, A and B of each verdict
abbrev pub told_of : Verdict → Told
told_of = told_by refused_as

-- the reply to a sheet among the verdicts
abbrev pub of_sheet : replies.Reply → Verdict
of_sheet (Ok _) = accepted
of_sheet (Err r) = Err (Sheet r)

-- 1 to 7
unfoldable pub sheet_verdict : List ℕ → Verdict
sheet_verdict s = of_sheet (sheet.reply_of s)

-- nothing to refuse where a buffer is as long as it has to be
abbrev pub length_verdict : ℕ → ℕ → Refusal → Verdict
length_verdict actual wanted r = cond (eqb actual wanted) accepted (Err r)

-- 8: the pairing is not 4n bytes
unfoldable pub pairing_length : ℕ → List ℕ → Verdict
pairing_length n pairing = length_verdict (length pairing) (4 * n) PairingLength

-- 9: the witness is not n bytes
unfoldable pub witness_length : ℕ → List ℕ → Verdict
witness_length n witness = length_verdict (length witness) n WitnessLength

-- 10: the lowest route with a wrong partner
abbrev pub partner_refused : Graph → (ℕ → ℕ) → Option ℕ → Verdict
partner_refused g mate None = accepted
partner_refused g mate (Some v) = Err (Partner v (value_for (cause_of g mate v) (mate v)))

unfoldable pub partner_verdict : Graph → (ℕ → ℕ) → Verdict
partner_verdict g mate = partner_refused g mate (first_wrong g mate)

-- 11: the lowest position with a byte above 1
unfoldable pub first_above : ℕ → List ℕ → Option ℕ
first_above n witness = lowest n (λ k. ltb 1 (get_or witness k 0))

abbrev pub mark_refused : List ℕ → Option ℕ → Verdict
mark_refused witness None = accepted
mark_refused witness (Some i) = Err (Mark i (get_or witness i 0))

unfoldable pub mark_verdict : ℕ → List ℕ → Verdict
mark_verdict n witness = mark_refused witness (first_above n witness)

-- 9, for the parts: the buffer is not 4n bytes
unfoldable pub parts_length : ℕ → List ℕ → Verdict
parts_length n buffer = length_verdict (length buffer) (4 * n) PartsLength
