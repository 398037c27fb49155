-- What the checker's answer means: it accepts exactly where the set meets the bound, and what it accepts is maximum. Assumes nothing.
use Prim.Native.Nat.{ℕ, ◌*◌, ◌≤◌, ◌<◌}
use mathlib.Core.Path.{◌≡◌, refl, sym, ap, ◌∙◌}
use mathlib.Core.Logic.{◌↔◌, ◌⊎◌, inl, inr, ⊎_elim}
use mathlib.Core.Bool.{Bool, true, false}
use mathlib.Core.List.{List}
use native.Mathlib.Omega.{arith}
use lib.Dec.{eqb, ltb}
use lib.IntN.{ℤ, pos, negsuc}
use lib.ListN.{length, get_or}
use borrow.Author.Tests.{eq-eqb, ne_eqb, eqb-true, lt-ltb, le-ltb, ltb-true, ltb-false}
use Rattle.std.specs.Prelude.{Option, Some, None, Ok, Err, is_err}
use Rattle.std.proofs.lemmas.Option.{none-some}
use Rattle.limits.specs.Limits.{routes, none}
use Rattle.limits.specs.Answer.{accepted, first}
use Rattle.limits.proofs.Replies.{first-accepted}
use Rattle.graphs.specs.Graph.{Graph, joined}
use Rattle.graphs.specs.Surplus.{surplus}
use Rattle.graphs.specs.Pairing.{unpaired}
use Rattle.graphs.proofs.Count.{cases, clash}
use Rattle.graphs.proofs.Bound.{no-more-pairs}
use Rattle.graphs.proofs.Plan.{no-fewer-sessions}
use Rattle.rows.specs.Sheet.{order, graph_of}
use Rattle.replies.specs.Reply.{Reply}
use Rattle.sheet.specs.Reply.{reply_of}
use Rattle.sheet.proofs.Read.{simple, order-most}
use Rattle.causes.specs.Given.{mate_of, set_of}
use Rattle.causes.specs.Cause.{cause_of, wrong, first_wrong}
use Rattle.causes.proofs.Lowest.{lowest-none}
use Rattle.verdicts.specs.Verdict.{Verdict, of_sheet, sheet_verdict, length_verdict, pairing_length, witness_length, parts_length, partner_refused, partner_verdict, mark_refused, first_above, mark_verdict}
use Rattle.verdicts.specs.declared.Refusal.{Refusal}
use Rattle.verdicts.specs.declared.Refusal.TheVariants.{PairingLength, WitnessLength, PartsLength}
use Rattle.witness.specs.Verdict.{is_count, bound_verdict, improve_verdict, check_of, surplus_verdict, parts_verdict}
use Rattle.witness.specs.Promise.{PairingBytes, Begins, Shown, Maximum, Checked}

-- ---- a check that accepts

-- a refusal is not acceptance
refused : {C : Type 0} (e : Refusal) → Err e ≡ accepted → C
refused e h = clash true refl (ap is_err h)

-- two checks accept exactly where each does
first-iff : (x y : Verdict) → (first x y ≡ accepted) ↔ ((x ≡ accepted) × (y ≡ accepted))
first-iff x y = (λ h. first-accepted x y (ap is_err h), λ h. rw h.0 h.1)

of_sheet-iff : (r : Reply) → (of_sheet r ≡ accepted) ↔ (r ≡ accepted)
of_sheet-iff (Ok tt) = (λ h. refl, λ h. refl)
of_sheet-iff (Err e) = (λ h. clash true refl (ap is_err h), λ h. clash true refl (ap is_err h))

sheet-iff : (s : List ℕ) → (sheet_verdict s ≡ accepted) ↔ (reply_of s ≡ accepted)
unfolding sheet_verdict
sheet-iff s = of_sheet-iff (reply_of s)

length-iff : (a b : ℕ) (r : Refusal) → (length_verdict a b r ≡ accepted) ↔ (a ≡ b)
length-iff a b r = (
  λ e. cases (eqb a b) (λ t. eqb-true a b t) (λ t. refused r (rw t at e)),
  λ e. rw (eq-eqb a b e),
)

pairing-iff : (n : ℕ) (pairing : List ℕ) → (pairing_length n pairing ≡ accepted) ↔ (length pairing ≡ 4 * n)
unfolding pairing_length
pairing-iff n pairing = length-iff (length pairing) (4 * n) PairingLength

witness-iff : (n : ℕ) (witness : List ℕ) → (witness_length n witness ≡ accepted) ↔ (length witness ≡ n)
unfolding witness_length
witness-iff n witness = length-iff (length witness) n WitnessLength

parts-iff : (n : ℕ) (buffer : List ℕ) → (parts_length n buffer ≡ accepted) ↔ (length buffer ≡ 4 * n)
unfolding parts_length
parts-iff n buffer = length-iff (length buffer) (4 * n) PartsLength

partner-none : (g : Graph) (mate : ℕ → ℕ) (o : Option ℕ) → (partner_refused g mate o ≡ accepted) ↔ (o ≡ None)
partner-none g mate None = (λ h. refl, λ h. refl)
partner-none g mate (Some v) = (λ h. refused _ h, λ h. absurd (none-some v (sym h)))

partner-iff : (g : Graph) (mate : ℕ → ℕ) → (partner_verdict g mate ≡ accepted) ↔ ((v : ℕ) → v < g.order → wrong (cause_of g mate v) ≡ false)
unfolding partner_verdict first_wrong
partner-iff g mate =
    let l = lowest-none g.order (λ v. wrong (cause_of g mate v)) in
    let p = partner-none g mate (first_wrong g mate) in
    (λ h. l.0 (p.0 h), λ h. p.1 (l.1 h))

mark-none : (witness : List ℕ) (o : Option ℕ) → (mark_refused witness o ≡ accepted) ↔ (o ≡ None)
mark-none witness None = (λ h. refl, λ h. refl)
mark-none witness (Some i) = (λ h. refused _ h, λ h. absurd (none-some i (sym h)))

mark-iff : (n : ℕ) (witness : List ℕ) → (mark_verdict n witness ≡ accepted) ↔ ((v : ℕ) → v < n → ltb 1 (get_or witness v 0) ≡ false)
unfolding mark_verdict first_above
mark-iff n witness =
    let l = lowest-none n (λ k. ltb 1 (get_or witness k 0)) in
    let p = mark-none witness (first_above n witness) in
    (λ h. l.0 (p.0 h), λ h. p.1 (l.1 h))

-- what checks that did not refuse have shown
pub passed-sheet : (s : List ℕ) → sheet_verdict s ≡ accepted → reply_of s ≡ accepted
passed-sheet s = (sheet-iff s).0

pub passed-surplus : (s witness : List ℕ) → surplus_verdict s witness ≡ accepted → (reply_of s ≡ accepted) × (length witness ≡ order s)
unfolding surplus_verdict
passed-surplus s witness e =
    let h = (first-iff (sheet_verdict s) (first (witness_length (order s) witness) (mark_verdict (order s) witness))).0 e in
    let k = (first-iff (witness_length (order s) witness) (mark_verdict (order s) witness)).0 h.1 in
    ((sheet-iff s).0 h.0, (witness-iff (order s) witness).0 k.0)

pub passed-parts : (s witness buffer : List ℕ) → parts_verdict s witness buffer ≡ accepted
    → (reply_of s ≡ accepted) × (length witness ≡ order s) × (length buffer ≡ 4 * order s)
unfolding parts_verdict
passed-parts s witness buffer e =
    let last : Verdict = mark_verdict (order s) witness in
    let third : Verdict = parts_length (order s) buffer in
    let second : Verdict = witness_length (order s) witness in
    let h = (first-iff (sheet_verdict s) (first second (first third last))).0 e in
    let k = (first-iff second (first third last)).0 h.1 in
    let l = (first-iff third last).0 k.1 in
    ((sheet-iff s).0 h.0, (witness-iff (order s) witness).0 k.0, (parts-iff (order s) buffer).0 l.0)

-- ---- 10

module _ (g : Graph) (mate : ℕ → ℕ) (v : ℕ) (few : g.order ≤ routes) where
  sound-or : wrong (cause_of g mate v) ≡ false → (mate v ≡ none) ⊎ ((mate v < g.order) × (joined g v (mate v) ≡ true) × (mate (mate v) ≡ v))
  unfolding cause_of
  sound-or h = cases (eqb (mate v) none)
      (λ a. inl (eqb-true _ _ a))
      (λ a. cases (ltb (mate v) g.order)
      (λ b. cases (eqb (mate v) v)
      (λ c. clash true refl (rw (a, b, c) at h))
      (λ c. cases (joined g v (mate v))
      (λ d. cases (eqb (mate (mate v)) v)
      (λ e. inr (ltb-true _ _ b, d, eqb-true _ _ e))
      (λ e. clash true refl (rw (a, b, c, d, e) at h)))
      (λ d. clash true refl (rw (a, b, c, d) at h))))
      (λ b. clash true refl (rw (a, b) at h)))

  sound_none : mate v ≡ none → wrong (cause_of g mate v) ≡ false
  unfolding cause_of
  sound_none h = rw (eq-eqb _ _ h)

  sound-partner : mate v < g.order → (mate v ≡ v → ⊥) → joined g v (mate v) ≡ true → mate (mate v) ≡ v → wrong (cause_of g mate v) ≡ false
  unfolding cause_of
  sound-partner l ne j b =
      let far : mate v ≡ none → ⊥ = λ e. omega arith in
      rw (ne_eqb _ _ far, lt-ltb _ _ l, ne_eqb _ _ ne, j, eq-eqb _ _ b)

module _ (s pairing : List ℕ) (ok : reply_of s ≡ accepted) where
  abbrev g : Graph
  g = graph_of s

  abbrev mate : ℕ → ℕ
  mate = mate_of pairing

  partners-valid : length pairing ≡ 4 * order s → ((v : ℕ) → v < order s → wrong (cause_of g mate v) ≡ false) → PairingBytes s pairing
  partners-valid el h =
      let far : (v : ℕ) → mate v < order s → mate v ≡ none → ⊥ = λ v l e. omega (arith, order-most s ok) in
      record {
        long = el;
        partners = λ v l. ⊎_elim (λ e. inl e) (λ r. inr r.0) (sound-or g mate v (order-most s ok) (h v l));
        valid = record {
          edge = λ v l k. ⊎_elim (λ e. absurd (far v k e)) (λ r. r.1) (sound-or g mate v (order-most s ok) (h v l));
          back = λ v l k. ⊎_elim (λ e. absurd (far v k e)) (λ r. r.2) (sound-or g mate v (order-most s ok) (h v l));
        };
      }

  valid-partners : PairingBytes s pairing → (v : ℕ) → v < order s → wrong (cause_of g mate v) ≡ false
  valid-partners p v l =
      ⊎_elim
      (λ e. sound_none g mate v (order-most s ok) e)
      (λ k. sound-partner g mate v (order-most s ok) k
      (λ e. clash (joined g v v) (rw e at (p.valid.edge v l k)) ((simple s ok).no_loop v l))
      (p.valid.edge v l k) (p.valid.back v l k))
      (p.partners v l)

-- ---- 12

count-iff : (z : ℤ) (u : ℕ) → (is_count z u ≡ true) ↔ (z ≡ pos u)
count-iff (pos k) u = (λ h. ap pos (eqb-true k u h), λ h. eq-eqb k u (cc))
count-iff (negsuc k) u = (λ h. clash false h refl, λ h. let z : ◌≡◌ {A = ℕ} 0 1 = cc in absurd (omega arith))

bound-iff : (g : Graph) (mate : ℕ → ℕ) (A : ℕ → Bool) → (bound_verdict g mate A ≡ accepted) ↔ (surplus g A ≡ pos (unpaired g mate))
unfolding bound_verdict
bound-iff g mate A = (
  λ h. cases (is_count (surplus g A) (unpaired g mate))
      (λ t. (count-iff (surplus g A) (unpaired g mate)).0 t)
      (λ t. refused _ (rw t at h)),
  λ h. rw ((count-iff (surplus g A) (unpaired g mate)).1 h),
)

-- ---- the checker

module _ (s pairing witness : List ℕ) where
  -- the checks from the last back
  abbrev from-witness : Verdict
  from-witness = first (witness_length (order s) witness) (partner_verdict (graph_of s) (mate_of pairing))

  abbrev from-pairing : Verdict
  from-pairing = first (pairing_length (order s) pairing) from-witness

  abbrev from-mark : Verdict
  from-mark = first (mark_verdict (order s) witness) (bound_verdict (graph_of s) (mate_of pairing) (set_of witness))

  -- what the checks of improve have shown, where none has refused
  pub begins : improve_verdict s pairing witness ≡ accepted → Begins s pairing witness
  unfolding improve_verdict
  begins h =
      let a = (first-iff (sheet_verdict s) from-pairing).0 h in
      let b = (first-iff (pairing_length (order s) pairing) from-witness).0 a.1 in
      let c = (first-iff (witness_length (order s) witness) (partner_verdict (graph_of s) (mate_of pairing))).0 b.1 in
      let ok = (sheet-iff s).0 a.0 in
      record {
        accepted = ok;
        partners = partners-valid s pairing ok ((pairing-iff (order s) pairing).0 b.0) ((partner-iff (graph_of s) (mate_of pairing)).0 c.1);
        long = (witness-iff (order s) witness).0 c.0;
      }

  pub begins-accepted : Begins s pairing witness → improve_verdict s pairing witness ≡ accepted
  unfolding improve_verdict
  begins-accepted h =
      let ok = h.accepted in
      let d = (partner-iff (graph_of s) (mate_of pairing)).1 (valid-partners s pairing ok h.partners) in
      let c = (first-iff (witness_length (order s) witness) (partner_verdict (graph_of s) (mate_of pairing))).1 ((witness-iff (order s) witness).1 h.long, d) in
      let b = (first-iff (pairing_length (order s) pairing) from-witness).1 ((pairing-iff (order s) pairing).1 h.partners.long, c) in
      (first-iff (sheet_verdict s) from-pairing).1 ((sheet-iff s).1 ok, b)

  pub accepts : check_of s pairing witness ≡ accepted → Shown s pairing witness
  unfolding check_of
  accepts h =
      let a = (first-iff (improve_verdict s pairing witness) from-mark).0 h in
      let b = (first-iff (mark_verdict (order s) witness) (bound_verdict (graph_of s) (mate_of pairing) (set_of witness))).0 a.1 in
      let start = begins a.0 in
      record {
        accepted = start.accepted;
        partners = start.partners;
        marks = record { long = start.long; marks = λ v l. ltb-false 1 (get_or witness v 0) ((mark-iff (order s) witness).0 b.0 v l) };
        tight = (bound-iff (graph_of s) (mate_of pairing) (set_of witness)).0 b.1;
      }

  pub shown-accepted : Shown s pairing witness → check_of s pairing witness ≡ accepted
  unfolding check_of
  shown-accepted h =
      let b = (first-iff (mark_verdict (order s) witness) (bound_verdict (graph_of s) (mate_of pairing) (set_of witness))).1
      ((mark-iff (order s) witness).1 (λ v l. le-ltb 1 (get_or witness v 0) (h.marks.marks v l)), (bound-iff (graph_of s) (mate_of pairing) (set_of witness)).1 h.tight) in
      let a = begins-accepted (record { accepted = h.accepted; partners = h.partners; long = h.marks.long }) in
      (first-iff (improve_verdict s pairing witness) from-mark).1 (a, b)

  -- what is shown is maximum
  pub shown-maximum : Shown s pairing witness → Maximum (graph_of s) (mate_of pairing)
  shown-maximum h =
      let t = simple s h.accepted in
      record {
        most = λ other p. no-more-pairs (graph_of s) t (mate_of pairing) h.partners.valid (set_of witness) h.tight other p;
        fewest = λ ss p. no-fewer-sessions (graph_of s) t (mate_of pairing) h.partners.valid (set_of witness) h.tight p;
      }

  pub checked : (r : Verdict) → r ≡ check_of s pairing witness → Checked s pairing witness r
  checked r e = record {
    is = e;
    exactly = (λ h. accepts (sym e ∙ h), λ h. e ∙ shown-accepted h);
    maximum = λ h. shown-maximum (accepts (sym e ∙ h));
  }
