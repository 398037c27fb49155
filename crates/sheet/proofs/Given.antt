-- When each reply is given: exactly when its condition holds and no check that runs before it has fired; 4, 5 and 6 entry by entry and row by row.
-- Assumes nothing.
use Prim.Native.Nat.{ℕ, suc, ◌+◌, ◌*◌, ◌≤◌, ◌<◌}
use mathlib.Core.Path.{◌≡◌, refl, sym, ap, ◌∙◌, subst}
use mathlib.Core.Logic.{◌↔◌}
use mathlib.Core.Bool.{true, false, cond}
use mathlib.Core.List.{List}
use lib.Dec.{ltb, leb}
use lib.ListN.{length, drop}
use borrow.Author.Tests.{ltb-true, ltb-false, lt-ltb, le-ltb, leb-true, le-leb}
use Rattle.limits.specs.Limits.{routes}
use Rattle.graphs.specs.Count.{all}
use Rattle.graphs.specs.Graph.{Graph, has, joined}
use Rattle.graphs.proofs.Count.{cases, clash, tests, all-at, all_of}
use Rattle.rows.specs.Sheet.{Shaped, order, start, total, graph_of, named}
use Rattle.std.specs.Prelude.{Ok, Err, is_err}
use Rattle.limits.specs.Answer.{accepted, first}
use Rattle.limits.proofs.Replies.{not-refused}
use Rattle.replies.specs.Reply.{Reply}
use Rattle.entries.specs.Entries.{entry_reply, row_reply, rows_reply, loop_reply}
use Rattle.sheet.specs.Reply.{shaped, reply_of}
use Rattle.sheet.specs.Conditions.{Readable, Clear, AllClear, Reached, NoLoop, Because}
use Rattle.replies.specs.declared.Refusal.TheVariants.{Short, TooMany, Contents, UnknownId, DuplicateEdge, MissingEdge, Loop}
use Rattle.replies.proofs.Firsts.{first_fine, first-all, first_found, first-place}

-- ---- 3

leb-iff : (m n : ℕ) → (leb m n ≡ true) ↔ (m ≤ n)
leb-iff m n = (leb-true m n, le-leb m n)

pub shaped-is : (s : List ℕ) → (shaped s ≡ true) ↔ Shaped s
unfolding shaped
shaped-is s = (
  λ h. let k : ((8 + 4 * order s ≤ length s × start s 0 ≡ 0) × (all (order s) (λ k. leb (start s k) (start s (k + 1))) ≡ true)) × (length s ≡ 8 + 4 * order s + 4 * total s) = simp (tests, leb-iff) at h in
      record {
        whole = k.0.0.0;
        from_zero = k.0.0.1;
        rises = λ j l. leb-true (start s j) (start s (j + 1)) (all-at (order s) (λ k. leb (start s k) (start s (k + 1))) k.0.1 j l);
        long = k.1;
      },
  λ h. simp (tests, leb-iff) (((h.whole, h.from_zero), all_of (order s) (λ k. leb (start s k) (start s (k + 1))) (λ j l. le-leb (start s j) (start s (j + 1)) (h.rises j l))), h.long),
)

-- ---- 4, 5 and 6 at one entry

module _ (g : Graph) (v i : ℕ) where
  pub clear-accepted : Clear g v i → entry_reply g v i ≡ accepted
  unfolding entry_reply
  clear-accepted c = rw (lt-ltb _ _ c.known, c.once, c.back)

  -- what an entry is answered, with why
  data Entry : Type 0 where
    clear : Clear g v i → entry_reply g v i ≡ accepted → Entry
    unknown : g.order ≤ named g v i → entry_reply g v i ≡ Err (UnknownId (named g v i)) → Entry
    again : named g v i < g.order → has (drop (suc i) (g.row v)) (named g v i) ≡ true → entry_reply g v i ≡ Err (DuplicateEdge v (named g v i)) → Entry
    lacking : named g v i < g.order → has (drop (suc i) (g.row v)) (named g v i) ≡ false → joined g (named g v i) v ≡ false
        → entry_reply g v i ≡ Err (MissingEdge (named g v i) v) → Entry

  entry : Entry
  unfolding entry_reply
  entry = cases (ltb (named g v i) g.order)
      (λ a. cases (has (drop (suc i) (g.row v)) (named g v i))
      (λ b. again (ltb-true _ _ a) b (rw (a, b)))
      (λ b. cases (joined g (named g v i) v)
      (λ c. clear (record { known = ltb-true _ _ a; once = b; back = c }) (rw (a, b, c)))
      (λ c. lacking (ltb-true _ _ a) b c (rw (a, b, c)))))
      (λ a. unknown (ltb-false _ _ a) (rw a))

  entry-clear : entry_reply g v i ≡ accepted → Clear g v i
  entry-clear e = go entry
    where
      go : Entry → Clear g v i
      go (clear c _) = c
      go (unknown _ r) = cc
      go (again _ _ r) = cc
      go (lacking _ _ _ r) = cc

-- ---- the rows

module _ (g : Graph) where
  row-clear : (v : ℕ) → row_reply g v ≡ accepted → (i : ℕ) → i < length (g.row v) → Clear g v i
  unfolding row_reply
  row-clear v e i l = entry-clear g v i (first_fine (entry_reply g v) (length (g.row v)) e i l)

  pub rows-clear : rows_reply g ≡ accepted → AllClear g
  unfolding rows_reply
  rows-clear e v i lv li = row-clear v (first_fine (row_reply g) g.order e v lv) i li

  pub clear-rows : AllClear g → rows_reply g ≡ accepted
  unfolding rows_reply row_reply
  clear-rows c = first-all (row_reply g) g.order (λ v lv. first-all (entry_reply g v) (length (g.row v)) (λ i li. clear-accepted g v i (c v i lv li)))

  -- an entry that is reached and refused is what the rows are answered
  pub reached-refused : (v i : ℕ) → Reached g v i → is_err (entry_reply g v i) ≡ true → rows_reply g ≡ entry_reply g v i
  unfolding rows_reply row_reply
  reached-refused v i h r =
      let row : row_reply g v ≡ entry_reply g v i = first_found (entry_reply g v) i (length (g.row v)) h.place-there (λ j l. clear-accepted g v j (h.places-before j l)) r in
      first_found (row_reply g) v g.order h.row-there
      (λ u l. first-all (entry_reply g u) (length (g.row u)) (λ j k. clear-accepted g u j (h.rows_before u j l k)))
      (rw row r)
      ∙ row

  -- and a refusal of the rows is that of an entry that is reached
  pub record Stop : Type 0 where
    pub row : ℕ
    pub place : ℕ
    pub reached : Reached g row place
    pub refused : is_err (entry_reply g row place) ≡ true
    pub answered : rows_reply g ≡ entry_reply g row place

  stop-refuses : (p : Stop) → entry_reply g p.row p.place ≡ accepted → ⊥
  stop-refuses p e = clash false (rw e at p.refused) refl

  pub rows-stop : is_err (rows_reply g) ≡ true → Stop
  unfolding rows_reply row_reply
  rows-stop r =
      let p = first-place (row_reply g) g.order r in
      let q = first-place (entry_reply g p.at) (length (g.row p.at)) p.refused in
      let h : Reached g p.at q.at = record {
        row-there = p.below;
        place-there = q.below;
        rows_before = λ u j l k. row-clear u (p.before u l) j k;
        places-before = λ j l. entry-clear g p.at j (q.before j l);
      } in
      record { row = p.at; place = q.at; reached = h; refused = q.refused; answered = reached-refused p.at q.at h q.refused }

-- ---- 7

module _ (g : Graph) where
  abbrev self : ℕ → Reply
  self v = cond (joined g v v) (Err (Loop v)) accepted

  self-fine : (v : ℕ) → self v ≡ accepted → joined g v v ≡ false
  self-fine v e = cases (joined g v v) (λ t. clash true refl (ap is_err (rw t at e))) (λ t. t)

  pub no-loop-reply : NoLoop g → loop_reply g ≡ accepted
  unfolding loop_reply
  no-loop-reply h = first-all self g.order (λ v l. rw (h v l))

  pub loop-reply-none : loop_reply g ≡ accepted → NoLoop g
  unfolding loop_reply
  loop-reply-none e v l = self-fine v (first_fine self g.order e v l)

  pub loop-reply : (v : ℕ) → v < g.order → joined g v v ≡ true → ((u : ℕ) → u < v → joined g u u ≡ false) → loop_reply g ≡ Err (Loop v)
  unfolding loop_reply
  loop-reply v l t b = first_found self v g.order l (λ u k. rw (b u k)) (rw t) ∙ rw t

  pub record Lowest : Type 0 where
    pub route : ℕ
    pub there : route < g.order
    pub itself : joined g route route ≡ true
    pub none-lower : (u : ℕ) → u < route → joined g u u ≡ false
    pub answered : loop_reply g ≡ Err (Loop route)

  pub loop-lowest : is_err (loop_reply g) ≡ true → Lowest
  unfolding loop_reply
  loop-lowest r =
      let p = first-place self g.order r in
      let t : joined g p.at p.at ≡ true = cases (joined g p.at p.at) (λ k. k) (λ k. clash false (rw k at p.refused) refl) in
      let b : (u : ℕ) → u < p.at → joined g u u ≡ false = λ u l. self-fine u (p.before u l) in
      record { route = p.at; there = p.below; itself = t; none-lower = b; answered = loop-reply p.at p.below t b }

-- ---- the sheet

module _ (s : List ℕ) where
  abbrev g : Graph
  g = graph_of s

  pub reply-short : length s < 8 → reply_of s ≡ Err Short
  unfolding reply_of
  reply-short h = rw (lt-ltb _ _ h)

  pub reply-many : 8 ≤ length s → routes < order s → reply_of s ≡ Err (TooMany (order s))
  unfolding reply_of
  reply-many h l = rw (le-ltb _ _ h, lt-ltb _ _ l)

  pub reply-contents : 8 ≤ length s → order s ≤ routes → (Shaped s → ⊥) → reply_of s ≡ Err Contents
  unfolding reply_of
  reply-contents h l n = rw (le-ltb _ _ h, le-ltb _ _ l) (cases (shaped s) (λ t. absurd (n ((shaped-is s).0 t))) (λ t. rw t))

  pub reply-rows : Readable s → reply_of s ≡ first (rows_reply g) (loop_reply g)
  unfolding reply_of
  reply-rows r = rw (le-ltb _ _ r.eight, le-ltb _ _ r.few, (shaped-is s).1 r.shape)

  -- the reply, with why it is given
  which : (r : Reply) × (reply_of s ≡ r) × Because s r
  which = cases (ltb (length s) 8)
      (λ a. (Err Short, reply-short (ltb-true _ _ a), ltb-true _ _ a))
      (λ a. let eight : 8 ≤ length s = ltb-false _ _ a in
      cases (ltb routes (order s))
      (λ b. (Err (TooMany (order s)), reply-many eight (ltb-true _ _ b), (eight, ltb-true _ _ b, refl)))
      (λ b. let few : order s ≤ routes = ltb-false _ _ b in
      cases (shaped s)
      (λ c. rows (record { eight = eight; few = few; shape = (shaped-is s).0 c }))
      (λ c. let n : Shaped s → ⊥ = λ h. clash (shaped s) ((shaped-is s).1 h) c in (Err Contents, reply-contents eight few n, (eight, few, n)))))
    where
      at_entry : Readable s → (p : Stop g) → reply_of s ≡ entry_reply g p.row p.place → Entry g p.row p.place → (r : Reply) × (reply_of s ≡ r) × Because s r
      at_entry r p e (clear c a) = absurd (stop-refuses g p a)
      at_entry r p e (unknown l a) = (Err (UnknownId (named g p.row p.place)), e ∙ a, (r, p.row, p.place, p.reached, refl, l))
      at_entry r p e (again k l a) = (Err (DuplicateEdge p.row (named g p.row p.place)), e ∙ a, (r, p.place, p.reached, refl, k, l))
      at_entry r p e (lacking k l m a) = (Err (MissingEdge (named g p.row p.place) p.row), e ∙ a, (r, p.place, p.reached, refl, k, l, m))

      rows : Readable s → (r : Reply) × (reply_of s ≡ r) × Because s r
      rows r = cases (is_err (rows_reply g))
          (λ d. let p = rows-stop g d in at_entry r p (reply-rows r ∙ rw d p.answered) (entry g p.row p.place))
          (λ d. let e = rows-clear g (not-refused (rows_reply g) d) in
          cases (is_err (loop_reply g))
          (λ f. let p = loop-lowest g f in (Err (Loop p.route), reply-rows r ∙ rw d p.answered, (r, e, p.there, p.itself, p.none-lower)))
          (λ f. let k = not-refused (loop_reply g) f in (accepted, reply-rows r ∙ rw d k, (r, e, loop-reply-none g k))))

-- each reply is given exactly where its condition holds and that of no check before it
pub given : (s : List ℕ) (r : Reply) → (reply_of s ≡ r) ↔ Because s r
unfolding entry_reply
given s r = (λ e. let w = which s in subst (Because s) (sym w.1 ∙ e) w.2, only s r)
  where
    at_rows : (s : List ℕ) → Readable s → (v i : ℕ) (r : Reply) → Reached (graph_of s) v i → entry_reply (graph_of s) v i ≡ r → is_err r ≡ true → reply_of s ≡ r
    at_rows s p v i r h e t =
        let k : rows_reply (graph_of s) ≡ r = reached-refused (graph_of s) v i h (rw e t) ∙ e in
        reply-rows s p ∙ rw (k, t)

    past-rows : (s : List ℕ) → Readable s → AllClear (graph_of s) → reply_of s ≡ loop_reply (graph_of s)
    past-rows s p c = reply-rows s p ∙ rw (clear-rows (graph_of s) c)

    only : (s : List ℕ) (r : Reply) → Because s r → reply_of s ≡ r
    only s (Ok tt) h = past-rows s h.0 h.1 ∙ no-loop-reply (graph_of s) h.2
    only s (Err Short) h = reply-short s h
    only s (Err (TooMany n)) h = reply-many s h.0 h.1 ∙ ap (λ n. Err (TooMany n)) (sym h.2)
    only s (Err Contents) h = reply-contents s h.0 h.1 h.2
    only s (Err (UnknownId w)) h = at_rows s h.0 h.1 h.2 (Err (UnknownId w)) h.3 (rw (h.4, le-ltb _ _ h.5)) refl
    only s (Err (DuplicateEdge v w)) h = at_rows s h.0 v h.1 (Err (DuplicateEdge v w)) h.2 (rw (h.3, lt-ltb _ _ h.4, h.5)) refl
    only s (Err (MissingEdge w v)) h = at_rows s h.0 v h.1 (Err (MissingEdge w v)) h.2 (rw (h.3, lt-ltb _ _ h.4, h.5, h.6)) refl
    only s (Err (Loop v)) h = past-rows s h.0 h.1 ∙ loop-reply (graph_of s) v h.2 h.3 h.4
