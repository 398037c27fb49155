-- The laws of partner lists: what freeing and pairing leave at each id, that both keep a list sound, and how the count changes. Assumes nothing.
use Prim.Native.Nat.{ℕ, zero, suc, ◌+◌, ◌*◌, ◌≤◌, ◌<◌}
use mathlib.Core.Path.{◌≡◌, refl, sym, ◌∙◌}
use mathlib.Core.Logic.{◌≢◌}
use mathlib.Core.Bool.{Bool, true, false}
use mathlib.Core.List.{List, [], ◌∷◌}
use native.Mathlib.Omega.{arith}
use native.Mathlib.Nat.{not-suc-le-zero, le_of_suc-le-suc}
use lib.ListN.{length, get_or, set, length-set, length-replicate, get_or-replicate, get_or-eq_default}
use lib.Seq.{get_or-set_same, get_or-set_other, ext_get_or}
use lib.Dec.{eqb, ltb}
use borrow.Author.Tests.{eqb-true, eqb-false, ltb-true, ltb-false, lt-ltb, le-ltb}
use Rattle.limits.specs.Limits.{routes, none}
use Rattle.graphs.specs.Count.{count, bit, but}
use Rattle.graphs.proofs.Count.{cases, tests, count-cong, count_none, count-remove}
use Rattle.mates.specs.Partners.{mate_of, is_paired, count_of, Sound, fresh, freed, paired}

-- within a list, what a read past its end would give does not matter
pub same-default : (xs : List ℕ) (k d e : ℕ) → k < length xs → get_or xs k d ≡ get_or xs k e
same-default [] k d e l = absurd (not-suc-le-zero l)
same-default (x ∷ xs) zero d e l = refl
same-default (x ∷ xs) (suc k) d e l = same-default xs k d e (le_of_suc-le-suc l)

-- what stands in a list after a store, at its place and elsewhere
at_place : (ps : List ℕ) (i v : ℕ) → length ps ≡ routes → i < routes → mate_of (set ps i v) i ≡ v
unfolding mate_of
at_place ps i v e l = rw (lt-ltb i routes l) (get_or-set_same ps i v 0 (omega arith))

elsewhere : (ps : List ℕ) (i v x : ℕ) → x ≢ i → mate_of (set ps i v) x ≡ mate_of ps x
unfolding mate_of
elsewhere ps i v x ne = rw (get_or-set_other ps i x v 0 ne)

-- what is no id has no partner
pub mate-past : (ps : List ℕ) (x : ℕ) → routes ≤ x → mate_of ps x ≡ none
unfolding mate_of
mate-past ps x l = rw (le-ltb x routes l)

-- what has a partner is an id
pub mate-id : (ps : List ℕ) (x : ℕ) → mate_of ps x < routes → x < routes
mate-id ps x l = cases (ltb x routes) (ltb-true x routes) (λ t. let z = mate-past ps x (ltb-false x routes t) in absurd (omega arith))

-- with a place for each id, the partner is what stands at that place, and none past the end
pub mate-read : (ps : List ℕ) (x : ℕ) → length ps ≡ routes → mate_of ps x ≡ get_or ps x none
unfolding mate_of
mate-read ps x e = cases (ltb x routes)
    (λ t. rw t (same-default ps x 0 none (omega (arith, ltb-true x routes t))))
    (λ t. rw t (sym (get_or-eq_default ps none (omega (arith, ltb-false x routes t)))))

-- two lists with a place for each id are equal where all partners are
pub same-partners : (ps qs : List ℕ) → length ps ≡ routes → length qs ≡ routes → ((x : ℕ) → x < routes → mate_of ps x ≡ mate_of qs x) → ps ≡ qs
same-partners ps qs e f h = ext_get_or none ps qs (e ∙ sym f) (λ x l. sym (mate-read ps x e) ∙ h x (omega arith) ∙ mate-read qs x f)

-- ---- nobody has a partner

pub fresh-mate : (x : ℕ) → mate_of fresh x ≡ none
unfolding fresh mate_of
fresh-mate x = cases (ltb x routes) (λ t. rw t (get_or-replicate routes x none 0 (ltb-true x routes t))) (λ t. rw t refl)

pub fresh-sound : Sound fresh
unfolding fresh
fresh-sound = record {
  places = length-replicate routes none;
  none-or-id = λ x lx l. fresh-mate x;
  apart = λ x lx l. let z = fresh-mate x in absurd (omega arith);
  back = λ x lx l. let z = fresh-mate x in absurd (omega arith);
}

pub fresh-count : count_of fresh ≡ 0
unfolding count_of
fresh-count = count_none routes (is_paired fresh) (λ x l. rw (fresh-mate x) refl)

-- how many ids have a partner, where two ids more have one
two-more : (ps qs : List ℕ) (a b : ℕ) → a ≢ b → a < routes → b < routes
    → is_paired ps a ≡ false → is_paired ps b ≡ false → is_paired qs a ≡ true → is_paired qs b ≡ true
    → ((x : ℕ) → x ≢ a → x ≢ b → is_paired qs x ≡ is_paired ps x)
    → count_of qs ≡ count_of ps + 2
unfolding count_of
two-more ps qs a b ne la lb pa pb qa qb rest =
    let Q' : ℕ → Bool = λ x. but (is_paired qs x) (eqb x a) in
    let same : count routes (λ x. but (Q' x) (eqb x b)) ≡ count routes (is_paired ps) = count-cong routes (λ x. but (Q' x) (eqb x b)) (is_paired ps) (λ x l. cases (eqb x a)
    (λ t. rw (t, eqb-true x a t, pa) (cases (eqb a b) (λ u. rw u refl) (λ u. rw u refl)))
    (λ t. cases (eqb x b)
    (λ u. rw (u, eqb-true x b u) (sym pb))
    (λ u. rw (t, u) (rest x (eqb-false x a t) (eqb-false x b u))))) in
    omega (arith, count-remove routes (is_paired qs) a la qa, count-remove routes Q' b lb (simp tests (ltb-true (mate_of qs b) routes qb, λ e. ne (sym e))))

module _ (ps : List ℕ) (s : Sound ps) where
  -- a partner is below the limit or is none, whatever is asked for
  pub mate-none : (x : ℕ) → routes ≤ mate_of ps x → mate_of ps x ≡ none
  mate-none x l = cases (ltb x routes) (λ t. s.none-or-id x (ltb-true x routes t) l) (λ t. mate-past ps x (ltb-false x routes t))

  pub mate-back : (x : ℕ) → mate_of ps x < routes → mate_of ps (mate_of ps x) ≡ x
  mate-back x l = s.back x (mate-id ps x l) l

  pub mate-apart : (x : ℕ) → mate_of ps x < routes → mate_of ps x ≢ x
  mate-apart x l = s.apart x (mate-id ps x l) l

  -- ---- i made free

  freed-same : (i : ℕ) → is_paired ps i ≡ false → freed ps i ≡ ps
  unfolding freed
  freed-same i t = rw t

  freed-set : (i : ℕ) → is_paired ps i ≡ true → freed ps i ≡ set (set ps (mate_of ps i) none) i none
  unfolding freed
  freed-set i t = rw t

  -- i itself
  pub freed-self : (i : ℕ) → mate_of (freed ps i) i ≡ none
  freed-self i = cases (is_paired ps i)
      (λ t. let l = ltb-true (mate_of ps i) routes t in
      rw (freed-set i t) (at_place (set ps (mate_of ps i) none) i none (simp length-set s.places) (mate-id ps i l)))
      (λ t. rw (freed-same i t) (mate-none i (ltb-false (mate_of ps i) routes t)))

  -- the id whose partner i was
  pub freed-left : (i x : ℕ) → i < routes → mate_of ps x ≡ i → mate_of (freed ps i) x ≡ none
  freed-left i x l e =
      let m : mate_of ps i ≡ x = rw e at (mate-back x (rw e l)) in
      let ne : x ≢ i = λ k. mate-apart x (rw e l) (e ∙ sym k) in
      let lx = mate-id ps x (rw e l) in
      rw (freed-set i (lt-ltb (mate_of ps i) routes (rw m lx)))
      (elsewhere (set ps (mate_of ps i) none) i none x ne ∙ rw m (at_place ps x none s.places lx))

  -- any other
  pub freed-other : (i x : ℕ) → x ≢ i → mate_of ps x ≢ i → mate_of (freed ps i) x ≡ mate_of ps x
  freed-other i x ne nm = cases (is_paired ps i)
      (λ t. let l = ltb-true (mate_of ps i) routes t in
      rw (freed-set i t)
      (elsewhere (set ps (mate_of ps i) none) i none x ne ∙ elsewhere ps (mate_of ps i) none x (λ e. nm (rw e (mate-back i l)))))
      (λ t. rw (freed-same i t) refl)

  pub freed-places : (i : ℕ) → length (freed ps i) ≡ routes
  freed-places i = cases (is_paired ps i) (λ t. rw (freed-set i t) (simp length-set s.places)) (λ t. rw (freed-same i t) s.places)

  -- whoever has a partner after it had the same one before, and neither of the two is i
  freed-kept : (i x : ℕ) → i < routes → mate_of (freed ps i) x < routes → (x ≢ i) × (mate_of ps x ≢ i) × (mate_of (freed ps i) x ≡ mate_of ps x)
  freed-kept i x li l = cases (eqb x i)
      (λ t. let e = eqb-true x i t in let z : mate_of (freed ps i) x ≡ none = rw e (freed-self i) in absurd (omega arith))
      (λ t. cases (eqb (mate_of ps x) i)
      (λ u. let z = freed-left i x li (eqb-true (mate_of ps x) i u) in absurd (omega arith))
      (λ u. (eqb-false x i t, eqb-false (mate_of ps x) i u, freed-other i x (eqb-false x i t) (eqb-false (mate_of ps x) i u))))

  freed-none : (i x : ℕ) → i < routes → routes ≤ mate_of (freed ps i) x → mate_of (freed ps i) x ≡ none
  freed-none i x li l = cases (eqb x i)
      (λ t. rw (eqb-true x i t) (freed-self i))
      (λ t. cases (eqb (mate_of ps x) i)
      (λ u. freed-left i x li (eqb-true (mate_of ps x) i u))
      (λ u. let e = freed-other i x (eqb-false x i t) (eqb-false (mate_of ps x) i u) in e ∙ mate-none x (rw e at l)))

  pub freed-sound : (i : ℕ) → i < routes → Sound (freed ps i)
  freed-sound i li = record {
    places = freed-places i;
    none-or-id = λ x lx. freed-none i x li;
    apart = λ x lx l e. let k = freed-kept i x li l in mate-apart x (rw k.2 at l) (sym k.2 ∙ e);
    back = λ x lx l.
        let k = freed-kept i x li l in
        let b = mate-back x (rw k.2 at l) in
        rw k.2 (freed-other i (mate_of ps x) k.1 (λ e. k.0 (sym b ∙ e)) ∙ b);
  }

  -- the count falls by two, where i had a partner
  pub freed-count : (i : ℕ) → i < routes → count_of ps ≡ count_of (freed ps i) + 2 * bit (is_paired ps i)
  freed-count i li = cases (is_paired ps i)
      (λ t.
      let l = ltb-true (mate_of ps i) routes t in
      let m = mate_of ps i in
      rw t (two-more (freed ps i) ps i m (λ e. mate-apart i l (sym e)) li l
      (rw (freed-self i) refl)
      (rw (freed-left i m li (mate-back i l)) refl)
      t
      (rw (mate-back i l) (lt-ltb i routes li))
      (λ x n₁ n₂. rw (freed-other i x n₁ (λ e. n₂ (sym (rw e at (mate-back x (rw e li)))))) refl)))
      (λ t. rw (t, freed-same i t) (omega arith))

-- ---- two free ids made partners

module _ (ps : List ℕ) (s : Sound ps) (a b : ℕ) (ne : a ≢ b) (la : a < routes) (lb : b < routes) (fa : mate_of ps a ≡ none) (fb : mate_of ps b ≡ none) where
  wed : List ℕ
  wed = set (set ps a b) b a

  wed-first : mate_of wed a ≡ b
  unfolding wed
  wed-first = elsewhere (set ps a b) b a a ne ∙ at_place ps a b s.places la

  wed-second : mate_of wed b ≡ a
  unfolding wed
  wed-second = at_place (set ps a b) b a (simp length-set s.places) lb

  wed-other : (x : ℕ) → x ≢ a → x ≢ b → mate_of wed x ≡ mate_of ps x
  unfolding wed
  wed-other x na nb = elsewhere (set ps a b) b a x nb ∙ elsewhere ps a b x na

  wed-cases : {C : Type 0} (x : ℕ) → (x ≡ a → mate_of wed x ≡ b → C) → (x ≡ b → mate_of wed x ≡ a → C)
      → (x ≢ a → x ≢ b → mate_of wed x ≡ mate_of ps x → C) → C
  wed-cases x f g h = cases (eqb x a)
      (λ t. let e = eqb-true x a t in f e (rw e wed-first))
      (λ t. cases (eqb x b)
      (λ u. let e = eqb-true x b u in g e (rw e wed-second))
      (λ u. h (eqb-false x a t) (eqb-false x b u) (wed-other x (eqb-false x a t) (eqb-false x b u))))

  wed-places : length wed ≡ routes
  unfolding wed
  wed-places = simp length-set s.places

  wed-sound : Sound wed
  wed-sound = record {
    places = wed-places;
    none-or-id = λ x lx. wed-cases x
        (λ e m l. absurd (omega arith))
        (λ e m l. absurd (omega arith))
        (λ na nb m l. m ∙ s.none-or-id x lx (rw m at l));
    apart = λ x lx. wed-cases x
        (λ e m l k. ne (sym e ∙ sym k ∙ m))
        (λ e m l k. ne (sym m ∙ k ∙ e))
        (λ na nb m l k. s.apart x lx (rw m at l) (sym m ∙ k));
    back = λ x lx. wed-cases x
        (λ e m l. rw m (wed-second ∙ sym e))
        (λ e m l. rw m (wed-first ∙ sym e))
        (λ na nb m l.
        let b' = s.back x lx (rw m at l) in
        rw m (wed-other (mate_of ps x)
        (λ e. let z : mate_of ps a ≡ x = rw e at b' in omega arith)
        (λ e. let z : mate_of ps b ≡ x = rw e at b' in omega arith) ∙ b'));
  }

  wed-count : count_of wed ≡ count_of ps + 2
  wed-count = two-more ps wed a b ne la lb (rw fa refl) (rw fb refl) (rw wed-first (lt-ltb b routes lb)) (rw wed-second (lt-ltb a routes la)) (λ x na nb. rw (wed-other x na nb) refl)

-- ---- a and b made partners, after both old partners are freed

module _ (ps : List ℕ) (s : Sound ps) (a b : ℕ) (ne : a ≢ b) (la : a < routes) (lb : b < routes) where
  once : Sound (freed ps a)
  once = freed-sound ps s a la

  twice : Sound (freed (freed ps a) b)
  twice = freed-sound (freed ps a) once b lb

  first-free : mate_of (freed (freed ps a) b) a ≡ none
  first-free =
      let z = freed-self ps s a in
      freed-other (freed ps a) once b a ne (λ e. let y : none ≡ b = sym z ∙ e in omega arith) ∙ z

  second-free : mate_of (freed (freed ps a) b) b ≡ none
  second-free = freed-self (freed ps a) once b

  pub paired-first : mate_of (paired ps a b) a ≡ b
  unfolding paired wed
  paired-first = wed-first (freed (freed ps a) b) twice a b ne la lb first-free second-free

  pub paired-second : mate_of (paired ps a b) b ≡ a
  unfolding paired wed
  paired-second = wed-second (freed (freed ps a) b) twice a b ne la lb first-free second-free

  paired-rest : (x : ℕ) → x ≢ a → x ≢ b → mate_of (paired ps a b) x ≡ mate_of (freed (freed ps a) b) x
  unfolding paired wed
  paired-rest = wed-other (freed (freed ps a) b) twice a b ne la lb first-free second-free

  -- the partner that a leaves, or b, is free
  pub paired-leaves-first : (x : ℕ) → x ≢ b → mate_of ps x ≡ a → mate_of (paired ps a b) x ≡ none
  paired-leaves-first x nb e =
      let z = freed-left ps s a x la e in
      let na : x ≢ a = λ k. mate-apart ps s x (rw e la) (e ∙ sym k) in
      paired-rest x na nb ∙ freed-other (freed ps a) once b x nb (λ k. let y : none ≡ b = sym z ∙ k in omega arith) ∙ z

  pub paired-leaves-second : (x : ℕ) → x ≢ a → mate_of ps x ≡ b → mate_of (paired ps a b) x ≡ none
  paired-leaves-second x na e =
      let z : mate_of (freed ps a) x ≡ b = freed-other ps s a x na (λ k. ne (sym k ∙ e)) ∙ e in
      let nb : x ≢ b = λ k. mate-apart ps s x (rw e lb) (e ∙ sym k) in
      paired-rest x na nb ∙ freed-left (freed ps a) once b x lb z

  -- all others keep theirs
  pub paired-other : (x : ℕ) → x ≢ a → x ≢ b → mate_of ps x ≢ a → mate_of ps x ≢ b → mate_of (paired ps a b) x ≡ mate_of ps x
  paired-other x na nb ma mb =
      let z = freed-other ps s a x na ma in
      paired-rest x na nb ∙ freed-other (freed ps a) once b x nb (λ k. mb (sym z ∙ k)) ∙ z

  -- what an id is left with: the new partner, none, or the partner that it had
  pub paired-cases : {C : Type 0} (x : ℕ) → (x ≡ a → mate_of (paired ps a b) x ≡ b → C) → (x ≡ b → mate_of (paired ps a b) x ≡ a → C)
      → (mate_of (paired ps a b) x ≡ none → C)
      → (x ≢ a → x ≢ b → mate_of ps x ≢ a → mate_of ps x ≢ b → mate_of (paired ps a b) x ≡ mate_of ps x → C) → C
  paired-cases x f g h k = cases (eqb x a)
      (λ t. let e = eqb-true x a t in f e (rw e paired-first))
      (λ t. cases (eqb x b)
      (λ u. let e = eqb-true x b u in g e (rw e paired-second))
      (λ u. cases (eqb (mate_of ps x) a)
      (λ v. h (paired-leaves-first x (eqb-false x b u) (eqb-true (mate_of ps x) a v)))
      (λ v. cases (eqb (mate_of ps x) b)
      (λ w. h (paired-leaves-second x (eqb-false x a t) (eqb-true (mate_of ps x) b w)))
      (λ w. k (eqb-false x a t) (eqb-false x b u) (eqb-false (mate_of ps x) a v) (eqb-false (mate_of ps x) b w)
      (paired-other x (eqb-false x a t) (eqb-false x b u) (eqb-false (mate_of ps x) a v) (eqb-false (mate_of ps x) b w))))))

  pub paired-sound : Sound (paired ps a b)
  unfolding paired wed
  paired-sound = wed-sound (freed (freed ps a) b) twice a b ne la lb first-free second-free

  -- the count, by what is freed: two ids are paired that had to be free before it
  pub paired-count : count_of (paired ps a b) + 2 * bit (is_paired ps a) + 2 * bit (is_paired (freed ps a) b) ≡ count_of ps + 2
  unfolding paired wed
  paired-count = omega (
    arith,
    wed-count (freed (freed ps a) b) twice a b ne la lb first-free second-free,
    freed-count ps s a la,
    freed-count (freed ps a) once b lb,
  )

  -- two partners paired again: all stays as it is
  pub paired-again : mate_of ps a ≡ b → paired ps a b ≡ ps
  paired-again e =
      let back : mate_of ps b ≡ a = rw e at (mate-back ps s a (rw e lb)) in
      same-partners (paired ps a b) ps paired-sound.places s.places (λ x l. cases (eqb x a)
      (λ t. rw (eqb-true x a t) (paired-first ∙ sym e))
      (λ t. cases (eqb x b)
      (λ u. rw (eqb-true x b u) (paired-second ∙ sym back))
      (λ u.
      let na = eqb-false x a t in
      let nb = eqb-false x b u in
      paired-other x na nb
      (λ m. nb (sym (rw m at (mate-back ps s x (rw m la))) ∙ e))
      (λ m. na (sym (rw m at (mate-back ps s x (rw m lb))) ∙ back)))))
