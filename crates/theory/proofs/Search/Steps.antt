-- The search part of the way, as a loop leaves it: one more turn, and where a loop may leave. For the proofs of code. Assumes nothing.
use mathlib.Core.Path.{◌≡◌, refl, sym, ap, ◌∙◌}
use mathlib.Core.Bool.{Bool, true, false, cond}
use mathlib.Core.List.{List, [], ◌∷◌}
use Prim.Native.Nat.{ℕ, zero, suc, ◌+◌, ◌≤◌, ◌<◌}
use native.Mathlib.Omega.{arith}
use native.Mathlib.Nat.{not-suc-le-zero}
use native.Mathlib.Numerals.{add-one}
use native.Mathlib.Decide.{ℕ_discrete}
use lib.Dec.{ltb}
use lib.ListN.{length, get_or, take}
use lib.Seq.{take_all}
use borrow.Author.Tests.{eq-eqb, ne_eqb, le-ltb}
use Rattle.graphs.specs.Graph.{Graph}
use Rattle.theory.specs.Search.Tables.{groups, cell, store, Line, Rings, Tables, turns}
use Rattle.theory.specs.Search.Start.{plant, seed, fill}
use Rattle.theory.specs.Search.Rings.{Way, stride, admit, around, regroup, shift}
use Rattle.theory.specs.Search.Look.{look, scan_row, turn, run}
use Rattle.theory.specs.Search.Expose.{pair_up, couples, lift, expose, raise}
use Rattle.theory.specs.Search.Searched.{own_or, inward, none_or, outward, after, searched_in, improved_in}

-- ---- a test, decided

cond-true : {A : Type 0} {b : Bool} (x y : A) → b ≡ true → cond b x y ≡ x
cond-true x y h = rw h refl

cond-false : {A : Type 0} {b : Bool} (x y : A) → b ≡ false → cond b x y ≡ y
cond-false x y h = rw h refl

-- ---- counted turns

module _ {A : Type 0} (f : A → A) (a : A) where
  pub turns-none : turns 0 f a ≡ a
  unfolding turns
  turns-none = refl

  pub turns-again : (k : ℕ) (st : A) → st ≡ turns k f a → f st ≡ turns (k + 1) f a
  unfolding turns
  turns-again k st h = rw (h, add-one) refl

  -- a loop may leave where the next turn changes nothing
  pub turns-left : (k n : ℕ) (st : A) → k ≤ n → st ≡ turns k f a → f st ≡ st → st ≡ turns n f a
  unfolding turns
  turns-left k zero st h p q = let e : k ≡ 0 = omega arith in rw e at p
  turns-left k (suc n) st h p q = go (ℕ_discrete k (suc n)) (λ l. turns-left k n st l p q)
    where
      go : Dec (k ≡ suc n) → (k ≤ n → st ≡ turns n f a) → st ≡ f (turns n f a)
      go (yes e) r = rw e at p
      go (no e) r = sym q ∙ ap f (r (omega arith))

-- ---- the start

module _ (room : ℕ) (mate : List ℕ) (l : Line) where
  pub seed-none : seed room mate 0 l ≡ l
  unfolding seed
  seed-none = refl

  pub seed-again : (k : ℕ) (st : Line) → st ≡ seed room mate k l → plant room mate st k ≡ seed room mate (k + 1) l
  unfolding seed
  seed-again k st h = rw (h, add-one) refl

module _ (size : ℕ) (l : List ℕ) where
  pub fill_none : fill size 0 l ≡ l
  unfolding fill
  fill_none = refl

  pub fill-again : (k : ℕ) (st : List ℕ) → st ≡ fill size k l → store size st k k ≡ fill size (k + 1) l
  unfolding fill
  fill-again k st h = rw (h, add-one) refl

-- ---- a ring

-- where the walks have met, a stride is nothing
pub stride-met : (room : ℕ) (s : Tables) (z : Way) → cell room s.top z.x ≡ cell room s.top z.y → stride room s z ≡ z
unfolding stride
stride-met room s z h = cond-true _ _ (eq-eqb _ _ h)

module _ (room : ℕ) (next : List ℕ) where
  pub around-none : (a : ℕ) (l : Line) → around room next 0 a l ≡ l
  unfolding around
  around-none a l = refl

  pub around-again : (j a : ℕ) (l : Line) → around room next (j + 1) a l ≡ around room next j (cell (groups room) next a) (admit room l a)
  unfolding around
  around-again j a l = rw add-one refl

module _ (room : ℕ) (up : List ℕ) (b : ℕ) (t : List ℕ) where
  pub shift_none : shift room up b 0 t ≡ t
  unfolding shift
  shift_none = refl

  pub shift-again : (k : ℕ) (st : List ℕ) → st ≡ shift room up b k t → regroup room up b st k ≡ shift room up b (k + 1) t
  unfolding shift
  shift-again k st h = rw (h, add-one) refl

-- ---- a row

pub look_hit : (room : ℕ) (s : Tables) (v w : ℕ) → s.hit ≡ true → look room s v w ≡ s
unfolding look
look_hit room s v w h = cond-true _ _ h

module _ (room : ℕ) where
  pub scan-hit : (s : Tables) (v : ℕ) (ws : List ℕ) → s.hit ≡ true → scan_row room s v ws ≡ s
  unfolding scan_row
  scan-hit s v [] h = refl
  scan-hit s v (w ∷ ws) h = ap (λ (x : Tables). scan_row room x v ws) (look_hit room s v w h) ∙ scan-hit s v ws h

  pub scan-none : (s : Tables) (v : ℕ) (ws : List ℕ) → scan_row room s v (take 0 ws) ≡ s
  unfolding scan_row
  scan-none s v ws = refl

  -- one more entry
  pub scan-again : (s : Tables) (v : ℕ) (ws : List ℕ) (j : ℕ) → j < length ws → look room (scan_row room s v (take j ws)) v (get_or ws j 0) ≡ scan_row room s v (take (j + 1) ws)
  unfolding scan_row
  scan-again s v ws j h = rw add-one (go s ws j h)
    where
      go : (s : Tables) (ws : List ℕ) (j : ℕ) → j < length ws → look room (scan_row room s v (take j ws)) v (get_or ws j 0) ≡ scan_row room s v (take (suc j) ws)
      go s [] j h = absurd (not-suc-le-zero h)
      go s (w ∷ ws) zero h = refl
      go s (w ∷ ws) (suc j) h = go (look room s v w) ws j (omega arith)

  pub scan-all : (s : Tables) (v : ℕ) (ws : List ℕ) (j : ℕ) → length ws ≤ j → scan_row room s v (take j ws) ≡ scan_row room s v ws
  scan-all s v ws j h = ap (scan_row room s v) (take_all j ws h)

  -- an edge was found part of the way: the rest of the row does nothing
  pub scan-left : (s : Tables) (v : ℕ) (ws : List ℕ) (j : ℕ) → (scan_row room s v (take j ws)).hit ≡ true → scan_row room s v (take j ws) ≡ scan_row room s v ws
  unfolding scan_row
  scan-left s v ws zero h = sym (scan-hit s v ws h)
  scan-left s v [] (suc j) h = refl
  scan-left s v (w ∷ ws) (suc j) h = scan-left (look room s v w) v ws j h

-- ---- the queue

module _ (room : ℕ) (g : Graph) where
  pub turn-past : (k : ℕ) (s : Tables) → s.line.tail ≤ k → turn room g k s ≡ s
  unfolding turn
  turn-past k s h = cond-false _ _ (le-ltb k s.line.tail h)

  pub turn-hit : (k : ℕ) (s : Tables) → s.hit ≡ true → turn room g k s ≡ s
  unfolding turn
  turn-hit k s h = rw (scan-hit room s (cell room s.line.queue k) (g.row (cell room s.line.queue k)) h) (either (ltb k s.line.tail))
    where
      either : (b : Bool) → cond b s s ≡ s
      either true = refl
      either false = refl

  pub run_none : (s : Tables) → run room g 0 s ≡ s
  unfolding run
  run_none s = refl

  pub run-again : (k : ℕ) (s st : Tables) → st ≡ run room g k s → turn room g k st ≡ run room g (k + 1) s
  unfolding run
  run-again k s st h = rw (h, add-one) refl

  -- the queue is done, or an edge is found: the rest does nothing
  pub run-left : (k n : ℕ) (s st : Tables) → k ≤ n → st ≡ run room g k s → ((j : ℕ) → k ≤ j → turn room g j st ≡ st) → st ≡ run room g n s
  unfolding run
  run-left k zero s st h p q = let e : k ≡ 0 = omega arith in rw e at p
  run-left k (suc n) s st h p q = go (ℕ_discrete k (suc n)) (λ l. run-left k n s st l p q)
    where
      go : Dec (k ≡ suc n) → (k ≤ n → st ≡ run room g n s) → st ≡ turn room g n (run room g n s)
      go (yes e) r = rw e at p
      go (no e) r = sym (q n (omega arith)) ∙ ap (turn room g n) (r (omega arith))

-- ---- the pairs: what is left to do, from where a loop is

module _ (room : ℕ) (r : Rings) (half : List ℕ) where
  pub expose-spent : (f g x : ℕ) (m : List ℕ) → f ≡ 0 → expose room r half f g x m ≡ m
  unfolding expose
  expose-spent f g x m h = rw h refl

  pub expose-again : (f f₁ g x : ℕ) (m : List ℕ) → f ≡ suc f₁ → expose room r half f g x m ≡ lift room (expose room r half f₁) r half f₁ x g m
  unfolding expose
  expose-again f f₁ g x m h = rw h refl

module _ (room : ℕ) (e : ℕ → ℕ → List ℕ → List ℕ) (r : Rings) where
  pub couples-none : (a : ℕ) (m : List ℕ) → couples room e r 0 a m ≡ m
  unfolding couples
  couples-none a m = refl

  pub couples-again : (j a d x y : ℕ) (m m₁ m₂ : List ℕ) → d ≡ cell (groups room) r.next a → x ≡ cell (groups room) r.out a → y ≡ cell (groups room) r.into a
      → m₁ ≡ e a x (pair_up room m x y) → m₂ ≡ e d y m₁ → couples room e r (j + 1) a m ≡ couples room e r j (cell (groups room) r.next d) m₂
  unfolding couples
  couples-again j a d x y m m₁ m₂ p q t b c = rw (add-one, c, b, p, q, t) refl

  pub lift-none : (half : List ℕ) (c g : ℕ) (m : List ℕ) → lift room e r half 0 c g m ≡ m
  unfolding lift
  lift-none half c g m = refl

  pub lift-there : (half : List ℕ) (j c g : ℕ) (m : List ℕ) → c ≡ g → lift room e r half j c g m ≡ m
  unfolding lift
  lift-there half zero c g m h = refl
  lift-there half (suc j) c g m h = cond-true _ _ (eq-eqb c g h)

  pub lift-again : (half : List ℕ) (j c g b : ℕ) (m m₁ : List ℕ) → (c ≡ g → ⊥) → b ≡ cell (groups room) r.up c
      → m₁ ≡ couples room e r (cell (groups room) half b) (cell (groups room) r.next c) m → lift room e r half (j + 1) c g m ≡ lift room e r half j b g m₁
  unfolding lift
  lift-again half j c g b m m₁ h p q = rw (add-one, q, p) (cond-false _ _ (ne_eqb c g h))

pub raise-spent : (room : ℕ) (s : Tables) (f p : ℕ) (m : List ℕ) → f ≡ 0 → raise room s f p m ≡ m
unfolding raise
raise-spent room s f p m h = rw h refl

module _ (room : ℕ) (s : Tables) (f p g b i : ℕ) (m m₁ : List ℕ) (eg : g ≡ cell room s.top p) (eb : b ≡ cell (groups room) s.base g) (ei : i ≡ cell room s.mate b)
    (em : m₁ ≡ expose room s.rings s.half s.ids g p m) where
  -- the root's group
  pub raise-end : i ≡ b → raise room s (f + 1) p m ≡ m₁
  unfolding raise
  raise-end h = rw (add-one, ← eg, ← eb, ← ei, ← em) (cond-true _ _ (eq-eqb i b h))

  pub raise-again : (q : ℕ) → q ≡ cell room s.parent i → (i ≡ b → ⊥) → raise room s (f + 1) p m ≡ raise room s f q (pair_up room m₁ i q)
  unfolding raise
  raise-again q eq h = rw (add-one, ← eg, ← eb, ← ei, ← em, ← eq) (cond-false _ _ (ne_eqb i b h))

-- ---- in and out

module _ (room n : ℕ) (p m : List ℕ) where
  pub inward-none : inward room n p 0 m ≡ m
  unfolding inward
  inward-none = refl

  pub inward-again : (k : ℕ) (st : List ℕ) → st ≡ inward room n p k m → store room st k (own_or room n p k) ≡ inward room n p (k + 1) m
  unfolding inward
  inward-again k st h = rw (h, add-one) refl

module _ (room : ℕ) (m p : List ℕ) where
  pub outward-none : outward room m 0 p ≡ p
  unfolding outward
  outward-none = refl

  pub outward-again : (k : ℕ) (st : List ℕ) → st ≡ outward room m k p → store room st k (none_or room m k) ≡ outward room m (k + 1) p
  unfolding outward
  outward-again k st h = rw (h, add-one) refl

module _ (room : ℕ) (g : Graph) (p : List ℕ) where
  pub improved-none : improved_in room g p 0 ≡ p
  unfolding improved_in
  improved-none = refl

  pub improved-again : (b : ℕ) (st : List ℕ) → st ≡ improved_in room g p b → after (searched_in room g st) st ≡ improved_in room g p (b + 1)
  unfolding improved_in
  improved-again b st h = rw (h, add-one) refl
