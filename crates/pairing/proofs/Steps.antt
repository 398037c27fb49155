-- What the proofs of the functions cite: the reply of two checks, and what is known where neither refuses. Assumes nothing.
use Prim.Native.Nat.{ℕ, ◌<◌}
use mathlib.Core.Path.{◌≡◌, refl, sym, ap₂, ◌∙◌}
use mathlib.Core.Logic.{◌≢◌}
use mathlib.Core.List.{List}
use lib.ListN.{length}
use Rattle.std.specs.Prelude.{Ok, Err}
use Rattle.std.specs.Result.{result_and}
use Rattle.limits.specs.Limits.{routes}
use Rattle.limits.specs.Answer.{accepted, first}
use Rattle.limits.proofs.Replies.{first-accepted}
use Rattle.mates.specs.Partners.{count_of, Sound}
use Rattle.refusals.specs.Reply.{Reply}
use Rattle.checks.specs.Checks.{pairing_reply, pair_reply}
use Rattle.paths.specs.Paths.{path_reply}
use Rattle.pairing.specs.Answers.{answered}
use Rattle.checks.proofs.Replies.{pairing-accepted, pair-accepted}

and-first : (x y : Reply) → result_and x y ≡ first x y
and-first (Ok tt) y = refl
and-first (Err e) y = refl

-- the reply of two checks, from what each answers
pub reply-is : {x y X Y r : Reply} → r ≡ result_and x y → x ≡ X → y ≡ Y → r ≡ first X Y
reply-is {x} {y} e f g = e ∙ and-first x y ∙ ap₂ first f g

module _ (ps : List ℕ) (n : ℕ) (e : length ps ≡ routes) where
  -- what a pairing that is not refused has
  pub sound-ready : accepted ≡ pairing_reply ps n → Sound ps × (n ≡ count_of ps)
  sound-ready h = pairing-accepted ps n e (sym h)

  -- and the answer of the operation that tries no more than that
  pub order-is : (r : Reply) → r ≡ pairing_reply ps n → result_and r (Ok n) ≡ answered (pairing_reply ps n) (count_of ps)
  order-is (Ok tt) h = rw (← h, (sound-ready h).1) refl
  order-is (Err x) h = rw (← h) refl

  module _ (r : Reply) (h : accepted ≡ first (pairing_reply ps n) r) where
    both : (pairing_reply ps n ≡ accepted) × (r ≡ accepted)
    both = first-accepted (pairing_reply ps n) r (rw (← h) refl)

    pub first-ready : Sound ps × (n ≡ count_of ps)
    first-ready = sound-ready (sym both.0)

    pub pair-ready : (a b : ℕ) → r ≡ pair_reply a b → Sound ps × (n ≡ count_of ps) × (a < routes) × (b < routes) × (a ≢ b)
    pair-ready a b g =
        let p = pair-accepted a b (sym g ∙ both.1) in
        (first-ready.0, first-ready.1, p.0, p.1, p.2)

    pub path-ready : (path : List ℕ) → r ≡ path_reply path → Sound ps × (n ≡ count_of ps) × (path_reply path ≡ accepted)
    path-ready path g = (first-ready.0, first-ready.1, sym g ∙ both.1)
