-- What an accepted operation hands on is accepted by the next, and a pair is a path of two ids. Assumes nothing.
use Prim.Native.Nat.{ℕ, ◌<◌}
use mathlib.Core.Path.{◌≡◌, refl}
use mathlib.Core.Logic.{◌≢◌}
use mathlib.Core.List.{List, [], ◌∷◌}
use lib.Dec.{eqb, ltb}
use borrow.Author.Tests.{ltb-true, ltb-false, le-leb, lt-leb}
use Rattle.limits.specs.Limits.{routes}
use Rattle.graphs.specs.Count.{least}
use Rattle.graphs.proofs.Count.{cases}
use Rattle.mates.specs.Partners.{count_of, Sound, Pairable, fresh, paired, augmented}
use Rattle.checks.specs.Checks.{pairing_reply, id_reply, pair_reply}
use Rattle.paths.specs.Paths.{unknown, self_pair, path_reply}
use Rattle.limits.specs.Answer.{accepted}
use Rattle.mates.proofs.Sound.{fresh-sound, fresh-count, paired-sound}
use Rattle.checks.proofs.Replies.{sound-accepted}
use Rattle.pairing.specs.Answers.{pair_answer, augment_answer}
use Rattle.pairing.specs.declared.Pairing.{Pairing}
use Rattle.joins.proofs.Paths.{augmented-sound, augmented-cons, augmented-empty}

pub fresh-accepted : pairing_reply fresh 0 ≡ accepted
fresh-accepted = rw fresh-count at (sound-accepted fresh fresh-sound)

pub paired-accepted : (ps : List ℕ) → Sound ps → (a b : ℕ) → a ≢ b → a < routes → b < routes → pairing_reply (paired ps a b) (count_of (paired ps a b)) ≡ accepted
paired-accepted ps s a b ne la lb = sound-accepted (paired ps a b) (paired-sound ps s a b ne la lb)

pub augmented-accepted : (ps path : List ℕ) → Sound ps → Pairable path → pairing_reply (augmented ps path) (count_of (augmented ps path)) ≡ accepted
augmented-accepted ps path s p = sound-accepted (augmented ps path) (augmented-sound ps path s p)

-- the refusals of two ids are those of the path of the two
reply-of-two : (a b : ℕ) → path_reply (a ∷ b ∷ []) ≡ pair_reply a b
unfolding path_reply unknown self_pair pair_reply id_reply least
reply-of-two a b = cases (ltb a routes)
    (λ t. cases (ltb b routes)
    (λ u. cases (eqb a b)
    (λ v. rw (t, u, v, lt-leb routes a (ltb-true a routes t), lt-leb routes b (ltb-true b routes u)) refl)
    (λ v. rw (t, u, v, lt-leb routes a (ltb-true a routes t), lt-leb routes b (ltb-true b routes u)) refl))
    (λ u. rw (t, u, lt-leb routes a (ltb-true a routes t), le-leb routes b (ltb-false b routes u)) refl))
    (λ t. rw (t, le-leb routes a (ltb-false a routes t)) refl)

pub pair-is-augment : (p : Pairing) (a b : ℕ) → pair_answer p a b ≡ augment_answer p (a ∷ b ∷ [])
unfolding pair_answer augment_answer
pair-is-augment p a b = rw (reply-of-two a b, augmented-cons p.partner [] a b, augmented-empty (paired p.partner a b)) refl
