-- A pairing by itself, as its list of partners: place i holds the partner of id i, or none. An id is a number below the limit.
use Rattle.std.specs.Prelude.{ℕ, zero, suc, ◌+◌, ◌*◌, ◌/◌, ◌%◌, ◌<◌, ◌≤◌, ◌≡◌, ◌≢◌, Bool, not, cond, ◌&&◌, ◌||◌, List, [], ◌∷◌, ◌++◌, length, get_or, set, replicate, eqb, ltb}
use Rattle.limits.specs.Limits.{routes, none}
use Rattle.graphs.specs.Count.{count}

-- the partner of an id, or none; what is no id has none. A list of partners has a place for each id, so that the 0 is never read
unfoldable pub mate_of : List ℕ → ℕ → ℕ
mate_of ps i = cond (ltb i routes) (get_or ps i 0) none

-- the id has a partner
abbrev pub is_paired : List ℕ → ℕ → Bool
is_paired ps i = ltb (mate_of ps i) routes

-- how many ids have a partner: what the kept count has to be
unfoldable pub count_of : List ℕ → ℕ
count_of ps = count routes (is_paired ps)

-- the partner of i is none, or it is below the limit, not i itself, and names i back
unfoldable pub fits : List ℕ → ℕ → Bool
fits ps i = eqb (mate_of ps i) none || (ltb (mate_of ps i) routes && not (eqb (mate_of ps i) i) && eqb (mate_of ps (mate_of ps i)) i)

-- a list with a place for each id, in which every partner is none, or is below the limit, is not the id itself and names the id back
pub record Sound (ps : List ℕ) : Type 0 where
  pub places : length ps ≡ routes
  pub none-or-id : (i : ℕ) → i < routes → routes ≤ mate_of ps i → mate_of ps i ≡ none
  pub apart : (i : ℕ) → i < routes → mate_of ps i < routes → mate_of ps i ≢ i
  pub back : (i : ℕ) → i < routes → mate_of ps i < routes → mate_of ps (mate_of ps i) ≡ i

-- all places unpaired
unfoldable pub fresh : List ℕ
fresh = replicate routes none

-- i made free, and its partner with it
unfoldable pub freed : List ℕ → ℕ → List ℕ
freed ps i = cond (is_paired ps i) (set (set ps (mate_of ps i) none) i none) ps

-- a and b made partners, after both old partners are freed
unfoldable pub paired : List ℕ → ℕ → ℕ → List ℕ
paired ps a b = set (set (freed (freed ps a) b) a b) b a

-- the id at a position of a path
abbrev pub id_at : List ℕ → ℕ → ℕ
id_at path k = get_or path k none

-- a path whose ids can be made partners two by two: an even count, ids below the limit, and no id beside itself
pub record Pairable (path : List ℕ) : Type 0 where
  pub even : length path % 2 ≡ 0
  pub ids : (k : ℕ) → k < length path → id_at path k < routes
  pub no_self : (k : ℕ) → k < length path / 2 → id_at path (2 * k) ≢ id_at path (2 * k + 1)

-- the first k pairs of a path made partners: positions 0 and 1, then 2 and 3, ..
unfoldable pub after : ℕ → List ℕ → List ℕ → List ℕ
after zero path ps = ps
after (suc k) path ps = paired (after k path ps) (id_at path (2 * k)) (id_at path (2 * k + 1))

-- all pairs of a path made partners, in order
unfoldable pub augmented : List ℕ → List ℕ → List ℕ
augmented ps path = after (length path / 2) path ps

-- the id has a partner, and is the lower of the two
abbrev pub is_lower : List ℕ → ℕ → Bool
is_lower ps i = is_paired ps i && ltb i (mate_of ps i)

-- the numbers below n that pass a test, rising
unfoldable pub rising : ℕ → (ℕ → Bool) → List ℕ
rising zero P = []
rising (suc n) P = rising n P ++ cond (P n) (n ∷ []) []

-- the lower id of each pair, rising
unfoldable pub lowers : List ℕ → List ℕ
lowers ps = rising routes (is_lower ps)
