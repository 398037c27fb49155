-- How the reader works, and nothing that has to be believed: a table of who names whom, one bit for each two ids.
use Rattle.std.specs.Prelude.{ℕ, ◌+◌, ◌*◌, ◌-◌, ◌/◌, ◌%◌, ◌^◌, Bool, false, cond, List, get_or, set, replicate, eqb, ltb}
use Rattle.std.specs.Int.Bits.{bit_or}
use Rattle.limits.specs.Limits.{routes}

-- bit j of the word x
abbrev pub bit_at : ℕ → ℕ → Bool
bit_at x j = eqb (x / 2 ^ j % 2) 1

-- the word with bit j set
abbrev pub with_bit : ℕ → ℕ → ℕ
with_bit x j = bit_or x (2 ^ j)

-- the word of the table, and the bit in it, that stand for v naming w
abbrev pub word_of : ℕ → ℕ → ℕ
word_of v w = v * (routes / 32) + w / 32

abbrev pub bit_of : ℕ → ℕ
bit_of w = w - 32 * (w / 32)

-- whether v is marked as naming w
unfoldable pub marked : List ℕ → ℕ → ℕ → Bool
marked t v w = cond (ltb v routes) (cond (ltb w routes) (bit_at (get_or t (word_of v w) 0) (bit_of w)) false) false

-- the table with v marked as naming w
unfoldable pub mark : List ℕ → ℕ → ℕ → List ℕ
mark t v w = cond (ltb v routes) (cond (ltb w routes) (set t (word_of v w) (with_bit (get_or t (word_of v w) 0) (bit_of w))) t) t

-- nothing marked
unfoldable pub unmarked : List ℕ
unmarked = replicate (routes * (routes / 32)) 0
