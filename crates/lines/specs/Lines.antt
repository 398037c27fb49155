-- The lines of a report, byte by byte: document 01, "Layouts to run". The crate `report` says which of them are written for an input. Assumes nothing.
use Rattle.std.specs.Prelude.{ℕ, zero, suc, cond, ◌&&◌, List, [], ◌∷◌, ◌++◌, ltb}
use Rattle.limits.specs.declared.Told.{Told}
use Rattle.causes.specs.Given.{mate_of, set_of}
use Rattle.text.specs.Digits.{digits, spaced}

-- what stands at the end of a line
abbrev pub line_end : List ℕ
line_end = 10 ∷ []

-- f 0, f 1, .., f (k - 1), one after the other
unfoldable pub each : (ℕ → List ℕ) → ℕ → List ℕ
each f zero = []
each f (suc k) = each f k ++ f k

-- "refused", "routes", " pairs", " unpaired", " sessions" and "over"
abbrev pub refused_word : List ℕ
refused_word = 114 ∷ 101 ∷ 102 ∷ 117 ∷ 115 ∷ 101 ∷ 100 ∷ []

abbrev pub routes_word : List ℕ
routes_word = 114 ∷ 111 ∷ 117 ∷ 116 ∷ 101 ∷ 115 ∷ []

abbrev pub pairs_word : List ℕ
pairs_word = 32 ∷ 112 ∷ 97 ∷ 105 ∷ 114 ∷ 115 ∷ []

abbrev pub unpaired_word : List ℕ
unpaired_word = 32 ∷ 117 ∷ 110 ∷ 112 ∷ 97 ∷ 105 ∷ 114 ∷ 101 ∷ 100 ∷ []

abbrev pub sessions_word : List ℕ
sessions_word = 32 ∷ 115 ∷ 101 ∷ 115 ∷ 115 ∷ 105 ∷ 111 ∷ 110 ∷ 115 ∷ []

abbrev pub over_word : List ℕ
over_word = 111 ∷ 118 ∷ 101 ∷ 114 ∷ []

-- "refused", number, A and B
unfoldable pub refusal : Told → List ℕ
refusal t = refused_word ++ spaced t.no ++ spaced t.a ++ spaced t.b ++ line_end

-- the first line: the four counts
unfoldable pub counts : ℕ → ℕ → ℕ → ℕ → List ℕ
counts n size free sessions =
    (routes_word ++ spaced n) ++ (pairs_word ++ spaced size) ++ (unpaired_word ++ spaced free) ++ (sessions_word ++ spaced sessions) ++ line_end

-- a line for v and its partner w where v is the lower route of a pair
unfoldable pub pair_line : ℕ → ℕ → ℕ → List ℕ
pair_line n v w =
    let line = digits v ++ spaced w ++ line_end in
    cond (ltb w n && ltb v w) line []

-- the pairs, one to a line
unfoldable pub pair_lines : ℕ → List ℕ → List ℕ
pair_lines n pairing = each (λ v. pair_line n v (mate_of pairing v)) n

-- v where it is in the witness's set
unfoldable pub member : List ℕ → ℕ → List ℕ
member witness v =
    let name = spaced v in
    cond (set_of witness v) name []

-- the last line: "over" and the routes of the set
unfoldable pub over_line : ℕ → List ℕ → List ℕ
over_line n witness = over_word ++ each (member witness) n ++ line_end
