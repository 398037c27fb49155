-- Putting after what stands, in a fixed room. Past the last byte nothing is put; every report is shorter (Room in the proofs of the crate report).
use Rattle.std.specs.Prelude.{ℕ, ◌-◌, List, ◌++◌, length, take}

-- the bytes that there is room for
abbrev pub room : ℕ
room = 8192

-- the text t, and after it as much of xs as there is room for
unfoldable pub followed_by : List ℕ → List ℕ → List ℕ
followed_by t xs = t ++ take (room - length t) xs
