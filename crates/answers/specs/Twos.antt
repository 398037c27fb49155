-- Two's complement: the surplus of an answer, which may be below zero.
use Rattle.std.specs.Prelude.{ℕ, ◌-◌, ◌^◌, ℤ, pos, negsuc}

-- a signed number in two's complement of 64 bits
abbrev pub twos : ℤ → ℕ
twos (pos k) = k
twos (negsuc k) = 2 ^ 64 - 1 - k
