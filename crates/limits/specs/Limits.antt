-- The two numbers of `src/lib.rt`, for the contracts.
use Rattle.std.specs.Prelude.{ℕ}

-- the most routes that a sheet may have
abbrev pub routes : ℕ
routes = 512

-- the number that stands for none: the largest of four bytes, and no route
abbrev pub none : ℕ
none = 4294967295
