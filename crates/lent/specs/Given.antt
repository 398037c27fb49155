-- The operations of a list as the program has them: each of them a code and a part of the list that is lent.
use Rattle.std.specs.Prelude.{◌-◌, List, length}
use Rattle.lent.specs.Operations.{Operation, operations_from}
use Rattle.lent.specs.declared.Operation.{Operation as Given}
use Rattle.lent.specs.declared.Operations.{Operations}

-- an operation, by the ids that are lent
abbrev pub given : Given → Operation
given o = record { code = o.code; ids = o.ids.now }

-- the operations that are still to come
abbrev pub left : Operations → List Operation
left s = operations_from (length s.ops.now - s.at) s.at s.ops.now
