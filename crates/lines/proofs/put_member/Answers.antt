-- `put_member` meets its contract. Assumes nothing.
use Rattle.lines.proofs.Said.{member-put, member-none}
use Rattle.lines.proofs.put_member.Goals as goal

pub returns-then-is_member : goal.returns-then-is_member
returns-then-is_member c = member-put _ _ _ _ _ c.if-is_member.ensures c.from.ensures c.put_spaced.ensures

pub returns-else-is_member : goal.returns-else-is_member
returns-else-is_member c = member-none _ _ _ c.if-is_member.ensures
