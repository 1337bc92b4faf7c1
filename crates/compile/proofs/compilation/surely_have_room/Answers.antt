-- Each record is a token's, and a text has few of these.
use Rattle.std.proofs.Common.{rules}
use Rattle.compile.proofs.Recorded.{surely}
use Rattle.compile.proofs.compilation.surely_have_room.Goals as goal

pub returns-then-most-capacity : goal.returns-then-most-capacity
returns-then-most-capacity c e = surely _ _ _ c.capacity.ensures c.capacity-then-most-capacity.ensures c.if-most-capacity.true (search (rules, e))
