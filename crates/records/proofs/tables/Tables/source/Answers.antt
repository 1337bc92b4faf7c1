use Rattle.std.proofs.Common.{sym}
use Rattle.records.specs.Records.{operator_of}
use Rattle.records.proofs.Sources.{there_at}
use Rattle.records.proofs.tables.Tables.source.Goals as goal

pub returns-in-Ok-clause-located : goal.returns-in-Ok-clause-located
returns-in-Ok-clause-located c =
    let counted = c.in_ok-operators.ensures in
    rw (c.range.ensures.0, c.range.ensures.1)
    (sym (there_at _ _ _ _ _ counted.fits counted.counted c.if-self-place.false (operator_of c.in-Ok.record) c.in-Ok.ensures.record c.in-Ok.ensures.whole))
