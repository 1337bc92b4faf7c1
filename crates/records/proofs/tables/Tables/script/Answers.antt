use Rattle.records.specs.Lent.{tables_of}
use Rattle.records.proofs.InTable.{counted_script}
use Rattle.records.proofs.tables.Tables.script.Goals as goal

pub returns : goal.returns
returns c =
    counted_script (tables_of c.args.self) c.in_ok-counted.ensures.fits c.in_ok-counted-2.ensures.fits c.in_ok-counted.ensures.counted c.in_ok-counted-2.ensures.counted
