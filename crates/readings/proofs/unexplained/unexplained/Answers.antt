use Rattle.std.proofs.Common.{subst}
use Rattle.readings.specs.aids.Records.{Offends}
use Rattle.readings.proofs.OffenceLemmas.{as_missed_write, as_no_writer, as_stale_get}
use Rattle.readings.proofs.unexplained.unexplained.Goals as goal

pub returns-in-NoWriter : goal.returns-in-NoWriter
returns-in-NoWriter c =
    as_no_writer c.args.reading c.args.records.now c.args.get.rec c.index-records-get.result (subst (Offends c.args.reading c.args.records.now c.args.get.rec) c.in-NoWriter.is c.requires) c.index-records-get.is

pub returns-in-StaleGet : goal.returns-in-StaleGet
returns-in-StaleGet c =
    as_stale_get c.args.reading c.args.records.now c.args.get.rec c.in-StaleGet.write c.index-records-get.result c.index-records-write.result
    (subst (Offends c.args.reading c.args.records.now c.args.get.rec) c.in-StaleGet.is c.requires) c.index-records-get.is

pub returns-in-MissedWrite : goal.returns-in-MissedWrite
returns-in-MissedWrite c =
    as_missed_write c.args.reading c.args.records.now c.args.get.rec c.in-MissedWrite.write c.index-records-get.result c.index-records-write-in-MissedWrite.result
    (subst (Offends c.args.reading c.args.records.now c.args.get.rec) c.in-MissedWrite.is c.requires) c.index-records-get.is
