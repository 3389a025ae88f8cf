-- What a flush and a trim are to do (ACS-3).
use Rattle.std.specs.Prelude.{false}
use Rattle.ata_types.specs.declared.range.Range.{Range}
use Rattle.ata_types.specs.declared.request.Op.TheVariants.{Trim, Flush}
use Rattle.ncq.specs.declared.tasks.Task.{Task}

-- the disk's cache is written back, whatever range the request names
abbrev pub flush_task : Range → Task
flush_task range = record { op = Flush; range = range; queued = false }

-- these sectors are forgotten
abbrev pub trim_task : Range → Task
trim_task range = record { op = Trim; range = range; queued = false }
