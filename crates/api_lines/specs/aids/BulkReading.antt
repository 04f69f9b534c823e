-- What the reader of a bulk body has done after some lines.
use Rattle.api_lines.specs.Bulk.{SoFar}
use Rattle.api_lines.specs.declared.bulk.Bulk.{Bulk}

abbrev pub so_far : Bulk → SoFar
so_far b = record { items = b.items.items; awaited = b.awaited }
