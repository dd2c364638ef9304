-- What the code has, without where it lies in memory.
use Rattle.std.specs.Prelude.{ℕ, List, map, Option, Some, None}
use Rattle.pp_legacy.specs.declared.records.Cursor.{Cursor}
use Rattle.pp_legacy.specs.declared.records.Record.{Record}
use Rattle.pp_legacy.specs.declared.records.Records.{Records}
use Rattle.pp_legacy.specs.declared.line.Region.{Region}
use Rattle.pp_legacy.specs.declared.line.Span.{Span}
use Rattle.pp_legacy.specs.Words.{whole_words}
use Rattle.pp_legacy.specs.Records as spec
use Rattle.pp_legacy.specs.Records.{StackRecord, Entries, Found}
use Rattle.pp_legacy.specs.Regions as text

-- a record
abbrev pub entry_of : Record → StackRecord
entry_of r = record { count = r.count; nanos = r.nanos; stack = whole_words r.stack.now }

-- a record and where the next one is, or none
abbrev pub step_of : Option (Record × Cursor) → Found
step_of None = None
step_of (Some p) = Some (entry_of p.0, p.1)

-- the records of a file
abbrev pub entries_of : Records → Entries
entries_of r = record { entries = map entry_of r.records.items; text = r.text }

-- a region
abbrev pub region_of : Region → text.Region
region_of r = record {
  start = r.start;
  limit = r.limit;
  permissions = r.permissions.now;
  offset = r.offset;
  path = r.path.now;
}

-- regions
abbrev pub regions_of : List Region → List text.Region
regions_of rs = map region_of rs

-- addresses and permissions
abbrev pub span_of : Span → ℕ × ℕ × List ℕ
span_of s = (s.start, s.limit, s.permissions.now)
