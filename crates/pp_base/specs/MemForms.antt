-- What the objects in memory answer, and what each answer leaves.
use Rattle.std.specs.Prelude.{◌≡◌, ◌⊎◌, ◌/◌, ◌++◌, [], ◌∷◌, List, ℕ, Bool, true, false, length, take, drop, min, map}
use Rattle.pp_base.specs.FileMap.{with_file, among}
use Rattle.pp_base.specs.Judges.{occurs_in}
use Rattle.pp_base.specs.Calls.{fails_next, after_call}
use Rattle.pp_base.specs.Held.{SourceHeld, MemSourceHeld, SinkHeld, MemSinkHeld, FilesHeld, MemFilesHeld, LiteralHeld}
use Rattle.pp_base.specs.declared.source.SourceRead.{SourceRead}
use Rattle.pp_base.specs.declared.source.SourceRead.TheVariants as source
use Rattle.pp_base.specs.declared.sink.SinkWrite.{SinkWrite}
use Rattle.pp_base.specs.declared.sink.SinkWrite.TheVariants as sink
use Rattle.pp_base.specs.declared.files.FileRead.{FileRead}
use Rattle.pp_base.specs.declared.files.FileRead.TheVariants as reads
use Rattle.pp_base.specs.declared.files.FileWrite.{FileWrite}
use Rattle.pp_base.specs.declared.files.FileWrite.TheVariants as writes
use Rattle.pp_base.specs.declared.matcher.Judgement.{Judgement}
use Rattle.pp_base.specs.declared.matcher.Judgement.TheVariants as judgement

-- A calm source gives what is left, as far as the buffer and its own bound allow, and never fails.
abbrev pub CalmTakes : SourceHeld → SourceHeld → List ℕ → SourceRead → Type 0
CalmTakes old new buf (source.Got n) = (n ≡ min (min (length old.left) (length buf)) old.most)
    × (take n buf ≡ take n old.left) × (new ≡ record { left = drop n old.left; most = old.most })
CalmTakes old new buf source.End = (old.left ≡ []) × (new ≡ old)
CalmTakes old new buf source.Failed = ⊥

-- A source in memory fails exactly at its calls that fail, and else does as the calm one.
abbrev pub MemTakes : MemSourceHeld → MemSourceHeld → List ℕ → SourceRead → Type 0
MemTakes old new buf source.Failed = (fails_next old.calls ≡ true)
    × (new ≡ record { calm = old.calm; calls = after_call old.calls })
MemTakes old new buf answer = (fails_next old.calls ≡ false)
    × CalmTakes old.calm new.calm buf answer × (new.calls ≡ after_call old.calls)

-- A calm sink takes all, as far as its own bound allows, and never fails.
abbrev pub CalmPuts : SinkHeld → SinkHeld → List ℕ → SinkWrite → Type 0
CalmPuts old new bytes (sink.Took n) = (n ≡ min (length bytes) old.most)
    × (new ≡ record { bytes = old.bytes ++ take n bytes; most = old.most })
CalmPuts old new bytes sink.Failed = ⊥
CalmPuts old new bytes sink.Memory = new ≡ old

-- A sink in memory fails exactly at its calls that fail, and else does as the calm one.
abbrev pub MemPuts : MemSinkHeld → MemSinkHeld → List ℕ → SinkWrite → Type 0
MemPuts old new bytes sink.Failed = (fails_next old.calls ≡ true)
    × (new ≡ record { calm = old.calm; calls = after_call old.calls })
MemPuts old new bytes answer = (fails_next old.calls ≡ false)
    × CalmPuts old.calm new.calm bytes answer × (new.calls ≡ after_call old.calls)

-- the files once this path was read
abbrev pub noted : FilesHeld → List ℕ → FilesHeld
noted files path = record {
  content = files.content;
  locked = files.locked;
  reads = files.reads ++ path ∷ [];
}

-- A read of files in memory fails exactly at the calls that fail. It changes the count of calls and the paths that were
-- read, and no more. A call that fails adds no path, and want of memory may come before the path is added.
abbrev pub MemReads : MemFilesHeld → MemFilesHeld → List ℕ → FileRead → Type 0
MemReads old new path reads.Failed = (fails_next old.calls ≡ true)
    × (new ≡ record { calm = old.calm; calls = after_call old.calls })
MemReads old new path reads.Memory = (fails_next old.calls ≡ false)
    × (new.calls ≡ after_call old.calls)
    × ((new.calm ≡ old.calm) ⊎ (new.calm ≡ noted old.calm path))
MemReads old new path answer = (fails_next old.calls ≡ false)
    × (new ≡ record { calm = noted old.calm path; calls = after_call old.calls })

-- the first half of the bytes, rounded down
abbrev pub half_of : List ℕ → List ℕ
half_of bytes = take (length bytes / 2) bytes

-- the files with this content at the path
abbrev pub put : FilesHeld → List ℕ → List ℕ → FilesHeld
put files path bytes = record {
  content = with_file files.content path bytes;
  locked = files.locked;
  reads = files.reads;
}

-- what a failed write leaves of the files: the first half of the bytes, where the path isn't locked
abbrev pub broken_off : FilesHeld → List ℕ → List ℕ → Bool → FilesHeld
broken_off files path bytes true = files
broken_off files path bytes false = put files path (half_of bytes)

-- A write of files in memory fails exactly at the calls that fail, unless memory is wanting.
abbrev pub MemWrites : MemFilesHeld → MemFilesHeld → List ℕ → List ℕ → FileWrite → Type 0
MemWrites old new path bytes writes.Written = (fails_next old.calls ≡ false)
    × (new ≡ record { calm = put old.calm path bytes; calls = after_call old.calls })
MemWrites old new path bytes writes.Locked = (fails_next old.calls ≡ false)
    × (new ≡ record { calm = old.calm; calls = after_call old.calls })
MemWrites old new path bytes writes.Failed = (fails_next old.calls ≡ true)
    × (new ≡ record {
      calm = broken_off old.calm path bytes (among old.calm.locked path);
      calls = after_call old.calls;
    })
MemWrites old new path bytes writes.Memory =
    new ≡ record { calm = old.calm; calls = after_call old.calls }

-- A matcher of plain texts refuses exactly the patterns listed, and keeps each answer.
abbrev pub LiteralJudges : LiteralHeld → LiteralHeld → List ℕ → List (List ℕ) → Judgement → Type 0
LiteralJudges old new pattern subjects (judgement.Found verdicts) =
    (among old.refused pattern ≡ false)
    × (verdicts ≡ map (occurs_in pattern) subjects)
    × (new ≡ record { refused = old.refused; answers = old.answers ++ (pattern, true) ∷ [] })
LiteralJudges old new pattern subjects judgement.Refused = (among old.refused pattern ≡ true)
    × (new ≡ record { refused = old.refused; answers = old.answers ++ (pattern, false) ∷ [] })
LiteralJudges old new pattern subjects judgement.Memory = new ≡ old
