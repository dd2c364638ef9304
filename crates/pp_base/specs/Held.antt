-- What the objects in memory hold.
use Rattle.std.specs.Prelude.{List, ℕ, refl}
use Rattle.std.specs.Coded.{Coded, code_by, coded×, coded_list, coded_ℕ}
use Rattle.pp_base.specs.FileMap.{FileMap, file_code}
use Rattle.pp_base.specs.Judges.{Answer}
use Rattle.pp_base.specs.Calls.{Calls}

-- a source that never fails: the bytes left, and how many it gives at most
pub record SourceHeld : Type 0 where
  pub left : List ℕ
  pub most : ℕ

-- a source: what it gives, and which calls fail
pub record MemSourceHeld : Type 0 where
  pub calm : SourceHeld
  pub calls : Calls

-- a sink that never fails: the bytes written, and how many it takes at most
pub record SinkHeld : Type 0 where
  pub bytes : List ℕ
  pub most : ℕ

-- a sink: what it took, and which calls fail
pub record MemSinkHeld : Type 0 where
  pub calm : SinkHeld
  pub calls : Calls

-- files that never fail: their contents, the paths that can't be written, and those that were read, in order
pub record FilesHeld : Type 0 where
  pub content : FileMap
  pub locked : List (List ℕ)
  pub reads : List (List ℕ)

-- files: what they hold, and which calls fail
pub record MemFilesHeld : Type 0 where
  pub calm : FilesHeld
  pub calls : Calls

-- a matcher of plain texts: the patterns that it refuses, and its answers so far
pub record LiteralHeld : Type 0 where
  pub refused : List (List ℕ)
  pub answers : List Answer

-- how a proof tells calm files apart
abbrev pub files_code : Coded FilesHeld
files_code = code_by (FileMap × (List (List ℕ) × List (List ℕ)))
    (coded× file_code (coded× (coded_list (coded_list coded_ℕ)) (coded_list (coded_list coded_ℕ))))
    (λ h. (h.content, (h.locked, h.reads)))
    (λ p. record { content = p.0; locked = p.1.0; reads = p.1.1 }) (λ _. refl)

-- how a proof tells counted calls apart
abbrev pub calls_code : Coded Calls
calls_code = code_by (List ℕ × (ℕ × ℕ)) (coded× (coded_list coded_ℕ) (coded× coded_ℕ coded_ℕ))
    (λ c. (c.fails, (c.number, c.faults)))
    (λ p. record { fails = p.0; number = p.1.0; faults = p.1.1 }) (λ _. refl)

-- how a proof tells files apart
abbrev pub mem_files_code : Coded MemFilesHeld
mem_files_code = code_by (FilesHeld × Calls) (coded× files_code calls_code)
    (λ h. (h.calm, h.calls)) (λ p. record { calm = p.0; calls = p.1 }) (λ _. refl)
