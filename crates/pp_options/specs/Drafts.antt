-- What is kept while words are read. No public clause cites this file.
use Rattle.std.specs.Prelude.{◌≡◌, ℕ, ⊤, true, List, [], ◌∷◌, ◌++◌, Option, Some, None, Result, Ok, Err, if◌then◌else◌}
use Rattle.std.specs.Option.{option_or}
use Rattle.pp_options.specs.declared.origin.Origin.{Origin}
use Rattle.pp_options.specs.declared.origin.Origin.TheVariants as origin
use Rattle.pp_options.specs.declared.plan.Plan.{Plan}
use Rattle.pp_options.specs.declared.usage.UsageRefusal.{UsageRefusal}
use Rattle.pp_options.specs.declared.usage.UsageRefusal.TheVariants.{Fault, Memory}
use Rattle.pp_options.specs.declared.item.Item.{Item}
use Rattle.pp_options.specs.declared.item.Item.TheVariants.{Source, Base, Gen, Normalize, Format, Set}
use Rattle.pp_options.specs.declared.draft.Draft.{Draft}
use Rattle.pp_options.specs.Settings.{assigned}
use Rattle.pp_options.specs.Spelling.{takes_next}
use Rattle.pp_options.specs.Words.{Entry, Request, request, normalized_at, count_fault, item_fault, entry_fault, first_entry_fault, late_fault}
use Rattle.pp_options.specs.Plans.{request_of}

-- what a draft asks for
abbrev pub request_in : Draft → Request
request_in draft = record {
  origins = draft.origins;
  bases = draft.bases;
  base_kind = draft.base_kind;
  normalize = draft.normalize;
  report = draft.report;
  config = draft.config;
}

-- what is asked for with an origin more
abbrev pub with_origin : Request → Origin → Request
with_origin r origin = record r { origins = r.origins ++ origin ∷ [] }

-- what is asked for with an item more, which has no fault
abbrev pub with_item : Request → Item → Request
with_item r (Source path) = with_origin r (origin.Path path)
with_item r (Gen samples) = with_origin r (origin.Gen samples)
with_item r (Base kind path) =
    record r { bases = r.bases ++ path ∷ []; base_kind = option_or r.base_kind (Some kind) }
with_item r (Normalize on) = record r { normalize = on }
with_item r (Format report) = record r { report = option_or r.report (Some report) }
with_item r (Set setting) = record r { config = assigned r.config setting }

-- the number of the first word that asks to normalize, with an item more at the word of the number
abbrev pub normalized_first : Option ℕ → ℕ → Item → Option ℕ
normalized_first known at (Normalize true) = option_or known (Some at)
normalized_first known at item = known

-- the origin was added
pub record TookOrigin (old new : Draft) (origin : Origin) : Type 0 where
  pub faultless : count_fault (request_in old) ≡ None
  pub request : request_in new ≡ with_origin (request_in old) origin
  pub noted : new.normalized_at ≡ old.normalized_at

-- the origin of the word was added, or is one too many, unless memory ran out
abbrev pub TakesOrigin : {A : Type 0} → Draft → Draft → ℕ → Origin → Result A UsageRefusal → Type 0
TakesOrigin old new at origin (Ok done) = TookOrigin old new origin
TakesOrigin old new at origin (Err (Fault fault)) =
    (count_fault (request_in old) ≡ Some fault.kind) × (fault.word ≡ at)
TakesOrigin old new at origin (Err Memory) = ⊤

-- the item of the word was taken
pub record Took (old new : Draft) (at : ℕ) (item : Item) : Type 0 where
  pub faultless : item_fault (request_in old) item ≡ None
  pub request : request_in new ≡ with_item (request_in old) item
  pub noted : new.normalized_at ≡ normalized_first old.normalized_at at item

-- the item of the word was taken, or has the fault, unless memory ran out
abbrev pub TakesItem : {A : Type 0} → Draft → Draft → ℕ → Item → Result A UsageRefusal → Type 0
TakesItem old new at item (Ok done) = Took old new at item
TakesItem old new at item (Err (Fault fault)) =
    (item_fault (request_in old) item ≡ Some fault.kind) × (fault.word ≡ at)
TakesItem old new at item (Err Memory) = ⊤

-- the entry asks for an item, which was taken
pub record TookEntry (old new : Draft) (e : Entry) : Type 0 where
  pub item : Item
  pub asked : e.asked ≡ Ok item
  pub took : Took old new e.at item

-- the entry was taken, or has the fault, unless memory ran out
abbrev pub TakesEntry : {A : Type 0} → Draft → Draft → Entry → Result A UsageRefusal → Type 0
TakesEntry old new e (Ok done) = TookEntry old new e
TakesEntry old new e (Err (Fault fault)) = entry_fault (request_in old) e ≡ Some fault
TakesEntry old new e (Err Memory) = ⊤

-- the draft has what the entries ask for
pub record IsDraftOf (draft : Draft) (es : List Entry) : Type 0 where
  pub request : request_in draft ≡ request es
  pub noted : draft.normalized_at ≡ normalized_at es

-- the draft has what the entries ask for that stand before those that are left, and they have no
-- fault
pub record IsReading (draft : Draft) (whole left : List Entry) : Type 0 where
  pub before : List Entry
  pub split : whole ≡ before ++ left
  pub same_fault : first_entry_fault [] whole ≡ first_entry_fault before left
  pub has : IsDraftOf draft before

-- all entries were taken, or one has the fault, unless memory ran out
abbrev pub ReadsAll : {A : Type 0} → List Entry → Draft → Result A UsageRefusal → Type 0
ReadsAll whole new (Ok done) = (first_entry_fault [] whole ≡ None) × IsDraftOf new whole
ReadsAll whole new (Err (Fault fault)) = first_entry_fault [] whole ≡ Some fault
ReadsAll whole new (Err Memory) = ⊤

-- the plan has what the draft has, or something is missing after the last of `count` words
abbrev pub Finishes : ℕ → Draft → Result Plan UsageRefusal → Type 0
Finishes count draft (Ok plan) =
    (late_fault count (request_in draft) draft.normalized_at ≡ None)
    × (request_of plan ≡ request_in draft)
Finishes count draft (Err (Fault fault)) =
    late_fault count (request_in draft) draft.normalized_at ≡ Some fault
Finishes count draft (Err Memory) = ⊤

-- the next word, where the word takes it as its value
abbrev pub taken_next : List ℕ → List (List ℕ) → Option (List ℕ)
taken_next word [] = None
taken_next word (next ∷ words) = if takes_next word then Some next else None

-- the words after the word, and after the next one where the word takes it
abbrev pub left_after : List ℕ → List (List ℕ) → List (List ℕ)
left_after word [] = []
left_after word (next ∷ words) = if takes_next word then words else next ∷ words
