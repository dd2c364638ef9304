-- Samples that are equal to earlier ones once they have their new ids.
use Rattle.std.specs.Prelude.{◌≡◌, ℕ, ℤ, pos, ◌/◌, ◌%◌, ◌^◌, ◌<◌, ◌≤◌, ◌==◌, Bool, true, false, List, All, Contains, length, slice_index_or, slice_set, map}
use Rattle.std.specs.List.{list_any}
use Rattle.std.specs.declared.cmp.Ordering.{Ordering}
use Rattle.std.specs.declared.cmp.Ordering.TheVariants.{Equal}
use Rattle.pp_model.specs.declared.profile.Label.{Label}
use Rattle.pp_model.specs.declared.profile.Sample.{Sample}
use Rattle.pp_model.specs.Values.{no_sample}
use Rattle.pp_share.specs.declared.repeats.Placed.{Placed}
use Rattle.pp_share.specs.declared.repeats.Repeat.{Repeat}
use Rattle.pp_share.specs.Hashes.{hash_by}
use Rattle.pp_share.specs.Renumbered.{NewIds, renumbered_sample}
use Rattle.pp_share.specs.SampleKeys.{sample_stack}
use Rattle.pp_share.specs.SampleStacks.{same_stack}
use Rattle.pp_share.specs.Sums.{added}

-- the class of the hash, of eight: of a number of 64 bits its three upper ones
abbrev pub class_of : ℕ → ℕ
class_of hash = hash / 2 ^ 61 % 8

-- the place is the later one of some of these
abbrev pub is_later : List Repeat → ℕ → Bool
is_later repeats place = list_any (λ r. r.later == place) repeats

module _ (by : NewIds) where
  -- the locations and labels of the sample at the place, with their new ids
  abbrev pub stack_at : List Sample → ℕ → List ℕ × List Label
  stack_at samples place = sample_stack (renumbered_sample by (slice_index_or samples place no_sample))

  -- no sample before the place is equal to the one there
  abbrev pub IsFirst : List Sample → ℕ → Type 0
  IsFirst samples place = (k : ℕ) → k < place → same_stack (stack_at samples k) (stack_at samples place) ≡ false

  -- the two samples are equal
  abbrev pub AreEqual : List Sample → Repeat → Type 0
  AreEqual samples r = same_stack (stack_at samples r.first) (stack_at samples r.later) ≡ true

  -- a sample and the first one that is equal to it
  pub record IsRepeat (samples : List Sample) (r : Repeat) : Type 0 where
    pub earlier : r.first < r.later
    pub within : r.later < length samples
    pub same : same_stack (stack_at samples r.first) (stack_at samples r.later) ≡ true
    pub first : IsFirst samples r.first

  -- the samples of the class that are equal to earlier ones: each other one is the first of its kind
  pub record FindsOfClass (samples : List Sample) (class : ℕ) (repeats : List Repeat) : Type 0 where
    pub repeated : All (IsRepeat samples) repeats
    pub others : (place : ℕ) → place < length samples → class_of (hash_by by (slice_index_or samples place no_sample)) ≡ class
        → is_later repeats place ≡ false → IsFirst samples place

  -- the samples of all classes below this one that are equal to earlier ones
  pub record FindsBelow (samples : List Sample) (class : ℕ) (repeats : List Repeat) : Type 0 where
    pub repeated : All (IsRepeat samples) repeats
    pub others : (place : ℕ) → place < length samples → class_of (hash_by by (slice_index_or samples place no_sample)) < class
        → is_later repeats place ≡ false → IsFirst samples place

-- Kinds of samples: those that are level in an order.
module _ (order : Placed → Placed → Ordering) where
  -- no sample of the kind stands at an earlier place
  abbrev pub IsLeast : List Placed → Placed → Type 0
  IsLeast placed one = All (λ other. order other one ≡ Equal → one.place ≤ other.place) placed

  -- the first place of the kind of the sample at the index
  pub record BeginsKind (placed : List Placed) (index first : ℕ) : Type 0 where
    pub one : Placed
    pub has : Contains placed one
    pub at : first ≡ one.place
    pub kind : (d : Placed) → order one (slice_index_or placed index d) ≡ Equal
    pub least : IsLeast placed one

  -- two samples of one kind, of which the first has the least place
  pub record IsRepeated (placed : List Placed) (r : Repeat) : Type 0 where
    pub one : Placed
    pub other : Placed
    pub has : Contains placed one
    pub has_other : Contains placed other
    pub first : r.first ≡ one.place
    pub later : r.later ≡ other.place
    pub earlier : r.first < r.later
    pub kind : order one other ≡ Equal
    pub least : IsLeast placed one

  -- the repeats among the samples up to the index: each other one has the least place of its kind
  pub record FindsRepeats (placed : List Placed) (index : ℕ) (repeats : List Repeat) : Type 0 where
    pub repeated : All (IsRepeated placed) repeats
    pub others : (k : ℕ) (d : Placed) → k < index → is_later repeats (slice_index_or placed k d).place ≡ false
        → IsLeast placed (slice_index_or placed k d)

-- the sample with its place and its hash, which is of the class
pub record IsOfClass (hashes : List ℕ) (samples : List Sample) (class : ℕ) (one : Placed) : Type 0 where
  pub within : one.place < length samples
  pub sample : one.sample.now ≡ slice_index_or samples one.place no_sample
  pub hash : one.hash ≡ slice_index_or hashes one.place 0
  pub of_class : class_of one.hash ≡ class

-- those of the class, of the samples before the place
pub record AreOfClass (hashes : List ℕ) (samples : List Sample) (class place : ℕ) (placed : List Placed) : Type 0 where
  pub are : All (IsOfClass hashes samples class) placed
  pub whole : (k : ℕ) → k < place → class_of (slice_index_or hashes k 0) ≡ class → list_any (λ one. one.place == k) placed ≡ true

-- two places of n, one before the other
pub record IsPair (n : ℕ) (r : Repeat) : Type 0 where
  pub earlier : r.first < r.later
  pub within : r.later < n

-- the samples with other values at the place
abbrev pub with_row : List Sample → ℕ → List ℤ → List Sample
with_row samples place row = slice_set samples place (record (slice_index_or samples place no_sample) { value = row })

-- the samples with the values of the repeat at the first of its kind
abbrev pub with_repeat : List Sample → Repeat → List Sample
with_repeat samples r =
    let row = (slice_index_or samples r.later no_sample).value in
    with_row (with_row samples r.first (added (slice_index_or samples r.first no_sample).value row)) r.later
    (map (λ value. pos 0) row)
