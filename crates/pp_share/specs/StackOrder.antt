-- The order of samples by the ids that they get.
use Rattle.std.specs.Prelude.{ℕ, ℤ}
use Rattle.std.specs.Cmp.Lexicographic.{slice_cmp}
use Rattle.std.specs.Ordering.{nat_cmp, int_cmp, ordering_then}
use Rattle.std.specs.declared.cmp.Ordering.{Ordering}
use Rattle.pp_model.specs.declared.profile.Label.{Label}
use Rattle.pp_model.specs.declared.profile.Sample.{Sample}
use Rattle.pp_share.specs.Renumbered.{NewIds, new_ids}
use Rattle.pp_share.specs.declared.repeats.KindBy.{KindBy}
use Rattle.pp_share.specs.declared.repeats.KindBy.TheVariants.{Hash, Stack}
use Rattle.pp_share.specs.declared.repeats.Placed.{Placed}

-- by hash alone
abbrev pub hash_cmp : Placed → Placed → Ordering
hash_cmp a b = nat_cmp a.hash b.hash

module _ (by : NewIds) where
  -- by the new ids
  abbrev pub id_cmp : ℕ → ℕ → Ordering
  id_cmp a b = nat_cmp (by.location a) (by.location b)

  -- by the new indices of texts
  abbrev pub text_cmp : ℤ → ℤ → Ordering
  text_cmp a b = int_cmp (by.text a) (by.text b)

  -- by key, text, number and unit
  abbrev pub label_cmp : Label → Label → Ordering
  label_cmp a b =
      ordering_then (text_cmp a.key b.key)
      (ordering_then (text_cmp a.text b.text) (ordering_then (int_cmp a.num b.num) (text_cmp a.num_unit b.num_unit)))

  -- by locations, leaf first, and then by labels
  abbrev pub stack_cmp : Sample → Sample → Ordering
  stack_cmp a b = ordering_then (slice_cmp id_cmp a.location_id b.location_id) (slice_cmp label_cmp a.label b.label)

  -- by hash, and then by locations and labels
  abbrev pub hash_stack_cmp : Placed → Placed → Ordering
  hash_stack_cmp a b = ordering_then (hash_cmp a b) (stack_cmp a.sample.now b.sample.now)

-- by what makes samples one kind
abbrev pub kind_cmp : KindBy → Placed → Placed → Ordering
kind_cmp Hash = hash_cmp
kind_cmp (Stack by) = hash_stack_cmp (new_ids by.now)

-- by an order, and then by place
abbrev pub placed_cmp : (Placed → Placed → Ordering) → Placed → Placed → Ordering
placed_cmp order a b = ordering_then (order a b) (nat_cmp a.place b.place)
