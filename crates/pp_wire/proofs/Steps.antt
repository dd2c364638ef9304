-- One call of a walker: what it gives, and what it leaves.
use Rattle.std.proofs.Common.{◌≡◌, ℕ, ◌<◌, List, [], length, Some, None, Ok, Err, sym, ap, ◌∙◌}
use Rattle.pp_wire.specs.declared.fault.WireFault.{WireFault}
use Rattle.pp_wire.specs.Reading.{Read}
use Rattle.pp_wire.specs.Walk.{Walk, first, rest_of, more, walk_of}
use Rattle.pp_wire.proofs.Walks.{Shrinks, walk_more, walk_fails, walk_none}

module _ {A : Type 0} (read : List ℕ → Read A WireFault) (bytes : List ℕ) (walk : Walk A) (is : walk_of read bytes ≡ walk) where
  at_end : length bytes ≡ 0 → walk ≡ record { items = []; fault = None }
  at_end e = sym is ∙ walk_none read bytes e

  pub given_none : length bytes ≡ 0 → None ≡ first walk
  given_none e = ap first (sym (at_end e))

  pub left_none : length bytes ≡ 0 → walk ≡ rest_of walk
  left_none e = at_end e ∙ ap rest_of (sym (at_end e))

  at_item : Shrinks read → (x : A × List ℕ) → 0 < length bytes → read bytes ≡ Ok x → walk ≡ more x.0 (walk_of read x.1)
  at_item shrinks x some e = sym is ∙ walk_more read shrinks bytes x some e

  pub given_item : Shrinks read → (x : A × List ℕ) → 0 < length bytes → read bytes ≡ Ok x → Some (Ok x.0) ≡ first walk
  given_item shrinks x some e = ap first (sym (at_item shrinks x some e))

  pub left_item : Shrinks read → (x : A × List ℕ) → 0 < length bytes → read bytes ≡ Ok x → walk_of read x.1 ≡ rest_of walk
  left_item shrinks x some e = ap rest_of (sym (at_item shrinks x some e))

  at_fault : (f : WireFault) → 0 < length bytes → read bytes ≡ Err f → walk ≡ record { items = []; fault = Some f }
  at_fault f some e = sym is ∙ walk_fails read bytes f some e

  pub given_fault : (f : WireFault) → 0 < length bytes → read bytes ≡ Err f → Some (Err f) ≡ first walk
  given_fault f some e = ap first (sym (at_fault f some e))

  pub left_fault : (f : WireFault) → 0 < length bytes → read bytes ≡ Err f → walk ≡ rest_of walk
  left_fault f some e = at_fault f some e ∙ ap rest_of (sym (at_fault f some e))
