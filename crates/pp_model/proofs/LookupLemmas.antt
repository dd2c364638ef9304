-- What a frame refers to is at the place that its id says.
use Rattle.std.proofs.Common.{◌≡◌, ℕ, ◌-◌, List, Bool, true, false, cond, sym, ap, subst, ◌∙◌}
use Rattle.std.specs.Prelude.{◌==◌, pos, slice_get, Option, Some, None, IfSome}
use Rattle.std.specs.Borrow.{Bor}
use Rattle.std.specs.List.{AllPass}
use Rattle.std.specs.Option.{option_copied, option_and_then}
use Rattle.std.proofs.lemmas.Option.{slice_get_within, get_or_from_slice_get, none-some}
use Rattle.pp_model.specs.declared.frame.Frame.{Frame}
use Rattle.pp_model.specs.declared.profile.Line.{Line}
use Rattle.pp_model.specs.declared.profile.Function.{Function}
use Rattle.pp_model.specs.declared.profile.Mapping.{Mapping}
use Rattle.pp_model.specs.declared.profile.Profile.{Profile}
use Rattle.pp_model.specs.Rules.{AreNumbered, function_ids, mapping_ids}
use Rattle.pp_model.specs.Lookup.{place_read, function_with, mapping_with}
use Rattle.pp_model.specs.Frames.{line_at, function_at}
use Rattle.pp_model.proofs.CompactLemmas.{find_by_place}

-- nothing but zeros
pub no_function : Function
no_function = record { id = 0; name = pos 0; system_name = pos 0; filename = pos 0; start_line = pos 0 }

-- nothing but zeros
pub no_mapping : Mapping
no_mapping = record {
  id = 0;
  start = 0;
  limit = 0;
  offset = 0;
  file = pos 0;
  build_id = pos 0;
  has_functions = false;
  has_filenames = false;
  has_line_numbers = false;
  has_inline_frames = false;
}

-- the function of the frame's line, as the code reads it
pub function_read :
    (p : Profile) (f : Frame) (line : Line) (given : List Function) (read : Option Function) → Some line ≡ line_at p f → given ≡ p.function →
    read ≡ place_read given line.function_id → AreNumbered (function_ids p) → read ≡ function_at p f
function_read p f line given read own same is numbered =
    is ∙ ap (λ fs. place_read fs line.function_id) same ∙ find_by_place (λ (g : Function). g.id) p.function line.function_id no_function numbered
    ∙ ap (λ o. option_and_then (λ (l : Line). function_with p l.function_id) o) own

-- the mapping with an id, as the code reads it
pub mapping_read :
    (p : Profile) (id other : ℕ) (given : List Mapping) (read : Option Mapping) → given ≡ p.mapping → other ≡ id → read ≡ place_read given other →
    AreNumbered (mapping_ids p) → read ≡ mapping_with p id
mapping_read p id other given read same alike is numbered =
    is ∙ ap (λ ms. place_read ms other) same ∙ ap (place_read p.mapping) alike
    ∙ find_by_place (λ (m : Mapping). m.id) p.mapping id no_mapping numbered

-- an item that is read passes the test that all pass
passes_read :
    {X : Type 0} (test : X → Bool) (xs : List X) (id : ℕ) (x : X) → Some x ≡ place_read xs id → AllPass test xs → test x ≡ true
passes_read test xs id x is all =
    (elim (id == 0) as (λ zero. Some x ≡ cond zero None (slice_get xs (id - 1)) → test x ≡ true) [
      | true ↦ λ none. absurd (none-some x (sym none))
      | false ↦ λ some. let at = sym some in
          subst (λ y. test y ≡ true) (get_or_from_slice_get xs (id - 1) x x at) (all (id - 1) x (slice_get_within xs (id - 1) x at))
    ]) is

-- what a reference reads passes the test
pub reference_passes :
    {X : Type 0} (test : X → Bool) (xs given : List X) (id : ℕ) (read : Option (Bor X)) → given ≡ xs → option_copied read ≡ place_read given id →
    AllPass test xs → IfSome read (λ x. test x.now ≡ true)
reference_passes test xs given id None same is all = tt
reference_passes test xs given id (Some x) same is all = passes_read test xs id x.now (is ∙ ap (λ ys. place_read ys id) same) all
