-- The paths of a source, one after another.
use Rattle.std.proofs.Common.{◌≡◌, ◌+◌, ◌<◌, ◌≤◌, ℕ, List, length, drop, get_or, Some, None, sym, ap, subst, ◌∙◌}
use Rattle.std.specs.Prelude.{Ok, Err}
use Rattle.std.proofs.lemmas.List.{at_drop_more, at_drop_all}
use Rattle.pp_desk.specs.declared.file_content.FileContent.{FileContent}
use Rattle.pp_desk.specs.declared.stop.Stop.{Stop}
use Rattle.pp_desk.specs.World.{World}
use Rattle.pp_desk.specs.Script.{◌>>=◌, read_file}
use Rattle.pp_desk.specs.Went.{Went, IsOnWay}
use Rattle.pp_desk.proofs.Looping.{arrives, moves_on}
use Rattle.pp_desk.proofs.Going.{gives, stops_first}
use Rattle.pp_source.specs.declared.source.FileSource.{FileSource}
use Rattle.pp_source.specs.declared.source.FileSource.TheVariants.{NotFound}
use Rattle.pp_source.specs.declared.source.TheConstants.{SOURCE_LIMIT}
use Rattle.pp_source.specs.Listing.{first_present, or_next, source_found}

module _ (paths : List (List ℕ)) (i : ℕ) where
  -- the paths from the next one on
  look_next : (path : List ℕ) → i < length paths → path ≡ get_or paths i path
      → first_present (drop i paths) ≡ (read_file path SOURCE_LIMIT >>= (λ content. or_next (first_present (drop (i + 1) paths)) (source_found content)))
  unfolding first_present
  look_next path within is =
      at_drop_more first_present paths i path within
      ∙ ap (λ q. read_file q SOURCE_LIMIT >>= (λ content. or_next (first_present (drop (i + 1) paths)) (source_found content))) (sym is)

  module _ (a b : World) (on_way : IsOnWay a b (first_present paths) (first_present (drop i paths))) where
    look_on : (c : World) (path : List ℕ) (content : FileContent) → i < length paths → path ≡ get_or paths i path → Went b c (read_file path SOURCE_LIMIT) (Ok content)
        → IsOnWay a c (first_present paths) (or_next (first_present (drop (i + 1) paths)) (source_found content))
    look_on c path content within is went = moves_on a b c _ (read_file path SOURCE_LIMIT) _ content (rw (look_next path within is) at on_way) went

    -- nothing is at the next path
    pub look_goes : (c : World) (path : List ℕ) (content : FileContent) → i < length paths → path ≡ get_or paths i path → Went b c (read_file path SOURCE_LIMIT) (Ok content)
        → source_found content ≡ None → IsOnWay a c (first_present paths) (first_present (drop (i + 1) paths))
    look_goes c path content within is went none =
        subst (λ o. IsOnWay a c (first_present paths) (or_next (first_present (drop (i + 1) paths)) o)) none (look_on c path content within is went)

    -- there is a file
    pub look_finds : (c : World) (path : List ℕ) (content : FileContent) (source : FileSource) → i < length paths → path ≡ get_or paths i path
        → Went b c (read_file path SOURCE_LIMIT) (Ok content) → source_found content ≡ Some source → Went a c (first_present paths) (Ok source)
    look_finds c path content source within is went some =
        arrives a c c _ _ (Ok source)
        (subst (λ o. IsOnWay a c (first_present paths) (or_next (first_present (drop (i + 1) paths)) o)) some (look_on c path content within is went)) (gives c source)

    -- the read of the next path was stopped
    pub look_stops : (c : World) (path : List ℕ) (stop : Stop) → i < length paths → path ≡ get_or paths i path → Went b c (read_file path SOURCE_LIMIT) (Err stop)
        → Went a c (first_present paths) (Err stop)
    look_stops c path stop within is went = arrives a b c _ _ (Err stop) (rw (look_next path within is) at on_way) (stops_first b c (read_file path SOURCE_LIMIT) _ stop went)

    -- no path is left
    pub look_ends : length paths ≤ i → Went a b (first_present paths) (Ok NotFound)
    unfolding first_present
    look_ends past = arrives a b b _ _ (Ok NotFound) (rw (at_drop_all first_present paths i past) at on_way) (gives b NotFound)
