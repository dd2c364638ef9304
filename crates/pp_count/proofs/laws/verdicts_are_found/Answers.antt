use Rattle.pp_model.specs.Finders.{TagFinders}
use Rattle.pp_tags.specs.TagFilters.{filter_in_force}
use Rattle.pp_tags.proofs.SomeFinders.{finders_found, parts_of, some_finders, some_parts}
use Rattle.pp_count.proofs.laws.verdicts_are_found.Goals as goal

-- the patterns that find what the verdicts say
pub returns : goal.returns
returns c = λ l v filtering column valid compact can fit.
    let p = l.profile in
    let focus : TagFinders = parts_of p v.tag v.tagfocus in
    let ignore : TagFinders = parts_of p v.tag v.tagignore in (
      finders_found l v focus ignore,
      record {
        found = some_finders l v focus ignore compact.texts can.verdicts;
        tagfocus = some_parts p compact.texts valid v.tag (filter_in_force filtering.tagfocus) v.tagfocus can.focus fit.focus;
        tagignore = some_parts p compact.texts valid v.tag (filter_in_force filtering.tagignore) v.tagignore can.ignore fit.ignore;
      },
    )
