use Rattle.std.proofs.Common.{ap, ◌∙◌}
use Rattle.pp_export.specs.Escaped.{escaped_name}
use Rattle.pp_export.specs.PathNames.{name_and_separator}
use Rattle.pp_export.proofs.PathNameLemmas.{gives_new}
use Rattle.pp_export.proofs.path_names.PathNames.add.Goals as goal

-- the name stands behind the others
pub returns : goal.returns
returns c = λ name so_far is.
    gives_new name c.args.self.now (record { text = c.put_path_name.new.text; places = c.put_place.new.places; scratch = c.args.self.now.scratch }) c.args.number
    c.in_ok-place.place (name_and_separator (escaped_name c.as_slice.result.now)) c.in_ok-place.ensures.text c.in_ok-place.ensures.start c.in_ok-place.ensures.len
    (ap name_and_separator (ap escaped_name c.as_slice.ensures ∙ is)) so_far c.in_ok-put_place.ensures.own c.in_ok-put_place.ensures.others
