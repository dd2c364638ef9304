use Rattle.std.proofs.Common.{rules, ◌≡◌, ◌++◌, ◌∷◌, [], None, Some, ap, ◌∙◌}
use Rattle.std.specs.Prelude.{slice_set}
use Rattle.std.specs.List.{position}
use Rattle.std.specs.Str.{bytes_eq}
use Rattle.pp_base.specs.FileMap.{files_of}
use Rattle.pp_base.proofs.Overwriting.{pushed, overwritten}
use Rattle.pp_base.proofs.entries.put_entry.Goals as goal

pub returns-in_default-clause-ok : goal.returns-in_default-clause-ok
returns-in_default-clause-ok c =
    let none : position (λ entry. bytes_eq c.args.path.now entry.0) c.args.entries.now.items ≡ None = search rules in
    let items : c.push.new.self.items ≡ c.args.entries.now.items ++ (c.args.path.now, c.args.bytes.now) ∷ [] = search rules in
    ap files_of items ∙ pushed c.args.entries.now.items c.args.path.now c.args.bytes.now none

pub returns-clause-ok : goal.returns-clause-ok
returns-clause-ok c =
    let found : position (λ entry. bytes_eq c.args.path.now entry.0) c.args.entries.now.items ≡ Some c.in-Some.place = search rules in
    let content : c.in_ok-entries.field-0 ≡ c.args.bytes.now = search rules in
    ap (λ l. files_of (slice_set c.args.entries.now.items c.in-Some.place (c.index_mut.result.now.0, l))) content
    ∙ overwritten c.args.entries.now.items c.args.path.now c.args.bytes.now c.in-Some.place c.index_mut.result.now found c.index_mut.ensures.value
