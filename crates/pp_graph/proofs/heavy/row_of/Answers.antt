use Rattle.std.proofs.Common.{◌≡◌, ℕ, nat_abs, sym, ap, ◌∙◌}
use Rattle.pp_model.specs.declared.presentation.Sort.{Sort}
use Rattle.pp_count.specs.declared.sums.Sums.{Sums}
use Rattle.pp_graph.specs.Ranks.{major, minor, sum_of_name}
use Rattle.pp_graph.proofs.Collecting.{written_is}
use Rattle.pp_graph.proofs.heavy.row_of.Goals as goal

pub returns-in-Flat-clause-row : goal.returns-in-Flat-clause-row
returns-in-Flat-clause-row c = record {
  below = c.requires.within;
  key = c.texts_of-texts.ensures ∙ sym (written_is c.args.p.now c.args.sums.now.names c.args.number c.key-key.result c.key-key.ensures);
  major = c.size_at-flat.ensures ∙ ap (λ (s : Sort). major s c.args.sums.now c.args.number) (sym c.in-Flat.is);
  minor = c.size_at-cum.ensures ∙ ap (λ (s : Sort). minor s c.args.sums.now c.args.number) (sym c.in-Flat.is);
}

pub returns-in-Cum-clause-row : goal.returns-in-Cum-clause-row
returns-in-Cum-clause-row c = record {
  below = c.requires.within;
  key = c.texts_of-texts.ensures ∙ sym (written_is c.args.p.now c.args.sums.now.names c.args.number c.key-key.result c.key-key.ensures);
  major = c.size_at-cum.ensures ∙ ap (λ (s : Sort). major s c.args.sums.now c.args.number) (sym c.in-Cum.is);
  minor = c.size_at-flat.ensures ∙ ap (λ (s : Sort). minor s c.args.sums.now c.args.number) (sym c.in-Cum.is);
}
