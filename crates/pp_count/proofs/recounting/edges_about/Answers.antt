use Rattle.std.proofs.Common.{◌<◌, All, length, get_or, map, sym, ap, ◌∙◌, subst, arith}
use Rattle.std.proofs.lemmas.List.{length-map}
use Rattle.std.proofs.lemmas.Result.{IfOk-weaker}
use Rattle.pp_model.specs.Words.{IsCompact}
use Rattle.pp_count.specs.Edges.{AreOnce, is_marked}
use Rattle.pp_count.proofs.Edged.{HasEdges, pair_numbers, ends_within, edges_are, all_edges, names_within, kept_apart}
use Rattle.pp_count.proofs.recounting.edges_about.Given as given
use Rattle.pp_count.proofs.recounting.edges_about.Goals.{After-as_slice-sums}
use Rattle.pp_count.proofs.recounting.edges_about.Goals as goal

pub pairing-requires-clause-names : goal.pairing-requires-clause-names
pairing-requires-clause-names g c =
    subst (λ ks. All (λ n. n < length c.args.survey.now.counted.now.numbers) ks) (sym (c.as_slice-names.ensures ∙ c.in_ok-kept.ensures))
    (names_within c.args.survey.now c.args.ends.now.keep.now c.requires)

pub pairing-requires-clause-once : goal.pairing-requires-clause-once
pairing-requires-clause-once g c =
    subst (λ ks. AreOnce (map (λ n. get_or c.args.survey.now.counted.now.numbers n 0) ks)) (sym (c.as_slice-names.ensures ∙ c.in_ok-kept.ensures))
    (kept_apart c.args.survey.now c.args.ends.now.keep.now c.len-distinct.ensures.distinct c.requires)

-- each place has its mark
pub pair_sums-requires-after_bounds : goal.pair_sums-requires-after_bounds
pair_sums-requires-after_bounds g c = λ _ _. record {
  few = c.in_ok-over.ensures.few;
  below = λ k q at. omega (
    arith,
    (c.in_ok-over.ensures.places.only k q at).0,
    length-map c.as_slice-names.result.now (λ n. get_or c.args.survey.now.counted.now.numbers n 0),
    ap length c.in_ok-over.ensures.marks,
    length-map c.as_slice-names.result.now (is_marked c.args.ends.now.marked.now),
  );
}

-- what the edges are made of
made : (g : given.Over) (c : goal.After-as_slice-sums g) → HasEdges c.args.survey.now c.args.ends.now c.as_slice-names.result.now c.in_ok-over.over c.in_ok-list.list
made g c = record {
  compact = subst IsCompact c.get-compact.ensures.same c.get-compact.ensures.compact;
  once = c.len-distinct.ensures.distinct;
  fits = c.requires;
  kept_are = c.as_slice-names.ensures ∙ c.in_ok-kept.ensures;
  places = c.in_ok-over.ensures.places;
  marks = c.in_ok-over.ensures.marks;
  sums_are = c.in_ok-list.ensures;
}

pub edges_of-requires : goal.edges_of-requires
edges_of-requires g c = rw c.as_slice-sums.ensures (pair_numbers c.args.survey.now c.args.ends.now c.as_slice-names.result.now c.in_ok-over.over c.in_ok-list.list (made g c))

pub returns-clause-edges : goal.returns-clause-edges
returns-clause-edges g c = λ f holds.
    IfOk-weaker c.edges_of.result _ _
    (edges_are c.args.survey.now c.args.ends.now c.as_slice-names.result.now c.in_ok-over.over c.in_ok-list.list (made g (goal.at.returns-clause-edges g c).After-as_slice-sums) f holds)
    (rw c.as_slice-sums.ensures at c.edges_of.ensures)

pub returns-clause-all : goal.returns-clause-all
returns-clause-all g c = λ f holds same.
    IfOk-weaker c.edges_of.result _ _
    (λ edges is. all_edges c.args.survey.now c.args.ends.now c.as_slice-names.result.now c.in_ok-over.over c.in_ok-list.list (made g (goal.at.returns-clause-all g c).After-as_slice-sums) f holds edges is same)
    (rw c.as_slice-sums.ensures at c.edges_of.ensures)

pub returns-clause-within : goal.returns-clause-within
returns-clause-within g c =
    IfOk-weaker c.edges_of.result _ _
    (ends_within c.args.survey.now c.args.ends.now c.as_slice-names.result.now c.in_ok-over.over c.in_ok-list.list (made g (goal.at.returns-clause-within g c).After-as_slice-sums))
    (rw c.as_slice-sums.ensures at c.edges_of.ensures)
