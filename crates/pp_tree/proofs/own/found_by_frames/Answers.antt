use Rattle.std.proofs.Common.{subst}
use Rattle.pp_model.specs.Words.{IsCompact}
use Rattle.pp_tree.specs.Peek.{is_found_key}
use Rattle.pp_tree.proofs.Owned.{own_finder, keys_found, names_marked, then_marked}
use Rattle.pp_tree.proofs.own.found_by_frames.Goals as goal

pub returns : goal.returns
returns c = λ f holds.
    let s = c.args.survey.now in
    let p = s.l.now.profile in
    let own = own_finder p f.own s.v.now.own c.args.own.now holds.found.own c.requires in
    let are = keys_found p f s.config.now s.column own.0 own.1 c.as_slice.result.now s.counted.now.kept c.in_ok-keys.keys.keys c.as_slice.ensures
    (s.counts.kept f holds) (c.in_ok-keys.ensures.found f own.0 holds.found own.2) in
    then_marked c.marks.result _ _ c.marks.ensures
    (names_marked p (subst IsCompact c.get-compact.ensures.same c.get-compact.ensures.compact) c.in_ok-keys.keys.keys c.in_ok-keys.ensures.of_profile
    (is_found_key p f s.config.now s.column) are s.counted.now.sums.names s.counts.of_profile)
