use Rattle.std.proofs.Common.{◌≡◌, ◌<◌, List, [], length, map, refl, ap, ◌∙◌, subst}
use Rattle.std.specs.Option.{option_map_or}
use Rattle.pp_model.specs.declared.profile.Profile.{Profile}
use Rattle.pp_model.specs.Lookup.{text_at}
use Rattle.pp_model.specs.Rules.{IsCompact, NoRuleFails}
use Rattle.pp_grain.specs.declared.key.Key.{Key}
use Rattle.pp_count.specs.Counts.{samples_at}
use Rattle.pp_count.specs.Scope.{config_of, samples_in_scope}
use Rattle.pp_count.specs.Seeing.{seen_samples}
use Rattle.pp_count.specs.Sums.{renamed}
use Rattle.pp_count.specs.Table.{written_key}
use Rattle.pp_source.specs.declared.found.KeyPart.TheVariants.{Routine, Line}
use Rattle.pp_source.proofs.Ledgering.{has_tallies, parts_seen}
use Rattle.pp_source.proofs.Parts.{are_found}
use Rattle.pp_source.proofs.Zero.{zero_text}
use Rattle.pp_source.proofs.ledger.ledger_by.Goals as goal

pub returns-in-Ok-clause-found : goal.returns-in-Ok-clause-found
returns-in-Ok-clause-found c =
    are_found c.args.scope.now.l.now.profile (zero_text c.args.scope.now.l.now.profile (subst NoRuleFails c.get-valid.ensures.same c.get-valid.ensures.valid)) c.args.scope.now.v.now.own Line
    c.args.scope.now.table.now.names c.requires.sound.table.keys c.in_ok-lines.lines c.in_ok-lines.ensures.lines

pub returns-in-Ok-clause-sums : goal.returns-in-Ok-clause-sums
returns-in-Ok-clause-sums c f holds kept_is =
    let p : Profile = c.args.scope.now.l.now.profile in
    let zero : (text_at p 0 ≡ []) × (0 < length p.text) = zero_text p (subst NoRuleFails c.get-valid.ensures.same c.get-valid.ensures.valid) in
    let compact : IsCompact p = subst IsCompact c.get-valid.ensures.same c.get-valid.ensures.compact in
    let names : List Key = c.args.scope.now.table.now.names in
    let w = c.in-Ok.ensures in
    let chosen : samples_in_scope c.args.scope.now ≡ samples_at p c.args.kept.now = ap (λ o. option_map_or (samples_at p) o p.sample) c.requires.chosen in
    let are : map (renamed (written_key p names)) w.seen ≡ seen_samples p f (config_of c.args.scope.now) c.args.scope.now.column (samples_at p c.args.kept.now) =
    w.are.are f holds ∙ ap (seen_samples p f (config_of c.args.scope.now) c.args.scope.now.column) chosen in
    record {
      lines =
          has_tallies p compact zero c.args.scope.now.v.now.own Line names c.requires.sound.table.keys c.in_ok-lines.lines c.in_ok-lines.ensures.lines (length c.args.kept.now) w.seen _ _ w.are.below refl
          w.lines (parts_seen p (config_of c.args.scope.now) c.requires.lines c.args.scope.now.column c.args.kept.now names w.seen Line f kept_is are);
      routines =
          has_tallies p compact zero c.args.scope.now.v.now.own Routine names c.requires.sound.table.keys c.in_ok-lines.routines c.in_ok-lines.ensures.routines (length c.args.kept.now) w.seen _ _ w.are.below refl
          w.routines (parts_seen p (config_of c.args.scope.now) c.requires.lines c.args.scope.now.column c.args.kept.now names w.seen Routine f kept_is are);
    }
