use Rattle.std.proofs.Common.{◌≡◌, ◌+◌, ◌++◌, ◌<◌, length, map, subst, arith, ap, ◌∙◌, refl}
use Rattle.std.proofs.lemmas.List.{length-map}
use Rattle.pp_model.specs.declared.profile.Location.{Location}
use Rattle.pp_model.specs.Rules.{location_ids}
use Rattle.pp_model.specs.Frames.{rows, lines_at}
use Rattle.pp_model.specs.FrameTexts.{written, written_at}
use Rattle.pp_model.proofs.CompactLemmas.{contains_id}
use Rattle.pp_model.proofs.FrameLemmas.{rows_of_profile, written_found}
use Rattle.pp_model.proofs.frame.rows_at.Goals as goal

pub returns-clause-texts : goal.returns-clause-texts
returns-clause-texts c =
    let p = c.args.p.now in
    let within : c.args.location < length (location_ids p) = omega (arith, c.requires.within, length-map p.location (λ (l : Location). l.id)) in
    rw (c.in_ok-push_rows.ensures ∙ ap (λ stack. stack ++ rows 0 c.args.location (lines_at p c.args.location)) c.new-stack.ensures)
    (subst (λ k. map (written p) (rows 0 k (lines_at p k)) ≡ written_at p (c.args.location + 1)) (omega arith)
    (written_found p 0 (c.args.location + 1) c.requires.compact.locations
    (contains_id (location_ids p) c.args.location c.requires.compact.locations within)))

pub returns-clause-of_profile : goal.returns-clause-of_profile
returns-clause-of_profile c =
    rw (c.in_ok-push_rows.ensures ∙ ap (λ stack. stack ++ rows 0 c.args.location (lines_at c.args.p.now c.args.location)) c.new-stack.ensures)
    (rows_of_profile c.args.p.now 0 c.args.location _ c.requires.within refl)
