use Rattle.std.proofs.Common.{◌≡◌, ℤ, subst, true, refl, IfOk, map, w64}
use Rattle.std.proofs.lemmas.Int.{to_z-of_z}
use Rattle.std.specs.Prelude.{All}
use Rattle.pp_build.specs.Said.{said_samples}
use Rattle.pp_edit.specs.Labels.{has_number, with_label_set, said_with, number_label}
use Rattle.pp_edit.proofs.labelling.set_number_label.Goals as goal

-- a number is passed on as it is
pub returns-clause-with : goal.returns-clause-with
returns-clause-with c =
    subst (λ (n : ℤ). IfOk c.set.result (λ q. q ≡ with_label_set c.args.p (number_label c.args.key.now n c.args.unit.now)))
    (to_z-of_z w64 c.args.num (record { sfits = c.ranges.num.sfits })) c.set.ensures.with

pub returns-clause-said : goal.returns-clause-said
returns-clause-said c =
    subst (λ (n : ℤ). IfOk c.set.result (λ q. said_samples q ≡ map (said_with (number_label c.args.key.now n c.args.unit.now)) (said_samples c.args.p)))
    (to_z-of_z w64 c.args.num (record { sfits = c.ranges.num.sfits })) c.set.ensures.said

pub returns-clause-has : goal.returns-clause-has
returns-clause-has c =
    subst (λ (n : ℤ). IfOk c.set.result (λ q. All (λ s. has_number q c.args.key.now n c.args.unit.now s ≡ true) q.sample))
    (to_z-of_z w64 c.args.num (record { sfits = c.ranges.num.sfits })) (c.set.ensures.number refl)
