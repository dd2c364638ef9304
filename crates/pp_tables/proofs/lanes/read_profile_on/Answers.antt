use Rattle.std.proofs.Common.{◌≡◌, ◌∙◌, length, Ok, sym, arith}
use Rattle.std.proofs.lemmas.Bool.{eqb-false}
use Rattle.pp_tables.proofs.Bounds.{few}
use Rattle.pp_tables.proofs.lanes.read_profile_on.Goals as goal

pub returns-in-Ok-Some-clause-few : goal.returns-in-Ok-Some-clause-few
returns-in-Ok-Some-clause-few g c =
    let some : length c.args.bytes.now ≡ 0 → ⊥ = eqb-false _ 0 (sym c.is_empty.ensures ∙ c.if-is_empty.false) in
    few c.args.bytes.now (Ok c.in-Ok-Some.profile) (omega (arith, some)) (rw c.in-Ok-Some.field-0-is at c.in-Ok-Some.ensures)
