use Rattle.std.proofs.Common.{map, subst, refl}
use Rattle.pp_tables.specs.Skim.{payload_of}
use Rattle.pp_tables.specs.Apart.{ReadsSamples}
use Rattle.pp_tables.proofs.Apart.{message_whole}
use Rattle.pp_tables.proofs.lanes.finish.Goals as goal

pub returns-in_ok-with_a_text-in-Some : goal.returns-in_ok-with_a_text-in-Some
returns-in_ok-with_a_text-in-Some g c =
    let are = rw c.in-Some.is at c.in_ok-samples.ensures in
    message_whole c.args.bytes.now c.args.skimmed c.requires.short c.requires.skimmed c.in-Some.samples _ c.in_ok-with_a_text-in-Some.field-0
    (subst (λ l. ReadsSamples (map (payload_of c.args.bytes.now) l) _ c.in-Some.samples) c.as_slice.ensures are) refl c.in_ok-with_a_text-in-Some.ensures
