use Rattle.std.proofs.Common.{refl, sym, subst, rules, w64, FitsSigned}
use Rattle.std.proofs.lemmas.Int.{to_z-of_z}
use Rattle.pp_samples.specs.Places.{HasTagPlace}
use Rattle.pp_samples.specs.TagLines.{TagTexts, tag_texts}
use Rattle.pp_samples.specs.Tables.{label_event}
use Rattle.pp_samples.proofs.CountLemmas.{known_more}
use Rattle.pp_samples.proofs.tag_counts.count_label.Goals as goal

-- each label keeps its place
pub returns-in-Some-clause-sound : goal.returns-in-Some-clause-sound
returns-in-Some-clause-sound c = record {
  even = c.add_known_label.ensures.even;
  known = λ label place held. c.add_known_label.ensures.kept (tag_texts c.args.p.now label) place (c.requires.known label place held);
}

-- the label is remembered, and its tag is where it was put
pub returns-in-Some-clause-keys : goal.returns-in-Some-clause-keys
returns-in-Some-clause-keys c events is small =
    let own : FitsSigned w64 c.args.value = search rules in
    c.add_known_label.ensures.keys events (label_event c.args.p.now c.args.value c.args.turn c.args.label.now)
    (sym (to_z-of_z w64 c.args.value own)) refl
    (c.requires.known c.args.label.now c.in-Some.place c.in-Some.ensures) is small

-- the label has its place, and the others keep theirs
pub returns-clause-sound : goal.returns-clause-sound
returns-clause-sound c =
    let new = c.add_label.new.keys in
    let place = c.in_ok-place.place in
    record {
      even = c.in_ok-place.ensures.even;
      known =
          known_more c.args.p.now c.args.counts.now.keys new c.args.counts.now.recent.slots.items c.note.new.self.slots.items c.args.label.now place
          c.requires.known c.in_ok-place.ensures.kept
          (subst (λ (tag : TagTexts). HasTagPlace new tag place) c.tag_name-tag.ensures c.in_ok-place.ensures.place)
          c.note.ensures;
    }
