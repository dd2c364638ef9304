use Rattle.std.proofs.Common.{Bool, map, refl, ap, ◌∙◌}
use Rattle.std.specs.Str.{bytes_eq}
use Rattle.pp_share.specs.declared.texts.TextKey.{TextKey}
use Rattle.pp_share.proofs.Agreement.{distinct_as, ids_as}
use Rattle.pp_share.proofs.texts.number_texts.Goals as goal

-- keys are the same where their bytes are
abbrev same : TextKey → TextKey → Bool
same a b = bytes_eq a.bytes.items b.bytes.items

pub returns-clause-table : goal.returns-clause-table
returns-clause-table c =
    c.in_ok-texts.ensures ∙ ap (map (λ (key : TextKey). key.bytes.items)) c.in_ok-keys-2.ensures.table
    ∙ distinct_as same bytes_eq (λ key. key.bytes.items) (λ a b. refl) c.in_ok-keys.keys.items _ c.in_ok-keys.ensures

pub returns-clause-ids : goal.returns-clause-ids
returns-clause-ids c =
    c.in_ok-keys-2.ensures.ids ∙ ids_as same bytes_eq (λ key. key.bytes.items) (λ a b. refl) c.in_ok-keys.keys.items _ c.in_ok-keys.ensures
