-- One part after another at the end of a text.
use Rattle.std.proofs.Common.{◌≡◌, ℕ, List, ◌++◌, ap, ◌∙◌, append_assoc}

pub then_part : (out whole before part after : List ℕ) → before ≡ out ++ whole → after ≡ before ++ part → after ≡ out ++ (whole ++ part)
then_part out whole before part after so_far next = next ∙ ap (λ (text : List ℕ). text ++ part) so_far ∙ append_assoc out whole part
