-- What tags are hashed by. No public clause cites it.
use Rattle.std.specs.Prelude.{◌≡◌, ℕ, List, [], ◌∷◌, ◌++◌, IsTrue, if◌then◌else◌}
use Rattle.std.specs.Hash as fed
use Rattle.std.proofs.Common.{ap}
use Rattle.std.specs.Cmp.{booleans_Decides}
use Rattle.std.proofs.lemmas.Bool.{and_parts}
use Rattle.std.proofs.lemmas.Bool.Decides.{Decides-int_eq}
use Rattle.std.proofs.lemmas.Slice.Eq.{bytes_eq-Decides}
use Rattle.pp_samples.specs.declared.tag_name.TagName.{TagName}
use Rattle.pp_samples.specs.TagLines.{TagTexts, same_tag}
use Rattle.pp_samples.specs.Names.{name_texts}

-- a number with its unit, and a text with its key
abbrev pub hashed_tag : TagTexts → List (List ℕ)
hashed_tag t = if t.is_number then fed.i64 t.num ++ t.unit ∷ [] else t.key ∷ t.text ∷ []

-- what a tag is hashed by
abbrev pub hashed_name : TagName → List (List ℕ)
hashed_name name = hashed_tag (name_texts name)

-- tags with equal parts are one
pub same_parts : (a b : TagTexts) → IsTrue (same_tag a b) → a ≡ b
same_parts a b same =
    let from_key = and_parts _ _ same in
    let from_kind = and_parts _ _ from_key.1 in
    let from_text = and_parts _ _ from_kind.1 in
    let from_num = and_parts _ _ from_text.1 in
    λ i. record {
      key = (bytes_eq-Decides a.key b.key).0 from_key.0 i;
      is_number = (booleans_Decides a.is_number b.is_number).0 from_kind.0 i;
      text = (bytes_eq-Decides a.text b.text).0 from_text.0 i;
      num = (Decides-int_eq a.num b.num).0 from_num.0 i;
      unit = (bytes_eq-Decides a.unit b.unit).0 from_num.1 i;
    }

-- and so hashed alike
pub same_hashed : (a b : TagName) → IsTrue (same_tag (name_texts a) (name_texts b)) → hashed_name a ≡ hashed_name b
same_hashed a b same = ap hashed_tag (same_parts (name_texts a) (name_texts b) same)
