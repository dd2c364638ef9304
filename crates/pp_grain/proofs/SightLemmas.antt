-- Two keys with the same fields are the same.
use Rattle.std.proofs.Common.{◌≡◌, true, refl, subst}
use Rattle.std.specs.Bool.{Decides}
use Rattle.std.proofs.lemmas.Bool.{and_parts, and_from}
use Rattle.std.proofs.lemmas.Bool.Decides.{Decides-eqb, Decides-int_eq}
use Rattle.pp_grain.specs.declared.key.Key.{Key}
use Rattle.pp_grain.specs.Sight.{same_key}

-- a key has the same fields as itself
same_self : (a : Key) → same_key a a ≡ true
same_self a =
    and_from _ _ ((Decides-eqb a.function a.function).1 refl)
    (and_from _ _ ((Decides-eqb a.file a.file).1 refl)
    (and_from _ _ ((Decides-int_eq a.line a.line).1 refl)
    (and_from _ _ ((Decides-int_eq a.column a.column).1 refl)
    (and_from _ _ ((Decides-eqb a.address a.address).1 refl) ((Decides-eqb a.object a.object).1 refl)))))

pub key_decides : (a b : Key) → Decides (same_key a b) (a ≡ b)
key_decides a b = (
  λ same.
      let from_function = and_parts _ _ same in
      let from_file = and_parts _ _ from_function.1 in
      let from_line = and_parts _ _ from_file.1 in
      let from_column = and_parts _ _ from_line.1 in
      let from_address = and_parts _ _ from_column.1 in
      λ i. record {
        function = (Decides-eqb a.function b.function).0 from_function.0 i;
        file = (Decides-eqb a.file b.file).0 from_file.0 i;
        line = (Decides-int_eq a.line b.line).0 from_line.0 i;
        column = (Decides-int_eq a.column b.column).0 from_column.0 i;
        address = (Decides-eqb a.address b.address).0 from_address.0 i;
        object = (Decides-eqb a.object b.object).0 from_address.1 i;
      },
  λ is. subst (λ c. same_key a c ≡ true) is (same_self a),
)
