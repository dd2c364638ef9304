use Rattle.std.proofs.Common.{◌≡◌, ◌<◌, List, [], ◌∷◌, length, sym, ap, ◌∙◌, arith}
use Rattle.std.specs.Prelude.{slice_index_or}
use Rattle.std.specs.List.{remove}
use Rattle.pp_merge.proofs.merging.split.Goals as goal

-- a list that is not empty is its first item and those behind it
first_behind : {A : Type 0} (list all others : List A) (first : A) → 0 < length list → all ≡ list → first ≡ slice_index_or all 0 first → others ≡ remove all 0 → list ≡ first ∷ others
first_behind [] all others first some same is rest = absurd (omega (arith, some))
first_behind (p ∷ ps) all others first some same is rest =
    let head : first ≡ p = is ∙ ap (λ xs. slice_index_or xs 0 first) same in
    let behind : others ≡ ps = rest ∙ ap (λ xs. remove xs 0) same in
    (λ j. sym head j ∷ sym behind j)

pub returns : goal.returns
returns g c =
    first_behind c.args.list c.into_vec-others.result.items c.remove-first.new.self.items c.remove-first.result c.requires c.into_vec-others.ensures
    c.remove-first.ensures.value c.remove-first.ensures.items
