use Rattle.std.proofs.Common.{◌≡◌, ◌+◌, ◌*◌, ◌<◌, ◌≤◌, ◌^◌, ◌∷◌, ◌++◌, [], ℕ, List, length, drop, nat_abs, subst, arith}
use Rattle.std.specs.List.{sum_by}
use Rattle.std.proofs.lemmas.List.{length-take-le}
use Rattle.std.proofs.lemmas.List.Sums.{sum_by-append, sum_by-take-drop, sum_by-take-le}
use Rattle.pp_model.specs.declared.profile.Sample.{Sample}
use Rattle.pp_count.specs.Column.{selected}
use Rattle.pp_count.specs.Joined.{IsRangePart}
use Rattle.pp_steal.specs.Pieces.{piece_of}
use Rattle.pp_count.proofs.CallerLemmas.{can_join}
use Rattle.pp_count.proofs.Kept.{values_fit}
use Rattle.pp_rows.proofs.parts.joined_part.Goals as goal

-- what the first two pieces add up to is within what all samples add up to
pieces_within : (size : Sample → ℕ) (samples : List Sample)
    → sum_by size (piece_of samples 0 ++ (piece_of samples 1 ++ [])) ≤ sum_by size samples
pieces_within size samples =
    let first : sum_by size (piece_of samples 0) + sum_by size (drop 1024 samples) ≡ sum_by size samples = sum_by-take-drop size samples 1024 in
    let second : sum_by size (piece_of samples 1) ≤ sum_by size (drop 1024 samples) = sum_by-take-le size (drop 1024 samples) 1024 in
    omega (
      arith,
      first,
      second,
      sum_by-append size (piece_of samples 0) (piece_of samples 1 ++ []),
      sum_by-append size (piece_of samples 1) [],
    )

-- the parts are of the first two pieces, one after the other
pub join_parts-requires : goal.join_parts-requires
join_parts-requires c =
    let samples = c.args.l.now.profile.sample in
    let size : Sample → ℕ = λ s. nat_abs (selected c.args.column c.args.config.now.presentation.divide_by s) in
    let whole : length (piece_of samples 0) ≡ 1024 = length-take-le 1024 samples (omega (arith, c.requires.pieces)) in
    let begins : 1024 * 1 ≡ 0 + length (piece_of samples 0) = omega (arith, whole) in
    let second = subst (λ (n : ℕ). IsRangePart c.args.l.now c.args.v.now c.args.config.now c.args.column c.args.table.now.names n (piece_of samples 1) c.in_ok-second.second)
    begins c.in_ok-second.ensures in
    let all : sum_by size samples < 2 ^ 63 =
    values_fit c.args.l.now.profile c.args.column c.args.config.now.presentation.divide_by c.requires.can.countable c.requires.can.column in
    let fits : sum_by size (piece_of samples 0 ++ (piece_of samples 1 ++ [])) < 2 ^ 63 = omega (arith, pieces_within size samples, all) in
    rw (c.in_ok-push-2.ensures.ok, c.in_ok-push.ensures.ok, c.new-parts.ensures)
    (can_join c.args.l.now c.args.v.now c.args.config.now c.args.column c.args.table.now.names (piece_of samples 0 ∷ piece_of samples 1 ∷ [])
    (c.in_ok-first.first ∷ c.in_ok-second.second ∷ []) 0 (c.in_ok-first.ensures, (second, tt)) fits)
