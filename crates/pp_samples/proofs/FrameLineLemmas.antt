-- The lines of frames that are made, one behind another.
use Rattle.std.proofs.Common.{◌≡◌, ℕ, ◌<◌, List, [], ◌∷◌, ◌++◌, length, take, drop, get_or, inl, inr, sym, ap, subst, ◌∙◌, arith, length-append}
use Rattle.std.proofs.Math.ListN.{get_or-append}
use Rattle.std.proofs.Math.Seq.{drop-append_seam, get_or-append_seam}
use Rattle.std.proofs.lemmas.Bool.{cases_lt}
use Rattle.std.proofs.lemmas.List.{drop-append-le, length-drop, take-append-le, take_all}
use Rattle.pp_model.specs.declared.profile.Profile.{Profile}
use Rattle.pp_grain.specs.declared.key.Key.{Key}
use Rattle.pp_samples.specs.declared.frame_lines.FrameLines.{FrameLines}
use Rattle.pp_samples.specs.declared.frame_lines.LinePlace.{LinePlace}
use Rattle.pp_samples.specs.FrameLines.{bare_line, AreFrameLines, StandsAt}

-- what stands at a place stays there
kept : (text more : List ℕ) (place : LinePlace) (bytes : List ℕ) → StandsAt text place bytes → StandsAt (text ++ more) place bytes
kept text more place bytes stands = record {
  within = omega (arith, stands.within, length-append text more);
  are = ap (take place.len) (drop-append-le place.start text more (omega (arith, stands.within)))
      ∙ take-append-le place.len (drop place.start text) more (omega (arith, stands.within, length-drop place.start text)) ∙ stands.are;
}

-- what is added stands at the end
added : (text line : List ℕ) → StandsAt (text ++ line) (record { start = length text; len = length line }) line
added text line = record {
  within = omega (arith, length-append text line);
  are = ap (take (length line)) (drop-append_seam text line) ∙ take_all (length line) line (omega arith);
}

-- one more line is made
pub line_added : (p : Profile) (names : List Key) (old new : FrameLines) (n : ℕ) (line : List ℕ) → AreFrameLines p names old → length old.places.items ≡ n
    → new.text ≡ old.text ++ line → new.places.items ≡ old.places.items ++ record { start = length old.text; len = length line } ∷ [] → line ≡ bare_line p names n
    → AreFrameLines p names new
line_added p names old new n line so_far count text places is = record { each = each } where
  at : LinePlace
  at = record { start = length old.text; len = length line }

  each : (k : ℕ) (d : LinePlace) → k < length new.places.items → StandsAt new.text (get_or new.places.items k d) (bare_line p names k)
  each k d here = elim (cases_lt k n) as (λ _. StandsAt new.text (get_or new.places.items k d) (bare_line p names k)) [
    | inl before ↦
        let own : get_or new.places.items k d ≡ get_or old.places.items k d =
        ap (λ (xs : List LinePlace). get_or xs k d) places ∙ get_or-append old.places.items (at ∷ []) d k (omega (arith, before, count)) in
        subst (λ (q : LinePlace). StandsAt new.text q (bare_line p names k)) (sym own)
        (subst (λ (t : List ℕ). StandsAt t (get_or old.places.items k d) (bare_line p names k)) (sym text)
        (kept old.text line (get_or old.places.items k d) (bare_line p names k) (so_far.each k d (omega (arith, before, count)))))
    | inr past ↦
        let same : k ≡ n = omega (arith, past, here, count, ap length places, length-append old.places.items (at ∷ [])) in
        let own : get_or new.places.items k d ≡ at =
        ap (λ (xs : List LinePlace). get_or xs k d) places ∙ ap (λ m. get_or (old.places.items ++ at ∷ []) m d) (same ∙ sym count) ∙ get_or-append_seam old.places.items at [] d in
        subst (λ (q : LinePlace). StandsAt new.text q (bare_line p names k)) (sym own)
        (subst (λ (t : List ℕ). StandsAt t at (bare_line p names k)) (sym text) (subst (StandsAt (old.text ++ line) at) (is ∙ ap (bare_line p names) (sym same)) (added old.text line)))
  ]
