-- What a regular expression that was built from a text finds is what the text's pattern finds, and why one was not built.
use Rattle.std.proofs.Common.{◌≡◌, refl, ℕ, ◌<◌, ◌≤◌, ◌⊎◌, inl, inr, List, Bool, ◌&&◌, Option, None, Some, IsSomeAnd, is_some, map, length, IsUtf8, sym, ap, ◌∙◌, ⊎_elim}
use Rattle.std.specs.Prelude.{IfSome, ◌≢◌}
use Rattle.std.specs.Str.{chars}
use Rattle.std.proofs.lemmas.Str.{is_utf8-from_IsUtf8}
use Rattle.regex.specs.Patterns.{Re, SameCaptures, Reads, Refuses, find}
use Rattle.regex.specs.Bytes.{regex_pattern}
use Rattle.regex.specs.declared.bytes.regex.Regex.{Regex}
use Rattle.regex.specs.Failures as failures
use Rattle.regex.specs.Sources.{IsRefusal}
use Rattle.regex.specs.declared.error.Error.{Error}
use Rattle.regex.specs.declared.error.Error.TheVariants.{Syntax}
use Rattle.regex_syntax.specs.declared.error.Error as parser
use Rattle.regex_syntax.specs.Brackets.{Nested}
use Rattle.regex_syntax.specs.Grammar.{Names, read, group_count}
use Rattle.regex_syntax.specs.declared.error.ErrorKind.{ErrorKind}
use Rattle.regex_syntax.specs.declared.error.ErrorKind.TheVariants.{OutOfMemory}
use Rattle.pp_regex.specs.Built.{IsBuiltFrom}
use Rattle.pp_regex.specs.Finds.{options, finds, has_match_of, IsPattern, IsNoPattern}

-- the verdicts by the pattern that the grammar read
by_what_was_read : (o : Option (Nested Re × Names)) (most : ℕ) (a : Re) (names : Names) →
    IsSomeAnd o (λ (re, found). (re.depth ≤ most) × SameCaptures a re.value × (names ≡ found) × (group_count a ≤ length names)) →
    (verdicts : List Bool) (subjects : List (List ℕ)) →
    ((re : Re) → SameCaptures a re → verdicts ≡ map (λ subject. is_some (find re subject 0)) subjects) →
    verdicts ≡ map (has_match_of o) subjects
by_what_was_read None most a names p verdicts subjects h = absurd p
by_what_was_read (Some found) most a names p verdicts subjects h = h found.0.value p.1

-- what was read is within the limit
shallow : (o : Option (Nested Re × Names)) (most : ℕ) (a : Re) (names : Names) →
    IsSomeAnd o (λ (re, found). (re.depth ≤ most) × SameCaptures a re.value × (names ≡ found) × (group_count a ≤ length names)) →
    IsSomeAnd o (λ (re, found). re.depth ≤ most)
shallow None most a names p = absurd p
shallow (Some found) most a names p = p.0

-- verdicts by each pattern that matches alike are verdicts by the text
pub verdicts_by_text : (r : Regex) (text : List ℕ) → IsBuiltFrom text r → (verdicts : List Bool) (subjects : List (List ℕ)) →
    ((re : Re) → SameCaptures (regex_pattern r) re → verdicts ≡ map (λ subject. is_some (find re subject 0)) subjects) →
    verdicts ≡ map (finds text) subjects
unfolding Reads
verdicts_by_text r text built verdicts subjects h =
    by_what_was_read _ _ _ _ (rw (built.source, built.config) at built.read) verdicts subjects h
    ∙ ap (λ (b : Bool). map (λ subject. b && has_match_of (read options (chars text)) subject) subjects)
    (sym (is_utf8-from_IsUtf8 text built.utf8))

-- a text that was built is a pattern
pub pattern_of_built : (r : Regex) (text : List ℕ) → IsBuiltFrom text r → IsPattern text
unfolding Reads
pattern_of_built r text built = (built.utf8, shallow _ _ _ _ (rw (built.source, built.config) at built.read))

-- and so is one that was too big
pub pattern_of_big : (text : List ℕ) → failures.IsPattern options text → IsUtf8 text → IsPattern text
unfolding Reads
pattern_of_big text p utf8 = (utf8, shallow _ _ _ _ p.2)

-- nothing was read, or it passes the limit
too_deep : (o : Option (Nested Re × Names)) (most : ℕ) → IfSome o (λ (re, names). most < re.depth) →
    (o ≡ None) ⊎ IsSomeAnd o (λ (re, names). most < re.depth)
too_deep None most p = inl refl
too_deep (Some found) most p = inr p

-- an error of syntax comes only for a text that is no pattern
pub no_pattern_of_refusal : (text : List ℕ) (kind : ErrorKind) → Refuses options text kind → kind ≢ OutOfMemory → IsNoPattern text
unfolding Refuses
no_pattern_of_refusal text kind refuses other =
    inr (⊎_elim
    (λ is. absurd (other is))
    (λ rest. ⊎_elim (λ none. inl none) (λ deep. too_deep _ _ deep.1) rest)
    refuses)

-- no pattern is read, by the whole error that the crate regex gives
pub no_pattern_of_syntax : (text : List ℕ) (error : Error) (syntax_error : parser.Error) → error ≡ Syntax syntax_error →
    IsRefusal options text error → failures.IsRightKind options text error → IsNoPattern text
no_pattern_of_syntax text error e is refusal right =
    no_pattern_of_refusal text e.kind (refusal e is) (rw is at right)
