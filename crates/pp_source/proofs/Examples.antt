-- The definitions on small examples.
use Rattle.std.proofs.Common.{◌≡◌, ◌∷◌, [], true, false, refl}
use Rattle.std.specs.Prelude.{codes}
use Rattle.pp_source.specs.Paths.{paths_to_try}
use Rattle.pp_source.specs.SourceText.{file_lines, is_near}

-- a relative path in each folder, and alone where all folders are empty
two_folders : paths_to_try (codes "a:b") [] (codes "work.c") ≡ codes "a/work.c" ∷ codes "b/work.c" ∷ []
two_folders = refl

alone : paths_to_try (codes ":") (codes "::") (codes "work.c") ≡ codes "work.c" ∷ []
alone = refl

-- a path from the root as it is, and then in each folder
from_the_root : paths_to_try [] [] (codes "/w/x.go") ≡ codes "/w/x.go" ∷ []
from_the_root = refl

first_as_it_is : paths_to_try (codes "s") [] (codes "//w/x.go") ≡ codes "//w/x.go" ∷ codes "s/w/x.go" ∷ []
first_as_it_is = refl

-- a slash alone has no name
a_slash : paths_to_try (codes "s") [] (codes "/") ≡ codes "/" ∷ codes "s/" ∷ []
a_slash = refl

-- the first folder that the file lies in is taken off, with its slash; it is not tried as it was
taken_off : paths_to_try [] (codes "/b:/b/app:/c") (codes "/b/app/x.c") ≡ codes "app/x.c" ∷ []
taken_off = refl

taken_off_by_names : paths_to_try (codes "s") (codes "/b/ap:/b/app") (codes "/b/app/x.c") ≡ codes "s/x.c" ∷ []
taken_off_by_names = refl

-- a line ends at a line end or with the file, and keeps its other bytes
two_lines : file_lines (codes "a\nb") ≡ codes "a" ∷ codes "b" ∷ []
two_lines = refl

ended : file_lines (codes "a\r\n\nb\n") ≡ codes "a\r" ∷ [] ∷ codes "b" ∷ []
ended = refl

one_empty_line : file_lines (codes "\n") ≡ [] ∷ []
one_empty_line = refl

-- five lines before the first and five after the last
before_the_first : is_near 20 21 14 ≡ false
before_the_first = refl

five_before : is_near 20 21 15 ≡ true
five_before = refl

five_after : is_near 20 21 26 ≡ true
five_after = refl

after_the_last : is_near 20 21 27 ≡ false
after_the_last = refl
