-- Where the source of a file text is looked for.
use Rattle.std.specs.Prelude.{ℕ, Bool, true, false, ◌==◌, List, [], ◌∷◌, ◌++◌, codes, map, Option, Some, None, if◌then◌else◌}
use Rattle.std.specs.List.{filter, slice_split}
use Rattle.std.specs.Option.{option_or}

-- a colon parts the entries of a list of paths
abbrev pub is_list_colon : ℕ → Bool
is_list_colon b = b == 58

-- a slash parts the names of a path
abbrev pub is_path_slash : ℕ → Bool
is_path_slash b = b == 47

-- whether something stands in the text
abbrev pub is_given : List ℕ → Bool
is_given [] = false
is_given (_ ∷ _) = true

-- the entries of a list of paths, without those that are empty
abbrev pub path_entries : List ℕ → List (List ℕ)
path_entries text = filter is_given (slice_split is_list_colon text)

-- what stands after the front, where the text begins with it
abbrev pub after_front : List ℕ → List ℕ → Option (List ℕ)
after_front [] text = Some text
after_front (a ∷ front) [] = None
after_front (a ∷ front) (b ∷ text) = if a == b then after_front front text else None

-- what the first of the folders that the file lies in leaves of the file's path, if it lies in one
abbrev pub without_folder : List ℕ → List (List ℕ) → Option (List ℕ)
without_folder file [] = None
without_folder file (folder ∷ folders) =
    option_or (after_front (folder ++ codes "/") file) (without_folder file folders)

-- a path from the root begins with a slash
abbrev pub is_absolute : List ℕ → Bool
is_absolute [] = false
is_absolute (b ∷ _) = is_path_slash b

-- the path without the slashes at its front
abbrev pub from_name : List ℕ → List ℕ
from_name [] = []
from_name (b ∷ path) = if is_path_slash b then from_name path else b ∷ path

-- the path in a folder
abbrev pub in_folder : List ℕ → List ℕ → List ℕ
in_folder path folder = folder ++ codes "/" ++ path

-- the path in each of the folders, in order, and this instead where there is none
abbrev pub in_each_folder : List (List ℕ) → List ℕ → List (List ℕ) → List (List ℕ)
in_each_folder [] path alone = alone
in_each_folder (folder ∷ folders) path alone = map (in_folder path) (folder ∷ folders)

-- the paths of a file of which the front was taken off, or else of the whole file
abbrev pub paths_of : List (List ℕ) → List ℕ → Option (List ℕ) → List (List ℕ)
paths_of folders file (Some rest) = in_each_folder folders (from_name rest) (from_name rest ∷ [])
paths_of folders file None =
    if is_absolute file then file ∷ in_each_folder folders (from_name file) []
    else in_each_folder folders (from_name file) (from_name file ∷ [])

-- The paths at which a file's source is looked for, in order. The first folder of trim_path that the file lies in is
-- taken off. A file from the root that lies in none is looked for as it is. What is left, without the slashes at its
-- front, is looked for in each folder of source_path; where source_path has no folder, alone, but for a file from the
-- root of which nothing was taken off.
abbrev pub paths_to_try : List ℕ → List ℕ → List ℕ → List (List ℕ)
paths_to_try source_path trim_path file =
    paths_of (path_entries source_path) file (without_folder file (path_entries trim_path))
