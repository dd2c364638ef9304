-- The keys that the rows of a report stand for, made of texts and numbers, with their order.
use Rattle.std.specs.Prelude.{ℕ, ◌+◌, ◌<◌, Bool, true, false, not, ◌&&◌, ◌||◌, ◌==◌, ℤ, pos, List, [], length, slice_get, slice_index_or, if◌then◌else◌}
use Rattle.std.specs.Option.{option_map_or}
use Rattle.std.specs.declared.cmp.Ordering.{Ordering}
use Rattle.std.specs.Ordering.{nat_cmp, int_cmp, then_cmp}
use Rattle.std.specs.Cmp.Lexicographic.{slice_cmp}
use Rattle.pp_model.specs.declared.grouping.Grain.{Grain}
use Rattle.pp_model.specs.declared.grouping.Grain.TheVariants.{Functions, FileFunctions, Files, Lines, Addresses}
use Rattle.pp_model.specs.declared.frame.Frame.{Frame}
use Rattle.pp_model.specs.declared.profile.Profile.{Profile}
use Rattle.pp_model.specs.Lookup.{text_at}
use Rattle.pp_model.specs.FrameTexts.{Written}
use Rattle.pp_grain.specs.declared.key.Key.{Key}
use Rattle.pp_base.specs.Marks.{is_empty_text}

-- no frame of the same place follows on the way to the root
abbrev pub is_last_of_place : List Frame → ℕ → Bool
is_last_of_place stack i =
    option_map_or (λ next. not (next.place == (slice_index_or stack i next).place))
    (slice_get stack (i + 1)) true

-- Whether the frame counts: with noinlines, only the last of its place, which the others were
-- inlined into.
abbrev pub frame_counts : List Frame → ℕ → Bool → Bool
frame_counts stack i noinlines = not noinlines || is_last_of_place stack i

-- whether the number is 0
abbrev pub is_zero : ℤ → Bool
is_zero (pos n) = n == 0
is_zero _ = false

-- neither a function, nor a file, nor a line
abbrev pub is_nameless : Written → Bool
is_nameless key = is_empty_text key.function && is_empty_text key.file && is_zero key.line

-- the key with the object, where it would have neither a function, nor a file, nor a line
abbrev pub with_object : Written → List ℕ → Written
with_object key object = record key { object = if is_nameless key then object else [] }

-- the column, where columns are shown
abbrev pub column_if : Bool → ℤ → ℤ
column_if shown column = if shown then column else pos 0

-- what the grain keeps of a frame, but for the object
abbrev pub kept_by : Grain → Bool → Written → Written
kept_by Functions _ w =
    record {
      function = w.function;
      file = [];
      line = pos 0;
      column = pos 0;
      address = 0;
      object = [];
    }
kept_by FileFunctions _ w =
    record {
      function = w.function;
      file = w.file;
      line = pos 0;
      column = pos 0;
      address = 0;
      object = [];
    }
kept_by Files _ w =
    record { function = []; file = w.file; line = pos 0; column = pos 0; address = 0; object = [] }
kept_by Lines shown w =
    record {
      function = w.function;
      file = w.file;
      line = w.line;
      column = column_if shown w.column;
      address = 0;
      object = [];
    }
kept_by Addresses shown w =
    record {
      function = w.function;
      file = w.file;
      line = w.line;
      column = column_if shown w.column;
      address = w.address;
      object = [];
    }

-- The key of a frame.
abbrev pub key_texts : Grain → Bool → Written → Written
key_texts grain showcolumns w = with_object (kept_by grain showcolumns w) w.object

-- the order of the function texts, by their bytes
abbrev pub by_function : Written → Written → Ordering
by_function a b = slice_cmp nat_cmp a.function b.function

-- the order of the file texts, by their bytes
abbrev pub by_file : Written → Written → Ordering
by_file a b = slice_cmp nat_cmp a.file b.file

-- the order of the line numbers
abbrev pub by_line : Written → Written → Ordering
by_line a b = int_cmp a.line b.line

-- the order of the column numbers
abbrev pub by_column : Written → Written → Ordering
by_column a b = int_cmp a.column b.column

-- the order of the addresses
abbrev pub by_address : Written → Written → Ordering
by_address a b = nat_cmp a.address b.address

-- the order of the object texts, by their bytes
abbrev pub by_object : Written → Written → Ordering
by_object a b = slice_cmp nat_cmp a.object b.object

-- The order of keys: by function, file, line, column, address and object in turn, texts by their
-- bytes.
abbrev pub key_cmp : Written → Written → Ordering
key_cmp =
    then_cmp
    (then_cmp (then_cmp (then_cmp (then_cmp by_function by_file) by_line) by_column) by_address)
    by_object

-- the key's texts are texts of the profile
pub record IsKeyOf (p : Profile) (key : Key) : Type 0 where
  pub function : key.function < length p.text
  pub file : key.file < length p.text
  pub object : key.object < length p.text

-- What a key of indices stands for.
abbrev pub key_written : Profile → Key → Written
key_written p key = record {
  function = text_at p key.function;
  file = text_at p key.file;
  line = key.line;
  column = key.column;
  address = key.address;
  object = text_at p key.object;
}
