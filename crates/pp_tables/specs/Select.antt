-- What the fields of one number give, of a message's fields.
use Rattle.std.specs.Prelude.{ℕ, ℤ, Bool, not, ◌==◌, List, [], ◌∷◌, map, filter}
use Rattle.std.specs.List.{flat_map}
use Rattle.std.specs.Int.{w64, cast_signed}
use Rattle.pp_wire.specs.Fields.{Content, Varint, Eight, Four, Bytes, Item, fields, numbers}

-- what a rule reads from the fields of that number, in order
abbrev pub all : {A : Type 0} → (Item → List A) → ℕ → List Item → List A
all read n items = flat_map read (filter (λ item. item.number == n) items)

-- the last of a list, or the given one where there is none
abbrev pub last_or : {A : Type 0} → A → List A → A
last_or x [] = x
last_or x (y ∷ ys) = last_or y ys

-- the number of 64 bits as a two's complement
abbrev pub signed : ℕ → ℤ
signed n = cast_signed w64 n

-- true where the number isn't 0
abbrev pub flag : ℕ → Bool
flag n = not (n == 0)

-- the number of a varint
abbrev pub scalar : Content → List ℕ
scalar (Varint n) = n ∷ []
scalar (Eight n) = []
scalar (Four n) = []
scalar (Bytes bytes place) = []

-- a uint64
abbrev pub uints_in : Item → List ℕ
uints_in item = scalar item.content

-- an int64
abbrev pub ints_in : Item → List ℤ
ints_in item = map signed (scalar item.content)

-- a bool
abbrev pub bools_in : Item → List Bool
bools_in item = map flag (scalar item.content)

-- the number of a varint, or those of a packed list; the field is at that place
abbrev pub listed : Content → ℕ → List ℕ
listed (Varint n) at = n ∷ []
listed (Eight n) at = []
listed (Four n) at = []
listed (Bytes bytes place) at = (numbers bytes at).items

-- repeated uint64s
abbrev pub uint_list_in : Item → List ℕ
uint_list_in item = listed item.content item.at

-- repeated int64s
abbrev pub int_list_in : Item → List ℤ
int_list_in item = map signed (listed item.content item.at)

-- what is made of a payload and its place
abbrev pub of_payload : {A : Type 0} → (List ℕ → ℕ → List A) → Content → List A
of_payload read (Varint n) = []
of_payload read (Eight n) = []
of_payload read (Four n) = []
of_payload read (Bytes bytes place) = read bytes place

-- a text
abbrev pub texts_in : Item → List (List ℕ)
texts_in item = of_payload (λ bytes place. bytes ∷ []) item.content

-- a message, made of its fields
abbrev pub messages_in : {A : Type 0} → (List Item → A) → Item → List A
messages_in of item = of_payload (λ bytes place. of (fields bytes place).items ∷ []) item.content

-- the fields of a message
abbrev pub fields_in : Item → List Item
fields_in item = of_payload (λ bytes place. (fields bytes place).items) item.content
