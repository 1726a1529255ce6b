-- The text of a printed line: its fields with one space between them, ended by a newline. Assumes nothing.
use Rattle.std.specs.Prelude.{ℕ, List, [], ◌∷◌, ◌++◌, codes, decimal}
use Rattle.std.specs.List.{flat_map}
use Rattle.text.specs.declared.printed.Printed.{Printed}
use Rattle.text.specs.declared.printed.Printed.TheVariants.{Number, Letter, SlotHeading, FlowHeading}

-- The byte between two fields.
abbrev pub space : ℕ
space = 32

-- The byte that ends a line.
abbrev pub newline : ℕ
newline = 10

-- A number in decimal, a letter as it is, a heading as its word.
abbrev pub printed_text : Printed → List ℕ
printed_text (Number n) = decimal n
printed_text (Letter c) = c ∷ []
printed_text SlotHeading = codes "slot"
printed_text FlowHeading = codes "flow"

-- A field that is not the first has a space before it.
abbrev pub following_text : Printed → List ℕ
following_text field = space ∷ printed_text field

-- What stands behind the first field.
abbrev pub rest_text : List Printed → List ℕ
rest_text fields = flat_map following_text fields ++ newline ∷ []

-- A line; one of no fields is just the newline.
abbrev pub line_text : List Printed → List ℕ
line_text [] = newline ∷ []
line_text (field ∷ fields) = printed_text field ++ rest_text fields

-- The lines of a table one after another; each row is a line of its fields.
abbrev pub table_text : List (List Printed) → List ℕ
table_text rows = flat_map line_text rows
