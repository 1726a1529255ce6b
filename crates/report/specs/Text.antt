-- The text of a report.
use Rattle.std.specs.Prelude.{ℕ, ◌+◌, ◌-◌, ◌/◌, ◌%◌, cond, List, [], ◌∷◌, ◌++◌, vec_items, codes, decimal, ◌==◌, nat_lt, slice_index}
use Rattle.record.specs.declared.Record.{Record}
use Rattle.silence.specs.declared.expiry.Expiry.{Expiry}
use Rattle.silence.specs.declared.expiry.Recovery.{Recovery}

-- A hexadecimal digit, in lower case.
abbrev pub glyph : ℕ → ℕ
glyph digit = cond (nat_lt digit 10) (48 + digit) (97 + (digit - 10))

-- A byte as two digits.
abbrev pub pair : ℕ → List ℕ
pair byte = glyph (byte / 16) ∷ (glyph (byte % 16) ∷ [])

-- Six bytes, with a colon between them.
abbrev pub station_text : List ℕ → List ℕ
station_text s =
    pair (slice_index s 0) ++ (codes ":" ++ (pair (slice_index s 1) ++ (codes ":" ++ (pair (slice_index s 2) ++ (codes ":" ++ (pair (slice_index s 3) ++ (codes ":" ++ (pair (slice_index s 4) ++ (codes ":" ++ pair (slice_index s 5))))))))))

-- What the record says.
abbrev pub record_text : Record → List ℕ
record_text r = codes "record: switch " ++ (station_text r.station ++ (codes ", flow " ++ (decimal r.flow ++ (codes ", value " ++ (decimal r.value ++ codes "\n")))))

-- The current rate before and after the notice.
abbrev pub cut_text : ℕ → ℕ → List ℕ
cut_text before after = codes "current rate: " ++ (decimal before ++ (codes " kbit/s before the notice, " ++ (decimal after ++ codes " kbit/s after it\n")))

-- An expiry: number, time, stage, current and target.
abbrev pub row_text : Expiry → List ℕ
row_text e =
    decimal e.number ++ (codes " " ++ (decimal e.time ++ (codes " " ++ (decimal e.stage ++ (codes " " ++ (decimal e.rates.current ++ (codes " " ++ (decimal e.rates.target ++ codes "\n"))))))))

abbrev pub rows_text : List Expiry → List ℕ
rows_text [] = []
rows_text (e ∷ es) = row_text e ++ rows_text es

-- How it ended: at the line rate, or with the most expiries that are followed.
abbrev pub ending : ℕ → ℕ → List ℕ
ending line current = cond (current == line) (codes "back") (codes "stopped at the bound, not back")

-- When it ended: after how many expiries, and how long after the notice.
abbrev pub when_text : Expiry → List ℕ
when_text e = codes " at the line rate after " ++ (decimal e.number ++ (codes " expiries, " ++ (decimal e.time ++ codes " us after the notice\n")))

-- The closing sentence.
abbrev pub closing_text : ℕ → Expiry → List ℕ
closing_text line e = ending line e.rates.current ++ when_text e

-- What stands above the rows.
abbrev pub columns : List ℕ
columns = codes "expiry time_us stage current_kbit/s target_kbit/s\n"

-- A flow's way back, from the cut to the closing sentence.
abbrev pub way_said : ℕ → Expiry → List Expiry → Expiry → List ℕ
way_said line start rows end = cut_text line start.rates.current ++ (columns ++ (rows_text rows ++ closing_text line end))

abbrev pub way_text : ℕ → Recovery → List ℕ
way_text line w = way_said line w.start (vec_items w.rows) w.end

abbrev pub ignored_text : List ℕ
ignored_text = codes "value 0 is ignored: the flow stays at its rate\n"
