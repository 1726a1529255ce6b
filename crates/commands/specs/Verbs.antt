-- The commands that there are.
use Rattle.std.specs.Prelude.{ℕ, cond, Some, None, Option, ◌==◌}
use Rattle.commands.specs.declared.verb.Verb.{Verb}
use Rattle.commands.specs.declared.verb.Verb.TheVariants.{Open, Offer, Leave, Deliver, Receive, Wait, Rates, Columns}

-- s (115) opens a line, o (111) offers a frame, l (108) lets one leave, d (100) delivers a notice, r (114) receives a record,
-- w (119) waits, f (102) asks for the rates of a flow, p (112) for the columns.
abbrev pub verb_of : ℕ → Option Verb
verb_of letter =
    cond (letter == 115) (Some Open) (cond (letter == 111) (Some Offer)
    (cond (letter == 108) (Some Leave) (cond (letter == 100) (Some Deliver)
    (cond (letter == 114) (Some Receive) (cond (letter == 119) (Some Wait)
    (cond (letter == 102) (Some Rates) (cond (letter == 112) (Some Columns) None)))))))

-- How many fields a command has, its letter counted.
abbrev pub fields_of : Verb → ℕ
fields_of Open = 11
fields_of Offer = 3
fields_of Leave = 1
fields_of Deliver = 1
fields_of Receive = 2
fields_of Wait = 2
fields_of Rates = 2
fields_of Columns = 1
