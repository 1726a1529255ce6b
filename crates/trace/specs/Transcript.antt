-- What a whole trace prints.
use Rattle.std.specs.Prelude.{ℕ, ◌+◌, cond, List, [], ◌∷◌, ◌++◌, length, Ok, Err, Result, nat_lt}
use Rattle.commands.specs.Columns.{column_of}
use Rattle.commands.specs.Commands.{said as said_by}
use Rattle.commands.specs.Said.{Said}
use Rattle.commands.specs.declared.misread.Misread.{Misread}
use Rattle.fields.specs.Parts.{parts}
use Rattle.fields.specs.declared.failure.Failure.{Failure}
use Rattle.fields.specs.declared.failure.Failure.TheVariants.{Refused, Memory}
use Rattle.trace.specs.declared.fault.Refusal.{Refusal}
use Rattle.trace.specs.declared.fault.TraceFault.{TraceFault}
use Rattle.trace.specs.declared.fault.TraceFault.TheVariants.{Long, Syntax}
use Rattle.trace.specs.Faults.{fault_place}
use Rattle.trace.specs.declared.reply.Reply.{Reply}
use Rattle.trace.specs.Replies.{Told, told}
use Rattle.trace.specs.Texts.{printed}
use Rattle.trace.specs.Session.{Situation, beginning, reply_to, situation_after}

-- A refusal gains its line and the column where the field at fault begins.
abbrev pub refused_at : ℕ → List ℕ → TraceFault → Refusal
refused_at number line e = record { fault = e; line = number; column = column_of line (fault_place e) }

abbrev pub reply_placed : ℕ → List ℕ → Result Told TraceFault → Result Told Refusal
reply_placed number line (Ok t) = Ok t
reply_placed number line (Err e) = Err (refused_at number line e)

-- A line that is no command is refused with its own column.
abbrev pub misread_at : ℕ → Misread → Refusal
misread_at number m = record { fault = Syntax m.fault; line = number; column = m.column }

abbrev pub reply_read : Situation → ℕ → List ℕ → Result Said Misread → Result Told Refusal
reply_read s number line (Ok c) = reply_placed number line (reply_to s c)
reply_read s number line (Err m) = Err (misread_at number m)

abbrev pub after_read : Situation → Result Said Misread → Situation
after_read s (Ok c) = situation_after s c
after_read s (Err m) = s

-- One line: what it is answered, and what it leaves.
unfoldable pub line_reply : Situation → ℕ → List ℕ → Result Told Refusal
line_reply s number line = reply_read s number line (said_by line)

unfoldable pub line_after : Situation → List ℕ → Situation
line_after s line = after_read s (said_by line)

-- A reply with its place, by what it tells.
abbrev pub told_placed : Result Reply Refusal → Result Told Refusal
told_placed (Ok r) = Ok (told r)
told_placed (Err e) = Err e

-- A failure with its place: a refusal as it is placed, want of memory as it is.
abbrev pub PlacedBy : {F : Type 0} → (F → Refusal → Type 0) → Failure F → Failure Refusal → Type 0
PlacedBy place (Refused f) (Refused r) = place f r
PlacedBy place (Refused f) Memory = ⊥
PlacedBy place Memory (Refused r) = ⊥
PlacedBy place Memory Memory = Unit {0}

-- The lines of a trace: each is ended by a newline (10), save perhaps the last.
abbrev pub ended : List (List ℕ) → List (List ℕ)
ended [] = []
ended ([] ∷ []) = []
ended ((b ∷ bs) ∷ []) = (b ∷ bs) ∷ []
ended (l ∷ (m ∷ ls)) = l ∷ ended (m ∷ ls)

abbrev pub lines_of : List ℕ → List (List ℕ)
lines_of trace = ended (parts 10 trace)

-- Line after line, counted from a number.
unfoldable pub transcript_from : Situation → ℕ → List (List ℕ) → List ℕ
transcript_from s number [] = []
transcript_from s number (l ∷ ls) = printed (line_reply s number l) ++ transcript_from (line_after s l) (number + 1) ls

-- A trace has at most 60,000 bytes; nothing of a longer one is read.
abbrev pub longest_trace : ℕ
longest_trace = 60000

abbrev pub too_long : Result Told Refusal
too_long = Err (record { fault = Long; line = 1; column = 1 })

abbrev pub transcript : List ℕ → List ℕ
transcript trace = cond (nat_lt longest_trace (length trace)) (printed too_long) (transcript_from beginning 1 (lines_of trace))
