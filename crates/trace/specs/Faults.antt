-- Why a line of a trace is refused: its number, and the field at fault.
use Rattle.std.specs.Prelude.{ℕ, Some, None, Option}
use Rattle.commands.specs.Misreads.{fault_number}
use Rattle.record.specs.Refusals.{read_byte}
use Rattle.settings.specs.Fault.{refusal}
use Rattle.settings.specs.Judged.{place}
use Rattle.tally.specs.Refusals.{call_number}
use Rattle.tally.specs.declared.fault.CallFault.{CallFault}
use Rattle.tally.specs.declared.fault.CallFault.TheVariants as call
use Rattle.trace.specs.declared.fault.TraceFault.{TraceFault}
use Rattle.trace.specs.declared.fault.TraceFault.TheVariants.{Long, Syntax, Order, Settings, Call}

abbrev pub trace_number : TraceFault → ℕ
trace_number Long = 46
trace_number (Syntax e) = fault_number e
trace_number Order = 45
trace_number (Settings e) = refusal e
trace_number (Call e) = call_number e

-- The field that a call's fault is about: the length, the number of microseconds, the digits of a record; else the command.
abbrev pub call_place : CallFault → ℕ
call_place call.Memory = 0
call_place call.Length = 2
call_place call.Full = 0
call_place call.Pace = 0
call_place call.NoFrame = 0
call_place call.NoNotice = 0
call_place call.Wait = 1
call_place (call.Record e) = 1

-- The settings are the fields after the command, in their order.
abbrev pub fault_place : TraceFault → ℕ
fault_place Long = 0
fault_place (Syntax e) = 0
fault_place Order = 0
fault_place (Settings e) = place e
fault_place (Call e) = call_place e

-- The byte of the record, for a record's fault.
abbrev pub call_byte : CallFault → Option ℕ
call_byte call.Memory = None
call_byte call.Length = None
call_byte call.Full = None
call_byte call.Pace = None
call_byte call.NoFrame = None
call_byte call.NoNotice = None
call_byte call.Wait = None
call_byte (call.Record e) = Some (read_byte e)

abbrev pub fault_byte : TraceFault → Option ℕ
fault_byte Long = None
fault_byte (Syntax e) = None
fault_byte Order = None
fault_byte (Settings e) = None
fault_byte (Call e) = call_byte e
