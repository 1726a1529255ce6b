-- The number of each refusal.
use Rattle.std.specs.Prelude.{ℕ}
use Rattle.record.specs.Refusals.{read_number}
use Rattle.tally.specs.declared.fault.CallFault.{CallFault}
use Rattle.tally.specs.declared.fault.CallFault.TheVariants as call
use Rattle.tally.specs.declared.fault.OpenFault.{OpenFault}
use Rattle.tally.specs.declared.fault.OpenFault.TheVariants as open'

-- A record's refusal keeps its number.
abbrev pub call_number : CallFault → ℕ
call_number call.Memory = 6
call_number call.Length = 10
call_number call.Full = 11
call_number call.Pace = 12
call_number call.NoFrame = 20
call_number call.NoNotice = 21
call_number call.Wait = 22
call_number (call.Record e) = read_number e

abbrev pub open_number : OpenFault → ℕ
open_number open'.Notifier = 5
open_number open'.Memory = 6
