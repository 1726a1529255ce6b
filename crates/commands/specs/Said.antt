-- What a line says, with the bytes that it lends in place of where they stand.
use Rattle.std.specs.Prelude.{ℕ, List, Ok, Err, Result}
use Rattle.commands.specs.declared.command.Command.{Command}
use Rattle.commands.specs.declared.command.Command.TheVariants as command
use Rattle.commands.specs.declared.command.Opening.{Opening}

-- A command by what it holds.
pub data Said : Type 0 where
  opens : Opening → Said
  offers : (flow length : ℕ) → Said
  leaves : Said
  delivers : Said
  receives : (digits : List ℕ) → Said
  waits : ℕ → Said
  rates : (flow : ℕ) → Said
  columns : Said

abbrev pub meant : Command → Said
meant (command.Open o) = opens o
meant (command.Offer flow length) = offers flow length
meant command.Leave = leaves
meant command.Deliver = delivers
meant (command.Receive digits) = receives digits.now
meant (command.Wait n) = waits n
meant (command.Rates flow) = rates flow
meant command.Columns = columns

-- A command, or why there is none, by what it holds.
abbrev pub told : {E : Type 0} → Result Command E → Result Said E
told (Ok c) = Ok (meant c)
told (Err e) = Err e
