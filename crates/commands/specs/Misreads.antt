-- What a line that is no command is answered with.
use Rattle.std.specs.Prelude.{ℕ}
use Rattle.commands.specs.declared.misread.SyntaxFault.{SyntaxFault}
use Rattle.commands.specs.declared.misread.SyntaxFault.TheVariants.{Command, Fields, Number, Letter, Digits}

-- The number of a fault: a letter at fault is 40 wherever it stands.
abbrev pub fault_number : SyntaxFault → ℕ
fault_number Command = 40
fault_number Fields = 41
fault_number Number = 42
fault_number Letter = 40
fault_number Digits = 43
