use Rattle.std.specs.Prelude.{Ok, Err, Result}
use Rattle.fields.specs.declared.failure.Failure.{Failure}
use Rattle.fields.specs.declared.failure.Failure.TheVariants.{Refused, Memory}

-- A fact of what a call answers, a value or a refusal; nothing is said where memory was wanting.
abbrev pub unless_memory : {T F : Type 0} → Result T (Failure F) → (Result T F → Type 0) → Type 0
unless_memory (Ok x) P = P (Ok x)
unless_memory (Err (Refused f)) P = P (Err f)
unless_memory (Err Memory) P = Unit {0}
