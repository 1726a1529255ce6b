use Rattle.std.proofs.Common.{◌≡◌, ◌^◌, ◌<◌, drop}
use Rattle.std.specs.Option.{option_map}
use Rattle.fields.specs.Decimals.{digits_of, number_of}
use Rattle.fields.proofs.Weights.{continued}
use Rattle.fields.proofs.decimals.number.Given as goal

abbrev pub invariant-loop-c : goal.invariant-loop-c
invariant-loop-c l =
    (l.sum < 10 ^ l.c-index)
    × (option_map (continued l.sum) (digits_of (drop l.c-index l.digits)) ≡ option_map number_of (digits_of l.digits))
