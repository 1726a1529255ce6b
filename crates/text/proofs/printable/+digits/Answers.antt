use Rattle.std.proofs.Common.{◌/◌, arith, rules}
use Rattle.text.proofs.Digits.{one_digit, one_digit_more, few_digits}
use Rattle.text.proofs.printable.+digits.Goals as goal

pub returns-then-n-lt-BASE : goal.returns-then-n-lt-BASE
returns-then-n-lt-BASE t c = search (rules, one_digit)

pub overflow_add-result : goal.overflow_add-result
overflow_add-result t c = omega (arith, few_digits (c.args.n / 10) (omega arith))

pub returns : goal.returns
returns t c = search (rules, one_digit_more)
