-- A call as a value, by what it asks: a record by its bytes.
use Rattle.tally.specs.declared.call.Call.{Call}
use Rattle.tally.specs.declared.call.Call.TheVariants as call
use Rattle.tally.specs.Steps.{Asked, offer, leave, deliver, receive, wait}

abbrev pub said : Call → Asked
said (call.Offer who n) = offer who n
said call.Leave = leave
said call.Deliver = deliver
said (call.Receive bytes) = receive bytes.now
said (call.Wait n) = wait n
