-- The refusal's number for each setting. The two steps share one, and so do the two limits of a stage and the two numbers of the queue.
use Rattle.std.specs.Prelude.{ℕ}
use Rattle.settings.specs.declared.fault.SettingsFault.{SettingsFault}
use Rattle.settings.specs.declared.fault.SettingsFault.TheVariants.{LineRate, Gain, StepA, StepB, Period, ByteLimit, SetPoint, Weight}

abbrev pub refusal : SettingsFault → ℕ
refusal LineRate = 1
refusal Gain = 2
refusal StepA = 3
refusal StepB = 3
refusal Period = 4
refusal ByteLimit = 4
refusal SetPoint = 5
refusal Weight = 5
