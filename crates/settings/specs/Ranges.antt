-- The eight settings and the range of each.
use Rattle.std.specs.Prelude.{ℕ, ◌≤◌, Bool, ◌&&◌, nat_le}
use Rattle.settings.specs.declared.fault.SettingsFault.{SettingsFault}
use Rattle.settings.specs.declared.fault.SettingsFault.TheVariants.{LineRate, Gain, StepA, StepB, Period, ByteLimit, SetPoint, Weight}
use Rattle.settings.specs.declared.figures.Figures.{Figures}

-- The number that was given for a setting.
abbrev pub figure : SettingsFault → Figures → ℕ
figure LineRate f = f.line_rate
figure Gain f = f.gain
figure StepA f = f.step_a
figure StepB f = f.step_b
figure Period f = f.period
figure ByteLimit f = f.byte_limit
figure SetPoint f = f.set_point
figure Weight f = f.weight

-- The slowest and the fastest line.
abbrev pub slowest : ℕ
slowest = 100000

abbrev pub fastest : ℕ
fastest = 10000000

-- The least that a setting may be. Step B is at least step A.
abbrev pub least : SettingsFault → Figures → ℕ
least LineRate f = slowest
least Gain f = 1
least StepA f = 1
least StepB f = f.step_a
least Period f = 100
least ByteLimit f = 10000
least SetPoint f = 16
least Weight f = 1

-- The most that it may be.
abbrev pub most : SettingsFault → ℕ
most LineRate = fastest
most Gain = 32
most StepA = 100000
most StepB = 1000000
most Period = 100000
most ByteLimit = 1000000
most SetPoint = 512
most Weight = 8

-- A setting is in its range, as a fact and as a test.
abbrev pub In : SettingsFault → Figures → Type 0
In s f = (least s f ≤ figure s f) × (figure s f ≤ most s)

abbrev pub within : SettingsFault → Figures → Bool
within s f = nat_le (least s f) (figure s f) && nat_le (figure s f) (most s)
