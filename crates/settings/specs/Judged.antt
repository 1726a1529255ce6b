-- What becomes of eight numbers.
use Rattle.std.specs.Prelude.{◌≡◌, ℕ, ◌<◌, true, false, Ok, Err, Result}
use Rattle.settings.specs.declared.fault.SettingsFault.{SettingsFault}
use Rattle.settings.specs.declared.fault.SettingsFault.TheVariants.{LineRate, Gain, StepA, StepB, Period, ByteLimit, SetPoint, Weight}
use Rattle.settings.specs.declared.figures.Figures.{Figures}
use Rattle.settings.specs.declared.accepted.Settings.{Settings}
use Rattle.settings.specs.Ranges.{In, within}

-- The very eight numbers where all are in range, and else the first setting that is not.
abbrev pub judged : Figures → Result Figures SettingsFault
judged f = elim (within LineRate f) [
  | false ↦ Err LineRate
  | true ↦
      elim (within Gain f) [
        | false ↦ Err Gain
        | true ↦
            elim (within StepA f) [
              | false ↦ Err StepA
              | true ↦
                  elim (within StepB f) [
                    | false ↦ Err StepB
                    | true ↦
                        elim (within Period f) [
                          | false ↦ Err Period
                          | true ↦
                              elim (within ByteLimit f) [
                                | false ↦ Err ByteLimit
                                | true ↦
                                    elim (within SetPoint f) [
                                      | false ↦ Err SetPoint
                                      | true ↦
                                          elim (within Weight f) [ false ↦ Err Weight | true ↦ Ok f ]
                                    ]
                              ]
                        ]
                  ]
            ]
      ]
]

-- An answer by the numbers that it holds.
abbrev pub told : Result Settings SettingsFault → Result Figures SettingsFault
told (Ok s) = Ok s.figures
told (Err e) = Err e

-- The place of a setting among the eight.
abbrev pub place : SettingsFault → ℕ
place LineRate = 1
place Gain = 2
place StepA = 3
place StepB = 4
place Period = 5
place ByteLimit = 6
place SetPoint = 7
place Weight = 8

-- The law: what is accepted is what was given, with every setting in its range; what is refused is out of its range, and all before it are in theirs.
abbrev pub FirstFault : Figures → Result Figures SettingsFault → Type 0
FirstFault f (Ok g) = (g ≡ f) × ((s : SettingsFault) → In s f)
FirstFault f (Err e) = (In e f → ⊥) × ((s : SettingsFault) → place s < place e → In s f)
