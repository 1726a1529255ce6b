-- A rule that is chosen by a letter.
use Rattle.std.specs.Prelude.{ℕ, cond, Some, None, Option, ◌==◌}
use Rattle.settings.specs.declared.accepted.Settings.{Settings}
use Rattle.settings.specs.declared.figures.Figures.{Figures}
use Rattle.rates.specs.declared.chosen.ChosenRule.{ChosenRule}
use Rattle.rates.specs.declared.chosen.ChosenRule.TheVariants as chosen
use Rattle.rates.specs.declared.chosen.RuleKind.{RuleKind}
use Rattle.rates.specs.declared.chosen.RuleKind.TheVariants as kind
use Rattle.rates.specs.Rule.{Rule}
use Rattle.rates.specs.RungRule.{by_rungs}
use Rattle.rates.specs.Standard.{standard}

-- q (113) is the standard rule, g (103) the rung rule.
abbrev pub kind_of : ℕ → Option RuleKind
kind_of letter = cond (letter == 113) (Some kind.Standard) (cond (letter == 103) (Some kind.Rungs) None)

-- What a kind of rule means with some settings.
abbrev pub meant_by : RuleKind → Figures → Rule
meant_by kind.Standard f = standard f
meant_by kind.Rungs f = by_rungs f

-- What a chosen rule means: what the rule in it does.
abbrev pub meant : ChosenRule → Rule
meant (chosen.Standard r) = standard r.settings.figures
meant (chosen.Rungs r) = by_rungs r.standard.settings.figures

-- The rule of a kind, with some settings.
abbrev pub chosen_rule : RuleKind → Settings → ChosenRule
chosen_rule kind.Standard set = chosen.Standard (record { settings = set })
chosen_rule kind.Rungs set = chosen.Rungs (record { standard = record { settings = set } })
