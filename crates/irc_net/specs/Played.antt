-- What is played on a network has run.
use Rattle.std.specs.Prelude.{◌≡◌, true, Ok, Err, List, [], ◌∷◌, ◌++◌}
use Rattle.std.specs.List.{AllByRecursion}
use Rattle.irc_relay.specs.Links.{Name}
use Rattle.irc_routes.specs.declared.programs.Programs.{Programs}
use Rattle.irc_server.specs.declared.config.Config.{Config}
use Rattle.irc_world.specs.Stepping.{Item}
use Rattle.irc_world.specs.WithinLimits.{IsItemWithin}
use Rattle.irc_net.specs.declared.fault.NetFault.{NetFault}
use Rattle.irc_net.specs.declared.step.Step.{Step}
use Rattle.irc_net.specs.declared.step.Step.TheVariants.{Give}
use Rattle.irc_net.specs.declared.step.StepAnswer.{StepAnswer}
use Rattle.irc_net.specs.declared.step.StepAnswer.TheVariants.{Given}
use Rattle.irc_net.specs.Calls.{ArePlayed, NetView}
use Rattle.irc_net.specs.Running.{HasRun}
use Rattle.irc_network.specs.Views.{item_of}

-- what a step gave: its item, where that was taken
abbrev pub item_taken : Step → StepAnswer → List Item
item_taken (Give item) (Given answer) = item_of item ∷ []
item_taken step answer = []

-- what the steps of a play gave, by the answer of each
abbrev pub items_taken : List Step → List StepAnswer → List Item
items_taken (step ∷ steps) (answer ∷ answers) = item_taken step answer ++ items_taken steps answers
items_taken steps answers = []

-- A play is a run: what has run, and is played steps that are all answered, has run on, by those of
-- their items that were taken. A play that stops leaves a network that has failed.
pub record PlayIsRun : Type 0 where
  pub runs : (programs : Name → Programs) (configs : List Config) (items : List Item)
      (old new : NetView) (steps : List Step)
      (answers : List StepAnswer) → HasRun programs configs items old
      → ArePlayed old steps (Ok answers) new
      → AllByRecursion IsItemWithin (items_taken steps answers)
      → HasRun programs configs (items ++ items_taken steps answers) new
  pub stops : (old new : NetView) (steps : List Step) (fault : NetFault)
      → ArePlayed old steps (Err fault) new → new.failed ≡ true
