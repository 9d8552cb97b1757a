-- How the program ends a run.
use Rattle.std.specs.Prelude.{◌≡◌, ℕ, Option, Some, None, Result, List, String}
use Rattle.std.specs.declared.alloc.Global.{Global}
use Rattle.irc_endings.specs.script_fault.SimFault.{SimFault}
use Rattle.irc_endings.specs.Runs.{Ran}
use Rattle.irc_endings.specs.Sinks.{Wrote}
use Rattle.irc_endings.specs.declared.fault.Stop.{Stop}
use Rattle.irc_endings.specs.declared.fault.Stop.TheVariants.{Usage}
use Rattle.irc_endings.specs.Statuses.{ending_of, ending_text, exit_status, stop_line}
use Rattle.irc_endings.specs.Words.{runs_script, serves, task_of, texts_of}
use Rattle.ircd.specs.Serving.{EndsServing}

-- a status that some ending of the program has
abbrev pub IsStatus : ℕ → Type 0
IsStatus status = (ending : Result (Unit {0}) Stop) × (status ≡ exit_status ending)

-- the status is that of how the script's run ended, and so is what is said on standard error
pub record EndsRun (status : ℕ) (remaining old new errors errors_after : Option (List ℕ)) :
    Type 0 where
  pub ending : Result (Unit {0}) SimFault
  pub ran : Ran remaining ending old new
  pub status_is : status ≡ exit_status (ending_of ending)
  pub tells : Wrote errors errors_after (ending_text (ending_of ending))

-- ---- what the words behind the program's name ask for

abbrev pub AsksNothing : List (String Global) → Type 0
AsksNothing words = task_of (texts_of words) ≡ None

abbrev pub AsksForRun : List (String Global) → Type 0
AsksForRun words = task_of (texts_of words) ≡ Some runs_script

-- wherever they ask for serving as a file says, for so many turns
abbrev pub WhereServing : List (String Global) → (List ℕ → ℕ → Type 0) → Type 0
WhereServing words Is = (file : List ℕ) (turns : ℕ)
    → task_of (texts_of words) ≡ Some (serves file turns) → Is file turns

-- ---- readers and writers, by what they have and what they hold

abbrev pub TellsUsage : {E : Type 0} → (E → Option (List ℕ)) → E → E → Type 0
TellsUsage told_to errors errors_after =
    Wrote (told_to errors) (told_to errors_after) (stop_line Usage)

abbrev pub EndsRunOn : {R W E : Type 0} → (R → Option (List ℕ)) → (W → Option (List ℕ))
    → (E → Option (List ℕ)) → ℕ → R → W → W → E → E → Type 0
EndsRunOn remaining printed told_to status input output output_after errors errors_after =
    EndsRun status (remaining input) (printed output) (printed output_after) (told_to errors)
    (told_to errors_after)

abbrev pub EndsServingOn : {W E : Type 0} → (W → Option (List ℕ)) → (E → Option (List ℕ)) → ℕ → ℕ
    → W → W → E → E → Type 0
EndsServingOn printed told_to turns status output output_after errors errors_after =
    EndsServing turns status (printed output) (printed output_after) (told_to errors)
    (told_to errors_after)
