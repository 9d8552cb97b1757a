-- What the words of the command line ask for.
use Rattle.std.specs.Prelude.{◌≡◌, ℕ, Option, Some, None, Result, Ok, Err, List, [], ◌∷◌, drop, map}
use Rattle.std.specs.Prelude.{option_map, codes, string_bytes, String, Vec, if◌then◌else◌}
use Rattle.std.specs.Str.{bytes_eq}
use Rattle.std.specs.IoError.{error_kind}
use Rattle.std.specs.Vec.Iter.{into_iter_items}
use Rattle.std.specs.declared.alloc.Global.{Global}
use Rattle.std.specs.declared.io.Error.{Error}
use Rattle.std.specs.declared.vec.IntoIter.{IntoIter}
use Rattle.irc_endings.specs.declared.words.Task.{Task}
use Rattle.irc_endings.specs.declared.words.Task.TheVariants as task
use Rattle.irc_endings.specs.declared.fault.Stop.{Stop}
use Rattle.irc_endings.specs.declared.fault.Stop.TheVariants.{Failed}
use Rattle.irc_endings.specs.Statuses.{stop_unread}
use Rattle.irc_decimals.specs.Numbers.{max_number}
use Rattle.irc_decimals.specs.Numbers.{written_number}

-- what the program may be asked to do: to run a script, and to serve as a file says for so many
-- turns
pub data Errand : Type 0 where
  runs_script : Errand
  serves : (file : List ℕ) (turns : ℕ) → Errand

-- what a task of the code is
abbrev pub errand : Task → Errand
errand task.Sim = runs_script
errand (task.Serve file turns) = serves file.now turns

-- `sim` alone; `serve FILE`, which takes as many turns as a number of 64 bits can say; `serve FILE
-- TURNS`
abbrev pub task_of : List (List ℕ) → Option Errand
task_of [] = None
task_of (word ∷ []) = if bytes_eq word (codes "sim") then Some runs_script else None
task_of (word ∷ file ∷ []) =
    if bytes_eq word (codes "serve") then Some (serves file max_number) else None
task_of (word ∷ file ∷ turns ∷ []) =
    if bytes_eq word (codes "serve") then option_map (serves file) (written_number turns) else None
task_of (word ∷ file ∷ turns ∷ next ∷ words) = None

abbrev pub texts_of : {Z : Type 0} → List (String Z) → List (List ℕ)
texts_of words = map string_bytes words

-- the words behind the program's name, which is the first
abbrev pub behind_name : IntoIter (String Global) Global → List (String Global)
behind_name given = drop 1 (into_iter_items given)

-- What comes of the words that the system gives: those behind the program's name, in order and as
-- they were given, or the program ends. Where memory runs out, it ends as though it had failed.
abbrev pub AreWordsOf : Result (IntoIter (String Global) Global) Error
    → Result (Vec (String Global) Global) Stop → Type 0
AreWordsOf (Ok given) (Ok words) = words.items ≡ behind_name given
AreWordsOf (Ok given) (Err stop) = stop ≡ Failed
AreWordsOf (Err error) (Ok words) = ⊥
AreWordsOf (Err error) (Err stop) = stop ≡ stop_unread (error_kind error)

-- What the system gives no clause can tell: it is some words, or an error. (`words_of` is handed
-- it, and its clause says which words are kept.)
abbrev pub AreGiven : Result (Vec (String Global) Global) Stop → Type 0
AreGiven result = (given : Result (IntoIter (String Global) Global) Error) × AreWordsOf given result
