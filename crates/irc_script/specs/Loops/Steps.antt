-- What the steps of a run are at: what was played so far, and what of it is printed.
use Rattle.std.specs.Prelude.{◌≡◌, ℕ, Bool, if◌then◌else◌, Option, Some, None, Result, Ok, Err}
use Rattle.std.specs.Prelude.{List, [], ◌∷◌, ◌++◌}
use Rattle.std.specs.List.{flat_map}
use Rattle.arrayvec.specs.ArrayVec.{ArrayVec}
use denote.Ref.{Bor}
use Rattle.irc_net.specs.ByteNetwork.{ByteNetwork}
use Rattle.irc_net.specs.declared.fault.NetFault.{NetFault}
use Rattle.irc_net.specs.receipt.Receipt.{Receipt}
use Rattle.irc_net.specs.NetworkViews.{receipt_of, receipts_of}
use Rattle.irc_script.specs.declared.commands.ScriptCommand.{ScriptCommand}
use Rattle.irc_script.specs.declared.script_run.ScriptRun.{ScriptRun}
use Rattle.irc_script.specs.declared.fault.Trouble.{Trouble}
use Rattle.irc_script.specs.declared.fault.Trouble.TheVariants.{Memory, Device}
use Rattle.irc_script.specs.declared.fault.Unwritten.{Unwritten}
use Rattle.irc_script.specs.Moves.{Move, moves_of}
use Rattle.irc_script.specs.Networks.{first_net}
use Rattle.irc_script.specs.Printing.{printed, refusal_line, refusal_number, taken_text}
use Rattle.irc_script.specs.ScriptViews.{requests}
use Rattle.irc_script.specs.Runs.{Plays, Runs, IsFront, StopsIn}
use Rattle.irc_script.specs.Scripts.{ScriptAsked, Request, script_read}
use Rattle.irc_script.specs.Sinks.{IsPrinted, Sink, Prints, Loses, sink, sink_of}

-- whether bytes came by a delivery, as a number
abbrev pub taken_count : Bool → ℕ
taken_count was_taken = if was_taken then 1 else 0

-- a text is printed within a run: no memory is wanting for it
abbrev pub IsPut : Result (Unit {0}) Trouble → Sink → Sink → List ℕ → Type 0
IsPut (Ok _) old new text = Prints old new text
IsPut (Err Memory) old new text = ⊥
IsPut (Err Device) old new text = Loses old new text

-- the number of a refusal is printed, or nothing where memory was wanting
abbrev pub IsFaultPrinted : Option ℕ → Result (Unit {0}) Trouble → Sink → Sink → Type 0
IsFaultPrinted (Some number) result old new = IsPut result old new (refusal_line number)
IsFaultPrinted None result old new = (result ≡ Err Memory) × (new ≡ old)

-- ---- what is printed, of the code's own texts

abbrev pub pieces_text : List (Bor (List ℕ)) → List ℕ
pieces_text pieces = flat_map (λ piece. piece.now) pieces

abbrev pub receipt_text : Receipt → List ℕ
receipt_text line = printed (receipt_of line)

abbrev pub receipts_text : List Receipt → List ℕ
receipts_text lines = flat_map printed (receipts_of lines)

-- and how many lines or bytes came
abbrev pub came_text : ℕ → List Receipt → List ℕ
came_text count lines = taken_text count (receipts_of lines)

-- ---- a writer, and what waits for it, before and after

-- one write leaves the rest of a text
abbrev pub IsRest : {W : Type 0} → (W → Option (List ℕ)) → W → List ℕ → W → List ℕ → Type 0
IsRest held old text new rest = Prints (sink (held old) text) (sink (held new) rest) []

-- a text is printed, or its end is lost
abbrev pub PrintsText : {W : Type 0} → (W → Option (List ℕ)) → Result (Unit {0}) Unwritten → List ℕ
    → W → ArrayVec ℕ → W → ArrayVec ℕ → Type 0
PrintsText held result text old before new after =
    IsPrinted result (sink_of held old before) (sink_of held new after) text

-- the number of a refusal is, or nothing where memory was wanting
abbrev pub PrintsFault : {W : Type 0} → (W → Option (List ℕ)) → Result (Unit {0}) Trouble → NetFault
    → W → ArrayVec ℕ → W → ArrayVec ℕ → Type 0
PrintsFault held result fault old before new after =
    IsFaultPrinted (refusal_number fault) result (sink_of held old before) (sink_of held new after)

-- ---- moves, and requests

-- what was played, and printed
pub record Played (first : ByteNetwork) (moves : List Move) (last : ByteNetwork)
    (old new : Sink) : Type 0 where
  pub text : List ℕ
  pub plays : Plays first moves last text
  pub prints : Prints old new text

-- The first of these moves were played, and of what came of them the end may be lost; nothing of it
-- where memory was wanting.
pub record Breaks (trouble : Trouble) (first : ByteNetwork) (all : List Move)
    (old new : Sink) : Type 0 where
  pub moves : List Move
  pub left : List Move
  pub parts : all ≡ moves ++ left
  pub last : ByteNetwork
  pub text : List ℕ
  pub plays : Plays first moves last text
  pub loses : Loses old new text
  pub kept : trouble ≡ Memory → loses.lost ≡ []

abbrev pub IsPlayed : Result (Unit {0}) Trouble → ByteNetwork → List Move → ByteNetwork → Sink
    → Sink → Type 0
IsPlayed (Ok _) first moves last old new = Played first moves last old new
IsPlayed (Err trouble) first moves last old new = Breaks trouble first moves old new

-- What is asked for is begun, and this is printed: some of it is done, and of the next request some
-- moves. All of it may be done.
pub data Begins : ByteNetwork → List Request → List ℕ → Type 0 where
  to_the_end : {first : ByteNetwork} → Begins first [] []
  partly : {first last : ByteNetwork} {r : Request} {requests : List Request} {text : List ℕ}
      (moves left : List Move) → moves_of r ≡ moves ++ left → Plays first moves last text
      → Begins first (r ∷ requests) text
  further : {first middle : ByteNetwork} {r : Request} {requests : List Request}
      {start more text : List ℕ} → text ≡ start ++ more → Plays first (moves_of r) middle start
      → Begins middle requests more → Begins first (r ∷ requests) text

-- What is asked for can be run to its end, and this is a front of what it prints.
pub record RunOn (first : ByteNetwork) (requests : List Request) (text : List ℕ) : Type 0 where
  pub last : ByteNetwork
  pub whole : List ℕ
  pub runs : Runs first requests last whole
  pub front : IsFront text whole

-- Of a script that is read, whatever of it was begun can be run to its end.
abbrev pub ScriptsRunOn : Type 0
ScriptsRunOn = (text : List ℕ) (asked : ScriptAsked) (printed : List ℕ)
    → script_read text ≡ Ok asked → Begins (first_net asked.servers) asked.requests printed
    → RunOn (first_net asked.servers) asked.requests printed

-- requests were run, and what came of them is printed
pub record RunWhole (first : ByteNetwork) (requests : List Request) (last : ByteNetwork)
    (old new : Sink) : Type 0 where
  pub text : List ℕ
  pub runs : Runs first requests last text
  pub prints : Prints old new text

-- Nothing of what came of them is lost where memory was wanting, and then not all of them were run.
pub record StopsWhole (first : ByteNetwork) (requests : List Request)
    (text lost : List ℕ) : Type 0 where
  pub stops : StopsIn first requests text
  pub kept : lost ≡ []

pub record RunInto (trouble : Trouble) (first : ByteNetwork) (requests : List Request)
    (old new : Sink) : Type 0 where
  pub text : List ℕ
  pub begins : Begins first requests text
  pub loses : Loses old new text
  pub whole : trouble ≡ Memory → StopsWhole first requests text loses.lost

abbrev pub HasRun : Result (Unit {0}) Trouble → ByteNetwork → List Request → ByteNetwork → Sink
    → Sink → Type 0
HasRun (Ok _) first requests last old new = RunWhole first requests last old new
HasRun (Err trouble) first requests last old new = RunInto trouble first requests old new

-- ---- a script's network with a writer, and what waits for it, before and after

-- these moves are made
abbrev pub PlaysMoves : {W : Type 0} → (W → Option (List ℕ)) → Result (Unit {0}) Trouble → List Move
    → ScriptRun → W → ArrayVec ℕ → ScriptRun → W → ArrayVec ℕ → Type 0
PlaysMoves held result moves first old before last new after =
    IsPlayed result first.net.network moves last.net.network (sink_of held old before)
    (sink_of held new after)

-- these commands are run
abbrev pub PerformsAll : {W : Type 0} → (W → Option (List ℕ)) → Result (Unit {0}) Trouble
    → List ScriptCommand → ScriptRun → W → ArrayVec ℕ → ScriptRun → W → ArrayVec ℕ → Type 0
PerformsAll held result commands first old before last new after =
    HasRun result first.net.network (requests commands) last.net.network (sink_of held old before)
    (sink_of held new after)

-- and nothing waits before and after
abbrev pub RunsAll : {W : Type 0} → (W → Option (List ℕ)) → Result (Unit {0}) Trouble
    → List ScriptCommand → ScriptRun → W → ScriptRun → W → Type 0
RunsAll held result commands first old last new =
    HasRun result first.net.network (requests commands) last.net.network (sink (held old) [])
    (sink (held new) [])
