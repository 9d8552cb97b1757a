-- What a script does: which moves it makes on its network, in which order, what comes of each, and
-- what is printed.
use Rattle.std.specs.Prelude.{◌≡◌, ℕ, Option, Some, None, Result, Ok, Err, List, [], ◌∷◌, ◌++◌, ◌⊎◌}
use Rattle.std.specs.Prelude.{IfSome}
use Rattle.std.specs.Io.KnownBytes.{Appends}
use Rattle.std.specs.List.{flat_map}
use Rattle.irc_net.specs.declared.fault.NetFault.{NetFault}
use Rattle.irc_net.specs.ByteNetwork.{ByteNetwork, item_given}
use Rattle.irc_net.specs.Calls.{Settles, delivery, piece, piece_count, standing}
use Rattle.irc_net.specs.Faults.{deliver_fault, item_fault}
use Rattle.irc_net.specs.Network.{Progress, Receipt}
use Rattle.irc_relay.specs.Links.{Name}
use Rattle.irc_net.specs.Stepping.{Item}
use Rattle.irc_script.specs.declared.fault.SimFault.{SimFault}
use Rattle.irc_script.specs.declared.fault.SimFault.TheVariants.{BadScript, Failed, Device}
use Rattle.irc_script.specs.Moves.{Move, gives, delivers_line, takes_bytes, settles_all, moves_of}
use Rattle.irc_script.specs.Networks.{first_net}
use Rattle.irc_script.specs.OneRoom.{IsPrintedOf}
use Rattle.irc_script.specs.Printing.{fault_number, printed, refusal_line, taken_text}
use Rattle.irc_script.specs.Scripts.{Request, ScriptAsked, script_read}

-- what comes of a move: what is printed, and the network then
pub record MoveOutcome : Type 0 where
  pub text : List ℕ
  pub network : ByteNetwork

-- what is refused changes nothing
abbrev pub move_refused : NetFault → ByteNetwork → MoveOutcome
move_refused fault net = record { text = refusal_line (fault_number fault); network = net }

abbrev pub lines_received : Progress ByteNetwork → MoveOutcome
lines_received progress =
    record { text = flat_map printed progress.out; network = progress.state }

abbrev pub given_or : Option NetFault → Item → ByteNetwork → MoveOutcome
given_or None item net = lines_received (item_given item net)
given_or (Some fault) item net = move_refused fault net

-- bytes came, or none is on its way
abbrev pub delivered_by : Option (Progress ByteNetwork) → ByteNetwork → MoveOutcome
delivered_by None net = record { text = taken_text 0 []; network = net }
delivered_by (Some progress) net =
    record { text = taken_text 1 progress.out; network = progress.state }

abbrev pub delivered_or : Option NetFault → Name → Name → ByteNetwork → MoveOutcome
delivered_or None from to net = delivered_by (delivery net from to) net
delivered_or (Some fault) from to net = move_refused fault net

abbrev pub taken_or : Option NetFault → Name → Name → ℕ → ByteNetwork → MoveOutcome
taken_or None from to count net =
    record {
      text = taken_text (piece_count count net from to) (piece count net from to).out;
      network = (piece count net from to).state;
    }
taken_or (Some fault) from to count net = move_refused fault net

-- Bytes come in turn until nothing is on its way.
pub record IsSettling (net : ByteNetwork) (outcome : MoveOutcome) : Type 0 where
  pub count : ℕ
  pub receipts : List Receipt
  pub settles : Settles net count receipts (standing outcome.network)
  pub text_is : outcome.text ≡ taken_text count receipts

-- what comes of a move, as the network's definitions say
abbrev pub Comes : ByteNetwork → Move → MoveOutcome → Type 0
Comes net (gives item) outcome = outcome ≡ given_or (item_fault net item) item net
Comes net (delivers_line from to) outcome =
    outcome ≡ delivered_or (deliver_fault net from to) from to net
Comes net (takes_bytes from to count) outcome =
    outcome ≡ taken_or (deliver_fault net from to) from to count net
Comes net settles_all outcome = IsSettling net outcome

-- Moves are made one after another, and what comes of each is printed.
pub data Plays : ByteNetwork → List Move → ByteNetwork → List ℕ → Type 0 where
  nothing : {first : ByteNetwork} → Plays first [] first []
  move : {first last : ByteNetwork} {m : Move} {moves : List Move} {more text : List ℕ}
      (outcome : MoveOutcome) → Comes first m outcome → text ≡ outcome.text ++ more
      → Plays outcome.network moves last more → Plays first (m ∷ moves) last text

-- The same of what a script asks for.
pub data Runs : ByteNetwork → List Request → ByteNetwork → List ℕ → Type 0 where
  end : {first : ByteNetwork} → Runs first [] first []
  request : {first middle last : ByteNetwork} {r : Request} {requests : List Request}
      {start more text : List ℕ} → text ≡ start ++ more → Plays first (moves_of r) middle start
      → Runs middle requests last more → Runs first (r ∷ requests) last text

-- the text is what a reader had, where that is known
abbrev pub IsTextOf : List ℕ → Option (List ℕ) → Type 0
IsTextOf text remaining = IfSome remaining (λ bytes. text ≡ bytes)

-- A script was run to its end. What was printed is what its clients receive of one room.
pub record Finished (remaining old new : Option (List ℕ)) : Type 0 where
  pub text : List ℕ
  pub is_text : IsTextOf text remaining
  pub asked : ScriptAsked
  pub read : script_read text ≡ Ok asked
  pub last : ByteNetwork
  pub printed : List ℕ
  pub runs : Runs (first_net asked.servers) asked.requests last printed
  pub one_room : IsPrintedOf asked.servers last printed
  pub appended : Appends old new printed

-- a script was refused for this line, and nothing was printed
pub record Refused (line : ℕ) (remaining old new : Option (List ℕ)) : Type 0 where
  pub text : List ℕ
  pub is_text : IsTextOf text remaining
  pub bad : script_read text ≡ Err line
  pub silent : new ≡ old

-- a text is a front of another
pub record IsFront (front whole : List ℕ) : Type 0 where
  pub more : List ℕ
  pub whole_is : whole ≡ front ++ more

-- A script was begun, and what was printed is a front of what the whole script prints where neither
-- memory nor a device fails.
pub record CutShort (remaining old new : Option (List ℕ)) : Type 0 where
  pub text : List ℕ
  pub is_text : IsTextOf text remaining
  pub asked : ScriptAsked
  pub read : script_read text ≡ Ok asked
  pub last : ByteNetwork
  pub whole : List ℕ
  pub runs : Runs (first_net asked.servers) asked.requests last whole
  pub one_room : IsPrintedOf asked.servers last whole
  pub printed : List ℕ
  pub appended : Appends old new printed
  pub front : IsFront printed whole

-- The first of these requests were run, and of the next one some moves: this is printed of them.
-- What is behind them is not done.
pub data StopsIn : ByteNetwork → List Request → List ℕ → Type 0 where
  in_first : {first last : ByteNetwork} {r : Request} {requests : List Request} {text : List ℕ}
      (moves left : List Move) → moves_of r ≡ moves ++ left → Plays first moves last text
      → StopsIn first (r ∷ requests) text
  in_later : {first middle : ByteNetwork} {r : Request} {requests : List Request}
      {start more text : List ℕ} → text ≡ start ++ more → Plays first (moves_of r) middle start
      → StopsIn middle requests more → StopsIn first (r ∷ requests) text

-- Memory was wanting for a move: all that the moves before it print was printed, and nothing of it.
pub record OutOfMemory (remaining old new : Option (List ℕ)) : Type 0 where
  pub cut : CutShort remaining old new
  pub stops : StopsIn (first_net cut.asked.servers) cut.asked.requests cut.printed

-- a run that a device ended: nothing was printed yet, or a front of what would have been
abbrev pub EndsEarly : Option (List ℕ) → Option (List ℕ) → Option (List ℕ) → Type 0
EndsEarly remaining old new = (new ≡ old) ⊎ CutShort remaining old new

-- a run that ends for want of memory: nothing was printed yet, or just what the moves print that
-- were made
abbrev pub RunsOut : Option (List ℕ) → Option (List ℕ) → Option (List ℕ) → Type 0
RunsOut remaining old new = (new ≡ old) ⊎ OutOfMemory remaining old new

-- how a run ends, by what the reader had and by what the writer held before and holds now
abbrev pub Ran : Option (List ℕ) → Result (Unit {0}) SimFault → Option (List ℕ) → Option (List ℕ)
    → Type 0
Ran remaining (Ok _) old new = Finished remaining old new
Ran remaining (Err (BadScript line)) old new = Refused line remaining old new
Ran remaining (Err Failed) old new = RunsOut remaining old new
Ran remaining (Err Device) old new = EndsEarly remaining old new
