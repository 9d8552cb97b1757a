-- What comes of each call of a network. Where memory ran out nothing is promised of it but that it
-- refuses everything from then on.
use Rattle.std.specs.Prelude.{◌≡◌, ⊤, ℕ, Bool, true, false, Option, Some, None, Result, Ok, Err}
use Rattle.std.specs.Prelude.{List, [], ◌∷◌, ◌++◌, length, min, if◌then◌else◌}
use Rattle.std.specs.List.{AllByRecursion}
use Rattle.std.specs.Option.{option_and_then, option_map_or}
use Rattle.irc_line.specs.Carried.{IsCarried}
use Rattle.irc_relay.specs.Links.{Name}
use Rattle.irc_world.specs.Stepping.{Item, line}
use Rattle.irc_net.specs.declared.answer.Answer.{Answer}
use Rattle.irc_net.specs.declared.fault.NetFault.{NetFault}
use Rattle.irc_net.specs.declared.fault.NetFault.TheVariants.{Memory, Failed}
use Rattle.irc_net.specs.declared.step.Step.{Step}
use Rattle.irc_net.specs.declared.step.Step.TheVariants.{Bytes, Deliver, Give, Settle}
use Rattle.irc_net.specs.declared.step.StepAnswer.{StepAnswer}
use Rattle.irc_net.specs.declared.step.StepAnswer.TheVariants.{Delivered, Given, Refused, Settled}
use Rattle.irc_net.specs.declared.step.StepAnswer.TheVariants.{Taken}
use Rattle.irc_net.specs.Faults.{deliver_fault, is_refusal, item_fault}
use Rattle.irc_network.specs.Network.{Progress, LinkPlaces, Receipt, begun, link_places, max_count}
use Rattle.irc_network.specs.Network.{number_given}
use Rattle.irc_network.specs.Views.{item_of, receipts_of}
use Rattle.irc_pipes.specs.Pipes.{LinkPipe, has_byte, through_line_feed, pipe_at}
use Rattle.irc_network.specs.ByteNetwork.{ByteNetwork, bytes_come}
use Rattle.irc_network.specs.ByteNetwork.{is_byte_rest, item_given}
use Rattle.irc_network.specs.Turns.{TurnsGo}

-- a network, and whether memory ran out for it
pub record NetView : Type 0 where
  pub failed : Bool
  pub network : ByteNetwork

-- memory has not run out for it
abbrev pub standing : ByteNetwork → NetView
standing network = record { failed = false; network = network }

-- ---- an item

-- A line that a client says holds no NUL, CR or LF. It is the one thing that is asked of a caller:
-- that a line has at most 510 bytes is the bound of its type, and that it has any byte is not
-- asked.
abbrev pub IsGivable : Item → Type 0
IsGivable (line client bytes) = IsCarried bytes
IsGivable other = ⊤

abbrev pub IsPlayable : Step → Type 0
IsPlayable (Give item) = IsGivable (item_of item)
IsPlayable step = ⊤

abbrev pub ArePlayable : List Step → Type 0
ArePlayable = AllByRecursion IsPlayable

-- an item is taken: the answer says which client connected by it, and what clients received
pub record Gives (net : ByteNetwork) (item : Item) (answer : Answer) (new : NetView) : Type 0 where
  pub none : item_fault net item ≡ None
  pub after : new ≡ standing (item_given item net).state
  pub client : answer.client ≡ number_given net.network item
  pub receipts : receipts_of answer.lines.items ≡ (item_given item net).out

pub data IsGiven : NetView → Item → Result Answer NetFault → NetView → Type 0 where
  given_it : {old new : NetView} {item : Item} {answer : Answer} → old.failed ≡ false
      → Gives old.network item answer new → IsGiven old item (Ok answer) new
  given_refused : {old : NetView} {item : Item} {fault : NetFault} → old.failed ≡ false
      → item_fault old.network item ≡ Some fault → IsGiven old item (Err fault) old
  given_wants_memory : {old new : NetView} {item : Item} → old.failed ≡ false
      → item_fault old.network item ≡ None → new.failed ≡ true → IsGiven old item (Err Memory) new
  given_to_failed : {old : NetView} {item : Item} → old.failed ≡ true
      → IsGiven old item (Err Failed) old

-- ---- bytes that come

-- what is on its way from the near end to the far one
abbrev pub pipe_between : ByteNetwork → LinkPlaces → LinkPipe
pipe_between net ends = pipe_at net.pipes ends.near ends.far

-- so many bytes come from one server to another, or all that are on their way where there are fewer
abbrev pub piece_between : ℕ → ByteNetwork → LinkPlaces → Progress ByteNetwork
piece_between count net ends = bytes_come ends.near ends.far count (begun net)

abbrev pub piece : ℕ → ByteNetwork → Name → Name → Progress ByteNetwork
piece count net from to =
    option_map_or (piece_between count net) (link_places net.network from to) (begun net)

-- how many come
abbrev pub count_between : ℕ → ByteNetwork → LinkPlaces → ℕ
count_between count net ends = min count (length (pipe_between net ends).bytes)

-- between names that are no servers none come
abbrev pub piece_count : ℕ → ByteNetwork → Name → Name → ℕ
piece_count count net from to =
    option_map_or (count_between count net) (link_places net.network from to) 0

-- how many came, and what clients received by them
pub record Takes (net : ByteNetwork) (from to : Name) (count taken : ℕ) (receipts : List Receipt)
    (new : NetView) : Type 0 where
  pub none : deliver_fault net from to ≡ None
  pub taken_is : taken ≡ piece_count count net from to
  pub received : receipts ≡ (piece count net from to).out
  pub after : new ≡ standing (piece count net from to).state

pub data BytesTaken : NetView → Name → Name → ℕ → Result (ℕ × List Receipt) NetFault → NetView
    → Type 0 where
  takes_them : {old new : NetView} {from to : Name} {count taken : ℕ} {receipts : List Receipt}
      → old.failed ≡ false → Takes old.network from to count taken receipts new
      → BytesTaken old from to count (Ok (taken, receipts)) new
  taking_refused : {old : NetView} {from to : Name} {count : ℕ} {fault : NetFault}
      → old.failed ≡ false → deliver_fault old.network from to ≡ Some fault
      → BytesTaken old from to count (Err fault) old
  taking_wants_memory : {old new : NetView} {from to : Name} {count : ℕ}
      → old.failed ≡ false → deliver_fault old.network from to ≡ None → new.failed ≡ true
      → BytesTaken old from to count (Err Memory) new
  taking_by_failed : {old : NetView} {from to : Name} {count : ℕ} → old.failed ≡ true
      → BytesTaken old from to count (Err Failed) old

-- ---- a delivery

-- all bytes up to and with the next LF
abbrev pub line_between : ByteNetwork → LinkPlaces → Option (Progress ByteNetwork)
line_between net ends =
    if has_byte (pipe_between net ends) then Some
    (piece_between (through_line_feed (pipe_between net ends).bytes) net ends) else None

-- none where no byte is on its way from one server to another
abbrev pub delivery : ByteNetwork → Name → Name → Option (Progress ByteNetwork)
delivery net from to = option_and_then (line_between net) (link_places net.network from to)

-- whether some came, and what clients received by them
abbrev pub Delivers : Option (Progress ByteNetwork) → ByteNetwork → Bool → List Receipt → NetView
    → Type 0
Delivers None net was_taken receipts new =
    (was_taken ≡ false) × (receipts ≡ []) × (new ≡ standing net)
Delivers (Some progress) net was_taken receipts new =
    (was_taken ≡ true) × (receipts ≡ progress.out) × (new ≡ standing progress.state)

pub data IsDelivered : NetView → Name → Name → Result (Bool × List Receipt) NetFault → NetView
    → Type 0 where
  delivers_it : {old new : NetView} {from to : Name} {was_taken : Bool} {receipts : List Receipt}
      → old.failed ≡ false → deliver_fault old.network from to ≡ None
      → Delivers (delivery old.network from to) old.network was_taken receipts new
      → IsDelivered old from to (Ok (was_taken, receipts)) new
  delivery_refused : {old : NetView} {from to : Name} {fault : NetFault} → old.failed ≡ false
      → deliver_fault old.network from to ≡ Some fault → IsDelivered old from to (Err fault) old
  delivery_wants_memory : {old new : NetView} {from to : Name} → old.failed ≡ false
      → deliver_fault old.network from to ≡ None → new.failed ≡ true
      → IsDelivered old from to (Err Memory) new
  delivery_by_failed : {old : NetView} {from to : Name} → old.failed ≡ true
      → IsDelivered old from to (Err Failed) old

-- ---- settling

-- Bytes come in turn until nothing is on its way. The lines that they complete are counted up to
-- 2^64 - 1.
pub record Settles (net : ByteNetwork) (counted : ℕ) (receipts : List Receipt)
    (new : NetView) : Type 0 where
  pub count : ℕ
  pub last : Progress ByteNetwork
  pub goes : TurnsGo count (begun net) last
  pub rest : is_byte_rest last.state ≡ true
  pub counts : counted ≡ min count max_count
  pub received : receipts ≡ last.out
  pub after : new ≡ standing last.state

pub data IsSettled : NetView → Result (ℕ × List Receipt) NetFault → NetView → Type 0 where
  settles_it : {old new : NetView} {counted : ℕ} {receipts : List Receipt} → old.failed ≡ false
      → Settles old.network counted receipts new → IsSettled old (Ok (counted, receipts)) new
  settling_wants_memory : {old new : NetView} → old.failed ≡ false → new.failed ≡ true
      → IsSettled old (Err Memory) new
  settling_by_failed : {old : NetView} → old.failed ≡ true → IsSettled old (Err Failed) old

-- ---- steps

-- a step is done, or refused and nothing changes
abbrev pub IsStep : NetView → Step → StepAnswer → NetView → Type 0
IsStep old (Give item) (Given answer) new = IsGiven old (item_of item) (Ok answer) new
IsStep old (Give item) (Refused fault) new =
    IsGiven old (item_of item) (Err fault) new × (is_refusal fault ≡ true)
IsStep old (Deliver from to) (Delivered was_taken lines) new =
    IsDelivered old from to (Ok (was_taken, receipts_of lines.items)) new
IsStep old (Deliver from to) (Refused fault) new =
    IsDelivered old from to (Err fault) new × (is_refusal fault ≡ true)
IsStep old (Bytes from to count) (Taken taken lines) new =
    BytesTaken old from to count (Ok (taken, receipts_of lines.items)) new
IsStep old (Bytes from to count) (Refused fault) new =
    BytesTaken old from to count (Err fault) new × (is_refusal fault ≡ true)
IsStep old Settle (Settled counted lines) new =
    IsSettled old (Ok (counted, receipts_of lines.items)) new
IsStep old step answer new = ⊥

-- what comes of a step for which memory runs out, or ran out before
abbrev pub Breaks : NetView → Step → NetFault → NetView → Type 0
Breaks old (Give item) fault new = IsGiven old (item_of item) (Err fault) new
Breaks old (Deliver from to) fault new = IsDelivered old from to (Err fault) new
Breaks old (Bytes from to count) fault new = BytesTaken old from to count (Err fault) new
Breaks old Settle fault new = IsSettled old (Err fault) new

-- a refusal is the answer of a step, and want of memory is not
abbrev pub step_refused : NetFault → Result StepAnswer NetFault
step_refused fault = if is_refusal fault then Ok (Refused fault) else Err fault

-- what comes of a step: it is done, or memory is wanting
abbrev pub IsStepDone : NetView → Step → Result StepAnswer NetFault → NetView → Type 0
IsStepDone old step (Ok answer) new = IsStep old step answer new
IsStepDone old step (Err fault) new = Breaks old step fault new × (is_refusal fault ≡ false)

-- steps are done one after another
pub data PlaysSteps : NetView → List Step → List StepAnswer → NetView → Type 0 where
  none_yet : {net : NetView} → PlaysSteps net [] [] net
  then_one : {first between last : NetView} {steps all : List Step} {answers more : List StepAnswer}
      (step : Step) (answer : StepAnswer) → PlaysSteps first steps answers between
      → IsStep between step answer last → all ≡ steps ++ step ∷ [] → more ≡ answers ++ answer ∷ []
      → PlaysSteps first all more last

-- some of them were done, and the next one broke
pub record StopsAt (first : NetView) (steps : List Step) (fault : NetFault)
    (last : NetView) : Type 0 where
  pub done : List Step
  pub step : Step
  pub left : List Step
  pub parts : steps ≡ done ++ step ∷ left
  pub answers : List StepAnswer
  pub between : NetView
  pub plays : PlaysSteps first done answers between
  pub breaks : Breaks between step fault last
  pub is_want : is_refusal fault ≡ false

-- all steps are done, one broke, or there was no memory for the answers, and the network has failed
pub data ArePlayed : NetView → List Step → Result (List StepAnswer) NetFault → NetView
    → Type 0 where
  plays_them : {old new : NetView} {steps : List Step} {answers : List StepAnswer}
      → PlaysSteps old steps answers new → ArePlayed old steps (Ok answers) new
  stops_at : {old new : NetView} {steps : List Step} {fault : NetFault}
      → StopsAt old steps fault new → ArePlayed old steps (Err fault) new
  answers_want_memory : {old new : NetView} {steps : List Step} → new.failed ≡ true
      → ArePlayed old steps (Err Memory) new
