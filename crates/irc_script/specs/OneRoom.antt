-- What the clients of a script see, whatever it asks for: one room.
use Rattle.std.specs.Prelude.{◌≡◌, ℕ, true, nat_eq, Option, Some, None, List, if◌then◌else◌}
use Rattle.std.specs.List.{filter_map, flat_map}
use Rattle.irc_relay.specs.Links.{Name}
use Rattle.irc_relay.specs.Relay.{IsFront}
use Rattle.irc_net.specs.ByteNetwork.{ByteNetwork, net_in_lines, is_byte_rest}
use Rattle.irc_net.specs.Network.{Receipt, received_by}
use Rattle.irc_net.specs.Owed.{owed_by_network}
use Rattle.irc_net.specs.SetUp.{settings_of}
use Rattle.irc_net.specs.Sound.{IsSound}
use Rattle.irc_net.specs.declared.fault.NetFault.{NetFault}
use Rattle.irc_script.specs.Networks.{script_settings}
use Rattle.irc_script.specs.Printing.{count_line, fault_number, printed, refusal_line}

-- What is printed, entry by entry: a line that a client receives; how many lines or bytes came, `=
-- K`; a refusal, `! NUMBER`.
pub data ScriptEntry : Type 0 where
  receives : (receipt : Receipt) → ScriptEntry
  counts : (count : ℕ) → ScriptEntry
  refuses : (fault : NetFault) → ScriptEntry

abbrev pub entry_text : ScriptEntry → List ℕ
entry_text (receives receipt) = printed receipt
entry_text (counts count) = count_line count
entry_text (refuses fault) = refusal_line (fault_number fault)

-- the line of an entry that is one for this client
abbrev pub line_to : ℕ → ScriptEntry → Option (List ℕ)
line_to client (receives receipt) = if nat_eq receipt.client client then Some receipt.text else None
line_to client (counts count) = None
line_to client (refuses fault) = None

-- all that a client receives among these, in turn
abbrev pub lines_shown_to : ℕ → List ScriptEntry → List (List ℕ)
lines_shown_to client entries = filter_map (line_to client) entries

-- what a client is owed by all that was given, where servers of these names are set up as those of
-- a script are
abbrev pub owed_in : List Name → ByteNetwork → ℕ → List (List ℕ)
owed_in names net client = owed_by_network (script_settings names) net.network.items client

-- What is printed by the time the network of these servers is this: each client has received a
-- front of what it is owed there, line by line, and at rest all of it. Servers are set up as they
-- were. What is on its way as bytes is the lines that these will complete (net_in_lines).
pub record IsPrintedOf (names : List Name) (net : ByteNetwork) (text : List ℕ) : Type 0 where
  pub entries : List ScriptEntry
  pub text_is : text ≡ flat_map entry_text entries
  pub received : (client : ℕ) → lines_shown_to client entries ≡ received_by net.network client
  pub front : (client : ℕ) → IsFront (lines_shown_to client entries) (owed_in names net client)
  pub at_rest : is_byte_rest net ≡ true → (client : ℕ)
      → lines_shown_to client entries ≡ owed_in names net client
  pub settings : settings_of net.network ≡ script_settings names
  pub sound : IsSound (net_in_lines net)
