-- No line that a server writes of servers, of a collision or of members is cut, by the limits (RFC
-- 2812 section 2.3: 510 bytes before CR LF). Of its MODE and TOPIC irc_readback says it.
use Rattle.std.specs.Prelude.{◌≡◌, ◌≤◌, ℕ, true, List, length}
use Rattle.std.specs.List.{list_all}
use Rattle.irc_line.specs.Messages.{Written, joined_text, text}
use Rattle.irc_names.specs.Names.{IsServer, IsNick, IsChannel, is_nick}
use Rattle.irc_channels.specs.declared.flags.Flags.{Flags}
use Rattle.irc_room.specs.Laws.{IsWhole, whole_text}
use Rattle.irc_routes.specs.Info.{IsInfo}
use Rattle.irc_routes.specs.Known.{Known}
use Rattle.irc_merge.specs.Bursts.{members_a_line}
use Rattle.irc_link_words.specs.Numbers.{max_number}
use Rattle.irc_link_words.specs.Words.{are_words}
use Rattle.irc_link_writer.specs.Written.{next_distance, written_token}
use Rattle.irc_burst_lines.specs.DeedLines.{server_parts, squit_parts, kill_parts, njoin_parts}

-- a server that can be told of: its names and its description keep their rules, and its numbers can
-- be written
pub record IsToldServer (known : Known) (uplink name info : List ℕ) : Type 0 where
  pub uplink_named : IsServer uplink
  pub named : IsServer name
  pub described : IsInfo info
  pub distance : next_distance known name ≤ max_number
  pub number : written_token known name ≤ max_number

abbrev pub ServerFits : Type 0
ServerFits = (known : Known) (uplink name info : List ℕ) → IsToldServer known uplink name info
    → IsWhole (server_parts known uplink name info)

abbrev pub SquitFits : Type 0
SquitFits = (server name words : List ℕ) → IsServer server → IsServer name → are_words words ≡ true
    → IsWhole (squit_parts server name words)

abbrev pub KillFits : Type 0
KillFits = (server nick : List ℕ) → IsServer server → IsNick nick → IsWhole (kill_parts server nick)

-- The text of an NJOIN has at most 452 bytes: 123 of `:server NJOIN #channel :`, and 329 of ten
-- nicknames, each with both marks, and the nine commas between them.
abbrev pub MembersAreShort : Type 0
MembersAreShort = (server channel : List ℕ) (members : List (List ℕ × Flags)) → IsServer server
    → IsChannel channel
    → list_all (λ (member : List ℕ × Flags). is_nick member.0) members ≡ true
    → length members ≤ members_a_line
    → length (joined_text (njoin_parts server channel members)) ≤ 452

-- as many members as one line brings
abbrev pub MembersFit : Type 0
MembersFit = (server channel : List ℕ) (members : List (List ℕ × Flags)) → IsServer server
    → IsChannel channel
    → list_all (λ (member : List ℕ × Flags). is_nick member.0) members ≡ true
    → length members ≤ members_a_line
    → IsWhole (njoin_parts server channel members)

-- what fits is written whole
abbrev pub FittingIsWhole : Type 0
FittingIsWhole = (parts : Written) → IsWhole parts → text parts ≡ whole_text parts
