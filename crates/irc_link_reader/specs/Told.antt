-- What a line of a link tells, and what is looked at before it does (RFC 2813 section 4).
use Rattle.std.specs.Prelude.{ℕ, Bool, not, Option, Some, None, Result, Ok, Err}
use Rattle.std.specs.Prelude.{List, map, if◌then◌else◌}
use Rattle.irc_batch.specs.declared.close_reason.CloseReason.{CloseReason}
use Rattle.irc_batch.specs.declared.close_reason.CloseReason.TheVariants as reason
use Rattle.irc_names.specs.Names.{is_server}
use Rattle.irc_room.specs.effect.By.TheVariants as by
use Rattle.irc_room.specs.effect.Effect.{Effect}
use Rattle.irc_room.specs.effect.Effect.TheVariants.{ChangeModes, SetTopic}
use Rattle.irc_merge.specs.Deeds.{Deed, does, sets, tops}
use Rattle.irc_link_words.specs.declared.fault.WireFault.{WireFault}
use Rattle.irc_link_words.specs.declared.fault.WireFault.TheVariants as fault
use Rattle.irc_link_reader.specs.Means.{Checked}

-- a deed, with the numbers of a SERVER line
pub data Told : Type 0 where
  a_deed : (deed : Deed) → Told
  a_server : (uplink name : List ℕ) (distance token : ℕ) (info : List ℕ) → Told

-- What is looked at in a line of a server whose command is known, in this order: whether its
-- parameters are as they should be, whether its number is free, whether it came by the right link,
-- whether its names are names, and whether something else is against it; and what it tells if
-- nothing is.
pub record Judged : Type 0 where
  pub parameters : Bool
  pub token : Bool
  pub direction : Bool
  pub names : Bool
  pub late : Option CloseReason
  pub told : List Told

-- what a line tells that is right in itself, unless something else is against it
abbrev pub unless_late : Option CloseReason → List Told → Result (List Told) CloseReason
unless_late None told = Ok told
unless_late (Some reason) told = Err reason

-- the first that is not so closes the link
abbrev pub first_reason : Judged → Result (List Told) CloseReason
first_reason judged =
    if not judged.parameters then Err reason.Parameters
    else (if not judged.token then Err reason.BadToken
    else (if not judged.direction then Err reason.WrongDirection
    else (if not judged.names then Err reason.BadName
    else unless_late judged.late judged.told)))

-- ---- lines that tell of effects

-- the server whose line it is, if it is one of a server
abbrev pub server_of : Option (List ℕ) → Option (List ℕ)
server_of None = None
server_of (Some name) = if is_server name then Some name else None

-- A server's change of modes or of a topic is told on in the name of that server.
abbrev pub kept_prefix : Option (List ℕ) → Effect → Deed
kept_prefix (Some server) (ChangeModes by.Home channel changes) = sets server channel changes
kept_prefix (Some server) (SetTopic by.Home channel topic) = tops server channel topic
kept_prefix server effect = does effect

-- an effect of a line, in the name of whose line it is
abbrev pub told_of : Option (List ℕ) → Effect → Told
told_of prefix effect = a_deed (kept_prefix (server_of prefix) effect)

-- what is done as it stands
abbrev pub a_doing : Effect → Told
a_doing effect = a_deed (does effect)

-- what is looked at in a line that tells of an effect: nothing else is against it
abbrev pub judged : Option (List ℕ) → Checked → Judged
judged prefix checked = record {
  parameters = checked.parameters;
  token = checked.token;
  direction = checked.direction;
  names = checked.names;
  late = None;
  told = map (told_of prefix) checked.effects;
}

-- why a line is refused that tells of an effect; none is for want of memory
abbrev pub wire_reason : WireFault → CloseReason
wire_reason fault.UnknownCommand = reason.UnknownCommand
wire_reason fault.Parameters = reason.Parameters
wire_reason fault.BadToken = reason.BadToken
wire_reason fault.WrongDirection = reason.WrongDirection
wire_reason fault.BadName = reason.BadName
wire_reason fault.Memory = reason.Parameters
