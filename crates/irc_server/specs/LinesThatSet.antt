-- Lines of a link by which a server sets. Somebody may be gone here (killed, while his MODE, TOPIC
-- or KICK was on its way): it is then done as the server at the other end of the link says, and as
-- it is written. A line that a server tells of itself raises what is there (`DeedTold`); such a
-- line sets it.
--
-- a.net with al, connection 1, and links to b.net (2) and to d.net (3); bo is a user of b.net. Both
-- users are in #c, which has the topic y and the modes -i+l 5. By link 2:
--   `:b.net MODE #c +i-l`      line_to 1 `:a.net MODE #c +i-l`, then line_on 3 the same line as it
--                              came: all changes are made, also those that raise nothing
--   `:b.net TOPIC #c :x`       line_to 1 `:a.net TOPIC #c :x`, then line_on 3 the same line: it is
--                              set, though y is greater
--   `:b.net NJOIN #c :`, #C here   nobody is shown it, then line_on 3 the same line: the channel is
--                              #c, the greater of the two spellings
--   `:b.net KICK #c bo :out`   line_to 1 `:bo!u@h PART #c :out`, then line_on 3 the same line as it
--                              came; so it is of al, who is told of its own PART
--   `:b.net KICK #c zz :out`   nothing, as zz is nobody; so it is of one who is no member, and of
--                              each of the three in a channel that is not there
--   `:b.net KICK #c bo`        2 is closed as Parameters
--   `:d.net KICK #c bo :out`   2 is closed as WrongDirection: d.net is not behind it
--   `:b.net KICK c bo :out`    2 is closed as BadName: `c` is no channel's name
--   `:bo KICK #c al :out`, `:b.net NJOIN #c :@bo`, `FOO`
--                              as they are heard from any link
use Rattle.std.specs.Prelude.{◌≡◌, ℕ, Bool, true, not, ◌&&◌, is_some, Option, Some, None, Result}
use Rattle.std.specs.Prelude.{Ok, Err}
use Rattle.std.specs.Prelude.{List, [], ◌∷◌, ◌++◌, codes, if◌then◌else◌}
use Rattle.std.specs.FinMap.{get}
use Rattle.std.specs.Option.{option_map}
use Rattle.irc_line.specs.declared.reading.LineFault.{LineFault}
use Rattle.irc_line.specs.Messages.{Parsed, Written}
use Rattle.irc_line.specs.Reading.{read_of}
use Rattle.irc_batch.specs.Batches.{Sent}
use Rattle.irc_batch.specs.declared.close_reason.CloseReason.{CloseReason}
use Rattle.irc_batch.specs.declared.close_reason.CloseReason.TheVariants as reason
use Rattle.irc_names.specs.Fold.{key}
use Rattle.irc_names.specs.Names.{is_channel, is_nick, is_server}
use Rattle.irc_room.specs.effect.By.TheVariants as by
use Rattle.irc_room.specs.effect.Effect.{Effect}
use Rattle.irc_room.specs.effect.Effect.TheVariants.{Part, SetTopic}
use Rattle.irc_room.specs.Readers.{channel_at, flags_at, spelling_at}
use Rattle.irc_room.specs.Room.{Room}
use Rattle.irc_link_words.specs.Commands.{command_of}
use Rattle.irc_link_words.specs.declared.commands.LinkCommand.{LinkCommand}
use Rattle.irc_link_words.specs.declared.commands.LinkCommand.TheVariants.{OfEffects, OfServers}
use Rattle.irc_link_words.specs.declared.commands.EffectCommand.TheVariants as command
use Rattle.irc_link_words.specs.declared.commands.ServerCommand.TheVariants.{Njoin}
use Rattle.irc_link_words.specs.Words.{are_changes, are_members_named, are_words, changes_of}
use Rattle.irc_link_words.specs.Words.{is_for_channel}
use Rattle.irc_link_reader.specs.Reader.{Reader, may_come, reader_of}
use Rattle.irc_link_writer.specs.Written.{from}
use Rattle.irc_merge.specs.Deeds.{changes_made}
use Rattle.irc_burst_lines.specs.DeedLines.{mode_parts, njoin_parts, topic_parts}
use Rattle.irc_stage.specs.Ends.{is_met}
use Rattle.irc_stage.specs.View.{End, View}
use Rattle.irc_stage.specs.EffectTold.{Served, all_changed, in_silence}
use Rattle.irc_stage.specs.Linked.{told_on_all}
use Rattle.irc_server.specs.declared.event.ServerFault.{ServerFault}
use Rattle.irc_server.specs.declared.event.ServerFault.TheVariants.{Memory, Failed}
use Rattle.irc_server.specs.declared.setting.Setting.{Setting}
use Rattle.irc_server.specs.declared.setting.Setting.TheVariants as setting
use Rattle.irc_server.specs.DeedTold.{titled_view}
use Rattle.irc_server.specs.Heard.{closes}
use Rattle.irc_server.specs.LinkServed.{after_heard, line_served}
use Rattle.irc_server.specs.Served.{no_link}

-- ---- what a line sets

-- what is set, where it counts; or why the link is closed
abbrev pub SettingRead : Type 0
SettingRead = Result (Option Setting) CloseReason

-- the first of these that is not so closes the link; no number of a server is in these lines
abbrev pub unless_wrong : (parameters direction names : Bool) → Option Setting → SettingRead
unless_wrong parameters direction names what =
    if not parameters then Err reason.Parameters
    else (if not direction then Err reason.WrongDirection
    else (if not names then Err reason.BadName
    else Ok what))

-- modes and a topic are set of a channel that is there
abbrev pub if_channel : Room → List ℕ → Setting → Option Setting
if_channel room channel what = if is_some (channel_at room (key channel)) then Some what else None

-- the nickname of a member of a channel, as it is stored
abbrev pub member_nick : Room → (channel nick : List ℕ) → Option (List ℕ)
member_nick room channel nick =
    if is_some (flags_at room (key nick) (key channel)) then spelling_at room (key nick) else None

abbrev pub modes_line : Room → Reader → (server channel : List ℕ) → List (List ℕ) → SettingRead
modes_line room reader server channel words =
    unless_wrong (are_changes words) (may_come reader server)
    (is_channel channel && are_members_named (changes_of words))
    (if_channel room channel (setting.Modes server channel (changes_of words)))

-- a MODE of a user's own modes sets nothing
abbrev pub mode_line : Room → Reader → List ℕ → List (List ℕ) → Option SettingRead
mode_line room reader server [] = None
mode_line room reader server (target ∷ words) =
    if is_for_channel target then Some (modes_line room reader server target words) else None

abbrev pub topic_line : Room → Reader → List ℕ → List (List ℕ) → SettingRead
topic_line room reader server (channel ∷ text ∷ []) =
    unless_wrong (are_words text) (may_come reader server) (is_channel channel)
    (if_channel room channel (setting.Topic server channel text))
topic_line room reader server other = Err reason.Parameters

-- an NJOIN of nobody sets a spelling; one that brings somebody is heard as from any link
abbrev pub spelling : Room → Reader → (server channel : List ℕ) → SettingRead
spelling room reader server channel =
    unless_wrong true (may_come reader server) (is_channel channel)
    (if_channel room channel (setting.Spelling server channel))

abbrev pub spelling_line : Room → Reader → List ℕ → List (List ℕ) → Option SettingRead
spelling_line room reader server (channel ∷ [] ∷ []) = Some (spelling room reader server channel)
spelling_line room reader server other = None

abbrev pub kick_line : Room → Reader → List ℕ → List (List ℕ) → SettingRead
kick_line room reader server (channel ∷ nick ∷ text ∷ []) =
    unless_wrong (are_words text) (may_come reader server) (is_channel channel && is_nick nick)
    (option_map (λ member. setting.Removal server channel member text)
    (member_nick room channel nick))
kick_line room reader server other = Err reason.Parameters

-- what a line of a server sets by its command, if it is a line that sets
abbrev pub by_command : Room → Reader → List ℕ → List (List ℕ) → Option LinkCommand
    → Option SettingRead
by_command room reader server params (Some (OfEffects command.Mode)) =
    mode_line room reader server params
by_command room reader server params (Some (OfEffects command.Topic)) =
    Some (topic_line room reader server params)
by_command room reader server params (Some (OfEffects command.Kick)) =
    Some (kick_line room reader server params)
by_command room reader server params (Some (OfServers Njoin)) =
    spelling_line room reader server params
by_command room reader server params other = None

-- it is one only with a server in front
abbrev pub by_prefix : View → ℕ → Parsed → Option (List ℕ) → Option SettingRead
by_prefix view link message None = None
by_prefix view link message (Some name) =
    if is_server name
    then by_command view.room (reader_of view.room view.routes link) name message.params
    (command_of message.command)
    else None

-- and only where the handshake is over
unfoldable pub setting_read : View → ℕ → End → Result Parsed LineFault → Option SettingRead
setting_read view link end (Ok message) =
    if is_met end then by_prefix view link message message.prefix else None
setting_read view link end (Err why) = None

abbrev pub read_at : View → ℕ → Result Parsed LineFault → Option End → Option SettingRead
read_at view link read None = None
read_at view link read (Some end) = setting_read view link end read

-- ---- what is set

-- who is taken out of a channel is shown to leave it: a KICK would name a user who does it
abbrev pub setting_effects : Setting → List Effect
setting_effects (setting.Modes server channel changes) = changes_made channel changes
setting_effects (setting.Topic server channel text) = SetTopic by.Home channel text ∷ []
setting_effects (setting.Spelling server channel) = []
setting_effects (setting.Removal server channel nick text) = Part nick channel text ∷ []

-- a spelling is shown to nobody
abbrev pub spelled_by : Setting → Served → Served
spelled_by (setting.Spelling server channel) s = titled_view channel s
spelled_by other s = s

-- the line as it came
abbrev pub setting_parts : Setting → Written
setting_parts (setting.Modes server channel changes) = mode_parts server channel changes
setting_parts (setting.Topic server channel text) = topic_parts server channel text
setting_parts (setting.Spelling server channel) = njoin_parts server channel []
setting_parts (setting.Removal server channel nick text) =
    from server (codes "KICK") (channel ∷ nick ∷ []) (Some text)

-- it is done, and told on to the other links
abbrev pub setting_told : ℕ → Setting → Served → Served
setting_told link what s =
    told_on_all (Some link) (setting_parts what)
    (all_changed (setting_effects what) (spelled_by what s))

-- what comes of a line that sets
abbrev pub setting_followed : View → ℕ → SettingRead → Served
setting_followed view link (Err why) = after_heard view link (closes why)
setting_followed view link (Ok None) = in_silence view
setting_followed view link (Ok (Some what)) = setting_told link what (in_silence view)

-- any other line does what it does elsewhere
abbrev pub after_setting : View → ℕ → Served → Option SettingRead → Served
after_setting view link other None = other
after_setting view link other (Some read) = setting_followed view link read

-- a line of a link by which a server sets
abbrev pub line_set : View → ℕ → Result Parsed LineFault → Option End → Served
line_set view link read end =
    after_setting view link (line_served view link read end) (read_at view link read end)

-- ---- what comes of asking a server for it

-- the same of a line that is not read yet, by a link by its number
abbrev pub set_by : View → ℕ → List ℕ → Served
set_by view link line = line_set view link (read_of line) (get view.ends link)

-- it is handled: the server is the one after it, and what it puts out is appended
pub record Sets (old : View) (link : ℕ) (line : List ℕ) (out : List Sent) (new : View)
    (out_after : List Sent) : Type 0 where
  pub view_is : new ≡ (set_by old link line).state
  pub out_is : out_after ≡ out ++ (set_by old link line).out

-- It is handled; the link is not open, and nothing changes; memory runs out, or ran out before.
pub data IsSetBy : Option View → ℕ → List ℕ → List Sent → Result (Unit {0}) ServerFault
    → Option View → List Sent → Type 0 where
  takes_it : {old new : View} {link : ℕ} {line : List ℕ} {out out_after : List Sent}
      → no_link (get old.ends link) ≡ None → Sets old link line out new out_after
      → IsSetBy (Some old) link line out (Ok tt) (Some new) out_after
  refuses_it : {old : View} {link : ℕ} {line : List ℕ} {out : List Sent} {fault : ServerFault}
      → no_link (get old.ends link) ≡ Some fault
      → IsSetBy (Some old) link line out (Err fault) (Some old) out
  wants_memory : {old : View} {link : ℕ} {line : List ℕ} {out : List Sent}
      → no_link (get old.ends link) ≡ None
      → IsSetBy (Some old) link line out (Err Memory) None out
  has_failed : {link : ℕ} {line : List ℕ} {out : List Sent}
      → IsSetBy None link line out (Err Failed) None out
