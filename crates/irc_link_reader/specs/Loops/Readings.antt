-- What the code that reads a line of a link gives.
use Rattle.std.specs.Prelude.{◌≡◌, ℕ, Bool, true, false, not, ◌&&◌, ⊤, Option, Some, None, Result}
use Rattle.std.specs.Prelude.{Ok, Err, List, [], ◌∷◌, is_some, map, option_to_list, if◌then◌else◌}
use Rattle.std.specs.Borrow.{Bor}
use Rattle.std.specs.Global.{Vec}
use Rattle.std.specs.List.{list_all}
use Rattle.std.specs.Option.{option_map_or}
use Rattle.irc_batch.specs.declared.close_reason.CloseReason.{CloseReason}
use Rattle.irc_batch.specs.declared.close_reason.CloseReason.TheVariants as reason
use Rattle.irc_names.specs.Limits.{max_real_name}
use Rattle.irc_names.specs.Names.{fits, is_channel, is_nick, is_server}
use Rattle.irc_tables.specs.declared.table.Row.{Row as TableRow}
use Rattle.irc_channels.specs.declared.flags.Flags.{Flags}
use Rattle.irc_modes.specs.declared.modes.ModeChange.{ModeChange}
use Rattle.irc_users.specs.declared.user_change.UserChange.{UserChange}
use Rattle.irc_room.specs.effect.By.TheVariants as by
use Rattle.irc_room.specs.effect.Effect.{Effect}
use Rattle.irc_room.specs.effect.Effect.TheVariants.{ChangeModes, SetTopic}
use Rattle.irc_merge.specs.Deeds.{sets, tops}
use Rattle.irc_link_words.specs.Commands.{effect_name}
use Rattle.irc_link_words.specs.declared.commands.EffectCommand.{EffectCommand}
use Rattle.irc_link_words.specs.declared.commands.EffectCommand.TheVariants as command
use Rattle.irc_link_words.specs.declared.fault.WireFault.{WireFault}
use Rattle.irc_link_words.specs.declared.fault.WireFault.TheVariants.{Memory}
use Rattle.irc_link_words.specs.Faults.{wire_fault}
use Rattle.irc_link_words.specs.Words.{are_members_named, is_come_mode, is_user_name}
use Rattle.irc_link_reader.specs.declared.arrival.Arrival.{Arrival}
use Rattle.irc_link_reader.specs.declared.deed.Deed.{Deed as Code}
use Rattle.irc_link_reader.specs.declared.reading_channels.Doer.{Doer}
use Rattle.irc_link_reader.specs.declared.reading_channels.Doer.TheVariants as doer
use Rattle.irc_link_reader.specs.declared.reading_users.IntroductionWords.{IntroductionWords}
use Rattle.irc_link_reader.specs.Reader.{Reader, reader_of}
use Rattle.irc_link_reader.specs.Means.{Checked, LinkCommandRow, line, if_there, home_of_token}
use Rattle.irc_link_reader.specs.Means.{introduction_line, nick_line, of_either, quit_line}
use Rattle.irc_link_reader.specs.Means.{join_line, part_line, kick_line, mode_line, topic_line}
use Rattle.irc_link_reader.specs.Means.{say_line, invite_line, change_line, user_mode_line}
use Rattle.irc_link_reader.specs.Told.{Told, a_deed, a_doing, first_reason, judged}
use Rattle.irc_link_reader.specs.Loops.Tellings.{GivesTold, effects_of}

-- what is looked at where a line came
abbrev pub reader : Arrival → Reader
reader at = reader_of at.room.now.room at.routes.now at.link

-- what is read, as a list
abbrev pub found : Result (Option Effect) CloseReason → Result (List Effect) CloseReason
found (Ok effect) = Ok (option_to_list effect)
found (Err reason) = Err reason

-- what a line means by what is looked at in it, or why it closes the link
abbrev pub first_effect : Checked → Result (List Effect) CloseReason
first_effect checked =
    if not checked.parameters then Err reason.Parameters
    else (if not checked.token then Err reason.BadToken
    else (if not checked.direction then Err reason.WrongDirection
    else (if not checked.names then Err reason.BadName
    else Ok checked.effects)))

-- what is found is the effect of a line of these words, or the first that is wrong with it
abbrev pub ReadsEffect : (Reader → Option (List ℕ) → List (List ℕ) → Checked) → Arrival
    → Option (List ℕ) → List (List ℕ) → Result (Option Effect) CloseReason → Type 0
ReadsEffect line at name words result = found result ≡ first_effect (line (reader at) name words)

-- what is read is what such a line tells, or why it closes the link
abbrev pub TellsOf : (Reader → Option (List ℕ) → List (List ℕ) → Checked) → Arrival
    → Option (List ℕ) → List (List ℕ) → Result (Option Code) CloseReason → Type 0
TellsOf line at name words result = GivesTold (judged name (line (reader at) name words)) result

-- whether the user of a nickname is there, and whether those of all these are
abbrev pub has_home : Arrival → List ℕ → Bool
has_home at nick = is_some ((reader at).home nick)

abbrev pub are_there : Arrival → List (List ℕ) → Bool
are_there at nicks = list_all (has_home at) nicks

-- the same of a MODE of a user
abbrev pub IsUserMode : Arrival → List ℕ → List ℕ → List (List ℕ)
    → Result (Option Effect) CloseReason → Type 0
IsUserMode at nick target words result =
    found result ≡ first_effect (user_mode_line (reader at) nick target words)

-- the same of one whose words tell of a change, or of none
abbrev pub IsOwnChange : Arrival → List ℕ → List ℕ → Option UserChange
    → Result (Option Effect) CloseReason → Type 0
IsOwnChange at nick target change result =
    found result ≡ first_effect (change_line (reader at) nick target change)

-- what is looked at in a line of each command
abbrev pub check_of : EffectCommand → Reader → Option (List ℕ) → List (List ℕ) → Checked
check_of command.Nick = nick_line
check_of command.Quit = quit_line
check_of command.Join = join_line
check_of command.Part = part_line
check_of command.Kick = kick_line
check_of command.Mode = mode_line
check_of command.Topic = topic_line
check_of (command.Say notice) = say_line notice
check_of command.Invite = invite_line

abbrev pub row : EffectCommand → LinkCommandRow
row command = line (effect_name command) (check_of command)

-- what is read of a line of this command is what it tells, or why it closes the link
abbrev pub TellsRow : EffectCommand → Arrival → Option (List ℕ) → List (List ℕ)
    → Result (Option Code) CloseReason → Type 0
TellsRow command at name words result = TellsOf (check_of command) at name words result

-- whether the reading of a line of this command takes memory: that of a MODE does
abbrev pub takes_memory : EffectCommand → Bool
takes_memory command.Mode = true
takes_memory other = false

-- The effect of a deed is given, for which memory may run out, or the fault that a reason is.
abbrev pub IsGiven : Result (Option Code) CloseReason → Result (Vec Effect) WireFault → Type 0
IsGiven (Ok deed) (Ok effects) = effects.items ≡ effects_of deed
IsGiven (Ok deed) (Err Memory) = ⊤
IsGiven (Ok deed) (Err fault) = ⊥
IsGiven (Err reason) result = result ≡ Err (wire_fault reason)

-- who changes a channel, or that no name is read
abbrev pub doer_or_reason : List ℕ → Result Doer CloseReason
doer_or_reason name =
    if is_server name then Ok (doer.Server name)
    else (if is_nick name then Ok (doer.User name) else Err reason.BadName)

-- what is told of a topic that is set, and of modes that are, where that counts: a user's if it is
-- there, a server's if the channel has a member behind the link
abbrev pub topic_counted : Reader → Doer → List ℕ → List ℕ → List Told
topic_counted reader (doer.User nick) channel text =
    map a_doing (if_there reader (SetTopic (by.User nick) channel text))
topic_counted reader (doer.Server server) channel text =
    if reader.has_far channel then a_deed (tops server channel text) ∷ [] else []

abbrev pub modes_counted : Reader → Doer → List ℕ → List ModeChange → List Told
modes_counted reader (doer.User nick) channel changes =
    map a_doing (if_there reader (ChangeModes (by.User nick) channel changes))
modes_counted reader (doer.Server server) channel changes =
    if reader.has_far channel then a_deed (sets server channel changes) ∷ [] else []

-- whether the user of this nickname is behind the link
abbrev pub is_far_user : Reader → List ℕ → Bool
is_far_user reader nick = option_map_or reader.is_far (reader.home nick) false

-- the words of an introduction
abbrev pub introduction_of : Reader → IntroductionWords → Checked
introduction_of reader words =
    introduction_line reader words.nick.now words.distance.now words.user.now words.host.now
    words.token.now words.mode.now words.real.now

-- whether the words of an introduction that are neither names nor numbers keep their rules
abbrev pub are_right : IntroductionWords → Bool
are_right words = is_user_name words.user.now
    && (is_come_mode words.mode.now && fits max_real_name words.real.now)

abbrev pub home_or_bad : Option (List ℕ) → Result (List ℕ) CloseReason
home_or_bad (Some home) = Ok home
home_or_bad None = Err reason.BadToken

-- the server that a user comes from, or why the words of its introduction are refused
abbrev pub home_or_fault : Reader → IntroductionWords → Result (List ℕ) CloseReason
home_or_fault reader words =
    if not (introduction_of reader words).parameters then Err reason.Parameters
    else home_or_bad (home_of_token reader words.token.now)

abbrev pub home_now : Result (Bor (List ℕ)) CloseReason → Result (List ℕ) CloseReason
home_now (Ok home) = Ok (home.now)
home_now (Err reason) = Err reason

-- what is looked at in a line of changes of a channel, once these are read
abbrev pub channel_change : Reader → List ℕ → List ℕ → List ModeChange → Checked
channel_change reader name channel changes =
    of_either reader name true (is_channel channel && are_members_named changes) channel
    (λ doer. ChangeModes doer channel changes)

abbrev pub changes_channel : Arrival → List ℕ → List ℕ → List ModeChange
    → Result (List Told) CloseReason
changes_channel at name channel changes =
    first_reason (judged (Some name) (channel_change (reader at) name channel changes))

-- whether a member is behind the link
abbrev pub is_member_far : Reader → TableRow Flags → Bool
is_member_far reader member = option_map_or reader.is_far (reader.home member.name.items) false

-- ---- the words of an introduction

-- the seven words of an introduction, or what a line means that has another number of them
abbrev pub IsNewcomer : List (List ℕ) → Result IntroductionWords CloseReason → Type 0
IsNewcomer words (Ok w) =
    words ≡ w.nick.now ∷ w.distance.now ∷ w.user.now ∷ w.host.now ∷ w.token.now ∷ w.mode.now
    ∷ w.real.now ∷ []
IsNewcomer words (Err reason) =
    (reader : Reader) → Err reason ≡ first_effect (nick_line reader None words)
