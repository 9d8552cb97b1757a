-- What a line of a link means, as a table of its commands (RFC 2813 section 4). Lines that speak of
-- servers, and those of a burst that tell of the members of a channel, are no part of it: here
-- their commands are unknown.
--
-- Lines by the link to b.net, as a.net reads them. bo is a user of b.net, al one of a.net; the
-- neighbour's number 1 is b.net itself.
--   a user comes:   `NICK bo 1 u b.example 1 + :Bo`   comes, one link away; with `+i` in place of
--                                                     `+` it comes with mode i
--                   `NICK bo 2 u b.example 1 + :Bo`   Parameters: a.net knows b.net to be one
--                                                     link away
--                   `NICK bo 1 u b.example 9 + :Bo`   BadToken: the neighbour has no server
--                                                     under 9
--   a line of it:   `:bo QUIT :gone`                  is done
--                   `:bo QUIT`, `:bo QUIT a b`        Parameters, as is a text of 161 bytes
--                   `:zz QUIT :gone`                  nothing: zz is nobody (see Reader.antt)
--   its channels:   `:bo JOIN #c`, `:bo JOIN #c^Go`   joins; with the byte 7 and `o` behind the
--                                                     name it becomes an operator
--                   `:bo KICK #c al :out`             is done, whether al is in #c or not: a
--                                                     room does nothing where al is not
--                   `:bo PART c :gone`                BadName: `c` is no channel's name
--   what it says:   `:bo PRIVMSG al :hi`, `:bo NOTICE #c :hi`
--                   `:bo INVITE al #c`
--   modes:          `:bo MODE #c +ol al 5`            is done: letters first, then their words in
--                                                     order
--                   `:bo MODE #c +l 007`              Parameters: a limit has no leading zeros;
--                                                     so is `+k a,b`, as a key has no comma
--                   `:bo MODE #c +o 9d`               BadName: the word of o is no nickname
--                   `:bo MODE bo +i`                  its own mode; `:bo MODE al +i` is
--                                                     Parameters
--                   `:bo MODE bo +a :at lunch`        is away; without a text, or with an empty
--                                                     one, Parameters
--   a server's:     `:b.net TOPIC #c :x`              counts where #c is there and has a member
--                                                     behind this link; else it means nothing:
--                                                     of a channel that has none b.net has
--                                                     nothing to tell
-- The first that is wrong is told: of `:al KICK #c bo` (no text) by this link Parameters and not
-- WrongDirection, of `:al NICK 9d` WrongDirection and not BadName.
use Rattle.std.specs.Prelude.{◌≡◌, ◌⊎◌, IsOk, ℕ, Bool, true, false, not, ◌&&◌, ◌||◌, is_some}
use Rattle.std.specs.Prelude.{Option, Some, None, Result, Ok, Err, List, [], ◌∷◌, codes, nat_eq}
use Rattle.std.specs.Prelude.{unwrap_or, if◌then◌else◌}
use Rattle.std.specs.Global.{Vec}
use Rattle.std.specs.List.{find, list_all}
use Rattle.std.specs.Option.{option_map_or}
use Rattle.std.specs.Str.{bytes_eq}
use Rattle.irc_line.specs.Limits.{max_line}
use Rattle.irc_line.specs.Messages.{Parsed}
use Rattle.irc_names.specs.Fold.{same}
use Rattle.irc_names.specs.Limits.{max_real_name}
use Rattle.irc_names.specs.Names.{fits, is_nick, is_channel, is_host, is_server}
use Rattle.irc_names.specs.Digits.{number_of}
use Rattle.irc_users.specs.declared.user_change.UserChange.{UserChange}
use Rattle.irc_users.specs.declared.user_change.UserChange.TheVariants.{Away}
use Rattle.irc_users.specs.UserTable.{nothing_set}
use Rattle.irc_room.specs.effect.By.{By}
use Rattle.irc_room.specs.effect.By.TheVariants as by
use Rattle.irc_room.specs.effect.Effect.{Effect}
use Rattle.irc_room.specs.effect.Effect.TheVariants.{AddUser, Rename, Quit, Join, Part, Kick}
use Rattle.irc_room.specs.effect.Effect.TheVariants.{ChangeModes, SetTopic, Say, Invite, ChangeUser}
use Rattle.irc_room.specs.Effects.{needs_users}
use Rattle.irc_room.specs.Room.{Room}
use Rattle.irc_routes.specs.Known.{Known}
use Rattle.irc_link_words.specs.declared.fault.WireFault.{WireFault}
use Rattle.irc_link_words.specs.declared.fault.WireFault.TheVariants.{UnknownCommand, Parameters}
use Rattle.irc_link_words.specs.declared.fault.WireFault.TheVariants.{BadToken, WrongDirection}
use Rattle.irc_link_words.specs.declared.fault.WireFault.TheVariants.{BadName, Memory}
use Rattle.irc_link_words.specs.Numbers.{is_number}
use Rattle.irc_link_reader.specs.Reader.{Reader, reader_of, may_come}
use Rattle.irc_link_words.specs.UserChanges.{user_change_of}
use Rattle.irc_link_words.specs.Words.{is_command, with_i, is_come_mode, is_marked}
use Rattle.irc_link_words.specs.Words.{unmarked, is_for_channel, target_of, are_words, is_user_name}
use Rattle.irc_link_words.specs.Words.{changes_of, are_changes, are_members_named}

-- What is looked at in a line whose command is known: whether its parameters are as they should be,
-- whether the number in it stands for a server, whether it came by the right link, whether its
-- names are names, and what it means if all of this is so.
pub record Checked : Type 0 where
  pub parameters : Bool
  pub token : Bool
  pub direction : Bool
  pub names : Bool
  pub effects : List Effect

-- the first of these that is not so, or what the line means
abbrev pub first_fault : Checked → Result (List Effect) WireFault
first_fault checked =
    if not checked.parameters then Err Parameters
    else (if not checked.token then Err BadToken
    else (if not checked.direction then Err WrongDirection
    else (if not checked.names then Err BadName
    else Ok checked.effects)))

-- a line with too few or too many parameters, or not from anybody
abbrev pub malformed : Checked
malformed =
    record { parameters = false; token = true; direction = true; names = true; effects = [] }

-- Nothing is done where a nickname of the line is nobody's.
abbrev pub if_there : Reader → Effect → List Effect
if_there reader effect = if list_all (λ nick. is_some (reader.home nick)) (needs_users effect)
    then effect ∷ [] else []

-- ---- lines of users

-- a line of a user: whether its parameters are as they should be, whether its names are, and what
-- it does
abbrev pub of_user : Reader → List ℕ → Bool → Bool → Effect → Checked
of_user reader nick parameters names effect = record {
  parameters = parameters;
  token = true;
  direction = may_come reader nick;
  names = is_nick nick && names;
  effects = if_there reader effect;
}

abbrev pub quit_line : Reader → Option (List ℕ) → List (List ℕ) → Checked
quit_line reader (Some nick) (text ∷ []) =
    of_user reader nick (are_words text) true (Quit nick text)
quit_line reader _ _ = malformed

abbrev pub join_line : Reader → Option (List ℕ) → List (List ℕ) → Checked
join_line reader (Some nick) (word ∷ []) = of_user reader nick true (is_channel (unmarked word))
    (Join nick (unmarked word) (is_marked word))
join_line reader _ _ = malformed

abbrev pub part_line : Reader → Option (List ℕ) → List (List ℕ) → Checked
part_line reader (Some nick) (channel ∷ text ∷ []) =
    of_user reader nick (are_words text) (is_channel channel) (Part nick channel text)
part_line reader _ _ = malformed

abbrev pub kick_line : Reader → Option (List ℕ) → List (List ℕ) → Checked
kick_line reader (Some nick) (channel ∷ kicked ∷ text ∷ []) =
    of_user reader nick (are_words text) (is_channel channel && is_nick kicked)
    (Kick nick channel kicked text)
kick_line reader _ _ = malformed

abbrev pub say_line : Bool → Reader → Option (List ℕ) → List (List ℕ) → Checked
say_line notice reader (Some nick) (to ∷ text ∷ []) =
    of_user reader nick (fits max_line text) (if is_for_channel to then is_channel to
    else is_nick to)
    (Say nick notice (target_of to) (record { items = text }))
say_line notice reader _ _ = malformed

abbrev pub invite_line : Reader → Option (List ℕ) → List (List ℕ) → Checked
invite_line reader (Some nick) (invited ∷ channel ∷ []) =
    of_user reader nick true (is_nick invited && is_channel channel) (Invite nick invited channel)
invite_line reader _ _ = malformed

-- ---- a user comes, or takes another nickname

-- the server that a word of the neighbour stands for
abbrev pub home_of_token : Reader → List ℕ → Option (List ℕ)
home_of_token reader token = reader.server (number_of token)

-- a distance is looked at where the server is known that it is of
abbrev pub is_distance_of : Reader → Option (List ℕ) → ℕ → Bool
is_distance_of reader None distance = true
is_distance_of reader (Some home) distance =
    option_map_or (nat_eq distance) (reader.distance home) true

abbrev pub introduction_line : Reader → (nick distance user host token mode real : List ℕ) → Checked
introduction_line reader nick distance user host token mode real = record {
  parameters =
      is_number distance && is_user_name user && is_number token && is_come_mode mode
      && fits max_real_name real
      && is_distance_of reader (home_of_token reader token) (number_of distance);
  token = is_some (home_of_token reader token);
  direction = true;
  names = is_nick nick && is_host host;
  effects = AddUser (record {
    nick = nick;
    user = user;
    host = host;
    real = real;
    home = unwrap_or (home_of_token reader token) [];
    invisible = bytes_eq mode with_i;
    set = nothing_set;
  }) ∷ [];
}

abbrev pub nick_line : Reader → Option (List ℕ) → List (List ℕ) → Checked
nick_line reader None (nick ∷ distance ∷ user ∷ host ∷ token ∷ mode ∷ real ∷ []) =
    introduction_line reader nick distance user host token mode real
nick_line reader (Some nick) (new ∷ []) = of_user reader nick true (is_nick new) (Rename nick new)
nick_line reader _ _ = malformed

-- ---- lines of a user or of a server

-- what changes a channel counts, if it is from a server, only where the channel has a member behind
-- the link (our own choice)
abbrev pub change_of : Reader → List ℕ → List ℕ → (By → Effect) → List Effect
change_of reader name channel effect =
    if is_server name then (if reader.has_far channel then effect by.Home ∷ [] else [])
    else if_there reader (effect (by.User name))

-- a line of a user or of a server: whether its parameters are as they should be, whether its names
-- are, and what it does to a channel
abbrev pub of_either : Reader → List ℕ → Bool → Bool → List ℕ → (By → Effect) → Checked
of_either reader name parameters names channel effect = record {
  parameters = parameters;
  token = true;
  direction = may_come reader name;
  names = (is_nick name || is_server name) && names;
  effects = change_of reader name channel effect;
}

abbrev pub topic_line : Reader → Option (List ℕ) → List (List ℕ) → Checked
topic_line reader (Some name) (channel ∷ text ∷ []) = of_either reader name (are_words text)
    (is_channel channel) channel (λ doer. SetTopic doer channel text)
topic_line reader _ _ = malformed

-- what a user has set of itself is changed by itself alone
abbrev pub is_itself_or_none : List ℕ → List ℕ → Bool
is_itself_or_none nick target = not (is_nick nick && is_nick target) || same nick target

-- a change is told of to a reader: that a user is away, or is back, where links tell it so
abbrev pub is_told_of : Reader → UserChange → Bool
is_told_of reader (Away text) = reader.tells_away
is_told_of reader change = true

-- a MODE of a user, by the change that its words tell of
abbrev pub change_line : Reader → List ℕ → List ℕ → Option UserChange → Checked
change_line reader nick target None = malformed
change_line reader nick target (Some change) =
    of_user reader nick (is_told_of reader change && is_itself_or_none nick target)
    (is_nick target) (ChangeUser nick change)

abbrev pub user_mode_line : Reader → List ℕ → List ℕ → List (List ℕ) → Checked
user_mode_line reader nick target words = change_line reader nick target (user_change_of words)

abbrev pub mode_line : Reader → Option (List ℕ) → List (List ℕ) → Checked
mode_line reader (Some name) (target ∷ words) =
    if is_for_channel target then
    of_either reader name (are_changes words)
    (is_channel target && are_members_named (changes_of words)) target
    (λ doer. ChangeModes doer target (changes_of words))
    else user_mode_line reader name target words
mode_line reader _ _ = malformed

-- ---- the table

-- a command, and what is looked at in a line of it
pub record LinkCommandRow : Type 0 where
  pub command : List ℕ
  pub check : Reader → Option (List ℕ) → List (List ℕ) → Checked

abbrev pub line : List ℕ → (Reader → Option (List ℕ) → List (List ℕ) → Checked) → LinkCommandRow
line command check = record { command = command; check = check }

abbrev pub wire_table : List LinkCommandRow
wire_table =
    line (codes "NICK") nick_line ∷ line (codes "QUIT") quit_line ∷ line (codes "JOIN") join_line
    ∷ line (codes "PART") part_line
    ∷ line (codes "KICK") kick_line ∷ line (codes "MODE") mode_line ∷ line
    (codes "TOPIC") topic_line
    ∷ line (codes "PRIVMSG") (say_line false) ∷ line (codes "NOTICE") (say_line true) ∷ line
    (codes "INVITE") invite_line ∷ []

-- the row of a command, if it is one that links carry
abbrev pub wire_row_of : List ℕ → Option LinkCommandRow
wire_row_of word = find (λ (r : LinkCommandRow). is_command r.command word) wire_table

-- what a line means by its row, or its first fault
abbrev pub read_row : Reader → Parsed → Option LinkCommandRow → Result (List Effect) WireFault
read_row reader message None = Err UnknownCommand
read_row reader message (Some r) = first_fault (r.check reader message.prefix message.params)

-- ---- what a line means, and what is told of it

-- what a line means to a reader
abbrev pub read_by : Reader → Parsed → Result (List Effect) WireFault
read_by reader message = read_row reader message (wire_row_of message.command)

-- what a line means that came by a link
abbrev pub means : Room → Known → ℕ → Parsed → Result (List Effect) WireFault
means room known link message = read_by (reader_of room known link) message

-- whether a line is a MODE, whatever its words
abbrev pub is_mode_line : Parsed → Bool
is_mode_line message = is_command (codes "MODE") message.command

-- What is read of a line is what it means, or its fault. Memory may run out where the line means
-- something, of which a list is made, or is a MODE, whose reading takes memory: it is never told in
-- place of another line's fault.
abbrev pub IsMeant : Parsed → Result (List Effect) WireFault → Result (Vec Effect) WireFault
    → Type 0
IsMeant message meant (Ok effects) = meant ≡ Ok (effects.items)
IsMeant message meant (Err Memory) = (is_mode_line message ≡ true) ⊎ IsOk meant
IsMeant message meant (Err fault) = meant ≡ Err fault

-- the same of a line that came by a link, in a room and by routes
abbrev pub IsMeantIn : Room → Known → ℕ → Parsed → Result (Vec Effect) WireFault → Type 0
IsMeantIn room known link message result = IsMeant message (means room known link message) result
