-- MODE of a channel (RFC 2812 section 3.2.3).
use Rattle.std.specs.Prelude.{ℕ, Option, Some, None, List, [], ◌∷◌, ◌++◌, codes, if◌then◌else◌}
use Rattle.std.specs.List.{flat_map}
use Rattle.irc_names.specs.Fold.{key}
use Rattle.irc_names.specs.Tables.{Table, row}
use Rattle.irc_users.specs.declared.user.User.{User}
use Rattle.irc_channels.specs.declared.channel.Channel.{Channel}
use Rattle.irc_modes.specs.declared.modes.ModeChange.{ModeChange}
use Rattle.irc_channels.specs.Channels.{all_changed}
use Rattle.irc_modes.specs.ModeWords.{Asked, change, list, no_word, unknown, modes_read}
use Rattle.irc_numerics.specs.declared.replies.Reply.TheVariants.{NoSuchChannel, NeedMoreParams}
use Rattle.irc_numerics.specs.declared.replies.Reply.TheVariants.{UnknownMode, ChanOPrivsNeeded}
use Rattle.irc_room.specs.effect.By.TheVariants as by
use Rattle.irc_room.specs.effect.Effect.TheVariants.{ChangeModes}
use Rattle.irc_room.specs.Room.{Room}
use Rattle.irc_acts.specs.declared.act.Act.{Act}
use Rattle.irc_acts.specs.declared.act.Act.TheVariants.{Answer, Do}
use Rattle.irc_acts.specs.Acts.{client_words}
use Rattle.irc_acts.specs.Standing.{is_operator}
use Rattle.irc_channel_commands.specs.declared.verdict.Verdict.{Verdict}
use Rattle.irc_channel_commands.specs.declared.verdict.Verdict.TheVariants.{Says, Keeps, Nothing}
use Rattle.irc_channel_commands.specs.Judging.{judge}
use Rattle.irc_channel_commands.specs.ModesShown.{modes_shown, bans_shown}

-- what comes of some letters: what is answered, and the changes that are made, in order
pub record ModeOutcome : Type 0 where
  pub replies : List Act
  pub changes : List ModeChange

-- what changes nothing, and is at most answered
abbrev pub only_replies : List Act → ModeOutcome
only_replies replies = record { replies = replies; changes = [] }

-- what comes of one letter, as it was judged
abbrev pub outcome_of : Verdict → ModeOutcome
outcome_of (Says reply) = only_replies (Answer reply ∷ [])
outcome_of (Keeps made) = record { replies = []; changes = made ∷ [] }
outcome_of Nothing = only_replies []

-- what is told to a letter that asks for no change, to anybody; the bans are those that stood at
-- the command's start
abbrev pub letter_replies : Channel → Asked → List Act
letter_replies start list = bans_shown start
letter_replies start no_word = Answer (NeedMoreParams (client_words (codes "MODE"))) ∷ []
letter_replies start (unknown byte) = Answer (UnknownMode byte start.name) ∷ []
letter_replies start (change plus which word) = []

-- what comes of one letter, where the channel was one at the command's start and is another now
abbrev pub one_served : Table User → Channel → Channel → Asked → ModeOutcome
one_served users start now (change plus which word) = outcome_of (judge users now plus which word)
one_served users start now other = only_replies (letter_replies start other)

-- What comes of the letters of an operator, each in the channel as the changes before it have left
-- it. That it is an operator is asked of the command's start alone (our own choice).
abbrev pub served : Table User → Channel → Channel → List Asked → ModeOutcome
served users start now [] = only_replies []
served users start now (item ∷ items) =
    let first = one_served users start now item in
    let rest = served users start (all_changed first.changes now) items in
    record { replies = first.replies ++ rest.replies; changes = first.changes ++ rest.changes }

-- Who is no operator changes nothing: the first change that it asks for is answered by 482,
-- whatever would have come of it, and no other is answered.
abbrev pub denied : Channel → List Asked → List Act
denied start [] = []
denied start (change plus which word ∷ items) =
    Answer (ChanOPrivsNeeded start.name) ∷ flat_map (letter_replies start) items
denied start (item ∷ items) = letter_replies start item ++ denied start items

-- all changes are made at once
abbrev pub changing : User → Channel → List ModeChange → List Act
changing me channel [] = []
changing me channel (first ∷ changes) =
    Do (ChangeModes (by.User me.nick) channel.name (first ∷ changes)) ∷ []

-- the replies, and then the changes
abbrev pub in_one : User → Channel → ModeOutcome → List Act
in_one me channel outcome = outcome.replies ++ changing me channel outcome.changes

-- what the letters of an operator do
abbrev pub obeyed : Table User → User → Channel → List Asked → List Act
obeyed users me channel items = in_one me channel (served users channel channel items)

-- only an operator of the channel is obeyed
abbrev pub asked_of : Table User → User → Channel → List Asked → List Act
asked_of users me channel items =
    if is_operator (row channel.members (key me.nick)) then obeyed users me channel items
    else denied channel items

-- what the parameters behind the channel do
abbrev pub in_channel : Table User → User → Channel → List (List ℕ) → List Act
in_channel users me channel [] = modes_shown me channel ∷ []
in_channel users me channel (letters ∷ words) =
    asked_of users me channel (modes_read (letters ∷ words))

-- what comes of a MODE for the channel that was found under a name, if one was
unfoldable pub channel_mode : Table User → User → List ℕ → List (List ℕ) → Option Channel → List Act
channel_mode users me name more None = Answer (NoSuchChannel (client_words name)) ∷ []
channel_mode users me name more (Some channel) = in_channel users me channel more

-- by the channel that is found under the name
abbrev pub channel_mode_named : Room → User → List ℕ → List (List ℕ) → List Act
channel_mode_named room me name more =
    channel_mode room.users me name more (row room.channels (key name))
