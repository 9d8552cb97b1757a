-- A channel as a row of a table, and each change that is made to one (RFC 2811 sections 2 to 4).
use Rattle.std.specs.Prelude.{ℕ, Bool, false, not, is_some, Option, Some, None, List, [], ◌∷◌}
use Rattle.std.specs.Prelude.{if◌then◌else◌}
use Rattle.std.specs.List.{list_any}
use Rattle.std.specs.Option.{option_map}
use Rattle.std.specs.FinMap.{empty, keys}
use Rattle.irc_names.specs.Fold.{key}
use Rattle.irc_names.specs.Greater.{bytes_cmp, greater}
use Rattle.irc_names.specs.Tables.{row, alter, moved}
use Rattle.irc_channels.specs.declared.channel.Channel.{Channel}
use Rattle.irc_channels.specs.declared.flags.Flags.{Flags}
use Rattle.irc_modes.specs.declared.modes.Modes.{Modes}
use Rattle.irc_modes.specs.declared.modes.ModeChange.{ModeChange}
use Rattle.irc_modes.specs.declared.modes.ModeLetter.{ModeLetter}
use Rattle.irc_modes.specs.declared.modes.ModeLetter.TheVariants as letter
use Rattle.irc_modes.specs.Modes.{adds_ban, is_nil, mode_changed, no_modes}

-- a channel that somebody makes, before anybody is in it: nothing is set
abbrev pub new_channel : List ℕ → Channel
new_channel name =
    record { name = name; modes = no_modes; topic = []; members = empty; invited = empty }

-- whether the user with this fold is a member
abbrev pub has_member : List ℕ → Channel → Bool
has_member nick channel = is_some (row channel.members nick)

-- whether the user with this fold has an invitation that it has not used
abbrev pub is_invited : List ℕ → Channel → Bool
is_invited nick channel = is_some (row channel.invited nick)

-- a channel ends when its last member leaves, with its modes, topic and invitations (RFC 2811
-- section 3)
abbrev pub while_members : Channel → Option Channel
while_members channel = if is_nil (keys channel.members) then None else Some channel

-- a user joins, and its invitation is used up; one who is a member already changes nothing
abbrev pub joined : List ℕ → Bool → Channel → Channel
joined nick op channel =
    if has_member nick channel then channel else record channel {
      members = alter nick (λ _. Some (record { op = op; voice = false })) channel.members;
      invited = alter nick (λ _. None) channel.invited;
    }

-- a member leaves; one who is none changes nothing
abbrev pub left : List ℕ → Channel → Option Channel
left nick channel =
    if has_member nick channel then while_members
    (record channel { members = alter nick (λ _. None) channel.members }) else Some channel

-- a user is gone, and its invitation too
abbrev pub without_user : List ℕ → Channel → Option Channel
without_user nick channel = while_members (record channel {
  members = alter nick (λ _. None) channel.members;
  invited = alter nick (λ _. None) channel.invited;
})

-- a user has another nickname
abbrev pub renamed : List ℕ → List ℕ → Channel → Channel
renamed old new channel = record channel {
  members = moved old new (λ flags. flags) channel.members;
  invited = moved old new (λ u. u) channel.invited;
}

abbrev pub invited_too : List ℕ → Channel → Channel
invited_too nick channel = record channel { invited = alter nick (λ _. Some tt) channel.invited }

-- an invitation is taken back
abbrev pub uninvited : List ℕ → Channel → Channel
uninvited nick channel = record channel { invited = alter nick (λ _. None) channel.invited }

abbrev pub with_topic : List ℕ → Channel → Channel
with_topic topic channel = record channel { topic = topic }

-- The name is spelled as given, where that is greater by bytes (our own choice): two sides that
-- have one channel in two spellings join it under the greater one.
abbrev pub respelled : List ℕ → Channel → Channel
respelled name channel = record channel { name = greater bytes_cmp channel.name name }

-- The changes of modes (RFC 2811 section 4).

-- none of these changes sets a ban that the channel has not
abbrev pub adds_none : List ModeChange → Channel → Bool
adds_none changes channel = not (list_any (adds_ban channel.modes.bans) changes)

-- a flag of one member; whoever is none has none
abbrev pub member_changed : List ℕ → (Flags → Flags) → Channel → Channel
member_changed nick change channel =
    record channel { members = alter (key nick) (option_map change) channel.members }

-- the modes of the channel itself; its members keep their flags
abbrev pub modes_changed : (Modes → Modes) → Channel → Channel
modes_changed change channel = record channel { modes = change channel.modes }

-- what a change of a mode does, of a member or of the channel; one that wants a parameter and has
-- none changes nothing
abbrev pub letter_changed : Bool → ModeLetter → Option (List ℕ) → Channel → Channel
letter_changed plus letter.Operator (Some word) channel =
    member_changed word (λ f. record f { op = plus }) channel
letter_changed plus letter.Voice (Some word) channel =
    member_changed word (λ f. record f { voice = plus }) channel
letter_changed plus other word channel = modes_changed (mode_changed plus other word) channel

abbrev pub changed : ModeChange → Channel → Channel
changed change channel = letter_changed change.plus change.letter change.word channel

-- changes are made one after another
abbrev pub all_changed : List ModeChange → Channel → Channel
all_changed [] channel = channel
all_changed (change ∷ changes) channel = all_changed changes (changed change channel)
