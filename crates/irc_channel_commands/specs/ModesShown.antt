-- How the modes of a channel are told: 324, and its bans: 367 and 368 (RFC 2812 section 3.2.3).
use Rattle.std.specs.Prelude.{ℕ, Bool, is_some, List, [], ◌∷◌, ◌++◌, codes, map, if◌then◌else◌}
use Rattle.std.specs.Option.{option_map}
use Rattle.irc_names.specs.Fold.{key}
use Rattle.irc_users.specs.declared.user.User.{User}
use Rattle.irc_channels.specs.declared.channel.Channel.{Channel}
use Rattle.irc_modes.specs.declared.modes.Modes.{Modes}
use Rattle.irc_modes.specs.declared.modes.ModeLetter.{ModeLetter}
use Rattle.irc_modes.specs.declared.modes.ModeLetter.TheVariants as letter
use Rattle.irc_modes.specs.declared.modes.Privacy.{Privacy}
use Rattle.irc_modes.specs.declared.modes.Privacy.TheVariants.{Public, Private, Secret}
use Rattle.irc_channels.specs.Channels.{has_member}
use Rattle.irc_modes.specs.Letters.{letter_byte, plus_byte}
use Rattle.irc_numerics.specs.declared.replies.Reply.TheVariants.{ChannelModeIs, BanList}
use Rattle.irc_numerics.specs.declared.replies.Reply.TheVariants.{EndOfBanList}
use Rattle.irc_acts.specs.declared.act.Act.{Act}
use Rattle.irc_acts.specs.declared.act.Act.TheVariants.{Answer}
use Rattle.irc_acts.specs.Acts.{bytes_kept}

-- the letter of a mode, where it is set
abbrev pub if_set : Bool → ModeLetter → List ℕ
if_set set mode = if set then letter_byte mode ∷ [] else []

-- p and s are one value
abbrev pub privacy_letter : Privacy → List ℕ
privacy_letter Public = []
privacy_letter Private = letter_byte letter.Private ∷ []
privacy_letter Secret = letter_byte letter.Secret ∷ []

-- `+`, and those of i m n p s t k l that are set, in this order (the order is our own choice)
abbrev pub letters_set : Modes → List ℕ
letters_set modes =
    plus_byte
    ∷ if_set modes.invite_only letter.InviteOnly
    ++ if_set modes.moderated letter.Moderated
    ++ if_set modes.no_outside letter.NoOutside
    ++ privacy_letter modes.privacy
    ++ if_set modes.topic_locked letter.TopicLocked
    ++ if_set (is_some modes.key) letter.Key
    ++ if_set (is_some modes.limit) letter.Limit

-- the key as a user is told it: who is no member sees `*` in its place (our own choice)
abbrev pub key_shown : Bool → List ℕ → List ℕ
key_shown member word = if member then word else codes "*"

-- the modes of a channel as a user is told them
abbrev pub modes_shown : User → Channel → Act
modes_shown me channel =
    Answer (ChannelModeIs channel.name (bytes_kept (letters_set channel.modes))
    (option_map (key_shown (has_member (key me.nick) channel)) channel.modes.key)
    channel.modes.limit)

-- one ban as a user is told it
abbrev pub ban_shown : List ℕ → List ℕ → Act
ban_shown channel mask = Answer (BanList channel mask)

-- the bans of a channel, in folded order, as they are stored
abbrev pub bans_shown : Channel → List Act
bans_shown channel =
    map (ban_shown channel.name) channel.modes.bans ++ Answer (EndOfBanList channel.name) ∷ []
