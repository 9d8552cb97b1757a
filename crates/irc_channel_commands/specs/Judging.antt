-- What comes of a change of a channel's modes that an operator asks for, and how it is written if
-- it is made (RFC 2811 section 4, RFC 2812 section 3.2.3). A change that would leave everything as
-- it is comes to nothing (our own choice).
use Rattle.std.specs.Prelude.{ℕ, Bool, true, false, not, ◌&&◌, Option, Some, None, List, [], ◌∷◌}
use Rattle.std.specs.Prelude.{length, find, is_some, nat_eq, nat_le, if◌then◌else◌}
use Rattle.std.specs.Option.{option_map_or}
use Rattle.irc_names.specs.Fold.{key, same}
use Rattle.irc_names.specs.Names.{is_key}
use Rattle.irc_names.specs.Tables.{Table, row}
use Rattle.irc_users.specs.declared.user.User.{User}
use Rattle.irc_channels.specs.declared.channel.Channel.{Channel}
use Rattle.irc_channels.specs.declared.flags.Flags.{Flags}
use Rattle.irc_modes.specs.declared.modes.Modes.{Modes}
use Rattle.irc_modes.specs.declared.modes.ModeChange.{ModeChange}
use Rattle.irc_modes.specs.declared.modes.ModeLetter.{ModeLetter}
use Rattle.irc_modes.specs.declared.modes.ModeLetter.TheVariants as letter
use Rattle.irc_modes.specs.declared.modes.Privacy.{Privacy}
use Rattle.irc_modes.specs.declared.modes.Privacy.TheVariants.{Public, Private, Secret}
use Rattle.irc_names.specs.Digits.{number_of}
use Rattle.irc_modes.specs.Modes.{is_limit, mask_in}
use Rattle.irc_modes.specs.Limits.{max_bans}
use Rattle.irc_numerics.specs.declared.replies.Reply.TheVariants.{NoSuchNick, UserNotInChannel}
use Rattle.irc_numerics.specs.declared.replies.Reply.TheVariants.{KeySet, BanListFull}
use Rattle.irc_acts.specs.Acts.{bytes_kept, client_words}
use Rattle.irc_channel_commands.specs.declared.verdict.Verdict.{Verdict}
use Rattle.irc_channel_commands.specs.declared.verdict.Verdict.TheVariants.{Says, Keeps, Nothing}

-- whether two settings differ
abbrev pub differs : Bool → Bool → Bool
differs true other = not other
differs _ other = other

-- the change that is made where a letter is obeyed, with its word as it is told to all
abbrev pub change_made : Bool → ModeLetter → Option (List ℕ) → ModeChange
change_made plus which word = record { plus = plus; letter = which; word = word }

-- what would change nothing is not made, and nobody is told
abbrev pub kept_if : Bool → ModeChange → Verdict
kept_if test change = if test then Keeps change else Nothing

-- a mode that is set or not
abbrev pub turned : Bool → ModeLetter → Bool → Verdict
turned plus which before = kept_if (differs plus before) (change_made plus which None)

-- p is set where nothing is, and cleared where it is set (our own choice)
abbrev pub turns_private : Bool → Privacy → Bool
turns_private true Public = true
turns_private false Private = true
turns_private _ before = false

-- s is set wherever it is not, and cleared where it is (our own choice)
abbrev pub turns_secret : Bool → Privacy → Bool
turns_secret plus Secret = not plus
turns_secret plus before = plus

-- A word that is no key is ignored; where a key is set there is no other before it was taken away.
-- What takes it away is written with the key that was set, whatever word came with it (our own
-- choice).
abbrev pub key_judged : List ℕ → Bool → Option (List ℕ) → Option (List ℕ) → Verdict
key_judged name true None before = Nothing
key_judged name true (Some word) before =
    if not (is_key word) then Nothing else (if is_some before then Says (KeySet name)
    else Keeps (change_made true letter.Key (Some word)))
key_judged name false word None = Nothing
key_judged name false word (Some before) = Keeps (change_made false letter.Key (Some before))

-- digits without the zeros in front
abbrev pub without_zeros : List ℕ → List ℕ
without_zeros [] = []
without_zeros (digit ∷ digits) = if nat_eq digit 0x30 then without_zeros digits else digit ∷ digits

-- a word that is no limit is ignored, and one that is, is written without leading zeros (our own
-- choice)
abbrev pub limit_judged : Bool → Option (List ℕ) → Option ℕ → Verdict
limit_judged true None before = Nothing
limit_judged true (Some word) before =
    kept_if (is_limit word && not (option_map_or (nat_eq (number_of word)) before false))
    (change_made true letter.Limit (Some (without_zeros word)))
limit_judged false word before = kept_if (is_some before) (change_made false letter.Limit None)

-- the modes of the channel itself, but for its bans
abbrev pub setting_judged : List ℕ → Modes → Bool → ModeLetter → Option (List ℕ) → Verdict
setting_judged name modes plus letter.InviteOnly word =
    turned plus letter.InviteOnly modes.invite_only
setting_judged name modes plus letter.Moderated word = turned plus letter.Moderated modes.moderated
setting_judged name modes plus letter.NoOutside word = turned plus letter.NoOutside modes.no_outside
setting_judged name modes plus letter.TopicLocked word =
    turned plus letter.TopicLocked modes.topic_locked
setting_judged name modes plus letter.Private word =
    kept_if (turns_private plus modes.privacy) (change_made plus letter.Private None)
setting_judged name modes plus letter.Secret word =
    kept_if (turns_secret plus modes.privacy) (change_made plus letter.Secret None)
setting_judged name modes plus letter.Key word = key_judged name plus word modes.key
setting_judged name modes plus letter.Limit word = limit_judged plus word modes.limit
setting_judged name modes plus other word = Nothing

-- A ban, by the ban that is the same under the fold, if one is there, and by how many there are.
-- One that is there is not set again, in another spelling neither; where as many are there as a
-- channel may have, no other is; one that is taken away is written as it is stored.
abbrev pub ban_judged : List ℕ → Bool → List ℕ → Option (List ℕ) → ℕ → Verdict
ban_judged name true mask (Some there) count = Nothing
ban_judged name true mask None count = if nat_le max_bans count then Says (BanListFull name)
    else Keeps (change_made true letter.Ban (Some mask))
ban_judged name false mask (Some there) count = Keeps (change_made false letter.Ban (Some there))
ban_judged name false mask None count = Nothing

-- a word that is no mask of a ban is ignored
abbrev pub mask_judged : List ℕ → Bool → Option (List ℕ) → List (List ℕ) → Verdict
mask_judged name plus None bans = Nothing
mask_judged name plus (Some mask) bans =
    ban_judged name plus mask (find (same mask) bans) (length bans)

-- the flag that o, or v, is of
abbrev pub flag_of : ModeLetter → Flags → Bool
flag_of letter.Voice flags = flags.voice
flag_of other flags = flags.op

-- o or v of a user that was found, by its flags in the channel, if it is a member; the user is
-- written as it is stored
abbrev pub flag_judged : List ℕ → List ℕ → Bool → ModeLetter → Option Flags → Verdict
flag_judged name nick plus which None = Says (UserNotInChannel (bytes_kept nick) name)
flag_judged name nick plus which (Some flags) =
    kept_if (differs plus (flag_of which flags)) (change_made plus which (Some nick))

-- a word that is no user's nickname is told as it was given
abbrev pub member_judged : Table Flags → List ℕ → Bool → ModeLetter → List ℕ → Option User → Verdict
member_judged members name plus which word None = Says (NoSuchNick (client_words word))
member_judged members name plus which word (Some user) =
    flag_judged name user.nick plus which (row members (key word))

-- the letters of members: the word is a user's nickname; without one nothing comes of the letter
abbrev pub word_judged : Table User → Channel → Bool → ModeLetter → Option (List ℕ) → Verdict
word_judged users now plus which None = Nothing
word_judged users now plus which (Some word) =
    member_judged now.members now.name plus which word (row users (key word))

-- what comes of a change in the channel as it is now
abbrev pub judge : Table User → Channel → Bool → ModeLetter → Option (List ℕ) → Verdict
judge users now plus letter.Ban word = mask_judged now.name plus (mask_in word) now.modes.bans
judge users now plus letter.Operator word = word_judged users now plus letter.Operator word
judge users now plus letter.Voice word = word_judged users now plus letter.Voice word
judge users now plus other word = setting_judged now.name now.modes plus other word
