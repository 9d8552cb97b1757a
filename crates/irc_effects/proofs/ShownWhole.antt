-- The lines of effects that can be sent are not cut.
use Rattle.std.proofs.Common.{◌≡◌, ℕ, ◌+◌, ◌-◌, ◌≤◌, Bool, true, false, if◌then◌else◌, Option, Some}
use Rattle.std.proofs.Common.{None, List, [], ◌∷◌, ◌++◌, length, codes, refl, sym, ap, subst}
use Rattle.std.proofs.Common.{option_map, arith, lit≤}
use Rattle.std.specs.Option.{option_map_or, IfSome}
use Rattle.std.proofs.lemmas.Option.{same_Some, none-some}
use Rattle.irc_line.specs.Limits.{max_line}
use Rattle.irc_line.specs.Bytes.{crlf}
use Rattle.irc_line.specs.Messages.{Written, named, joined_text, line_text, prefix_text, prefix_of}
use Rattle.irc_line.specs.Messages.{text}
use Rattle.irc_line.specs.Lemmas.CutLaws.{cut_all}
use Rattle.irc_line.specs.Lemmas.Lengths.{words_size, last_size, length-joined_text, length-named}
use Rattle.irc_line.specs.Lemmas.Lengths.{length-full}
use Rattle.irc_names.specs.Fold.{key}
use Rattle.irc_names.specs.Limits.{max_nick, max_host, max_user_name}
use Rattle.irc_names.specs.Tables.{row}
use Rattle.irc_names.specs.Lemmas.RuleFacts.{nick-fits, channel-fits, host-fits}
use Rattle.irc_users.specs.declared.user.User.{User}
use Rattle.irc_users.specs.declared.user_change.UserChange.{UserChange}
use Rattle.irc_users.specs.declared.user_change.UserChange.TheVariants.{Invisible, Away}
use Rattle.irc_channels.specs.declared.channel.Channel.{Channel}
use Rattle.irc_effects.specs.declared.effect.By.TheVariants as by
use Rattle.irc_effects.specs.declared.effect.Target.{Target}
use Rattle.irc_effects.specs.declared.effect.Target.TheVariants as target
use Rattle.irc_effects.specs.declared.effect.Effect.TheVariants.{AddUser, Rename, Quit, Join, Part}
use Rattle.irc_effects.specs.declared.effect.Effect.TheVariants.{Kick, ChangeModes, SetTopic, Say}
use Rattle.irc_effects.specs.declared.effect.Effect.TheVariants.{Invite, ChangeUser}
use Rattle.irc_effects.specs.Room.{Room}
use Rattle.irc_effects.specs.Limits.{IsCarriedText, IsUserWithin, IsWithinLimits}
use Rattle.irc_effects.specs.Sendable.{IsStoredNick, IsStoredChannel, IsNameFor, IsChannelOrNew}
use Rattle.irc_effects.specs.Sendable.{IsSentTarget, IsSentText, target_word, said_parts}
use Rattle.irc_effects.specs.Seen.{full_sender, from_nick, parts_of, stored_nick, stored_channel}
use Rattle.irc_effects.specs.Seen.{target_name, changes_words, change_parts, shown_parts}
use Rattle.irc_effects.specs.Laws.{IsWhole, whole_text, SentFitsItsLine, SentIsShownWhole}
use Rattle.irc_effects.specs.Laws.{NamedIsWholeToo}
use Rattle.irc_effects.proofs.ChangesFit.{nick_as_stored, changes_short}

-- ---- names as they are written

nick_short : (room : Room) (nick : List ℕ) → IsWithinLimits room → IsStoredNick room nick
    → length (stored_nick room nick) ≤ max_nick
nick_short room nick within is = by (row room.users (key nick)) refl is
  where
    by : (o : Option User) → row room.users (key nick) ≡ o
        → option_map (λ (user : User). user.nick) o ≡ Some nick
        → length (option_map_or (λ (user : User). user.nick) o nick) ≤ max_nick
    by None at is = absurd (none-some nick is)
    by (Some user) at is = nick-fits user.nick (within.users (key nick) user at).nick

channel_there : (room : Room) (name : List ℕ) → IsStoredChannel room name → IsChannelOrNew room name
channel_there room name is = by (row room.channels (key name)) is
  where
    by : (o : Option Channel) → option_map (λ (channel : Channel). channel.name) o ≡ Some name
        → IsNameFor name o
    by None is = absurd (none-some name is)
    by (Some channel) is = same_Some channel.name name is

channel_as_stored : (room : Room) (name : List ℕ) → IsStoredChannel room name
    → stored_channel room name ≡ name
channel_as_stored room name is = by (row room.channels (key name)) is
  where
    by : (o : Option Channel) → option_map (λ (channel : Channel). channel.name) o ≡ Some name
        → option_map_or (λ (c : Channel). c.name) o name ≡ name
    by None is = absurd (none-some name is)
    by (Some channel) is = same_Some channel.name name is

channel_short : (room : Room) (name : List ℕ) → IsWithinLimits room → IsChannelOrNew room name
    → length (stored_channel room name) ≤ 50
channel_short room name within is = by (row room.channels (key name)) refl is
  where
    by : (o : Option Channel) → row room.channels (key name) ≡ o → IsNameFor name o
        → length (option_map_or (λ (c : Channel). c.name) o name) ≤ 50
    by None at is = channel-fits name is
    by (Some channel) at is = channel-fits channel.name (within.channels (key name) channel at).name

-- ---- a user's line

-- what the longest prefix of a user leaves of a line, and what a command of seven letters leaves
-- then
abbrev behind_prefix : ℕ
behind_prefix = max_line - (max_nick + (max_user_name + (max_host + 4)))

abbrev behind_command : ℕ
behind_command = behind_prefix - 7

line_size : (all prefix body nick user host : ℕ) → all ≡ prefix + body
    → prefix ≡ nick + (user + (host + 4)) → nick ≤ max_nick → user ≤ max_user_name → host ≤ max_host
    → body ≤ behind_prefix → all ≤ max_line
line_size all prefix body nick user host all_is prefix_is nick_fits user_fits host_fits body_fits =
    omega arith

from_user : (user : User) (command : List ℕ) (middle : List (List ℕ))
    (last : Option (List ℕ)) → IsUserWithin user
    → length command + (words_size middle + last_size last) ≤ behind_prefix → IsWhole
    (record { sender = full_sender user; command = command; middle = middle; last = last })
from_user user command middle last within short =
    line_size (length (joined_text (record {
      sender = full_sender user;
      command = command;
      middle = middle;
      last = last;
    })))
    (length (prefix_text (prefix_of (full_sender user))))
    (length command + (words_size middle + last_size last))
    (length user.nick) (length user.user) (length user.host)
    (length-joined_text
    (record { sender = full_sender user; command = command; middle = middle; last = last }))
    (length-full user.nick user.user user.host)
    (nick-fits user.nick within.nick) within.name.fits (host-fits user.host within.host) short

from_nick_whole : (room : Room) (nick command : List ℕ) (middle : List (List ℕ))
    (last : Option (List ℕ)) → IsWithinLimits room → length command ≤ 7
    → words_size middle + last_size last ≤ behind_command
    → IfSome (parts_of command middle last (from_nick room nick)) IsWhole
from_nick_whole room nick command middle last within command_short short =
    by (row room.users (key nick)) refl
  where
    by : (o : Option User) → row room.users (key nick) ≡ o
        → IfSome (parts_of command middle last (option_map full_sender o)) IsWhole
    by None at = tt
    by (Some user) at = from_user user command middle last (within.users (key nick) user at)
        (omega (arith, command_short, short))

-- ---- what stands behind the command

no_more : (last : ℕ) → last ≤ 160 → 0 + (2 + last) ≤ behind_command
no_more last last_short = omega arith

one_word : (word last : ℕ) → word ≤ 50 → last ≤ 162 → (1 + word + 0) + last ≤ behind_command
one_word word last word_short last_short = omega arith

two_words : (first second last : ℕ) → first ≤ 50 → second ≤ 50 → last ≤ 162
    → (1 + first + (1 + second + 0)) + last ≤ behind_command
two_words first second last first_short second_short last_short = omega arith

many_words : (first words : ℕ) → first ≤ 50 → words ≤ 296 → (1 + first + words) + 0 ≤ behind_command
many_words first words first_short words_short = omega arith

text_short : (text : List ℕ) → IsCarriedText text → 2 + length text ≤ 162
text_short text within = let fits : length text ≤ 160 = within.fits in omega (arith, fits)

nick_in_line : (length : ℕ) → length ≤ max_nick → length ≤ 50
nick_in_line length short = omega arith

sign_short : (invisible : Bool) → length (if invisible then codes "+i" else codes "-i") ≤ 50
sign_short true = lit≤ tt
sign_short false = lit≤ tt

-- ---- a text

target_as_stored : (room : Room) (to : Target) → IsSentTarget room to
    → target_name room to ≡ target_word to
target_as_stored room (target.User nick) is = nick_as_stored room nick is
target_as_stored room (target.Channel channel) is = channel_as_stored room channel is

text_whole : (room : Room) (by : List ℕ) (notice : Bool) (to : Target) (text : List ℕ)
    → IsSentText room by notice to text → IfSome (parts_of (if notice then codes "NOTICE"
    else codes "PRIVMSG") (target_name room to ∷ []) (Some text) (from_nick room by)) IsWhole
text_whole room by notice to text sent = by_user (row room.users (key by)) sent.line_fits
  where
    by_user : (o : Option User)
        → IfSome o (λ user. length (joined_text (said_parts user notice to text)) ≤ max_line)
        → IfSome (parts_of (if notice then codes "NOTICE" else codes "PRIVMSG")
        (target_name room to ∷ []) (Some text) (option_map full_sender o)) IsWhole
    by_user None fits = tt
    by_user (Some user) fits =
        subst (λ (name : List ℕ). IsWhole (record {
          sender = full_sender user;
          command = if notice then codes "NOTICE" else codes "PRIVMSG";
          middle = name ∷ [];
          last = Some text;
        })) (sym (target_as_stored room to sent.target_stored)) fits

-- ---- a change of a user's own

change_whole : (room : Room) (nick : List ℕ) (change : UserChange) → IsWithinLimits room
    → IsStoredNick room nick
    → IfSome (change_parts (stored_nick room nick) change (from_nick room nick)) IsWhole
change_whole room nick (Invisible invisible) within stored =
    from_nick_whole room nick (codes "MODE") (stored_nick room nick
    ∷ (if invisible then codes "+i" else codes "-i") ∷ []) None within (lit≤ tt)
    (two_words (length (stored_nick room nick))
    (length (if invisible then codes "+i" else codes "-i")) 0
    (nick_in_line (length (stored_nick room nick)) (nick_short room nick within stored))
    (sign_short invisible) (lit≤ tt))
change_whole room nick (Away text) within stored = tt

-- ---- each effect

pub sent_fits_its_line : SentFitsItsLine
sent_fits_its_line room (AddUser user) viewer within sent = tt
sent_fits_its_line room (Rename nick new) viewer within sent =
    from_nick_whole room nick (codes "NICK") (new ∷ []) None within (lit≤ tt)
    (one_word (length new) 0 (nick_in_line (length new) (nick-fits new sent.new_named)) (lit≤ tt))
sent_fits_its_line room (Quit nick text) viewer within sent =
    from_nick_whole room nick (codes "QUIT") [] (Some text) within (lit≤ tt)
    (no_more (length text) sent.text_within.fits)
sent_fits_its_line room (Join nick channel op) viewer within sent =
    from_nick_whole room nick (codes "JOIN") (stored_channel room channel ∷ []) None within
    (lit≤ tt)
    (one_word (length (stored_channel room channel)) 0
    (channel_short room channel within sent.channel_named) (lit≤ tt))
sent_fits_its_line room (Part nick channel text) viewer within sent =
    from_nick_whole room nick (codes "PART") (stored_channel room channel ∷ []) (Some text) within
    (lit≤ tt)
    (one_word (length (stored_channel room channel)) (2 + length text)
    (channel_short room channel within (channel_there room channel sent.channel_stored))
    (text_short text sent.text_within))
sent_fits_its_line room (Kick by channel nick text) viewer within sent =
    from_nick_whole room by (codes "KICK")
    (stored_channel room channel ∷ stored_nick room nick ∷ []) (Some text) within (lit≤ tt)
    (two_words (length (stored_channel room channel)) (length (stored_nick room nick))
    (2 + length text)
    (channel_short room channel within (channel_there room channel sent.channel_stored))
    (nick_in_line (length (stored_nick room nick)) (nick_short room nick within sent.nick_stored))
    (text_short text sent.text_within))
sent_fits_its_line room (ChangeModes (by.User nick) channel changes) viewer within sent =
    from_nick_whole room nick (codes "MODE")
    (stored_channel room channel ∷ changes_words room changes) None within (lit≤ tt)
    (many_words (length (stored_channel room channel)) (words_size (changes_words room changes))
    (channel_short room channel within (channel_there room channel sent.channel_stored))
    (changes_short room changes sent.changes_readable sent.words_sent))
sent_fits_its_line room (ChangeModes by.Home channel changes) viewer within sent = absurd sent
sent_fits_its_line room (SetTopic (by.User nick) channel text) viewer within sent =
    from_nick_whole room nick (codes "TOPIC") (stored_channel room channel ∷ []) (Some text) within
    (lit≤ tt)
    (one_word (length (stored_channel room channel)) (2 + length text)
    (channel_short room channel within (channel_there room channel sent.channel_stored))
    (text_short text sent.text_within))
sent_fits_its_line room (SetTopic by.Home channel text) viewer within sent = absurd sent
sent_fits_its_line room (Say by notice to text) viewer within sent =
    text_whole room by notice to (text.items) sent
sent_fits_its_line room (Invite by nick channel) viewer within sent =
    from_nick_whole room by (codes "INVITE")
    (stored_nick room nick ∷ stored_channel room channel ∷ []) None within (lit≤ tt)
    (two_words (length (stored_nick room nick)) (length (stored_channel room channel)) 0
    (nick_in_line (length (stored_nick room nick)) (nick_short room nick within sent.nick_stored))
    (channel_short room channel within sent.channel_named) (lit≤ tt))
sent_fits_its_line room (ChangeUser nick change) viewer within sent =
    change_whole room nick change within sent.nick_stored

-- a prefix that is the nickname alone
shorter : (all short full_prefix prefix nick user host body : ℕ) → all ≡ full_prefix + body
    → short ≡ prefix + body → full_prefix ≡ nick + (user + (host + 4)) → prefix ≡ nick + 2
    → all ≤ 510 → short ≤ 510
shorter all short full_prefix prefix nick user host body all_is short_is full_is prefix_is fits =
    omega arith

pub named_is_whole_too : NamedIsWholeToo
named_is_whole_too user command middle last fits =
    let all : Written =
    record { sender = full_sender user; command = command; middle = middle; last = last } in
    let short : Written =
    record { sender = named user.nick; command = command; middle = middle; last = last } in
    shorter (length (joined_text all)) (length (joined_text short)) (length (prefix_text
    (prefix_of (full_sender user)))) (length (prefix_text (prefix_of (named user.nick))))
    (length user.nick) (length user.user) (length user.host)
    (length command + (words_size middle + last_size last))
    (length-joined_text all) (length-joined_text short) (length-full user.nick user.user user.host)
    (length-named user.nick) fits

-- what fits is written whole
written_whole : (parts : Option Written) → IfSome parts IsWhole
    → option_map text parts ≡ option_map whole_text parts
unfolding line_text
written_whole None fits = refl
written_whole (Some parts) fits =
    ap (λ line. Some (line ++ crlf)) (cut_all (joined_text parts) fits)

pub sent_is_shown_whole : SentIsShownWhole
sent_is_shown_whole room effect viewer within sent = written_whole (shown_parts room effect viewer)
    (sent_fits_its_line room effect viewer within sent)
