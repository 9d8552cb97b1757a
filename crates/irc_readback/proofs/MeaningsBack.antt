-- The message of an effect that is readable means the effect.
use Rattle.std.proofs.Common.{◌≡◌, ◌+◌, ◌≤◌, ℕ, Bool, true, Option, Some, None, Ok, List, [], ◌∷◌}
use Rattle.std.proofs.Common.{◌++◌, codes, length, if◌then◌else◌, subst, ◌∙◌, ap, arith}
use Rattle.std.proofs.Common.{length-append}
use Rattle.std.specs.Option.{option_map, IfSome}
use Rattle.irc_line.specs.Limits.{max_line}
use Rattle.irc_line.specs.Messages.{joined_text, message_of, middle_text, prefix_of, prefix_text}
use Rattle.irc_names.specs.Fold.{key}
use Rattle.irc_names.specs.Names.{IsNick}
use Rattle.irc_names.specs.Tables.{row}
use Rattle.irc_users.specs.declared.user.User.{User}
use Rattle.irc_room.specs.effect.By.TheVariants as by
use Rattle.irc_room.specs.effect.Effect.{Effect}
use Rattle.irc_room.specs.effect.Effect.TheVariants.{AddUser, Rename, Quit, Join, Part, Kick}
use Rattle.irc_room.specs.effect.Effect.TheVariants.{ChangeModes, SetTopic, Say, Invite, ChangeUser}
use Rattle.irc_room.specs.effect.Target.{Target}
use Rattle.irc_room.specs.effect.Target.TheVariants as target
use Rattle.irc_room.specs.Limits.{IsWithinLimits}
use Rattle.irc_room.specs.Room.{Room}
use Rattle.irc_room.specs.Seen.{full_sender, stored_nick, stored_channel, target_name}
use Rattle.irc_room.specs.Sendable.{IsSentTarget, IsSentText, said_parts, target_word}
use Rattle.irc_routes.specs.Known.{Known}
use Rattle.irc_link_reader.specs.Means.{read_by}
use Rattle.irc_readback.specs.ReadBack.{IsPlainEffect, IsReadable, is_user_far}
use Rattle.irc_link_reader.specs.Reader.{Reader}
use Rattle.irc_link_words.specs.Words.{marked}
use Rattle.irc_link_writer.specs.Written.{from, wire, wire_change}
use Rattle.irc_readback.proofs.EffectsRead.{IsExpected, IsTarget, invite_read, join_read, kick_read}
use Rattle.irc_readback.proofs.EffectsRead.{part_read, quit_read, rename_read, text_read}
use Rattle.irc_readback.proofs.EffectsRead.{topic_read}
use Rattle.irc_readback.proofs.EffectsRead.{change_read}
use Rattle.irc_readback.specs.Lemmas.StoredNames.{IsKeptAs, nick_kept, channel_kept, channel_there}

-- whom the line is from, as stored
expected : (room : Room) (known : Known) (reader : Reader) (effect : Effect) (nick : List ℕ)
    → IsReadable room known reader effect → IsKeptAs IsNick (stored_nick room nick) nick
    → is_user_far reader (stored_nick room nick) ≡ true → IsExpected reader nick effect
expected room known reader effect nick is doer far = record {
  named = doer.kept;
  known = is.users_known;
  far = subst (λ name. is_user_far reader name ≡ true) doer.as_is far;
}

-- ---- a text

shorter : (all front back text limit : ℕ) → all ≡ front + back → back ≡ 2 + text → all ≤ limit
    → text ≤ limit
shorter all front back text limit parts behind fits = omega (arith, parts, behind, fits)

last_fits : (front text : List ℕ) (limit : ℕ) → length (front ++ 32 ∷ 58 ∷ text) ≤ limit
    → length text ≤ limit
last_fits front text limit fits =
    shorter (length (front ++ 32 ∷ 58 ∷ text)) (length front) (length (32 ∷ 58 ∷ text))
    (length text) limit
    (length-append front (32 ∷ 58 ∷ text)) (omega arith) fits

text_fits : (room : Room) (by : List ℕ) (notice : Bool) (to : Target) (text : List ℕ)
    → IsSentText room by notice to text → length text ≤ max_line
text_fits room by notice to text sent =
    by_user (row room.users (key by)) sent.by_stored sent.line_fits
  where
    by_user : (o : Option User) → option_map (λ (user : User). user.nick) o ≡ Some by
        → IfSome o (λ user. length (joined_text (said_parts user notice to text)) ≤ max_line)
        → length text ≤ max_line
    by_user None stored fits = cc stored
    by_user (Some user) stored fits =
        let command : List ℕ = if notice then codes "NOTICE" else codes "PRIVMSG" in
        last_fits (prefix_text (prefix_of (full_sender user)) ++ command
        ++ middle_text (target_word to ∷ [])) text max_line fits

target_kept : (room : Room) (to : Target) → IsWithinLimits room → IsSentTarget room to → IsTarget to
target_kept room (target.User nick) within is = (nick_kept room nick within is).kept
target_kept room (target.Channel channel) within is =
    (channel_kept room channel within (channel_there room channel is)).kept

target_as_is : (room : Room) (to : Target) → IsWithinLimits room → IsSentTarget room to
    → target_name room to ≡ target_word to
target_as_is room (target.User nick) within is = (nick_kept room nick within is).as_is
target_as_is room (target.Channel channel) within is =
    (channel_kept room channel within (channel_there room channel is)).as_is

-- ---- each effect

pub meant_back : (room : Room) (known : Known) (reader : Reader) (effect : Effect)
    → IsPlainEffect effect → IsReadable room known reader effect
    → read_by reader (message_of (wire room known effect)) ≡ Ok (effect ∷ [])
meant_back room known reader (AddUser user) plain is = absurd plain
meant_back room known reader (ChangeModes by channel changes) plain is = absurd plain
meant_back room known reader (Rename nick new) plain is =
    let doer = nick_kept room nick is.room_within is.sendable.nick_stored in
    ap (λ n. read_by reader (message_of (from n (codes "NICK") (new ∷ []) None))) doer.as_is
    ∙ rename_read reader nick new (expected room known reader
    (Rename nick new) nick is doer is.doer_far) is.sendable.new_named
meant_back room known reader (Quit nick text) plain is =
    let doer = nick_kept room nick is.room_within is.sendable.nick_stored in
    ap (λ n. read_by reader (message_of (from n (codes "QUIT") [] (Some text)))) doer.as_is
    ∙ quit_read reader nick text (expected room known reader
    (Quit nick text) nick is doer is.doer_far) is.sendable.text_within.fits
meant_back room known reader (Join nick channel op) plain is =
    let doer = nick_kept room nick is.room_within is.sendable.nick_stored in
    let name = channel_kept room channel is.room_within is.sendable.channel_named in
    ap (λ n. read_by reader (message_of
    (from n (codes "JOIN") (marked (stored_channel room channel) op ∷ []) None))) doer.as_is
    ∙ ap (λ c. read_by reader (message_of (from nick (codes "JOIN") (marked c op ∷ []) None)))
    name.as_is
    ∙ join_read reader nick channel op
    (expected room known reader (Join nick channel op) nick is doer is.doer_far) name.kept
meant_back room known reader (Part nick channel text) plain is =
    let doer = nick_kept room nick is.room_within is.sendable.nick_stored in
    let name = channel_kept room channel is.room_within
    (channel_there room channel is.sendable.channel_stored) in
    ap (λ n. read_by reader (message_of
    (from n (codes "PART") (stored_channel room channel ∷ []) (Some text)))) doer.as_is
    ∙ ap (λ c. read_by reader (message_of (from nick (codes "PART") (c ∷ []) (Some text))))
    name.as_is
    ∙ part_read reader nick channel text (expected room known reader
    (Part nick channel text) nick is doer is.doer_far) name.kept is.sendable.text_within.fits
meant_back room known reader (Kick by channel nick text) plain is =
    let doer = nick_kept room by is.room_within is.sendable.by_stored in
    let other = nick_kept room nick is.room_within is.sendable.nick_stored in
    let name = channel_kept room channel is.room_within
    (channel_there room channel is.sendable.channel_stored) in
    ap (λ n. read_by reader (message_of (from n (codes "KICK")
    (stored_channel room channel ∷ stored_nick room nick ∷ []) (Some text)))) doer.as_is
    ∙ ap (λ c. read_by reader (message_of
    (from by (codes "KICK") (c ∷ stored_nick room nick ∷ []) (Some text)))) name.as_is
    ∙ ap (λ k. read_by reader (message_of (from by (codes "KICK") (channel ∷ k ∷ []) (Some text))))
    other.as_is
    ∙ kick_read reader by channel nick text (expected room known reader
    (Kick by channel nick text) by is doer is.doer_far) name.kept other.kept
    is.sendable.text_within.fits
meant_back room known reader (SetTopic by.Home channel text) plain is = absurd is.sendable
meant_back room known reader (SetTopic (by.User nick) channel text) plain is =
    let doer = nick_kept room nick is.room_within is.sendable.by_stored in
    let name = channel_kept room channel is.room_within
    (channel_there room channel is.sendable.channel_stored) in
    ap (λ n. read_by reader (message_of
    (from n (codes "TOPIC") (stored_channel room channel ∷ []) (Some text)))) doer.as_is
    ∙ ap (λ c. read_by reader (message_of (from nick (codes "TOPIC") (c ∷ []) (Some text))))
    name.as_is
    ∙ topic_read reader nick channel text (expected room known reader
    (SetTopic (by.User nick) channel text) nick is doer is.doer_far) name.kept
    is.sendable.text_within.fits
meant_back room known reader (Say by notice to text) plain is =
    let doer = nick_kept room by is.room_within is.sendable.by_stored in
    let command : List ℕ = if notice then codes "NOTICE" else codes "PRIVMSG" in
    ap (λ n. read_by reader
    (message_of (from n command (target_name room to ∷ []) (Some (text.items))))) doer.as_is
    ∙ ap (λ t. read_by reader (message_of (from by command (t ∷ []) (Some (text.items)))))
    (target_as_is room to is.room_within is.sendable.target_stored)
    ∙ text_read reader by notice to text
    (expected room known reader (Say by notice to text) by is doer is.doer_far)
    (target_kept room to is.room_within is.sendable.target_stored)
    (text_fits room by notice to (text.items) is.sendable)
meant_back room known reader (Invite by nick channel) plain is =
    let doer = nick_kept room by is.room_within is.sendable.by_stored in
    let other = nick_kept room nick is.room_within is.sendable.nick_stored in
    let name = channel_kept room channel is.room_within is.sendable.channel_named in
    ap (λ n. read_by reader (message_of (from n (codes "INVITE")
    (stored_nick room nick ∷ stored_channel room channel ∷ []) None))) doer.as_is
    ∙ ap (λ k. read_by reader (message_of
    (from by (codes "INVITE") (k ∷ stored_channel room channel ∷ []) None))) other.as_is
    ∙ ap (λ c. read_by reader (message_of (from by (codes "INVITE") (nick ∷ c ∷ []) None)))
    name.as_is
    ∙ invite_read reader by nick channel (expected room known reader
    (Invite by nick channel) by is doer is.doer_far) other.kept name.kept
meant_back room known reader (ChangeUser nick change) plain is =
    let doer = nick_kept room nick is.room_within is.sendable.nick_stored in
    ap (λ n. read_by reader (message_of (wire_change n change))) doer.as_is
    ∙ change_read reader nick change
    (expected room known reader (ChangeUser nick change) nick is doer is.doer_far) is.told_of
    is.sendable.keeps
