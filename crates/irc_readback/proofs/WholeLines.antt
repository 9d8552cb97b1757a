-- The lines that are written of effects fit: by the limits, or since the line for clients does,
-- which is longer.
use Rattle.std.proofs.Common.{◌≡◌, ℕ, suc, ◌+◌, ◌*◌, ◌≤◌, Bool, true, false, ◌++◌, if◌then◌else◌}
use Rattle.std.proofs.Common.{Option, Some, None, List, [], ◌∷◌, length, codes, decimal, sym, subst}
use Rattle.std.proofs.Common.{ap, arith, lit≤}
use Rattle.std.specs.List.{list_all, filter_map}
use Rattle.std.specs.Cmp.{first_so, second_so}
use Rattle.std.proofs.lemmas.Bool.Decides.{nat_tests}
use Rattle.std.proofs.lemmas.Fmt.{length-decimal-le}
use Rattle.std.proofs.Common.{length-append}
use Rattle.irc_line.specs.Bytes.{crlf}
use Rattle.irc_line.specs.Messages.{joined_text, last_text, line_text, middle_text, nobody}
use Rattle.irc_line.specs.Messages.{prefix_text, text}
use Rattle.irc_names.specs.Limits.{max_nick}
use Rattle.irc_names.specs.Names.{fits, is_host, is_server}
use Rattle.irc_users.specs.declared.user.User.{User}
use Rattle.irc_modes.specs.declared.modes.ModeChange.{ModeChange}
use Rattle.irc_modes.specs.ModeWritten.{changes_written, letters_text}
use Rattle.irc_modes.specs.Readable.{AreReadable}
use Rattle.irc_room.specs.effect.By.TheVariants as by
use Rattle.irc_room.specs.effect.Effect.TheVariants.{AddUser}
use Rattle.irc_room.specs.effect.Effect.TheVariants.{ChangeModes, SetTopic}
use Rattle.irc_room.specs.Laws.{IsWhole, NamedIsWholeToo, NamesAreLineWords, SentFitsItsLine}
use Rattle.irc_room.specs.Limits.{IsWithinLimits}
use Rattle.irc_room.specs.Room.{Room}
use Rattle.irc_room.specs.Seen.{changes_words, stored_channel}
use Rattle.irc_room.specs.Sendable.{IsStoredChannel}
use Rattle.irc_routes.specs.Known.{Known}
use Rattle.irc_readback.specs.WholeLines.{IsToldUser, ToldFitsItsLine, ToldIsWhole}
use Rattle.irc_link_words.specs.Words.{is_mode_word, no_mode, with_i}
use Rattle.irc_link_writer.specs.Written.{from, introduction, next_distance, wire, written_token}
use Rattle.irc_line.specs.Lemmas.CutLaws.{cut_all}
use Rattle.irc_readback.specs.Lemmas.LinesReadBack.{by_nickname, channel_short, four_lengths}
use Rattle.irc_readback.specs.Lemmas.LinesReadBack.{named_length, nick_short, viewer, wire_whole}
use Rattle.irc_readback.specs.Lemmas.ModesRead.{words_written}
use Rattle.irc_readback.specs.Lemmas.StoredNames.{channel_kept, channel_there}
use Rattle.irc_modes.specs.Lemmas.FewChanges.{letters_few}
use Rattle.irc_readback.specs.Lemmas.ModeWords.{mode_words, worded_counted}

-- ---- lengths

words_more : (word : List ℕ) (words : List (List ℕ))
    → length (middle_text (word ∷ words)) ≡ 1 + length word + length (middle_text words)
words_more word words = let parts = length-append (32 ∷ word) (middle_text words) in
    omega (arith, parts)

-- a line from a name
named_size : (all prefix name command middle last : ℕ) → all ≡ prefix + (command + (middle + last))
    → prefix ≡ name + 2 → name ≤ 63 → command ≤ 5 → middle + last ≤ 440 → all ≤ 510
named_size all prefix name command middle last all_is prefix_is name_short command_short
    rest_short = omega arith

from_fits : (name command : List ℕ) (middle : List (List ℕ)) (last : Option (List ℕ)) → length name
    ≤ 63 → length command ≤ 5 → length (middle_text middle) + length (last_text last) ≤ 440
    → IsWhole (from name command middle last)
from_fits name command middle last name_short command_short rest_short =
    named_size (length (joined_text (from name command middle last)))
    (length (prefix_text (Some name))) (length name) (length command)
    (length (middle_text middle)) (length (last_text last))
    (four_lengths (prefix_text (Some name)) command (middle_text middle) (last_text last))
    (named_length name) name_short command_short rest_short

host_short : (host : List ℕ) → is_host host ≡ true → length host ≤ 63
unfolding is_host
host_short host is = grind (arith, nat_tests)

server_short : (server : List ℕ) → is_server server ≡ true → length server ≤ 63
unfolding is_server
server_short server is = grind (arith, nat_tests)

stored_channel_short : (room : Room) (name : List ℕ) → IsWithinLimits room
    → IsStoredChannel room name → length (stored_channel room name) ≤ 50
stored_channel_short room name within is =
    let known = channel_kept room name within (channel_there room name is) in
    subst (λ n. length n ≤ 50) (sym known.as_is) (channel_short name known.kept)

-- ---- an introduction

number_short : (n : ℕ) → n ≤ 4294967295 → length (decimal n) ≤ 10
number_short n most =
    length-decimal-le 10 n (omega arith) (omega (arith, most)) (omega (arith, most))

mode_short : (invisible : Bool) → length (if invisible then with_i else no_mode) ≤ 2
mode_short true = lit≤ tt
mode_short false = lit≤ tt

six_words : (all one two three four five six a b c d e f : ℕ) → one ≡ 1 + a + two
    → two ≡ 1 + b + three → three ≡ 1 + c + four → four ≡ 1 + d + five → five ≡ 1 + e + six
    → six ≡ 1 + f + 0 → a ≤ max_nick → b ≤ 10 → c ≤ 10 → d ≤ 63 → e ≤ 10 → f ≤ 2 → (real : ℕ)
    → real ≤ 50 → all ≡ 0 + (4 + (one + suc (suc real))) → all ≤ 510
six_words all one two three four five six a b c d e f one_is two_is three_is four_is five_is six_is
    a_fits b_fits c_fits d_fits e_fits f_fits real real_fits
    all_is =
    omega arith

introduced_fits : (nick distance name host token mode real : List ℕ) → length nick ≤ max_nick
    → length distance ≤ 10 → length name ≤ 10 → length host ≤ 63 → length token ≤ 10 → length mode
    ≤ 2 → length real ≤ 50 → IsWhole (record {
      sender = nobody;
      command = codes "NICK";
      middle = nick ∷ distance ∷ name ∷ host ∷ token ∷ mode ∷ [];
      last = Some real;
    })
introduced_fits nick distance name host token mode real nick_fits distance_fits name_fits host_fits
    token_fits mode_fits real_fits =
    let middle = nick ∷ distance ∷ name ∷ host ∷ token ∷ mode ∷ [] in
    six_words (length (joined_text (record {
      sender = nobody;
      command = codes "NICK";
      middle = middle;
      last = Some real;
    }))) (length (middle_text middle))
    (length (middle_text (distance ∷ name ∷ host ∷ token ∷ mode ∷ [])))
    (length (middle_text (name ∷ host ∷ token ∷ mode ∷ [])))
    (length (middle_text (host ∷ token ∷ mode ∷ []))) (length (middle_text (token ∷ mode ∷ [])))
    (length (middle_text (mode ∷ [])))
    (length nick) (length distance) (length name) (length host) (length token) (length mode)
    (words_more nick (distance ∷ name ∷ host ∷ token ∷ mode ∷ []))
    (words_more distance (name ∷ host ∷ token ∷ mode ∷ []))
    (words_more name (host ∷ token ∷ mode ∷ [])) (words_more host (token ∷ mode ∷ []))
    (words_more token (mode ∷ [])) (words_more mode [])
    nick_fits distance_fits name_fits host_fits token_fits mode_fits (length real) real_fits
    (four_lengths [] (codes "NICK") (middle_text middle) (32 ∷ 58 ∷ real))

user_fits : (known : Known) (user : User) → IsToldUser known user
    → IsWhole (introduction known user)
user_fits known user told =
    introduced_fits user.nick (decimal (next_distance known user.home)) user.user user.host
    (decimal (written_token known user.home))
    (if user.invisible then with_i else no_mode) user.real (nick_short user.nick told.within.nick)
    (number_short (next_distance known user.home) told.distance)
    told.within.name.fits (host_short user.host told.within.host)
    (number_short (written_token known user.home) told.number) (mode_short user.invisible)
    told.within.real_fits

-- ---- what a server itself does

topic_size : (all channel text : ℕ) → all ≡ 1 + channel + 0 → channel ≤ 50 → text ≤ 160
    → all + suc (suc text) ≤ 440
topic_size all channel text all_is channel_fits text_fits = omega arith

topic_fits : (name channel topic : List ℕ) → length name ≤ 63 → length channel ≤ 50
    → length topic ≤ 160 → IsWhole (from name (codes "TOPIC") (channel ∷ []) (Some topic))
topic_fits name channel topic name_short channel_fits topic_short =
    from_fits name (codes "TOPIC") (channel ∷ []) (Some topic) name_short (lit≤ tt)
    (topic_size (length (middle_text (channel ∷ []))) (length channel) (length topic)
    (words_more channel []) channel_fits topic_short)

mode_word_short : (word : List ℕ) → is_mode_word word ≡ true → length word ≤ 90
mode_word_short word is = grind (arith, nat_tests)

more_words : (all word rest count : ℕ) → all ≡ 1 + word + rest → word ≤ 90 → rest ≤ 91 * count
    → all ≤ 91 * suc count
more_words all word rest count all_is word_fits rest_fits = omega arith

words_short : (words : List (List ℕ)) → list_all is_mode_word words ≡ true
    → length (middle_text words) ≤ 91 * length words
words_short [] so = omega arith
words_short (word ∷ words) so =
    more_words (length (middle_text (word ∷ words))) (length word) (length (middle_text words))
    (length words) (words_more word words)
    (mode_word_short word (first_so (is_mode_word word) _ so))
    (words_short words (second_so (is_mode_word word) _ so))

mode_size : (all changed channel letters words count : ℕ) → all ≡ 1 + channel + changed
    → changed ≡ 1 + letters + words → channel ≤ 50 → letters ≤ 22 → words ≤ 91 * count → count ≤ 3
    → all + 0 ≤ 440
mode_size all changed channel letters words count all_is changed_is channel_fits letters_fit
    words_fit few = omega arith

modes_fit : NamesAreLineWords → (name channel : List ℕ) (changes : List ModeChange)
    → length name ≤ 63 → length channel ≤ 50 → AreReadable changes
    → IsWhole (from name (codes "MODE") (channel ∷ changes_written changes) None)
modes_fit names name channel changes name_short channel_fits readable =
    let parameters = filter_map (λ (c : ModeChange). c.word) changes in
    let words = second_so (is_mode_word (letters_text changes)) (list_all is_mode_word parameters)
    (mode_words names changes readable) in
    from_fits name (codes "MODE") (channel ∷ changes_written changes) None name_short (lit≤ tt)
    (mode_size (length (middle_text (channel ∷ changes_written changes)))
    (length (middle_text (changes_written changes))) (length channel)
    (length (letters_text changes)) (length (middle_text parameters)) (length parameters)
    (words_more channel (changes_written changes))
    (words_more (letters_text changes) parameters) channel_fits (letters_few changes readable)
    (words_short parameters words)
    (subst (λ n. n ≤ 3) (sym (worded_counted changes)) readable.few))

-- ---- each effect

pub told_fits_its_line : SentFitsItsLine → NamedIsWholeToo → NamesAreLineWords → ToldFitsItsLine
told_fits_its_line fits shorter names room known (AddUser user) within told =
    user_fits known user told
told_fits_its_line fits shorter names room known (ChangeModes by.Home channel changes) within told =
    subst (λ (words : List (List ℕ)). IsWhole
    (from known.name (codes "MODE") (stored_channel room channel ∷ words) None))
    (sym (words_written room changes told.words_sent))
    (modes_fit names known.name (stored_channel room channel) changes
    (server_short known.name told.named)
    (stored_channel_short room channel within told.channel_stored) told.changes_readable)
told_fits_its_line fits shorter names room known (SetTopic by.Home channel text) within told =
    topic_fits known.name (stored_channel room channel) text (server_short known.name told.named)
    (stored_channel_short room channel within told.channel_stored) told.topic_within.fits
told_fits_its_line fits shorter names room known
    (ChangeModes (by.User nick) channel changes) within told =
    by_nickname shorter room nick (codes "MODE")
    (stored_channel room channel ∷ changes_words room changes) None told.by_stored
    (fits room (ChangeModes (by.User nick) channel changes) viewer within told)
told_fits_its_line fits shorter names room known other within told =
    wire_whole fits shorter room known other tt within told

-- what fits is written whole
pub told_is_whole : SentFitsItsLine → NamedIsWholeToo → NamesAreLineWords → ToldIsWhole
unfolding line_text
told_is_whole fits shorter names room known effect within told =
    ap (λ line. line ++ crlf) (cut_all (joined_text (wire room known effect))
    (told_fits_its_line fits shorter names room known effect within told))
