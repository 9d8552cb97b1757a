-- What is written of changes of a channel's modes is read as them, and a line of which something
-- else would be written is refused.
use Rattle.std.proofs.Common.{◌≡◌, ℕ, Bool, true, false, not, ◌&&◌, ◌||◌, ◌++◌, is_some, Option}
use Rattle.std.proofs.Common.{Some, None, Ok, Err, List, [], ◌∷◌, map, if◌then◌else◌, codes}
use Rattle.std.proofs.Common.{append-nil, subst, refl, sym, ◌∙◌, ap}
use Rattle.std.proofs.lemmas.Bool.{and_from, false_from_ne_true, or_left}
use Rattle.std.specs.List.{list_all, cons_option, filter_map, AllByRecursion}
use Rattle.std.specs.Option.{IfSome, option_map, option_map_or}
use Rattle.std.specs.Cmp.{first_so, second_so}
use Rattle.std.specs.Cmp.Lexicographic.{pointwise, pointwise_decides}
use Rattle.std.specs.Str.{bytes_eq}
use Rattle.std.proofs.lemmas.Slice.Eq.{bytes_eq-Decides}
use Rattle.std.proofs.Math.Bool.{false≢true}
use Rattle.irc_line.specs.Messages.{Parsed}
use Rattle.irc_names.specs.Fold.{key}
use Rattle.irc_names.specs.Names.{is_channel, is_nick, is_server}
use Rattle.irc_names.specs.Tables.{row}
use Rattle.irc_users.specs.declared.user.User.{User}
use Rattle.irc_channels.specs.declared.channel.Channel.{Channel}
use Rattle.irc_modes.specs.declared.modes.ModeChange.{ModeChange}
use Rattle.irc_modes.specs.declared.modes.ModeLetter.{ModeLetter}
use Rattle.irc_modes.specs.declared.modes.ModeLetter.TheVariants as letter
use Rattle.irc_modes.specs.ModeLaws.{RewordedIsReadable, RewordedIsWritten}
use Rattle.irc_modes.specs.ModeLaws.{SomeAskedAreReadable, WrittenIsRead, asked_for}
use Rattle.irc_modes.specs.Modes.{is_nil}
use Rattle.irc_modes.specs.ModeWords.{Asked, change, list, modes_read, no_word, unknown}
use Rattle.irc_modes.specs.ModeWritten.{changes_written, letters_text}
use Rattle.irc_modes.specs.Readable.{AreReadable, AreSomeAsked, has_its_word, nothing_left}
use Rattle.irc_modes.specs.Readable.{one_left_out, one_made, word_fits}
use Rattle.irc_room.specs.effect.By.{By}
use Rattle.irc_room.specs.effect.By.TheVariants as by
use Rattle.irc_room.specs.effect.Effect.{Effect}
use Rattle.irc_room.specs.effect.Effect.TheVariants.{ChangeModes}
use Rattle.irc_room.specs.Laws.{NamesAreLineWords}
use Rattle.irc_room.specs.Limits.{IsWithinLimits}
use Rattle.irc_room.specs.Room.{Room}
use Rattle.irc_room.specs.Seen.{changes_words, names_member, stored_channel, stored_nick}
use Rattle.irc_room.specs.Seen.{written_word}
use Rattle.irc_room.specs.Sendable.{IsSentChange, IsSentWord, IsStoredChannel, IsStoredNick}
use Rattle.irc_link_words.specs.declared.fault.WireFault.TheVariants.{Parameters, BadToken}
use Rattle.irc_link_words.specs.declared.fault.WireFault.TheVariants.{WrongDirection, BadName}
use Rattle.irc_link_reader.specs.Means.{Checked, first_fault, of_either, read_by, user_mode_line}
use Rattle.irc_readback.specs.ModesTaken.{AreSentOn, AreTold, OtherwiseWrittenIsRefused}
use Rattle.irc_readback.specs.ModesTaken.{TakenCanBeSentOn, TakenIsReadAgain, TakenIsReadByTheNext}
use Rattle.irc_readback.specs.ModesTaken.{TakenIsWrittenSo, WrittenChangesAreRead, mode_message}
use Rattle.irc_readback.specs.ModesTaken.{nothing, stored_changes, told}
use Rattle.irc_link_reader.specs.Reader.{Reader, may_come}
use Rattle.irc_link_words.specs.Words.{are_changes, are_members_named, changes_of, is_for_channel}
use Rattle.irc_link_words.specs.Words.{is_mode_word, keeps_word, made, names_nick}
use Rattle.irc_readback.specs.Lemmas.IntroductionRead.{no_fault}
use Rattle.irc_readback.specs.Lemmas.NameKinds.{channel-for_channel, nick-no_server}
use Rattle.irc_readback.specs.Lemmas.ModeWords.{mode_words}
use Rattle.irc_readback.specs.Lemmas.StoredNames.{channel_stays, nick_stays}

-- ---- the words of changes, by the rules of their letters

keeps_so : (plus : Bool) (which : ModeLetter) (word : Option (List ℕ)) → word_fits plus which word
    ≡ true → (if names_member which then is_some word else word_fits plus which word) ≡ true
keeps_so plus letter.Operator None so = absurd (false≢true so)
keeps_so plus letter.Operator (Some word) so = refl
keeps_so plus letter.Voice None so = absurd (false≢true so)
keeps_so plus letter.Voice (Some word) so = refl
keeps_so plus letter.Key word so = so
keeps_so plus letter.Limit word so = so
keeps_so plus letter.Ban word so = so
keeps_so plus letter.InviteOnly word so = so
keeps_so plus letter.Moderated word so = so
keeps_so plus letter.NoOutside word so = so
keeps_so plus letter.TopicLocked word so = so
keeps_so plus letter.Private word so = so
keeps_so plus letter.Secret word so = so

pub nick_so : (member fits : Bool) → fits ≡ true → (if member then fits else true) ≡ true
nick_so true fits so = so
nick_so false fits so = refl

both_so : (member some fits : Bool) → (if member then some else fits) ≡ true
    → (if member then fits else true) ≡ true → fits ≡ true
both_so true some fits keeps named = named
both_so false some fits keeps named = keeps

words_keep : (changes : List ModeChange) → list_all has_its_word changes ≡ true
    → list_all keeps_word changes ≡ true
words_keep [] all = refl
words_keep (c ∷ changes) all =
    and_from (keeps_word c) _ (keeps_so c.plus c.letter c.word (first_so (has_its_word c) _ all))
    (words_keep changes (second_so (has_its_word c) _ all))

members_named : (changes : List ModeChange) → list_all has_its_word changes ≡ true
    → are_members_named changes ≡ true
members_named [] all = refl
members_named (c ∷ changes) all =
    and_from (names_nick c) _
    (nick_so (names_member c.letter) (has_its_word c) (first_so (has_its_word c) _ all))
    (members_named changes (second_so (has_its_word c) _ all))

all_worded : (changes : List ModeChange) → list_all keeps_word changes ≡ true
    → are_members_named changes ≡ true → list_all has_its_word changes ≡ true
all_worded [] keep named = refl
all_worded (c ∷ changes) keep named =
    and_from (has_its_word c) _
    (both_so (names_member c.letter) (is_some c.word) (has_its_word c)
    (first_so (keeps_word c) _ keep) (first_so (names_nick c) _ named))
    (all_worded changes (second_so (keeps_word c) _ keep) (second_so (names_nick c) _ named))

-- ---- words and changes

-- words are the same just where each is, byte by byte
same_words : (left right : List (List ℕ)) → left ≡ right → pointwise bytes_eq left right ≡ true
same_words left right is = (pointwise_decides bytes_eq-Decides left right).1 is

are_same : (left right : List (List ℕ)) → pointwise bytes_eq left right ≡ true → left ≡ right
are_same left right is = (pointwise_decides bytes_eq-Decides left right).0 is

made_again : (changes : List ModeChange) → filter_map made (map asked_for changes) ≡ changes
made_again [] = refl
made_again (c ∷ changes) = ap (λ cs. c ∷ cs) (made_again changes)

pub changes_again : WrittenIsRead → (changes : List ModeChange) → AreReadable changes
    → changes_of (changes_written changes) ≡ changes
changes_again written changes readable = ap (filter_map made) (written changes readable)
    ∙ made_again changes

pub changes_taken : WrittenIsRead → NamesAreLineWords → (changes : List ModeChange)
    → AreReadable changes → are_changes (changes_written changes) ≡ true
changes_taken written names changes readable =
    let again = changes_again written changes readable in
    and_from (list_all is_mode_word (changes_written changes)) _ (mode_words names changes readable)
    (and_from (list_all keeps_word (changes_of (changes_written changes))) _
    (ap (list_all keeps_word) again ∙ words_keep changes readable.worded)
    (same_words _ _ (ap changes_written again)))

pub rewritten : (words : List (List ℕ)) → are_changes words ≡ true
    → changes_written (changes_of words) ≡ words
rewritten words taken =
    are_same _ words (second_so (list_all keeps_word (changes_of words)) _
    (second_so (list_all is_mode_word words) _ taken))

pub words_kept : (words : List (List ℕ)) → are_changes words ≡ true
    → list_all keeps_word (changes_of words) ≡ true
words_kept words taken = first_so (list_all keeps_word (changes_of words)) _
    (second_so (list_all is_mode_word words) _ taken)

pub taken_is_read_again : TakenIsReadAgain
taken_is_read_again words taken =
    (ap are_changes (rewritten words taken) ∙ taken, ap changes_of (rewritten words taken))

-- ---- the words that a room writes of changes

stored_so : (room : Room) (nick : List ℕ) → IsStoredNick room nick → stored_nick room nick ≡ nick
stored_so room nick is = by (row room.users (key nick)) is
  where
    by : (o : Option User) → option_map (λ (user : User). user.nick) o ≡ Some nick
        → option_map_or (λ (user : User). user.nick) o nick ≡ nick
    by None is = cc
    by (Some user) is = cc is

channel_stored_so : (room : Room) (name : List ℕ) → IsStoredChannel room name
    → stored_channel room name ≡ name
channel_stored_so room name is = by (row room.channels (key name)) is
  where
    by : (o : Option Channel) → option_map (λ (channel : Channel). channel.name) o ≡ Some name
        → option_map_or (λ (c : Channel). c.name) o name ≡ name
    by None is = cc
    by (Some channel) is = cc is

word_stored : (room : Room) (member : Bool) (word : Option (List ℕ)) → IfSome word
    (IsSentWord room member) → (if member then option_map (stored_nick room) word else word) ≡ word
word_stored room true None sent = refl
word_stored room true (Some word) sent = ap Some (stored_so room word sent)
word_stored room false word sent = refl

words_stored : (room : Room) (changes : List ModeChange)
    → AllByRecursion (IsSentChange room) changes
    → filter_map (written_word room) changes ≡ filter_map (λ (c : ModeChange). c.word) changes
words_stored room [] sent = refl
words_stored room (c ∷ changes) sent =
    ap (λ o. cons_option o (filter_map (written_word room) changes))
    (word_stored room (names_member c.letter) c.word sent.0)
    ∙ ap (cons_option c.word) (words_stored room changes sent.1)

pub words_written : (room : Room) (changes : List ModeChange) → AllByRecursion
    (IsSentChange room) changes → changes_words room changes ≡ changes_written changes
words_written room changes sent =
    ap (λ ws. letters_text changes ∷ ws) (words_stored room changes sent)

-- ---- a line of a channel

-- what is looked at in it, by whether its words are those of some changes
abbrev by_words : Reader → List ℕ → List ℕ → Bool → List ModeChange → Checked
by_words reader name channel are changes =
    of_either reader name are (is_channel channel && are_members_named changes) channel
    (λ doer. ChangeModes doer channel changes)

for_channel : (reader : Reader) (name channel : List ℕ) (words : List (List ℕ))
    → is_for_channel channel ≡ true → read_by reader (mode_message name channel words)
    ≡ first_fault (by_words reader name channel (are_changes words) (changes_of words))
for_channel reader name channel words is =
    ap (λ b. first_fault (if b then by_words reader name channel (are_changes words)
    (changes_of words) else user_mode_line reader name channel words)) is

-- a line that is taken has no fault
pub record IsFaultless (parameters names : Bool) (means effects : List Effect) : Type 0 where
  pub parameters_so : parameters ≡ true
  pub names_so : names ≡ true
  pub means_so : means ≡ effects

taken_so : (parameters token direction names : Bool) (means effects : List Effect)
    → (if not parameters then Err Parameters
    else (if not token then Err BadToken else (if not direction then Err WrongDirection
    else (if not names then Err BadName else Ok means)))) ≡ Ok effects
    → IsFaultless parameters names means effects
taken_so true true true true means effects is =
    record { parameters_so = refl; names_so = refl; means_so = cc is }
taken_so false token direction names means effects is = cc is
taken_so true false direction names means effects is = cc is
taken_so true true false names means effects is = cc is
taken_so true true true false means effects is = cc is

told_by : (server far there : Bool) (name channel : List ℕ)
    (words : List (List ℕ)) → AreTold channel words
    (if server then (if far then ChangeModes by.Home channel (changes_of words) ∷ [] else [])
    else (if there then ChangeModes (by.User name) channel (changes_of words) ∷ [] else []))
told_by true true there name channel words = told by.Home
told_by true false there name channel words = nothing
told_by false far true name channel words = told (by.User name)
told_by false far false name channel words = nothing

faultless : (reader : Reader) (name channel : List ℕ) (words : List (List ℕ))
    (effects : List Effect) → is_for_channel channel ≡ true
    → read_by reader (mode_message name channel words) ≡ Ok effects
    → IsFaultless (are_changes words) ((is_nick name || is_server name)
    && (is_channel channel && are_members_named (changes_of words)))
    (by_words reader name channel (are_changes words) (changes_of words)).effects effects
faultless reader name channel words effects is ok =
    let checked = by_words reader name channel (are_changes words) (changes_of words) in
    taken_so (are_changes words) true checked.direction checked.names checked.effects effects
    (sym (for_channel reader name channel words is) ∙ ok)

named_so : (from channel members : Bool) → (from && (channel && members)) ≡ true
    → (channel ≡ true) × (members ≡ true)
named_so true true true so = (refl, refl)
named_so false channel members so = cc so
named_so true false members so = cc so
named_so true true false so = cc so

pub taken_is_written_so : TakenIsWrittenSo
taken_is_written_so reader name channel words effects is ok =
    let so = faultless reader name channel words effects is ok in
    let named = (named_so _ _ _ so.names_so).1 in
    record {
      taken = so.parameters_so;
      rewritten = rewritten words so.parameters_so;
      named = named;
      worded = all_worded (changes_of words) (words_kept words so.parameters_so) named;
      effects_told = subst (AreTold channel words) so.means_so
          (told_by (is_server name) (reader.has_far channel)
          (is_some (reader.home name) && true) name channel words);
    }

pub otherwise_written_is_refused : OtherwiseWrittenIsRefused
otherwise_written_is_refused reader name channel words is other =
    for_channel reader name channel words is
    ∙ ap (λ b. first_fault (by_words reader name channel b (changes_of words)))
    (false_from_ne_true (are_changes words) (λ taken. other (rewritten words taken)))

-- ---- what is written is read

user_told : (server far there : Bool) (one other : List Effect) → server ≡ false → there ≡ true
    → (if server then (if far then one else []) else (if there && true then other else [])) ≡ other
user_told server far there one other out is = rw (out, is)

read_so : (reader : Reader) (nick channel : List ℕ) (words : List (List ℕ))
    (changes : List ModeChange) → is_nick nick ≡ true → is_channel channel ≡ true
    → is_some (reader.home nick) ≡ true → may_come reader nick ≡ true → are_changes words ≡ true
    → are_members_named changes ≡ true → changes_of words ≡ changes → read_by reader
    (mode_message nick channel words) ≡ Ok (ChangeModes (by.User nick) channel changes ∷ [])
read_so reader nick channel words changes nick_is channel_is there comes taken named same =
    let effect : By → Effect = λ doer. ChangeModes doer channel changes in
    for_channel reader nick channel words (channel-for_channel channel channel_is)
    ∙ ap (λ cs. first_fault (by_words reader nick channel (are_changes words) cs)) same
    ∙ no_fault (by_words reader nick channel (are_changes words) changes) taken refl comes
    (and_from (is_nick nick || is_server nick) _ (or_left (is_nick nick) _ nick_is)
    (and_from (is_channel channel) (are_members_named changes) channel_is named))
    ∙ ap Ok (user_told (is_server nick) (reader.has_far channel) (is_some (reader.home nick))
    (effect by.Home ∷ []) (effect (by.User nick) ∷ [])
    (nick-no_server nick nick_is) there)

abbrev mode_of_words : List ℕ → List ℕ → List (List ℕ) → Parsed
mode_of_words name channel words =
    record { prefix = Some name; command = codes "MODE"; params = (channel ∷ words) ++ [] }

message_so : (name nick there channel : List ℕ) (others words : List (List ℕ)) → name ≡ nick → there
    ≡ channel → others ≡ words → mode_of_words name there others ≡ mode_message nick channel words
message_so name nick there channel others words one two three =
    ap (λ n. mode_of_words n there others) one
    ∙ ap (λ c. mode_of_words nick c others) two
    ∙ ap (mode_of_words nick channel) three
    ∙ ap (λ (ps : List (List ℕ)). record {
      prefix = Some nick;
      command = codes "MODE";
      params = ps;
    }) (append-nil (channel ∷ words))

pub written_changes_are_read : WrittenIsRead → NamesAreLineWords → WrittenChangesAreRead
written_changes_are_read written names room known reader nick channel changes is =
    ap (read_by reader)
    (message_so (stored_nick room nick) nick (stored_channel room channel) channel
    (changes_words room changes) (changes_written changes)
    (stored_so room nick is.sent.by_stored) (channel_stored_so room channel is.sent.channel_stored)
    (words_written room changes is.sent.words_sent))
    ∙ read_so reader nick channel
    (changes_written changes) changes is.nick_named is.channel_named is.known_there is.comes_so
    (changes_taken written names changes is.sent.changes_readable)
    (members_named changes is.sent.changes_readable.worded)
    (changes_again written changes is.sent.changes_readable)

-- ---- what was taken can be sent on

filled_so : (words : List (List ℕ)) → are_changes words ≡ true → is_nil (changes_of words) ≡ false
filled_so words taken = by (changes_of words) (rewritten words taken)
  where
    empty : (words : List (List ℕ)) → [] ∷ [] ≡ words → are_changes words ≡ true → false ≡ true
    empty words is taken = ap are_changes is ∙ taken

    by : (changes : List ModeChange) → changes_written changes ≡ words → is_nil changes ≡ false
    by [] is = absurd (false≢true (empty words is taken))
    by (c ∷ changes) is = refl

some_asked : (items : List Asked) → list_all has_its_word (filter_map made items) ≡ true
    → AreSomeAsked items (filter_map made items)
some_asked [] so = nothing_left
some_asked (change plus which word ∷ items) so =
    one_made
    (record { given = word; asked = refl; worded = first_so (word_fits plus which word) _ so })
    (some_asked items (second_so (word_fits plus which word) _ so))
some_asked (list ∷ items) so = one_left_out (some_asked items so)
some_asked (no_word ∷ items) so = one_left_out (some_asked items so)
some_asked (unknown byte ∷ items) so = one_left_out (some_asked items so)

-- what is known in the crates below
pub record IsKnownOfModes : Type 0 where
  pub written : WrittenIsRead
  pub asked : SomeAskedAreReadable
  pub reworded_written : RewordedIsWritten
  pub reworded_readable : RewordedIsReadable
  pub names : NamesAreLineWords

readable_so : IsKnownOfModes → (words : List (List ℕ)) → are_changes words ≡ true
    → list_all has_its_word (changes_of words) ≡ true → AreReadable (changes_of words)
readable_so below words taken worded = below.asked words (changes_of words)
    (some_asked (modes_read words) worded) (filled_so words taken)

-- a word stays one of its letter where the room spells it
stored_fits : (room : Room) → IsWithinLimits room → (plus : Bool) (which : ModeLetter)
    (word : Option (List ℕ)) → word_fits plus which word ≡ true → word_fits plus which
    (if names_member which then option_map (stored_nick room) word else word) ≡ true
stored_fits room within plus letter.Operator None so = absurd (false≢true so)
stored_fits room within plus letter.Operator (Some word) so = nick_stays room word within so
stored_fits room within plus letter.Voice None so = absurd (false≢true so)
stored_fits room within plus letter.Voice (Some word) so = nick_stays room word within so
stored_fits room within plus letter.Key word so = so
stored_fits room within plus letter.Limit word so = so
stored_fits room within plus letter.Ban word so = so
stored_fits room within plus letter.InviteOnly word so = so
stored_fits room within plus letter.Moderated word so = so
stored_fits room within plus letter.NoOutside word so = so
stored_fits room within plus letter.TopicLocked word so = so
stored_fits room within plus letter.Private word so = so
stored_fits room within plus letter.Secret word so = so

sent_on : IsKnownOfModes → (room : Room) (words : List (List ℕ)) → IsWithinLimits room
    → are_changes words ≡ true → list_all has_its_word (changes_of words) ≡ true
    → AreSentOn room words
sent_on below room words within taken worded =
    let changes = changes_of words in
    let readable = readable_so below words taken worded in
    let again = stored_changes room changes in
    let readable_again = below.reworded_readable (written_word room) changes
    (λ (c : ModeChange). stored_fits room within c.plus c.letter c.word) readable in
    let words_are : changes_words room changes ≡ changes_written again =
    below.reworded_written (written_word room) changes in
    record {
      readable = readable;
      taken =
          ap are_changes words_are ∙ changes_taken below.written below.names again readable_again;
      same = ap changes_of words_are ∙ changes_again below.written again readable_again;
      named = members_named again readable_again.worded;
    }

pub taken_can_be_sent_on : IsKnownOfModes → TakenCanBeSentOn
taken_can_be_sent_on below room reader name channel words effects within is ok =
    let so = taken_is_written_so reader name channel words effects is ok in
    sent_on below room words within so.taken so.worded

pub taken_is_read_by_the_next : IsKnownOfModes → TakenIsReadByTheNext
taken_is_read_by_the_next below room known reader next nick channel words effects within named is ok
    there comes =
    let sent = taken_can_be_sent_on below room reader nick channel words effects within is ok in
    let channel_is =
    (named_so _ _ _ (faultless reader nick channel words effects is ok).names_so).0 in
    ap (read_by next)
    (message_so (stored_nick room nick) (stored_nick room nick) (stored_channel room channel)
    (stored_channel room channel)
    (changes_words room (changes_of words)) (changes_words room (changes_of words)) refl refl refl)
    ∙ read_so next (stored_nick room nick) (stored_channel room channel)
    (changes_words room (changes_of words)) (stored_changes room (changes_of words))
    (nick_stays room nick within named)
    (channel_stays room channel within channel_is) there comes sent.taken sent.named sent.same
