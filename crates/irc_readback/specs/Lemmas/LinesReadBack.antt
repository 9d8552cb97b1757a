-- The line of an effect is read as the message that it was written from.
use Rattle.std.proofs.Common.{◌≡◌, ◌≢◌, ◌+◌, ◌≤◌, ℕ, Bool, true, false, not, ◌&&◌, ◌||◌, Option}
use Rattle.std.proofs.Common.{Some, None, unwrap_or, Ok, List, [], ◌∷◌, ◌++◌, codes, length}
use Rattle.std.proofs.Common.{if◌then◌else◌, option_to_list, option_map, subst, refl, sym, ◌∙◌, ap}
use Rattle.std.proofs.Common.{suc, arith, length-append, lit≤, IfSome}
use Rattle.std.specs.List.{list_all, AllByRecursion}
use Rattle.std.specs.Option.{option_map_or}
use Rattle.std.proofs.lemmas.Bool.Decides.{nat_tests}
use Rattle.std.proofs.lemmas.List.Folds.{list_all-append, list_any-append}
use Rattle.std.specs.Cmp.{second_so}
use Rattle.irc_line.specs.Bytes.{space, is_nul, is_space, is_colon, has_nul, begins}
use Rattle.irc_line.specs.Carried.{is_carried, IsCarried}
use Rattle.irc_line.specs.Laws.{IsReadSoAlone, WrittenIsLine, WrittenIsRead}
use Rattle.irc_line.specs.Limits.{max_parameters}
use Rattle.irc_line.specs.Messages.{IsPlain, IsPlainWord, Written, joined_text, line_text}
use Rattle.irc_line.specs.Messages.{last_text, message_of, middle_text, prefix_text}
use Rattle.irc_line.specs.Reading.{read_of}
use Rattle.irc_names.specs.Fold.{key}
use Rattle.irc_names.specs.Limits.{max_nick, max_channel, max_words}
use Rattle.irc_names.specs.Names.{IsNick, IsChannel, is_nick, is_channel}
use Rattle.irc_names.specs.Tables.{row}
use Rattle.irc_users.specs.declared.user.User.{User}
use Rattle.irc_users.specs.declared.user_change.UserChange.{UserChange}
use Rattle.irc_users.specs.UserTable.{new_user}
use Rattle.irc_room.specs.effect.By.TheVariants as by
use Rattle.irc_room.specs.effect.Effect.{Effect}
use Rattle.irc_room.specs.effect.Effect.TheVariants.{AddUser, Rename, Quit, Join, Part, Kick}
use Rattle.irc_room.specs.effect.Effect.TheVariants.{ChangeModes, SetTopic, Say, Invite, ChangeUser}
use Rattle.irc_room.specs.effect.Target.{Target}
use Rattle.irc_room.specs.effect.Target.TheVariants as target
use Rattle.irc_room.specs.Laws.{IsWhole, NamedIsWholeToo, NamesAreLineWords, SentFitsItsLine}
use Rattle.irc_room.specs.Limits.{IsChangeWithin, IsWithinLimits}
use Rattle.irc_room.specs.Room.{Room}
use Rattle.irc_room.specs.Seen.{full_sender, from_nick, parts_of, stored_nick, stored_channel}
use Rattle.irc_room.specs.Seen.{target_name}
use Rattle.irc_room.specs.Sendable.{IsChannelOrNew, IsSendable, IsStoredNick, IsSentTarget}
use Rattle.irc_routes.specs.Known.{Known}
use Rattle.irc_readback.specs.ReadBack.{IsPlainEffect}
use Rattle.irc_link_words.specs.Lemmas.UserChangesRead.{are_change_words}
use Rattle.irc_link_words.specs.UserChanges.{change_letters, change_text}
use Rattle.irc_link_words.specs.Words.{op_mark, marked}
use Rattle.irc_link_writer.specs.Written.{from, wire, wire_change}
use Rattle.irc_readback.specs.Lemmas.StoredNames.{nick_kept, channel_kept, channel_there}

-- ---- what a line cannot carry is not in a text that it can

both : (a b : Bool) → a ≡ true → b ≡ true → (a && b) ≡ true
both a b p q = cc

byte_no_nul : (nul other rest : Bool) → (not (nul || other) && rest) ≡ true → nul ≡ false
byte_no_nul true other rest h = cc h
byte_no_nul false other rest h = refl

pub carried_no_nul : (text : List ℕ) → IsCarried text → has_nul text ≡ false
carried_no_nul [] is = refl
carried_no_nul (byte ∷ bytes) is =
    ap (λ b. b || has_nul bytes) (byte_no_nul (is_nul byte) _ (is_carried bytes) is)
    ∙ carried_no_nul bytes (second_so _ (is_carried bytes) is)

-- ---- words that are read again as they were written

pub command_plain : (first : ℕ) (rest : List ℕ) → list_all (λ b. not (is_space b)) (first ∷ rest)
    ≡ true → is_colon first ≡ false → has_nul (first ∷ rest) ≡ false → IsPlainWord (first ∷ rest)
command_plain first rest no_space no_colon no_nul =
    record { is_some = λ e. cc e; no_space = no_space; no_colon = no_colon; no_nul = no_nul }

-- with the mark of an operator behind it too
marked_plain : (channel : List ℕ) (op : Bool) → IsPlainWord channel
    → IsPlainWord (marked channel op)
marked_plain channel false is = is
marked_plain channel true is = record {
  is_some = λ e. is.is_some (front_nil channel op_mark e);
  no_space =
      list_all-append (λ b. not (is_space b)) channel op_mark
      ∙ both (list_all (λ b. not (is_space b)) channel)
      (list_all (λ b. not (is_space b)) op_mark) is.no_space refl;
  no_colon = first_kept channel op_mark is.is_some is.no_colon;
  no_nul = list_any-append is_nul channel op_mark ∙ ap (λ b. b || has_nul op_mark) is.no_nul;
}
  where
    front_nil : (front back : List ℕ) → front ++ back ≡ [] → front ≡ []
    front_nil [] back e = refl
    front_nil (x ∷ front) back e = cc e

    first_kept : (front back : List ℕ) → front ≢ [] → begins is_colon front ≡ false
        → begins is_colon (front ++ back) ≡ false
    first_kept [] back some none = absurd (some refl)
    first_kept (x ∷ front) back some none = none

pub from_plain : (name command : List ℕ) (middle : List (List ℕ)) (last : Option (List ℕ))
    → IsPlainWord name → IsPlainWord command → AllByRecursion IsPlainWord middle
    → has_nul (unwrap_or last []) ≡ false → length (middle ++ option_to_list last) ≤ max_parameters
    → IsPlain (from name command middle last)
from_plain name command middle last named commanded words last_is few = record {
  prefix_no_space = named.no_space;
  prefix_no_nul = named.no_nul;
  command = commanded;
  middle = words;
  last_no_nul = last_is;
  count = few;
}

-- ---- names as they are written

nick_plain : NamesAreLineWords → (room : Room) (nick : List ℕ) → IsWithinLimits room
    → IsStoredNick room nick → IsPlainWord (stored_nick room nick)
nick_plain names room nick within is =
    let known = nick_kept room nick within is in
    subst IsPlainWord (sym known.as_is) (names.nick nick known.kept).plain

channel_plain : NamesAreLineWords → (room : Room) (name : List ℕ) → IsWithinLimits room
    → IsChannelOrNew room name → IsPlainWord (stored_channel room name)
channel_plain names room name within is =
    let known = channel_kept room name within is in
    subst IsPlainWord (sym known.as_is) (names.channel name known.kept).plain

target_plain : NamesAreLineWords → (room : Room) (to : Target) → IsWithinLimits room
    → IsSentTarget room to → IsPlainWord (target_name room to)
target_plain names room (target.User nick) within is = nick_plain names room nick within is
target_plain names room (target.Channel channel) within is =
    channel_plain names room channel within (channel_there room channel is)

say_plain : (notice : Bool) → IsPlainWord (if notice then codes "NOTICE" else codes "PRIVMSG")
say_plain true = command_plain _ _ refl refl refl
say_plain false = command_plain _ _ refl refl refl

pub change_plain : (nick : List ℕ) (change : UserChange) → IsPlainWord nick → IsChangeWithin change
    → IsPlain (wire_change nick change)
change_plain nick change named keeps =
    let words = are_change_words change keeps in
    from_plain nick (codes "MODE") (nick ∷ change_letters change ∷ []) (change_text change)
    named (command_plain _ _ refl refl refl) (named, (words.letters_plain, tt))
    (carried_no_nul (unwrap_or (change_text change) []) words.text_carried)
    (few nick (change_letters change) (change_text change))
  where
    few : (one two : List ℕ) (last : Option (List ℕ))
        → length (one ∷ two ∷ option_to_list last) ≤ max_parameters
    few one two None = lit≤ tt
    few one two (Some last) = lit≤ tt

wire_plain : NamesAreLineWords → (room : Room) (known : Known) (effect : Effect)
    → IsPlainEffect effect → IsWithinLimits room → IsSendable room effect
    → IsPlain (wire room known effect)
wire_plain names room known (AddUser user) plain within sent = absurd plain
wire_plain names room known (ChangeModes by channel changes) plain within sent = absurd plain
wire_plain names room known (Rename nick new) plain within sent =
    from_plain (stored_nick room nick) (codes "NICK") (new ∷ []) None
    (nick_plain names room nick within sent.nick_stored)
    (command_plain _ _ refl refl refl) ((names.nick new sent.new_named).plain, tt) refl (lit≤ tt)
wire_plain names room known (Quit nick text) plain within sent =
    from_plain (stored_nick room nick) (codes "QUIT") [] (Some text)
    (nick_plain names room nick within sent.nick_stored)
    (command_plain _ _ refl refl refl) tt (carried_no_nul text sent.text_within.carried) (lit≤ tt)
wire_plain names room known (Join nick channel op) plain within sent =
    from_plain (stored_nick room nick) (codes "JOIN") (marked (stored_channel room channel) op
    ∷ []) None (nick_plain names room nick within sent.nick_stored)
    (command_plain _ _ refl refl refl) (
      marked_plain (stored_channel room channel) op
          (channel_plain names room channel within sent.channel_named),
      tt,
    ) refl (lit≤ tt)
wire_plain names room known (Part nick channel text) plain within sent =
    from_plain (stored_nick room nick) (codes "PART") (stored_channel room channel ∷ []) (Some text)
    (nick_plain names room nick within sent.nick_stored)
    (command_plain _ _ refl refl refl) (
      channel_plain names room channel within
          (channel_there room channel sent.channel_stored),
      tt,
    )
    (carried_no_nul text sent.text_within.carried) (lit≤ tt)
wire_plain names room known (Kick by channel nick text) plain within sent =
    from_plain (stored_nick room by) (codes "KICK")
    (stored_channel room channel ∷ stored_nick room nick ∷ []) (Some text)
    (nick_plain names room by within sent.by_stored) (command_plain _ _ refl refl refl) (
      channel_plain names room channel within (channel_there room channel sent.channel_stored),
      (nick_plain names room nick within sent.nick_stored, tt),
    )
    (carried_no_nul text sent.text_within.carried) (lit≤ tt)
wire_plain names room known (SetTopic by.Home channel text) plain within sent = absurd sent
wire_plain names room known (SetTopic (by.User nick) channel text) plain within sent =
    from_plain (stored_nick room nick) (codes "TOPIC") (stored_channel room channel ∷ [])
    (Some text) (nick_plain names room nick within sent.by_stored)
    (command_plain _ _ refl refl refl) (
      channel_plain names room channel within
          (channel_there room channel sent.channel_stored),
      tt,
    )
    (carried_no_nul text sent.text_within.carried) (lit≤ tt)
wire_plain names room known (Say by notice to text) plain within sent =
    from_plain (stored_nick room by) (if notice then codes "NOTICE" else codes "PRIVMSG")
    (target_name room to ∷ []) (Some (text.items))
    (nick_plain names room by within sent.by_stored) (say_plain notice)
    (target_plain names room to within sent.target_stored, tt)
    (carried_no_nul (text.items) sent.text_carried) (lit≤ tt)
wire_plain names room known (Invite by nick channel) plain within sent =
    from_plain (stored_nick room by) (codes "INVITE")
    (stored_nick room nick ∷ stored_channel room channel ∷ []) None
    (nick_plain names room by within sent.by_stored) (command_plain _ _ refl refl refl) (
      nick_plain names room nick within sent.nick_stored,
      (channel_plain names room channel within sent.channel_named, tt),
    ) refl (lit≤ tt)
wire_plain names room known (ChangeUser nick change) plain within sent =
    change_plain (stored_nick room nick) change
    (nick_plain names room nick within sent.nick_stored) sent.keeps

-- ---- nothing of the line is cut: with more in front of it, as clients are shown it, it is not

-- anybody who is shown a line
pub viewer : User
viewer = new_user [] [] [] [] []

pub by_nickname : NamedIsWholeToo → (room : Room) (nick command : List ℕ)
    (middle : List (List ℕ)) (last : Option (List ℕ)) → IsStoredNick room nick
    → IfSome (parts_of command middle last (from_nick room nick)) IsWhole
    → IsWhole (from (stored_nick room nick) command middle last)
by_nickname shorter room nick command middle last stored fits =
    by (row room.users (key nick)) stored fits
  where
    by : (o : Option User) → option_map (λ (user : User). user.nick) o ≡ Some nick
        → IfSome (parts_of command middle last (option_map full_sender o)) IsWhole
        → IsWhole (from (option_map_or (λ (user : User). user.nick) o nick) command middle last)
    by None stored fits = cc stored
    by (Some user) stored fits = shorter user command middle last fits

-- who joins has a word with a mark behind it, which clients are not shown

pub four_lengths : (one two three four : List ℕ) → length (one ++ two ++ three ++ four)
    ≡ length one + (length two + (length three + length four))
four_lengths one two three four =
    let first = length-append one two in
    let second = length-append (one ++ two) three in
    let third = length-append (one ++ two ++ three) four in
    omega (arith, first, second, third)

pub named_length : (name : List ℕ) → length (prefix_text (Some name)) ≡ length name + 2
named_length name = let behind = length-append name (space ∷ []) in omega (arith, behind)

word_length : (word : List ℕ) → length (middle_text (word ∷ [])) ≡ length word + 1
word_length word = let behind = length-append word [] in omega (arith, behind)

marked_short : (channel : List ℕ) (op : Bool) → length channel ≤ max_channel
    → length (marked channel op) ≤ 52
marked_short channel false short = omega (arith, short)
marked_short channel true short =
    let both = length-append channel op_mark in omega (arith, short, both)

pub nick_short : (nick : List ℕ) → IsNick nick → length nick ≤ max_nick
unfolding is_nick
nick_short [] is = grind (arith, nat_tests)
nick_short (byte ∷ bytes) is = grind (arith, nat_tests)

pub channel_short : (name : List ℕ) → IsChannel name → length name ≤ max_channel
unfolding is_channel
channel_short [] is = grind (arith, nat_tests)
channel_short (byte ∷ bytes) is = grind (arith, nat_tests)

join_size : (all prefix middle name word : ℕ) → all ≡ prefix + (4 + (middle + 0))
    → prefix ≡ name + 2 → middle ≡ word + 1 → name ≤ max_nick → word ≤ 52 → all ≤ 510
join_size all prefix middle name word all_is prefix_is middle_is name_short word_short = omega arith

join_whole : (name channel : List ℕ) (op : Bool) → length name ≤ max_nick → length channel
    ≤ max_channel → IsWhole (from name (codes "JOIN") (marked channel op ∷ []) None)
join_whole name channel op short fits =
    let word = marked channel op in
    join_size (length (joined_text (from name (codes "JOIN") (word ∷ []) None)))
    (length (prefix_text (Some name))) (length (middle_text (word ∷ [])))
    (length name) (length word) (four_lengths (prefix_text (Some name)) (codes "JOIN")
    (middle_text (word ∷ [])) []) (named_length name) (word_length word)
    short (marked_short channel op fits)

-- what a user changes of itself is as long as its limits let it be, whether a client is shown it or
-- not

last_length : (last : Option (List ℕ)) → length (last_text last) ≤ length (unwrap_or last []) + 2
last_length None = lit≤ tt
last_length (Some last) = omega arith

change_size : (all prefix middle behind last nick letters text : ℕ)
    → all ≡ prefix + (4 + (middle + last)) → prefix ≡ nick + 2 → middle ≡ suc (nick + behind)
    → behind ≡ letters + 1 → last ≤ text + 2 → nick ≤ max_nick → letters ≤ 2 → text ≤ max_words
    → all ≤ 510
change_size all prefix middle behind last nick letters text all_is prefix_is middle_is behind_is
    last_is nick_short letters_short text_short =
    omega arith

pub change_whole : (nick : List ℕ) (change : UserChange) → length nick ≤ max_nick
    → IsChangeWithin change → IsWhole (wire_change nick change)
change_whole nick change short keeps =
    let words = are_change_words change keeps in
    let letters = change_letters change in
    let last = change_text change in
    let middle = nick ∷ letters ∷ [] in
    change_size (length (joined_text (from nick (codes "MODE") middle last)))
    (length (prefix_text (Some nick))) (length (middle_text middle))
    (length (middle_text (letters ∷ []))) (length (last_text last)) (length nick) (length letters)
    (length (unwrap_or last []))
    (four_lengths (prefix_text (Some nick)) (codes "MODE") (middle_text middle) (last_text last))
    (named_length nick) (ap suc (length-append nick (middle_text (letters ∷ []))))
    (word_length letters) (last_length last) short words.letters_short words.text_short

pub wire_whole : SentFitsItsLine → NamedIsWholeToo → (room : Room) (known : Known) (effect : Effect)
    → IsPlainEffect effect → IsWithinLimits room → IsSendable room effect
    → IsWhole (wire room known effect)
wire_whole shown shorter room known (AddUser user) plain within sent = absurd plain
wire_whole shown shorter room known (ChangeModes by channel changes) plain within sent =
    absurd plain
wire_whole shown shorter room known (Rename nick new) plain within sent =
    by_nickname shorter room nick (codes "NICK") (new ∷ []) None sent.nick_stored
    (shown room (Rename nick new) viewer within sent)
wire_whole shown shorter room known (Quit nick text) plain within sent =
    by_nickname shorter room nick (codes "QUIT") [] (Some text) sent.nick_stored
    (shown room (Quit nick text) viewer within sent)
wire_whole shown shorter room known (Join nick channel op) plain within sent =
    let doer = nick_kept room nick within sent.nick_stored in
    let name = channel_kept room channel within sent.channel_named in
    join_whole (stored_nick room nick) (stored_channel room channel) op
    (subst (λ n. length n ≤ max_nick) (sym doer.as_is) (nick_short nick doer.kept))
    (subst (λ n. length n ≤ max_channel) (sym name.as_is) (channel_short channel name.kept))
wire_whole shown shorter room known (Part nick channel text) plain within sent =
    by_nickname shorter room nick (codes "PART") (stored_channel room channel ∷ [])
    (Some text) sent.nick_stored
    (shown room (Part nick channel text) viewer within sent)
wire_whole shown shorter room known (Kick by channel nick text) plain within sent =
    by_nickname shorter room by (codes "KICK")
    (stored_channel room channel ∷ stored_nick room nick ∷ []) (Some text) sent.by_stored
    (shown room (Kick by channel nick text) viewer within sent)
wire_whole shown shorter room known (SetTopic by.Home channel text) plain within sent = absurd sent
wire_whole shown shorter room known (SetTopic (by.User nick) channel text) plain within sent =
    by_nickname shorter room nick (codes "TOPIC") (stored_channel room channel ∷ [])
    (Some text) sent.by_stored
    (shown room (SetTopic (by.User nick) channel text) viewer within sent)
wire_whole shown shorter room known (Say by notice to text) plain within sent =
    by_nickname shorter room by (if notice then codes "NOTICE" else codes "PRIVMSG")
    (target_name room to ∷ []) (Some (text.items)) sent.by_stored
    (shown room (Say by notice to text) viewer within sent)
wire_whole shown shorter room known (Invite by nick channel) plain within sent =
    by_nickname shorter room by (codes "INVITE")
    (stored_nick room nick ∷ stored_channel room channel ∷ []) None sent.by_stored
    (shown room (Invite by nick channel) viewer within sent)
wire_whole shown shorter room known (ChangeUser nick change) plain within sent =
    let doer = nick_kept room nick within sent.nick_stored in
    change_whole (stored_nick room nick) change
    (subst (λ n. length n ≤ max_nick) (sym doer.as_is) (nick_short nick doer.kept)) sent.keeps

-- ---- what is written, and was not cut, is read again

-- what is known of lines and names in the crates below
pub record IsKnownBelow : Type 0 where
  pub written : WrittenIsRead
  pub alone : IsReadSoAlone
  pub as_line : WrittenIsLine
  pub names : NamesAreLineWords
  pub shown : SentFitsItsLine
  pub shorter : NamedIsWholeToo

pub read_again : IsKnownBelow → (parts : Written) → IsPlain parts → IsWhole parts
    → read_of (line_text parts) ≡ Ok (message_of parts)
read_again below parts plain whole =
    sym (below.alone (line_text parts) (Ok (message_of parts)) (below.written parts plain whole))

pub line_back : IsKnownBelow → (room : Room) (known : Known) (effect : Effect)
    → IsPlainEffect effect → IsWithinLimits room → IsSendable room effect
    → read_of (line_text (wire room known effect)) ≡ Ok (message_of (wire room known effect))
line_back below room known effect plain within sent =
    read_again below (wire room known effect)
    (wire_plain below.names room known effect plain within sent)
    (wire_whole below.shown below.shorter room known effect plain within sent)
