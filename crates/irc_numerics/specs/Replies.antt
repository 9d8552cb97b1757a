-- The replies, a row each, in the order of the numbers (RFC 2812 section 5), and how one is
-- written. The numbers are the standard's, the texts our own after it.
use Rattle.std.specs.Prelude.{ℕ, ◌+◌, ◌/◌, ◌%◌, Bool, if◌then◌else◌, Option, Some, None, List, []}
use Rattle.std.specs.Prelude.{◌∷◌, ◌++◌, map, codes, decimal, option_to_list, unwrap_or}
use Rattle.std.specs.List.{flat_map, join_with_byte}
use Rattle.std.specs.Option.{option_map}
use Rattle.irc_line.specs.Bytes.{space}
use Rattle.irc_line.specs.Messages.{Written, named, text}
use Rattle.irc_names.specs.Limits.{max_nick, max_channel, max_host, max_server, max_key}
use Rattle.irc_names.specs.Limits.{max_ban_mask, max_user_name, max_real_name, max_words, max_info}
use Rattle.irc_names.specs.Limits.{max_created}
use Rattle.irc_numerics.specs.Limits.{max_mode_letters}
use Rattle.irc_numerics.specs.declared.replies.MemberMark.{MemberMark}
use Rattle.irc_numerics.specs.declared.replies.Visibility.{Visibility}
use Rattle.irc_numerics.specs.declared.replies.Listed.{Listed}
use Rattle.irc_numerics.specs.declared.replies.OnChannel.{OnChannel}
use Rattle.irc_numerics.specs.declared.replies.Reply.{Reply}
use Rattle.irc_numerics.specs.declared.replies.MemberMark.TheVariants.{Plain, Voiced, Operator}
use Rattle.irc_numerics.specs.declared.replies.Visibility.TheVariants.{Public, Private, Secret}
use Rattle.irc_numerics.specs.declared.replies.Reply.TheVariants.{Welcome, YourHost, Created}
use Rattle.irc_numerics.specs.declared.replies.Reply.TheVariants.{MyInfo, UserModeIs, LuserClient}
use Rattle.irc_numerics.specs.declared.replies.Reply.TheVariants.{LuserChannels, LuserMe, Away}
use Rattle.irc_numerics.specs.declared.replies.Reply.TheVariants.{UserHost, IsOn, UnAway, NowAway}
use Rattle.irc_numerics.specs.declared.replies.Reply.TheVariants.{WhoisUser, WhoisServer, EndOfWho}
use Rattle.irc_numerics.specs.declared.replies.Reply.TheVariants.{EndOfWhois, WhoisChannels}
use Rattle.irc_numerics.specs.declared.replies.Reply.TheVariants.{List as ListRow, ListEnd}
use Rattle.irc_numerics.specs.declared.replies.Reply.TheVariants.{ChannelModeIs, NoTopic, Topic}
use Rattle.irc_numerics.specs.declared.replies.Reply.TheVariants.{Inviting, WhoReply, NamReply}
use Rattle.irc_numerics.specs.declared.replies.Reply.TheVariants.{EndOfNames, BanList, EndOfBanList}
use Rattle.irc_numerics.specs.declared.replies.Reply.TheVariants.{EndOfWhoWas, WasNoSuchNick}
use Rattle.irc_numerics.specs.declared.replies.Reply.TheVariants.{NoSuchNick, NoSuchChannel}
use Rattle.irc_numerics.specs.declared.replies.Reply.TheVariants.{CannotSendToChan, TooManyChannels}
use Rattle.irc_numerics.specs.declared.replies.Reply.TheVariants.{TooManyTargets, NoOrigin}
use Rattle.irc_numerics.specs.declared.replies.Reply.TheVariants.{NoRecipient, NoTextToSend}
use Rattle.irc_numerics.specs.declared.replies.Reply.TheVariants.{UnknownCommand, NoMotd}
use Rattle.irc_numerics.specs.declared.replies.Reply.TheVariants.{NoNicknameGiven}
use Rattle.irc_numerics.specs.declared.replies.Reply.TheVariants.{ErroneousNickname, NicknameInUse}
use Rattle.irc_numerics.specs.declared.replies.Reply.TheVariants.{UserNotInChannel, NotOnChannel}
use Rattle.irc_numerics.specs.declared.replies.Reply.TheVariants.{UserOnChannel, NotRegistered}
use Rattle.irc_numerics.specs.declared.replies.Reply.TheVariants.{NeedMoreParams, AlreadyRegistered}
use Rattle.irc_numerics.specs.declared.replies.Reply.TheVariants.{KeySet, ChannelIsFull}
use Rattle.irc_numerics.specs.declared.replies.Reply.TheVariants.{UnknownMode, InviteOnlyChan}
use Rattle.irc_numerics.specs.declared.replies.Reply.TheVariants.{BannedFromChan, BadChannelKey}
use Rattle.irc_numerics.specs.declared.replies.Reply.TheVariants.{BanListFull, ChanOPrivsNeeded}
use Rattle.irc_numerics.specs.declared.replies.Reply.TheVariants.{UModeUnknownFlag, UsersDontMatch}

-- the words behind the reply name: those without a space, and the last, which is written behind a
-- colon
pub record ReplyWords : Type 0 where
  pub middle : List (List ℕ)
  pub last : Option (List ℕ)

-- words, and a text behind a colon
abbrev pub saying : List (List ℕ) → List ℕ → ReplyWords
saying words last = record { middle = words; last = Some last }

-- words alone
abbrev pub plain : List (List ℕ) → ReplyWords
plain words = record { middle = words; last = None }

-- the pieces of a text
abbrev pub in_a_row : List (List ℕ) → List ℕ
in_a_row = flat_map (λ piece. piece)

-- a list inside a text is parted by one space
abbrev pub spaced : List (List ℕ) → List ℕ
spaced = join_with_byte space

-- what stands before the name of a member
abbrev pub mark_text : MemberMark → List ℕ
mark_text Plain = []
mark_text Voiced = codes "+"
mark_text Operator = codes "@"

-- what stands for a channel's visibility
abbrev pub visibility_text : Visibility → List ℕ
visibility_text Public = codes "="
visibility_text Private = codes "*"
visibility_text Secret = codes "@"

-- a member as it stands in a list of names
abbrev pub marked_nick : Listed → List ℕ
marked_nick member = mark_text member.mark ++ member.nick

-- a channel as it stands among those of a user, with what the user is there
abbrev pub on_channel : OnChannel → List ℕ
on_channel place = mark_text place.mark ++ place.channel

-- A piece of a reply. What it is decides how long it can be (`Laws.antt`).
pub data Piece : Type 0 where
  -- the server's own words
  ours : List ℕ → Piece
  -- a name or a text of at most so many bytes
  limited : ℕ → List ℕ → Piece
  -- a client's own words
  asked : List ℕ → Piece
  -- a number in decimal
  count : ℕ → Piece
  -- a byte that is no mode
  no_mode : ℕ → Piece
  -- a user's own mode: whether it is invisible
  own_mode : Bool → Piece
  -- who may know of a channel
  sign : Visibility → Piece
  -- whether a user is away or here, and its mark
  presence : Bool → MemberMark → Piece
  -- a channel, if one was asked for
  channel_or_star : Option (List ℕ) → Piece
  -- members of a channel
  members : List Listed → Piece
  -- channels of a user
  places : List OnChannel → Piece

-- the bytes of a piece
abbrev pub piece_text : Piece → List ℕ
piece_text (ours bytes) = bytes
piece_text (limited _ bytes) = bytes
piece_text (asked bytes) = bytes
piece_text (count number) = decimal number
piece_text (no_mode byte) = byte ∷ []
piece_text (own_mode invisible) = if invisible then codes "+i" else codes "+"
piece_text (sign visibility) = visibility_text visibility
piece_text (presence away mark) = (if away then codes "G" else codes "H") ++ mark_text mark
piece_text (channel_or_star channel) = unwrap_or channel (codes "*")
piece_text (members names) = spaced (map marked_nick names)
piece_text (places channels) = spaced (map on_channel channels)

-- names and texts, each with its limit
abbrev pub the_nick : List ℕ → Piece
the_nick = limited max_nick

abbrev pub the_user : List ℕ → Piece
the_user = limited max_user_name

abbrev pub the_host : List ℕ → Piece
the_host = limited max_host

abbrev pub the_real_name : List ℕ → Piece
the_real_name = limited max_real_name

abbrev pub the_server : List ℕ → Piece
the_server = limited max_server

abbrev pub the_channel : List ℕ → Piece
the_channel = limited max_channel

abbrev pub the_topic : List ℕ → Piece
the_topic = limited max_words

abbrev pub the_away : List ℕ → Piece
the_away = limited max_words

-- a text of the server's own words alone
abbrev pub our : List ℕ → List Piece
our bytes = ours bytes ∷ []

-- A row: the number of a reply, the pieces that stand as words, and those of the text behind a
-- colon, if there is one.
pub record Row : Type 0 where
  pub number : ℕ
  pub words : List Piece
  pub text : Option (List Piece)

-- a row of a number, words in order, and a text
abbrev pub says : ℕ → List Piece → List Piece → Row
says number words text = record { number = number; words = words; text = Some text }

-- one without a text
abbrev pub lists : ℕ → List Piece → Row
lists number words = record { number = number; words = words; text = None }

-- the rows
abbrev pub row : Reply → Row
row (Welcome nick user host) = says 001 []
    (ours (codes "Welcome to the Internet Relay Network ") ∷ the_nick nick ∷ ours (codes "!")
    ∷ the_user user ∷ ours (codes "@") ∷ the_host host ∷ [])
row (YourHost server) = says 002 []
    (ours (codes "Your host is ") ∷ the_server server
    ∷ ours (codes ", running version treeircd-1") ∷ [])
row (Created created) = says 003 []
    (ours (codes "This server was created ") ∷ limited max_created created.items ∷ [])
row (MyInfo server) = lists 004
    (the_server server ∷ ours (codes "treeircd-1") ∷ ours (codes "i")
    ∷ ours (codes "biklmnopstv") ∷ [])
row (UserModeIs invisible) = lists 221 (own_mode invisible ∷ [])
row (LuserClient users servers) = says 251 []
    (ours (codes "There are ") ∷ count users ∷ ours (codes " users and 0 services on ")
    ∷ count servers ∷ ours (codes " servers") ∷ [])
row (LuserChannels channels) = says 254 (count channels ∷ []) (our (codes "channels formed"))
row (LuserMe clients links) = says 255 []
    (ours (codes "I have ") ∷ count clients ∷ ours (codes " clients and ") ∷ count links
    ∷ ours (codes " servers") ∷ [])
row (Away nick text) = says 301 (the_nick nick ∷ []) (the_away text ∷ [])
row (UserHost users) = says 302 [] (asked users.items ∷ [])
row (IsOn nicks) = says 303 [] (asked nicks.items ∷ [])
row UnAway = says 305 [] (our (codes "You are no longer marked as being away"))
row NowAway = says 306 [] (our (codes "You have been marked as being away"))
row (WhoisUser nick user host real) = says 311
    (the_nick nick ∷ the_user user ∷ the_host host ∷ ours (codes "*") ∷ [])
    (the_real_name real ∷ [])
row (WhoisServer nick server info) =
    says 312 (the_nick nick ∷ the_server server ∷ []) (limited max_info info.items ∷ [])
row (EndOfWho name) = says 315 (asked name.items ∷ []) (our (codes "End of WHO list"))
row (EndOfWhois nick) = says 318 (asked nick.items ∷ []) (our (codes "End of WHOIS list"))
row (WhoisChannels nick channels) = says 319 (the_nick nick ∷ []) (places channels.items ∷ [])
row (ListRow channel shown topic) =
    says 322 (the_channel channel ∷ count shown ∷ []) (the_topic topic.items ∷ [])
row ListEnd = says 323 [] (our (codes "End of LIST"))
row (ChannelModeIs channel modes key limit) = lists 324
    ((the_channel channel ∷ limited max_mode_letters modes.items ∷ [])
    ++ option_to_list (option_map (limited max_key) key) ++ option_to_list (option_map count limit))
row (NoTopic channel) = says 331 (the_channel channel ∷ []) (our (codes "No topic is set"))
row (Topic channel topic) = says 332 (the_channel channel ∷ []) (the_topic topic.items ∷ [])
row (Inviting channel nick) = lists 341 (the_channel channel ∷ the_nick nick ∷ [])
row (WhoReply channel user host server nick away mark hops real) = says 352
    (channel_or_star channel ∷ the_user user ∷ the_host host ∷ the_server server ∷ the_nick nick
    ∷ presence away mark ∷ [])
    (count hops ∷ ours (codes " ") ∷ the_real_name real ∷ [])
row (NamReply visibility channel names) =
    says 353 (sign visibility ∷ the_channel channel ∷ []) (members names ∷ [])
row (EndOfNames name) = says 366 (asked name.items ∷ []) (our (codes "End of NAMES list"))
row (BanList channel mask) = lists 367 (the_channel channel ∷ limited max_ban_mask mask ∷ [])
row (EndOfBanList channel) =
    says 368 (the_channel channel ∷ []) (our (codes "End of channel ban list"))
row (EndOfWhoWas name) = says 369 (asked name.items ∷ []) (our (codes "End of WHOWAS"))
row (NoSuchNick name) = says 401 (asked name.items ∷ []) (our (codes "No such nick/channel"))
row (NoSuchChannel name) = says 403 (asked name.items ∷ []) (our (codes "No such channel"))
row (CannotSendToChan channel) =
    says 404 (the_channel channel ∷ []) (our (codes "Cannot send to channel"))
row (TooManyChannels channel) =
    says 405 (the_channel channel ∷ []) (our (codes "You have joined too many channels"))
row (WasNoSuchNick name) =
    says 406 (asked name.items ∷ []) (our (codes "There was no such nickname"))
row (TooManyTargets target) = says 407 (asked target.items ∷ []) (our (codes "Too many targets"))
row NoOrigin = says 409 [] (our (codes "No origin specified"))
row (NoRecipient command) = says 411 []
    (ours (codes "No recipient given (") ∷ asked command.items ∷ ours (codes ")") ∷ [])
row NoTextToSend = says 412 [] (our (codes "No text to send"))
row (UnknownCommand command) = says 421 (asked command.items ∷ []) (our (codes "Unknown command"))
row NoMotd = says 422 [] (our (codes "MOTD File is missing"))
row NoNicknameGiven = says 431 [] (our (codes "No nickname given"))
row (ErroneousNickname nick) = says 432 (asked nick.items ∷ []) (our (codes "Erroneous nickname"))
row (NicknameInUse nick) = says 433 (the_nick nick ∷ []) (our (codes "Nickname is already in use"))
row (UserNotInChannel nick channel) =
    says 441 (asked nick.items ∷ the_channel channel ∷ [])
    (our (codes "They aren't on that channel"))
row (NotOnChannel channel) =
    says 442 (the_channel channel ∷ []) (our (codes "You're not on that channel"))
row (UserOnChannel nick channel) =
    says 443 (the_nick nick ∷ the_channel channel ∷ []) (our (codes "is already on channel"))
row NotRegistered = says 451 [] (our (codes "You have not registered"))
row (NeedMoreParams command) =
    says 461 (asked command.items ∷ []) (our (codes "Not enough parameters"))
row AlreadyRegistered = says 462 [] (our (codes "Unauthorized command (already registered)"))
row (KeySet channel) = says 467 (the_channel channel ∷ []) (our (codes "Channel key already set"))
row (ChannelIsFull channel) =
    says 471 (the_channel channel ∷ []) (our (codes "Cannot join channel (+l)"))
row (UnknownMode mode channel) = says 472 (no_mode mode ∷ [])
    (ours (codes "is unknown mode char to me for ") ∷ the_channel channel ∷ [])
row (InviteOnlyChan channel) =
    says 473 (the_channel channel ∷ []) (our (codes "Cannot join channel (+i)"))
row (BannedFromChan channel) =
    says 474 (the_channel channel ∷ []) (our (codes "Cannot join channel (+b)"))
row (BadChannelKey channel) =
    says 475 (the_channel channel ∷ []) (our (codes "Cannot join channel (+k)"))
row (BanListFull channel) =
    says 478 (the_channel channel ∷ ours (codes "b") ∷ []) (our (codes "Channel list is full"))
row (ChanOPrivsNeeded channel) =
    says 482 (the_channel channel ∷ []) (our (codes "You're not channel operator"))
row UModeUnknownFlag = says 501 [] (our (codes "Unknown MODE flag"))
row UsersDontMatch = says 502 [] (our (codes "Cannot change mode for other users"))

-- A row as it is written: the number, and the words behind the reply name.
pub record ReplyRow : Type 0 where
  pub number : ℕ
  pub words : ReplyWords

-- one of a number and words alone
abbrev pub bare : ℕ → List (List ℕ) → ReplyRow
bare number parameters = record { number = number; words = plain parameters }

-- the pieces of a row as words
abbrev pub row_words : Row → ReplyWords
row_words row = record {
  middle = map piece_text row.words;
  last = option_map (λ pieces. in_a_row (map piece_text pieces)) row.text;
}

-- the table: each reply's number, words and text
unfoldable pub table : Reply → ReplyRow
table reply = record { number = (row reply).number; words = row_words (row reply) }

-- a number below a thousand in three digits
abbrev pub three_digits : ℕ → List ℕ
three_digits n = (48 + n / 100) ∷ (48 + n / 10 % 10) ∷ (48 + n % 10) ∷ []

-- what stands for a reply in its line: its number
unfoldable pub reply_number : Reply → List ℕ
reply_number reply = three_digits (table reply).number

-- and its words
unfoldable pub words : Reply → ReplyWords
words reply = (table reply).words

-- whom a reply is for: the nickname, or `*` before there is one
abbrev pub reply_name : Option (List ℕ) → List ℕ
reply_name None = codes "*"
reply_name (Some nick) = nick

-- the parts of a reply's line: the server, the number, the reply name, the words
abbrev pub reply_parts : List ℕ → List ℕ → List ℕ → ReplyWords → Written
reply_parts server name number words = record {
  sender = named server;
  command = number;
  middle = name ∷ words.middle;
  last = words.last;
}

-- a number and words, written as a line for that client
unfoldable pub numbered : List ℕ → List ℕ → List ℕ → ReplyWords → List ℕ
numbered server name number words = text (reply_parts server name number words)

-- the line of a reply
abbrev pub reply_text : List ℕ → Option (List ℕ) → Reply → List ℕ
reply_text server nick reply = numbered server (reply_name nick) (reply_number reply) (words reply)
