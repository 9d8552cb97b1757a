-- How long a reply can be.
use Rattle.std.proofs.Common.{◌≡◌, ℕ, ◌+◌, ◌-◌, ◌*◌, ◌^◌, ◌<◌, ◌≤◌, true, false, Option, Some, None}
use Rattle.std.proofs.Common.{List, [], ◌∷◌, ◌++◌, map, length, ap, arith, rules, length-append}
use Rattle.std.proofs.Common.{lit≤}
use Rattle.std.specs.Prelude.{decimal, IfSome}
use Rattle.std.specs.List.{AllByRecursion}
use Rattle.std.specs.Option.{option_map}
use Rattle.std.proofs.lemmas.Fmt.{length-decimal-le}
use Rattle.irc_line.specs.Limits.{max_line}
use Rattle.irc_line.specs.Bytes.{space, colon, crlf}
use Rattle.irc_line.specs.Messages.{joined_text, line_text, middle_text, last_text, prefix_text}
use Rattle.irc_line.specs.Messages.{prefix_of, named}
use Rattle.irc_line.specs.Lemmas.CutLaws.{cut_all}
use Rattle.irc_names.specs.Limits.{max_nick, max_channel, max_server}
use Rattle.irc_numerics.specs.Limits.{max_names, max_whois_channels}
use Rattle.irc_numerics.specs.declared.replies.MemberMark.{MemberMark}
use Rattle.irc_numerics.specs.declared.replies.MemberMark.TheVariants.{Plain, Voiced, Operator}
use Rattle.irc_numerics.specs.declared.replies.Visibility.TheVariants.{Public, Private, Secret}
use Rattle.irc_numerics.specs.declared.replies.Listed.{Listed}
use Rattle.irc_numerics.specs.declared.replies.OnChannel.{OnChannel}
use Rattle.irc_numerics.specs.declared.replies.Reply.{Reply}
use Rattle.irc_numerics.specs.declared.replies.Reply.TheVariants.{NamReply}
use Rattle.irc_numerics.specs.Replies.{Piece, ours, limited, asked, count, no_mode, own_mode, sign}
use Rattle.irc_numerics.specs.Replies.{presence, channel_or_star, members, places, piece_text}
use Rattle.irc_numerics.specs.Replies.{Row, row}
use Rattle.irc_numerics.specs.Replies.{row_words, reply_number, words, table, three_digits}
use Rattle.irc_numerics.specs.Replies.{numbered, reply_parts, reply_name, spaced, in_a_row}
use Rattle.irc_numerics.specs.Replies.{mark_text, marked_nick, on_channel}
use Rattle.irc_numerics.specs.Laws.{IsShort, IsWithinLimits, IsWhole, NamesAreShort, uncut_reply}

digits : (n : ℕ) → n < 2 ^ 64 → length (decimal n) ≤ 20
digits n small = search (rules, length-decimal-le 20)

length-mark_text : (mark : MemberMark) → length (mark_text mark) ≤ 1
length-mark_text Plain = lit≤ tt
length-mark_text Voiced = lit≤ tt
length-mark_text Operator = lit≤ tt

-- entries with a space between each two: one space fewer than entries
between-fits : {A : Type 0} (entry : A → List ℕ) (most : ℕ) (x : A) (rest : List A)
    → AllByRecursion (λ item. length (entry item) ≤ most) (x ∷ rest)
    → length (spaced (map entry (x ∷ rest))) + 1 ≤ length (x ∷ rest) * (most + 1)
between-fits entry most x [] fit = let first : length (entry x) ≤ most = fit.0 in omega arith
between-fits entry most x (y ∷ rest) fit =
    let first : length (entry x) ≤ most = fit.0 in
    let later = between-fits entry most y rest fit.1 in
    let parts = length-append (entry x) (space ∷ spaced (map entry (y ∷ rest))) in
    omega arith

spaced-fits : {A : Type 0} (entry : A → List ℕ) (most : ℕ) (items : List A)
    → AllByRecursion (λ item. length
    (entry item) ≤ most) items
    → length (spaced (map entry items)) ≤ length items * (most + 1)
spaced-fits entry most [] fit = omega arith
spaced-fits entry most (x ∷ rest) fit = let row = between-fits entry most x rest fit in omega arith

members_fit : (names : List Listed) → AllByRecursion (λ member. length member.nick ≤ max_nick) names
    → AllByRecursion
    (λ member. length (marked_nick member) ≤ 1 + max_nick) names
members_fit [] fit = fit
members_fit (x ∷ xs) fit =
    let nick : length x.nick ≤ max_nick = fit.0 in
    let mark : length (mark_text x.mark) ≤ 1 = length-mark_text x.mark in
    let parts = length-append (mark_text x.mark) (x.nick) in
    (omega arith, members_fit xs fit.1)

places_fit : (places : List OnChannel)
    → AllByRecursion (λ place. length place.channel ≤ max_channel) places
    → AllByRecursion (λ place. length (on_channel place) ≤ 51) places
places_fit [] fit = fit
places_fit (x ∷ xs) fit =
    let channel : length x.channel ≤ max_channel = fit.0 in
    let mark : length (mark_text x.mark) ≤ 1 = length-mark_text x.mark in
    let parts = length-append (mark_text x.mark) (x.channel) in
    (omega arith, places_fit xs fit.1)

-- ten names with their marks, and the spaces between them
abbrev most_names : ℕ
most_names = max_names * (max_nick + 2) - 1

spaced_names : (names : List Listed) → length names ≤ max_names
    → AllByRecursion (λ member. length member.nick ≤ max_nick) names
    → length (spaced (map marked_nick names)) ≤ most_names
spaced_names [] few fit = lit≤ tt
spaced_names (x ∷ rest) few fit = let row =
    between-fits marked_nick (1 + max_nick) x rest (members_fit (x ∷ rest) fit) in omega arith

-- the most bytes of a piece that is short
abbrev most : Piece → ℕ
most (ours bytes) = length bytes
most (limited limit _) = limit
most (asked _) = 0
most (count _) = 20
most (no_mode _) = 1
most (own_mode _) = 2
most (sign _) = 1
most (presence _ _) = 2
most (channel_or_star _) = max_channel
most (members _) = most_names
most (places _) = max_whois_channels * (max_channel + 2)

piece_fits : (piece : Piece) → IsShort piece → length (piece_text piece) ≤ most piece
piece_fits (ours bytes) short = omega arith
piece_fits (limited limit bytes) short = short
piece_fits (asked bytes) short = absurd short
piece_fits (count number) short = digits number short
piece_fits (no_mode byte) short = lit≤ tt
piece_fits (own_mode true) short = lit≤ tt
piece_fits (own_mode false) short = lit≤ tt
piece_fits (sign Public) short = lit≤ tt
piece_fits (sign Private) short = lit≤ tt
piece_fits (sign Secret) short = lit≤ tt
piece_fits (presence true Plain) short = lit≤ tt
piece_fits (presence true Voiced) short = lit≤ tt
piece_fits (presence true Operator) short = lit≤ tt
piece_fits (presence false Plain) short = lit≤ tt
piece_fits (presence false Voiced) short = lit≤ tt
piece_fits (presence false Operator) short = lit≤ tt
piece_fits (channel_or_star None) short = lit≤ tt
piece_fits (channel_or_star (Some channel)) short = short
piece_fits (members names) short = spaced_names names short.0 short.1
piece_fits (places channels) short =
    let row = spaced-fits on_channel 51 channels (places_fit channels short.1) in
    let few : length channels ≤ max_whois_channels = short.0 in omega arith

-- the most bytes of words, each behind a space
abbrev words_most : List Piece → ℕ
words_most [] = 0
words_most (piece ∷ pieces) = 1 + most piece + words_most pieces

-- and of a text
abbrev pieces_most : List Piece → ℕ
pieces_most [] = 0
pieces_most (piece ∷ pieces) = most piece + pieces_most pieces

-- and of that behind a space and a colon
abbrev text_most : Option (List Piece) → ℕ
text_most None = 0
text_most (Some pieces) = 2 + pieces_most pieces

-- the most bytes of a row behind its number
abbrev row_most : Row → ℕ
row_most row = words_most row.words + text_most row.text

words_fit : (pieces : List Piece) → AllByRecursion IsShort pieces
    → length (middle_text (map piece_text pieces)) ≤ words_most pieces
words_fit [] short = lit≤ tt
words_fit (piece ∷ pieces) short =
    let first = piece_fits piece short.0 in
    let rest = words_fit pieces short.1 in
    let parts = length-append (space ∷ piece_text piece) (middle_text (map piece_text pieces)) in
    omega arith

pieces_fit : (pieces : List Piece) → AllByRecursion IsShort pieces
    → length (in_a_row (map piece_text pieces)) ≤ pieces_most pieces
pieces_fit [] short = lit≤ tt
pieces_fit (piece ∷ pieces) short =
    let first = piece_fits piece short.0 in
    let rest = pieces_fit pieces short.1 in
    let parts = length-append (piece_text piece) (in_a_row (map piece_text pieces)) in
    omega arith

text_fits : (text : Option (List Piece)) → IfSome text (AllByRecursion IsShort) → length
    (last_text (option_map (λ pieces. in_a_row (map piece_text pieces)) text)) ≤ text_most text
text_fits None short = lit≤ tt
text_fits (Some pieces) short = let all = pieces_fit pieces short in omega arith

-- a row of short pieces, as a line: a colon, two spaces and three digits beside the names
row_fits : (server name : List ℕ) (row : Row) → AllByRecursion IsShort row.words
    → IfSome row.text (AllByRecursion IsShort)
    → length (joined_text (reply_parts server name (three_digits row.number) (row_words row)))
    ≤ 6 + length server + length name + row_most row
row_fits server name row words_short text_short =
    let front = prefix_text (prefix_of (named server)) in
    let number = three_digits row.number in
    let said = row_words row in
    let last = last_text said.last in
    let a = length-append (front ++ number ++ middle_text (name ∷ said.middle)) last in
    let b = length-append (front ++ number) (middle_text (name ∷ said.middle)) in
    let c = length-append front number in
    let d = length-append (colon ∷ server) (space ∷ []) in
    let e = length-append (space ∷ name) (middle_text said.middle) in
    let f = words_fit row.words words_short in
    let g = text_fits row.text text_short in
    omega arith

-- the longest server name and nickname leave room for each row
rows_fit : (reply : Reply) → 6 + max_server + max_nick + row_most (row reply) ≤ max_line
rows_fit reply = grind arith

reply_name_fits : (nick : Option (List ℕ)) → IfSome nick (λ n. length n ≤ max_nick)
    → length (reply_name nick) ≤ max_nick
reply_name_fits None fits = lit≤ tt
reply_name_fits (Some nick) fits = fits

pub within_limits_is_whole : (server : List ℕ) (nick : Option (List ℕ)) (reply : Reply)
    → length server ≤ max_server → IfSome nick (λ n. length n ≤ max_nick) → IsWithinLimits reply
    → IsWhole server nick reply
unfolding numbered line_text reply_number words table
within_limits_is_whole server nick reply server_fits nick_fits limits =
    let name = reply_name nick in
    let all = row_fits server name (row reply) limits.0 limits.1 in
    let name_fits = reply_name_fits nick nick_fits in
    let most_fits = rows_fit reply in
    let line_fits : length (uncut_reply server nick reply) ≤ max_line = omega arith in
    record { fits = line_fits; uncut = ap (λ line. line ++ crlf) (cut_all _ line_fits) }

pub names_are_short : NamesAreShort
unfolding numbered reply_number words table
names_are_short server nick visibility channel names server_fits nick_fits limits =
    let name = reply_name nick in
    let all = row_fits server name (row (NamReply visibility channel names)) limits.0 limits.1 in
    let name_fits = reply_name_fits nick nick_fits in
    omega arith
