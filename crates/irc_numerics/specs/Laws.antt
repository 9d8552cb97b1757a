-- Which replies are never cut.
use Rattle.std.specs.Prelude.{◌≡◌, ℕ, ◌^◌, ◌<◌, ◌≤◌, ⊤, Option, List, ◌++◌, length, IfSome}
use Rattle.std.specs.List.{AllByRecursion}
use Rattle.irc_line.specs.Limits.{max_line}
use Rattle.irc_line.specs.Bytes.{crlf}
use Rattle.irc_line.specs.Messages.{joined_text}
use Rattle.irc_names.specs.Limits.{max_nick, max_channel, max_host, max_server, max_key}
use Rattle.irc_names.specs.Limits.{max_ban_mask, max_user_name, max_real_name, max_words, max_info}
use Rattle.irc_names.specs.Limits.{max_created}
use Rattle.irc_numerics.specs.Limits.{max_names, max_whois_channels, max_mode_letters}
use Rattle.irc_numerics.specs.declared.replies.Listed.{Listed}
use Rattle.irc_numerics.specs.declared.replies.Visibility.{Visibility}
use Rattle.irc_numerics.specs.declared.replies.Reply.{Reply}
use Rattle.irc_numerics.specs.declared.replies.Reply.TheVariants.{NamReply}
use Rattle.irc_numerics.specs.Replies.{reply_text, reply_name, reply_parts, reply_number, words}
use Rattle.irc_numerics.specs.Replies.{row}
use Rattle.irc_numerics.specs.Replies.{Piece, ours, limited, asked, count, no_mode, own_mode, sign}
use Rattle.irc_numerics.specs.Replies.{presence, channel_or_star, members, places}

-- A piece that is as short as its limit says. A client's own words have none.
abbrev pub IsShort : Piece → Type 0
IsShort (ours _) = ⊤
IsShort (limited most bytes) = length bytes ≤ most
IsShort (asked _) = ⊥
IsShort (count number) = number < 2 ^ 64
IsShort (no_mode _) = ⊤
IsShort (own_mode _) = ⊤
IsShort (sign _) = ⊤
IsShort (presence _ _) = ⊤
IsShort (channel_or_star channel) = IfSome channel (λ c. length c ≤ max_channel)
IsShort (members names) = (length names ≤ max_names)
    × AllByRecursion (λ member. length member.nick ≤ max_nick) names
IsShort (places channels) = (length channels ≤ max_whois_channels)
    × AllByRecursion (λ place. length place.channel ≤ max_channel) channels

-- A reply whose names and texts are as short as their limits say. One with a client's own words has
-- no limit: its line may be cut.
abbrev pub IsWithinLimits : Reply → Type 0
IsWithinLimits reply = AllByRecursion IsShort (row reply).words
    × IfSome (row reply).text (AllByRecursion IsShort)

-- the line of a reply, as long as it is
abbrev pub uncut_reply : List ℕ → Option (List ℕ) → Reply → List ℕ
uncut_reply server nick reply =
    joined_text (reply_parts server (reply_name nick) (reply_number reply) (words reply))

-- a line that holds the whole reply
pub record IsWhole (server : List ℕ) (nick : Option (List ℕ)) (reply : Reply) : Type 0 where
  pub fits : length (uncut_reply server nick reply) ≤ max_line
  pub uncut : reply_text server nick reply ≡ uncut_reply server nick reply ++ crlf

-- A reply within its limits, to a client with a nickname or without one, is written whole.
abbrev pub WithinLimitsIsWhole : Type 0
WithinLimitsIsWhole = (server : List ℕ) (nick : Option (List ℕ)) (reply : Reply)
    → length server ≤ max_server → IfSome nick
    (λ n. length n ≤ max_nick)
    → IsWithinLimits reply → IsWhole server nick reply

-- The text of a 353 has at most 473 bytes: 154 of `:server 353 nick = #channel :`, and 319 of ten
-- nicknames, each with its mark, and the nine spaces between them.
abbrev pub NamesAreShort : Type 0
NamesAreShort = (server : List ℕ) (nick : Option (List ℕ)) (visibility : Visibility)
    (channel : List ℕ) (names : List Listed) → length server ≤ max_server
    → IfSome nick (λ n. length n ≤ max_nick) → IsWithinLimits (NamReply visibility channel names)
    → length (uncut_reply server nick (NamReply visibility channel names)) ≤ 473
