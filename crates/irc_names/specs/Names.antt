-- The rules of names. Each is a test of a list of bytes; the word that begins with `Is` is the same
-- rule as a fact, which a value of the type of that name always meets. The rules unfold only where
-- a proof says so: `specs/Lemmas/RuleFacts.antt` says what follows from each.
use Rattle.std.specs.Prelude.{ℕ, Bool, false, ◌&&◌, ◌||◌, not, List, [], ◌∷◌, length, nat_eq}
use Rattle.std.specs.Prelude.{nat_le, codes, IsTrue}
use Rattle.std.specs.List.{list_any, list_all}
use Rattle.std.specs.Char.{is_ascii_alphabetic, is_ascii_alphanumeric, is_ascii_digit}
use Rattle.std.specs.Char.{is_ascii_lowercase, is_ascii_graphic}
use Rattle.irc_names.specs.Limits.{max_nick, max_channel, max_host, max_server, max_key}
use Rattle.irc_names.specs.Limits.{max_ban_mask}

-- whether the byte is one of the bytes of a text
abbrev pub is_one_of : List ℕ → ℕ → Bool
is_one_of bytes byte = list_any (nat_eq byte) bytes

-- at most as many bytes as the limit says
abbrev pub fits : ℕ → List ℕ → Bool
fits limit bytes = nat_le (length bytes) limit

-- whether there is a first byte, and it is not `:`, with which a line begins its last parameter
-- (RFC 2812, section 2.3.1)
abbrev pub starts_without_colon : List ℕ → Bool
starts_without_colon [] = false
starts_without_colon (first ∷ _) = not (nat_eq first 0x3A)

-- RFC 2812, section 2.3.1, `special`: one of []\`_^{|}
abbrev pub is_special : ℕ → Bool
is_special = is_one_of (codes "[]\\`_^{|}")

-- what may stand after the first byte of a nickname
abbrev pub is_nick_byte : ℕ → Bool
is_nick_byte byte = is_ascii_alphanumeric byte || is_special byte || nat_eq byte 0x2D

-- RFC 2812, section 2.3.1, `nickname`: a letter or a special, then letters, digits, specials and
-- `-`
unfoldable pub is_nick : List ℕ → Bool
is_nick [] = false
is_nick (first ∷ rest) =
    (is_ascii_alphabetic first || is_special first) && list_all is_nick_byte rest
    && fits max_nick (first ∷ rest)

-- RFC 2812, section 2.3.1, `chanstring`: NUL, bell, CR, LF, space, comma and `:` are not in a
-- channel's name
abbrev pub is_channel_byte : ℕ → Bool
is_channel_byte byte = not (is_one_of (0x00 ∷ 0x07 ∷ 0x0D ∷ 0x0A ∷ codes " ,:") byte)

-- RFC 2812, section 1.3: `#`, then bytes of `chanstring`. Channels that begin with `&`, `+` or `!`
-- are left out, by our own choice.
unfoldable pub is_channel : List ℕ → Bool
is_channel [] = false
is_channel (first ∷ rest) =
    nat_eq first 0x23 && list_all is_channel_byte rest && fits max_channel (first ∷ rest)

-- what a host is made of: letters, digits, `.`, `-` and, for an address of IPv6, `:`
abbrev pub is_host_byte : ℕ → Bool
is_host_byte byte = is_ascii_alphanumeric byte || is_one_of (codes ".-:") byte

-- RFC 2812, section 2.3.1, `host`; the first byte is not `:`, so that a host can stand as a middle
-- parameter (our own choice)
unfoldable pub is_host : List ℕ → Bool
is_host bytes = starts_without_colon bytes && list_all is_host_byte bytes && fits max_host bytes

-- what a server's name is made of
abbrev pub is_server_byte : ℕ → Bool
is_server_byte byte = is_ascii_lowercase byte || is_ascii_digit byte || is_one_of (codes ".-") byte

-- A server's name: lower case, and with a `.`, so that it is never a nickname (our own choice; RFC
-- 2812, section 2.3.1, `servername`, takes any host's name).
unfoldable pub is_server : List ℕ → Bool
is_server bytes =
    list_any (nat_eq 0x2E) bytes && list_all is_server_byte bytes && fits max_server bytes

-- what a channel's key is made of: the bytes 0x21 to 0x7E but for the comma
abbrev pub is_key_byte : ℕ → Bool
is_key_byte byte = is_ascii_graphic byte && not (nat_eq byte 0x2C)

-- A channel's key. RFC 2812, section 2.3.1, `key`, takes other bytes; these are our own choice.
unfoldable pub is_key : List ℕ → Bool
is_key bytes = starts_without_colon bytes && list_all is_key_byte bytes && fits max_key bytes

-- what a mask is made of: any byte but a space
abbrev pub is_ban_mask_byte : ℕ → Bool
is_ban_mask_byte byte = not (nat_eq byte 0x20)

-- A mask that a ban can keep (our own choice): bytes that a middle parameter can have, the first
-- not `:`.
unfoldable pub is_ban_mask : List ℕ → Bool
is_ban_mask bytes =
    starts_without_colon bytes && list_all is_ban_mask_byte bytes && fits max_ban_mask bytes

abbrev pub IsNick : List ℕ → Type 0
IsNick bytes = IsTrue (is_nick bytes)

abbrev pub IsChannel : List ℕ → Type 0
IsChannel bytes = IsTrue (is_channel bytes)

abbrev pub IsHost : List ℕ → Type 0
IsHost bytes = IsTrue (is_host bytes)

abbrev pub IsServer : List ℕ → Type 0
IsServer bytes = IsTrue (is_server bytes)

abbrev pub IsBanMask : List ℕ → Type 0
IsBanMask bytes = IsTrue (is_ban_mask bytes)

abbrev pub IsKey : List ℕ → Type 0
IsKey bytes = IsTrue (is_key bytes)
