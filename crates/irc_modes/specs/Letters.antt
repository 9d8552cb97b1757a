-- The bytes that the letters of modes and their signs are written as (RFC 2811 section 4, RFC 2812
-- section 3.2.3).
use Rattle.std.specs.Prelude.{ℕ, Bool, true, false, if◌then◌else◌}
use Rattle.irc_modes.specs.declared.modes.ModeLetter.{ModeLetter}
use Rattle.irc_modes.specs.declared.modes.ModeLetter.TheVariants as letter

-- i, m, n, t, p, s, k, l, b, o, v
abbrev pub letter_byte : ModeLetter → ℕ
letter_byte letter.InviteOnly = 0x69
letter_byte letter.Moderated = 0x6D
letter_byte letter.NoOutside = 0x6E
letter_byte letter.TopicLocked = 0x74
letter_byte letter.Private = 0x70
letter_byte letter.Secret = 0x73
letter_byte letter.Key = 0x6B
letter_byte letter.Limit = 0x6C
letter_byte letter.Ban = 0x62
letter_byte letter.Operator = 0x6F
letter_byte letter.Voice = 0x76

-- `+`
abbrev pub plus_byte : ℕ
plus_byte = 0x2B

-- `-`
abbrev pub minus_byte : ℕ
minus_byte = 0x2D

-- `+` where a mode is set, `-` where it is taken away
abbrev pub sign_byte : Bool → ℕ
sign_byte plus = if plus then plus_byte else minus_byte

-- whether the parameter of a letter is the nickname of a member
abbrev pub names_member : ModeLetter → Bool
names_member letter.Operator = true
names_member letter.Voice = true
names_member other = false
