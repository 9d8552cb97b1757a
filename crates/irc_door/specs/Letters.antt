-- A text that was cut within a letter: the bytes of UTF-8 at its end begin one, and do not end it
-- (RFC 3629). Where all that stands before is well formed, that beginning is left out.
--   0xD0 0xBF 0xD1          0xD0 0xBF           the second letter is cut
--   0x61 0xE9 0x62          0x61 0xE9 0x62      no UTF-8
use Rattle.std.specs.Prelude.{ℕ, List, drop, take, if◌then◌else◌}
use Rattle.std.specs.Option.{is_none}
use Rattle.std.specs.Str.Lossy.{utf8_error_len, utf8_valid_len}

-- how many bytes at the front are letters, and whether what stands behind begins one
unfoldable pub whole_letters : List ℕ → List ℕ
whole_letters text =
    if is_none (utf8_error_len (drop (utf8_valid_len text) text))
    then take (utf8_valid_len text) text else text
