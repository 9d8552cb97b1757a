-- The password that a client gives (our own choice): 1 to 64 bytes that a line can have (RFC 2812
-- section 2.3.1).
--   tr0ub4dor, open sesame      passwords
--   an empty text, 65 bytes     none
use Rattle.std.specs.Prelude.{◌≡◌, ℕ, Bool, true, not, ◌&&◌, ◌||◌, List, length, nat_eq, nat_le}
use Rattle.std.specs.List.{list_all}

-- no NUL, LF or CR
abbrev pub can_be_said : ℕ → Bool
can_be_said byte = not (nat_eq byte 0 || (nat_eq byte 10 || nat_eq byte 13))

abbrev pub is_client_password : List ℕ → Bool
is_client_password bytes =
    nat_le 1 (length bytes) && (nat_le (length bytes) 64 && list_all can_be_said bytes)

abbrev pub IsClientPassword : List ℕ → Type 0
IsClientPassword bytes = is_client_password bytes ≡ true
