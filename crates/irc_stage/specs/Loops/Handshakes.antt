-- What has come from the other end of a link, by the state of the handshake.
use Rattle.std.specs.Prelude.{ℕ, Option, Some, None, List}
use Rattle.irc_stage.specs.declared.link_end.Handshake.{Handshake}
use Rattle.irc_stage.specs.declared.link_end.Handshake.TheVariants.{Fresh, PasswordKnown, Met}

-- the password that was given
abbrev pub password_in : Handshake → Option (List ℕ)
password_in Fresh = None
password_in (PasswordKnown password) = Some password
password_in (Met password far) = password

-- the name of the server there
abbrev pub far_in : Handshake → Option (List ℕ)
far_in Fresh = None
far_in (PasswordKnown password) = None
far_in (Met password far) = Some far
