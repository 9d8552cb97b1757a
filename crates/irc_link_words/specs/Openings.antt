-- What the lines with which a link begins say, while the neighbour has not named itself (RFC 2813
-- section 4.1). A neighbour gives a password and then names itself; reasons to close the link are
-- looked for in the order UnknownCommand, Parameters, Order, UnknownPeer, Password, AlreadyKnown,
-- Full.
--
-- Lines by a new link, as a.net reads them:
--   `PASS pw 0210010001 TREE|`      the password is pw
--   the same once more              Order
-- `PASS pw 0210010000 TREE|` Parameters: that is another version, as the one before ours. So it is
-- of a password of 21 bytes, and with a word more or less
--   `SERVER b.net 1 1 :B`           it is b.net; before a password it is Order
-- `SERVER b.net 2 1 :B` Parameters: whoever names itself is one link away, and has number 1
--   `SERVER b 1 1 :B`               UnknownPeer: what is no server's name is no peer's
use Rattle.std.specs.Prelude.{ℕ, Bool, true, false, ◌&&◌, is_some, Option, Some, None, Result, Ok}
use Rattle.std.specs.Prelude.{Err, List, [], ◌∷◌, codes, if◌then◌else◌}
use Rattle.std.specs.Str.{bytes_eq}
use Rattle.irc_batch.specs.declared.close_reason.CloseReason.{CloseReason}
use Rattle.irc_batch.specs.declared.close_reason.CloseReason.TheVariants as reason
use Rattle.irc_line.specs.Messages.{Parsed}
use Rattle.irc_names.specs.Names.{is_server}
use Rattle.irc_routes.specs.Info.{is_info}
use Rattle.irc_link_words.specs.Words.{is_command}
use Rattle.irc_link_words.specs.GreetingLines.{version, agreement}
use Rattle.irc_link_words.specs.Passwords.{is_password}
use Rattle.irc_link_words.specs.declared.openings.Opening.{Opening}
use Rattle.irc_link_words.specs.declared.openings.Opening.TheVariants as opening

-- ---- PASS (RFC 2813 section 4.1.1)

-- the password that the words of a PASS give, where version and agreement are ours
abbrev pub password_of : List (List ℕ) → Option (List ℕ)
password_of (password ∷ given ∷ agreed ∷ []) =
    if bytes_eq given version && bytes_eq agreed agreement
    then (if is_password password then Some password else None) else None
password_of words = None

-- a password comes once
abbrev pub pass_opens : Bool → Option (List ℕ) → Result Opening CloseReason
pass_opens has_password None = Err reason.Parameters
pass_opens false (Some password) = Ok (opening.Password password)
pass_opens true (Some password) = Err reason.Order

-- ---- SERVER, by which a neighbour names itself (RFC 2813 section 4.1.2)

-- its name, and how it describes itself
abbrev pub greeting_if : List ℕ × List ℕ → Option (List ℕ × List ℕ)
greeting_if named = if is_info named.1 then Some named else None

-- what the words give, whatever the name: whoever names itself is one link away, and has number 1
abbrev pub greeting_of : List (List ℕ) → Option (List ℕ × List ℕ)
greeting_of (name ∷ distance ∷ token ∷ info ∷ []) = if bytes_eq distance (codes "1")
    && bytes_eq token (codes "1") then greeting_if (name, info) else None
greeting_of words = None

-- what is no server's name is no peer's
abbrev pub greeting_named : List ℕ × List ℕ → Result Opening CloseReason
greeting_named named =
    if is_server named.0 then Ok (opening.Greeting named.0 named.1) else Err reason.UnknownPeer

-- it comes behind a password
abbrev pub greeting_opens : Bool → Option (List ℕ × List ℕ) → Result Opening CloseReason
greeting_opens has_password None = Err reason.Parameters
greeting_opens false (Some named) = Err reason.Order
greeting_opens true (Some named) = greeting_named named

-- ---- a whole line

-- What a line comes to, if it is one with which a link begins: nobody is named in it as the one
-- whom it is from. `has_password` is whether a password has come.
unfoldable pub opening_of : Bool → Parsed → Option (Result Opening CloseReason)
opening_of has_password message =
    if is_some message.prefix then None
    else (if is_command (codes "PASS") message.command
    then Some (pass_opens has_password (password_of message.params))
    else (if is_command (codes "SERVER") message.command
    then Some (greeting_opens has_password (greeting_of message.params)) else None))

-- A line that does not begin the link closes it. What is wrong with a line in itself is told before
-- that it is out of its place: a reason that is told first, or this.
abbrev pub told_first : CloseReason → CloseReason
told_first reason.UnknownCommand = reason.UnknownCommand
told_first reason.Parameters = reason.Parameters
told_first later = reason.Order
