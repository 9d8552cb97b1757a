-- What the system's answers to reads and writes tell.
use Rattle.std.specs.Prelude.{ℕ, Bool, true, false, if◌then◌else◌, Result, Ok, Err}
use Rattle.std.specs.declared.io.ErrorKind.{ErrorKind}
use Rattle.std.specs.declared.io.ErrorKind.TheVariants as kind
use Rattle.irc_outbox.specs.declared.wire.Got.{Got}
use Rattle.irc_outbox.specs.declared.wire.Got.TheVariants as got
use Rattle.irc_outbox.specs.declared.wire.IoFault.{IoFault}
use Rattle.irc_outbox.specs.declared.wire.IoFault.TheVariants as fault

-- nothing is there, or a signal came between; anything else is a failure
abbrev pub is_for_now : ErrorKind → Bool
is_for_now kind.WouldBlock = true
is_for_now kind.Interrupted = true
is_for_now _ = false

abbrev pub unread_as : ErrorKind → Result Got IoFault
unread_as error = if is_for_now error then Ok got.Later else Err fault.Failed

abbrev pub unwritten_as : ErrorKind → Result ℕ IoFault
unwritten_as error = if is_for_now error then Ok 0 else Err fault.Failed
