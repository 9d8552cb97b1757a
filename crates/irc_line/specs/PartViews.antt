-- What the code's parts say, without where their bytes lie.
use Rattle.std.specs.Prelude.{ℕ, List, map}
use Rattle.std.specs.Borrow.{Bor}
use Rattle.irc_line.specs.declared.writing.Prefix.{Prefix}
use Rattle.irc_line.specs.declared.writing.Prefix.TheVariants.{Nothing, Name, Full}
use Rattle.irc_line.specs.declared.writing.Parts.{Parts}
use Rattle.irc_line.specs.Messages.{Sender, nobody, named, full, Written}
use Rattle.irc_line.specs.MessageViews.{optional_now}

abbrev pub words_now : List (Bor (List ℕ)) → List (List ℕ)
words_now = map (λ word. word.now)

abbrev pub sender : Prefix → Sender
sender Nothing = nobody
sender (Name name) = named (name.now)
sender (Full nick user host) = full (nick.now) (user.now) (host.now)

abbrev pub written : Parts → Written
written parts = record {
  sender = sender parts.prefix;
  command = parts.command.now;
  middle = words_now parts.middle.now;
  last = optional_now parts.last;
}
