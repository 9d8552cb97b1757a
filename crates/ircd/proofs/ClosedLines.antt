-- A line is written, or a front of it.
use Rattle.std.proofs.Common.{◌≡◌, ◌∙◌, ℕ, Option, Some, None, Result, Ok, Err, List, [], take}
use Rattle.std.proofs.Common.{append-nil, sym, ap, subst}
use Rattle.std.specs.Io.KnownBytes.{Appends, Keeps, WriteAppends}
use Rattle.std.specs.Net.Text.{socket_text}
use Rattle.std.specs.declared.net.socket_addr.SocketAddr.{SocketAddr}
use Rattle.ircd.specs.ClosedDoors.{SaysClosed, closed_line}

nothing_said : (old new : Option (List ℕ)) → Keeps old new → Appends old new []
nothing_said None new kept = tt
nothing_said (Some held) None kept = kept
nothing_said (Some held) (Some after) kept = kept ∙ sym (append-nil held)

pub said_front : {E : Type 0} (address : SocketAddr) (text words line : List ℕ) (r : Result ℕ E)
    (old new : Option (List ℕ)) → text ≡ socket_text address → line ≡ closed_line text words
    → WriteAppends old new r line → SaysClosed address old new
said_front address text words line (Ok count) old new text_is is wrote = record {
  words = words;
  count = count;
  appended = subst (λ l. Appends old new (take count l))
      (is ∙ ap (λ t. closed_line t words) text_is) wrote;
}
said_front address text words line (Err error) old new text_is is kept =
    record { words = words; count = 0; appended = nothing_said old new kept }

-- nothing is
pub said_nothing : (address : SocketAddr) (held : Option (List ℕ)) → SaysClosed address held held
said_nothing address None = record { words = []; count = 0; appended = tt }
said_nothing address (Some held) =
    record { words = []; count = 0; appended = sym (append-nil held) }
