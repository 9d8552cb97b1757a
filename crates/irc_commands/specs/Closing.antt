-- The line that a client is sent before it is closed.
use Rattle.std.specs.Prelude.{ℕ, Some, List, [], ◌++◌, codes}
use Rattle.irc_line.specs.Messages.{nobody, text}

-- the line that ends a connection (RFC 2812 section 3.7.4; our own text)
abbrev pub closing_line : List ℕ → List ℕ
closing_line words =
    text (record { sender = nobody; command = codes "ERROR"; middle = []; last = Some words })

-- the same, telling why it ends
abbrev pub error_line : List ℕ → List ℕ
error_line reason = closing_line (codes "Closing link (" ++ reason ++ codes ")")
