-- What a doorman says, and the line that it gives for who is silent.
--   to who gave no password with PASS    :a.net 461 * PASS :Not enough parameters
--   to who gave another, or none         :a.net 464 * :Password incorrect
--                                        ERROR :Closing link (Bad password)
--   to who says nothing                  PING :a.net
use Rattle.std.specs.Prelude.{ℕ, Some, List, [], ◌∷◌, codes}
use Rattle.irc_line.specs.Messages.{Written, named, nobody}

abbrev pub reply_parts : (server number : List ℕ) → List (List ℕ) → (last : List ℕ) → Written
reply_parts server number words last =
    record { sender = named server; command = number; middle = words; last = Some last }

-- RFC 2812 section 5.2
abbrev pub lacking : (server : List ℕ) → Written
lacking server = reply_parts server (codes "461") (codes "*" ∷ codes "PASS" ∷ [])
    (codes "Not enough parameters")

abbrev pub bad_password : (server : List ℕ) → Written
bad_password server =
    reply_parts server (codes "464") (codes "*" ∷ []) (codes "Password incorrect")

-- RFC 2812 section 3.7.4; the words are our own
abbrev pub closing : Written
closing = record {
  sender = nobody;
  command = codes "ERROR";
  middle = [];
  last = Some (codes "Closing link (Bad password)");
}

-- RFC 2812 section 3.7.2
abbrev pub ping : (server : List ℕ) → Written
ping server =
    record { sender = nobody; command = codes "PING"; middle = []; last = Some server }
