-- What a line says, and what parts are written as (RFC 2812 section 2.3.1).
use Rattle.std.specs.Prelude.{◌≡◌, ◌≢◌, ℕ, ◌≤◌, true, false, not, Option, Some, None, List, [], ◌∷◌}
use Rattle.std.specs.Prelude.{◌++◌, length, option_to_list, unwrap_or}
use Rattle.std.specs.List.{flat_map, list_all, AllByRecursion}
use Rattle.irc_line.specs.Limits.{max_parameters}
use Rattle.irc_line.specs.Bytes.{space, colon, exclamation_mark, at_sign, is_space, is_colon}
use Rattle.irc_line.specs.Bytes.{has_nul, begins, crlf, cut}

-- a message: the prefix if there is one, the command as it was given, the parameters
pub record Parsed : Type 0 where
  pub prefix : Option (List ℕ)
  pub command : List ℕ
  pub params : List (List ℕ)

-- who sends a message: nobody named, a name, or a user's nickname, user name and host
pub data Sender : Type 0 where
  nobody : Sender
  named : List ℕ → Sender
  full : (nick user host : List ℕ) → Sender

-- the parts of a message that is to be written; last is the parameter that may hold spaces
pub record Written : Type 0 where
  pub sender : Sender
  pub command : List ℕ
  pub middle : List (List ℕ)
  pub last : Option (List ℕ)

-- nick!user@host (RFC 2812 section 2.3.1, "prefix")
abbrev pub full_name : List ℕ → List ℕ → List ℕ → List ℕ
full_name nick user host = nick ++ (exclamation_mark ∷ []) ++ user ++ (at_sign ∷ []) ++ host

-- the prefix that a sender is
abbrev pub prefix_of : Sender → Option (List ℕ)
prefix_of nobody = None
prefix_of (named name) = Some name
prefix_of (full nick user host) = Some (full_name nick user host)

-- who a line is from, as it is written, before its command
abbrev pub prefix_text : Option (List ℕ) → List ℕ
prefix_text None = []
prefix_text (Some name) = (colon ∷ []) ++ name ++ (space ∷ [])

-- the parameters that stand as words, as they are written
abbrev pub middle_text : List (List ℕ) → List ℕ
middle_text = flat_map (λ word. space ∷ word)

-- the last parameter behind its colon, as it is written
abbrev pub last_text : Option (List ℕ) → List ℕ
last_text None = []
last_text (Some last) = space ∷ colon ∷ last

-- the parts, written one after another
abbrev pub joined_text : Written → List ℕ
joined_text parts = prefix_text (prefix_of parts.sender) ++ parts.command
    ++ middle_text parts.middle ++ last_text parts.last

-- the line that they are: what a line has room for (our own choice: a longer one is cut)
unfoldable pub line_text : Written → List ℕ
line_text parts = cut (joined_text parts)

-- the line with its CR LF
abbrev pub text : Written → List ℕ
text parts = line_text parts ++ crlf

-- the message that the parts are
abbrev pub message_of : Written → Parsed
message_of parts = record {
  prefix = prefix_of parts.sender;
  command = parts.command;
  params = parts.middle ++ option_to_list parts.last;
}

-- a word that is read again as it was written: some bytes, none a space or a NUL, the first no
-- colon (RFC 2812 section 2.3.1, "middle")
pub record IsPlainWord (word : List ℕ) : Type 0 where
  pub is_some : word ≢ []
  pub no_space : list_all (λ b. not (is_space b)) word ≡ true
  pub no_colon : begins is_colon word ≡ false
  pub no_nul : has_nul word ≡ false

-- parts that are read again as they were written
pub record IsPlain (parts : Written) : Type 0 where
  pub prefix_no_space : list_all (λ b. not (is_space b))
      (unwrap_or (prefix_of parts.sender) []) ≡ true
  pub prefix_no_nul : has_nul (unwrap_or (prefix_of parts.sender) []) ≡ false
  pub command : IsPlainWord parts.command
  pub middle : AllByRecursion IsPlainWord parts.middle
  pub last_no_nul : has_nul (unwrap_or parts.last []) ≡ false
  pub count : length (message_of parts).params ≤ max_parameters
