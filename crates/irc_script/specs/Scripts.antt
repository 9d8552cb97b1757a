-- What a script asks for, line by line.
use Rattle.std.specs.Prelude.{ℕ, ◌+◌, ◌&&◌, ◌==◌, not, nat_lt, Bool, Option, Some, None, Result, Ok}
use Rattle.std.specs.Prelude.{Err, List, [], ◌∷◌, ◌++◌, length, take, drop, position, codes}
use Rattle.std.specs.Prelude.{is_none, is_some, option_and_then, if◌then◌else◌}
use Rattle.std.specs.List.{slice_split, filter_map, list_any}
use Rattle.std.specs.Option.{option_map, option_to_list}
use Rattle.std.specs.Str.{bytes_eq}
use Rattle.irc_line.specs.Bytes.{line_feed, is_space}
use Rattle.irc_line.specs.Lines.{is_empty, last_piece, earlier_pieces}
use Rattle.irc_names.specs.Names.{is_server, is_host}
use Rattle.irc_script.specs.Limits.{max_script_servers}
use Rattle.irc_decimals.specs.Numbers.{written_number}

-- what one line asks for
pub data Request : Type 0 where
  connects : (server host : List ℕ) → Request
  says : (client : ℕ) (rest : List ℕ) → Request
  goes : (client : ℕ) → Request
  links : (near far : List ℕ) → Request
  cuts : (near far : List ℕ) → Request
  delivers : (from to : List ℕ) → Request
  takes : (from to : List ℕ) (count : ℕ) → Request
  settles : Request

abbrev pub is_line_feed : ℕ → Bool
is_line_feed b = b == line_feed

-- the pieces but for the last one, if that is empty
abbrev pub ended : List (List ℕ) → List (List ℕ)
ended pieces = if is_empty (last_piece pieces) then earlier_pieces pieces else pieces

-- An LF ends a line. What follows the last LF is a line where it is not empty.
abbrev pub script_lines : List ℕ → List (List ℕ)
script_lines text = ended (slice_split is_line_feed text)

-- a text that is cut at a space
pub record Cut : Type 0 where
  pub before : List ℕ
  pub behind : List ℕ

abbrev pub cut_at : List ℕ → ℕ → Cut
cut_at text place = record { before = take place text; behind = drop (place + 1) text }

-- cut at the first space
abbrev pub cut_at_space : List ℕ → Option Cut
cut_at_space text = option_map (cut_at text) (position is_space text)

-- whether a text is this word
abbrev pub is_word : List ℕ → List ℕ → Bool
is_word text word = bytes_eq text word

-- the line `server NAME`
abbrev pub named_in : Cut → Option (List ℕ)
named_in line = if is_word line.before (codes "server") && is_server line.behind
    then Some line.behind else None

abbrev pub server_declared : List ℕ → Option (List ℕ)
server_declared line = option_and_then named_in (cut_at_space line)

-- `NAME HOST`
abbrev pub connect_in : Cut → Option Request
connect_in words = if is_server words.before && is_host words.behind
    then Some (connects words.before words.behind) else None

abbrev pub connect_of : List ℕ → Option Request
connect_of words = option_and_then connect_in (cut_at_space words)

-- `N REST`
abbrev pub say_in : Cut → Option Request
say_in words = option_map (λ client. says client words.behind) (written_number words.before)

abbrev pub say_of : List ℕ → Option Request
say_of words = option_and_then say_in (cut_at_space words)

-- `N`
abbrev pub gone_of : List ℕ → Option Request
gone_of word = option_map goes (written_number word)

-- the names of two servers
pub record Pair : Type 0 where
  pub near : List ℕ
  pub far : List ℕ

-- `NAME NAME`
abbrev pub pair_in : Cut → Option Pair
pair_in words = if is_server words.before && is_server words.behind
    then Some (record { near = words.before; far = words.behind }) else None

abbrev pub pair_of : List ℕ → Option Pair
pair_of words = option_and_then pair_in (cut_at_space words)

abbrev pub link_request : List ℕ → Option Request
link_request words = option_map (λ pair. links pair.near pair.far) (pair_of words)

abbrev pub cut_of : List ℕ → Option Request
cut_of words = option_map (λ pair. cuts pair.near pair.far) (pair_of words)

abbrev pub deliver_of : List ℕ → Option Request
deliver_of words = option_map (λ pair. delivers pair.near pair.far) (pair_of words)

-- `NAME N`, behind a name
abbrev pub bytes_from : List ℕ → Cut → Option Request
bytes_from from words =
    if is_server from && is_server words.before then option_map
    (λ count. takes from words.before count) (written_number words.behind) else None

abbrev pub bytes_in : Cut → Option Request
bytes_in words = option_and_then (bytes_from words.before) (cut_at_space words.behind)

-- `NAME NAME N`
abbrev pub bytes_asked : List ℕ → Option Request
bytes_asked words = option_and_then bytes_in (cut_at_space words)

-- what is asked for by a word with words behind it
abbrev pub request_in : Cut → Option Request
request_in line =
    if is_word line.before (codes "connect") then connect_of line.behind
    else if is_word line.before (codes "say") then say_of line.behind
    else if is_word line.before (codes "gone") then gone_of line.behind
    else if is_word line.before (codes "link") then link_request line.behind
    else if is_word line.before (codes "cut") then cut_of line.behind
    else if is_word line.before (codes "deliver") then deliver_of line.behind
    else if is_word line.before (codes "bytes") then bytes_asked line.behind
    else None

-- what a line asks for, if anything
unfoldable pub request_of : List ℕ → Option Request
request_of line = if is_word line (codes "settle") then Some settles
    else option_and_then request_in (cut_at_space line)

-- whether a server of this name may be named behind these: none has the name, and there is room for
-- one more
abbrev pub may_be_named : List (List ℕ) → List ℕ → Bool
may_be_named named name =
    nat_lt (length named) max_script_servers && not (list_any (bytes_eq name) named)

abbrev pub if_another : List (List ℕ) → List ℕ → Option (List ℕ)
if_another named name = if may_be_named named name then Some name else None

-- the server that a line names behind these, if it names another
abbrev pub another_server : List (List ℕ) → List ℕ → Option (List ℕ)
another_server named line = option_and_then (if_another named) (server_declared line)

-- these, and those that the lines name behind them: the first line that names no other is the end
unfoldable pub servers_behind : List (List ℕ) → List (List ℕ) → List (List ℕ)
servers_behind named [] = named
servers_behind named (line ∷ lines) =
    if is_some (another_server named line)
    then servers_behind (named ++ option_to_list (another_server named line)) lines else named

-- the servers of a script, in the order in which its first lines name them
abbrev pub servers_of : List (List ℕ) → List (List ℕ)
servers_of lines = servers_behind [] lines

pub record ScriptAsked : Type 0 where
  pub servers : List (List ℕ)
  pub requests : List Request

-- the first of these lines that asks for nothing is bad; lines are counted from 1
abbrev pub judged : List (List ℕ) → List (List ℕ) → Option ℕ → Result ScriptAsked ℕ
judged servers lines (Some bad) = Err (length servers + bad + 1)
judged servers lines None =
    Ok (record { servers = servers; requests = filter_map request_of lines })

-- whether a line asks for nothing
abbrev pub is_bad_line : List ℕ → Bool
is_bad_line line = is_none (request_of line)

abbrev pub behind_servers : List (List ℕ) → List (List ℕ) → Result ScriptAsked ℕ
behind_servers servers lines = judged servers lines (position is_bad_line lines)

-- each server stands in a line of its own, ahead of all that is asked for
abbrev pub lines_read : List (List ℕ) → Result ScriptAsked ℕ
lines_read lines = behind_servers (servers_of lines) (drop (length (servers_of lines)) lines)

-- what a script asks for, or the number of its first bad line
unfoldable pub script_read : List ℕ → Result ScriptAsked ℕ
script_read text = lines_read (script_lines text)
