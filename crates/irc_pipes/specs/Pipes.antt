-- What is on its way along links: in each direction bytes, and at the far end a framer that makes
-- lines of them (RFC 2812 section 2.3).
--
-- a.net has written `PING x` and CR LF to b.net, of which `PI` has come there:
--   begun    `PI`, which is no line yet
--   bytes    `NG x` and CR LF; once the CR has come, b.net has the line `PING x`
use Rattle.std.specs.Prelude.{◌≡◌, ℕ, suc, ◌+◌, min, Bool, true, false, not, ◌&&◌, ◌==◌, Option}
use Rattle.std.specs.Prelude.{Some, None, List, [], ◌∷◌, ◌++◌, drop, take, length, unwrap_or}
use Rattle.std.specs.Prelude.{if◌then◌else◌, Vec}
use Rattle.std.specs.FinMap.{FinMap, get, insert, keys, remove}
use Rattle.std.specs.List.{AllByRecursion, find, list_all, slice_get, slice_set}
use Rattle.std.specs.Option.{option_map_or}
use Rattle.std.specs.Ordering.{nat_cmp}
use Rattle.std.specs.declared.alloc.Global.{Global}
use Rattle.arrayvec.specs.ArrayVec.{ArrayVec}
use Rattle.irc_line.specs.Bytes.{crlf, line_feed}
use Rattle.irc_line.specs.Framed.{bytes_of}
use Rattle.irc_line.specs.Lines.{Begun, begun_behind, completed, has_nothing, nothing_begun}

-- ---- one direction of a link

-- what the far end has of a line that is not whole yet, and what is still on its way, in order
pub record LinkPipe : Type 0 where
  pub begun : Begun
  pub bytes : List ℕ

-- nothing was written yet, or all that was has come in whole lines
abbrev pub new_pipe : LinkPipe
new_pipe = record { begun = nothing_begun; bytes = [] }

-- a line is written behind what is on its way, with its CR LF
abbrev pub written : List ℕ → LinkPipe → LinkPipe
written line pipe = record pipe { bytes = pipe.bytes ++ (line ++ crlf) }

-- so many bytes have come to the far end, or all where there are fewer
abbrev pub advanced : ℕ → LinkPipe → LinkPipe
advanced count pipe = record {
  begun = begun_behind pipe.begun (take count pipe.bytes);
  bytes = drop count pipe.bytes;
}

-- how many these are
abbrev pub come_by : ℕ → LinkPipe → ℕ
come_by count pipe = min count (length pipe.bytes)

-- the lines that they complete there
abbrev pub lines_by : ℕ → LinkPipe → List (List ℕ)
lines_by count pipe = completed pipe.begun (take count pipe.bytes)

-- these lines stand behind those that were there before
abbrev pub Yields : ℕ → LinkPipe → Vec (ArrayVec ℕ) Global → Vec (ArrayVec ℕ) Global → Type 0
Yields count pipe before after = bytes_of after.items ≡ bytes_of before.items ++ lines_by count pipe

-- the lines that all that is on its way will complete
abbrev pub lines_to_come : LinkPipe → List (List ℕ)
lines_to_come pipe = completed pipe.begun pipe.bytes

-- whether there is no byte at all
abbrev pub is_none : List ℕ → Bool
is_none [] = true
is_none (byte ∷ bytes) = false

-- whether a byte is on its way
abbrev pub has_byte : LinkPipe → Bool
has_byte pipe = not (is_none pipe.bytes)

-- no byte is on its way, and no part of a line has come
abbrev pub is_still : LinkPipe → Bool
is_still pipe = is_none pipe.bytes && has_nothing pipe.begun

-- how many bytes there are up to and with the next LF; all where there is none
abbrev pub through_line_feed : List ℕ → ℕ
through_line_feed [] = 0
through_line_feed (byte ∷ bytes) = if byte == line_feed then 1 else suc (through_line_feed bytes)

-- ---- all directions of all links

-- Of each server, by its place, the pipes from it, under the places of the servers that they go to.
abbrev pub Pipes : Type 0
Pipes = List (FinMap nat_cmp LinkPipe)

-- the pipes from the server at this place, if there is one
abbrev pub from_at : Pipes → ℕ → Option (FinMap nat_cmp LinkPipe)
from_at pipes from = slice_get pipes from

-- a direction in which nothing was ever written is as one in which all has come
abbrev pub pipe_in : ℕ → FinMap nat_cmp LinkPipe → LinkPipe
pipe_in to row = unwrap_or (get row to) new_pipe

-- from a place where no server is nothing is on its way
abbrev pub pipe_at : Pipes → ℕ → ℕ → LinkPipe
pipe_at pipes from to = option_map_or (pipe_in to) (from_at pipes from) new_pipe

-- a pipe is kept only while something is on its way along it
abbrev pub put_in : ℕ → LinkPipe → FinMap nat_cmp LinkPipe → FinMap nat_cmp LinkPipe
put_in to pipe row = if is_still pipe then remove row to else insert row to pipe

-- a pipe is changed, where there is a server at the place that it is from
abbrev pub with_pipe : ℕ → ℕ → LinkPipe → Pipes → Pipes
with_pipe from to pipe pipes =
    option_map_or (λ row. slice_set pipes from (put_in to pipe row)) (from_at pipes from) pipes

-- a line is written in a direction
abbrev pub written_at : ℕ → ℕ → List ℕ → Pipes → Pipes
written_at from to line pipes = with_pipe from to (written line (pipe_at pipes from to)) pipes

-- so many bytes have come in a direction
abbrev pub advanced_at : ℕ → ℕ → ℕ → Pipes → Pipes
advanced_at from to count pipes = with_pipe from to (advanced count (pipe_at pipes from to)) pipes

-- nothing is on its way any more in a direction, and its framer begins anew
abbrev pub without_pipe : ℕ → ℕ → Pipes → Pipes
without_pipe from to pipes =
    option_map_or (λ row. slice_set pipes from (remove row to)) (from_at pipes from) pipes

-- the same of all pipes from one server
abbrev pub are_still_in : FinMap nat_cmp LinkPipe → Bool
are_still_in row = list_all (λ to. is_still (pipe_in to row)) (keys row)

-- nothing is on its way anywhere, and no line has come in part
abbrev pub are_still : Pipes → Bool
are_still pipes = list_all are_still_in pipes

pub record Direction : Type 0 where
  pub from : ℕ
  pub to : ℕ

abbrev pub first_in : FinMap nat_cmp LinkPipe → Option ℕ
first_in row = find (λ to. has_byte (pipe_in to row)) (keys row)

-- the first direction in which a byte is on its way, by the place that it is from and then the one
-- where it goes
abbrev pub first_from : ℕ → Pipes → Option Direction
first_from place [] = None
first_from place (row ∷ pipes) = option_map_or (λ to. Some (record { from = place; to = to }))
    (first_in row) (first_from (place + 1) pipes)

abbrev pub first_direction : Pipes → Option Direction
first_direction pipes = first_from 0 pipes

-- ---- one representation

-- no pipe that is still is kept
abbrev pub IsLean : FinMap nat_cmp LinkPipe → Type 0
IsLean row = (to : ℕ) (pipe : LinkPipe) → get row to ≡ Some pipe → is_still pipe ≡ false

abbrev pub AreLean : Pipes → Type 0
AreLean pipes = AllByRecursion IsLean pipes

-- pipes of as many servers that carry the same are the same
abbrev pub SamePipes : Type 0
SamePipes = (one other : Pipes) → AreLean one → AreLean other → length one ≡ length other
    → ((from to : ℕ) → pipe_at one from to ≡ pipe_at other from to) → one ≡ other
