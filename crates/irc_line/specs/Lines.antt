-- The lines of a byte stream, and what is no line yet (RFC 2812 section 2.3).
--
-- Our own choice, lenient: each CR and each LF ends a line, an empty line and a line with a NUL are
-- dropped, and of a longer line the first 510 bytes count.
use Rattle.std.specs.Prelude.{◌≡◌, ℕ, ◌<◌, ◌≤◌, Bool, true, false, not, ◌&&◌, ◌||◌, length, Option}
use Rattle.std.specs.Prelude.{Some, None, List, [], ◌∷◌, ◌++◌, if◌then◌else◌}
use Rattle.std.specs.List.{slice_split, filter_map, list_any}
use Rattle.irc_line.specs.Limits.{max_line}
use Rattle.irc_line.specs.Bytes.{is_line_end, has_nul, cut}

-- the last of some pieces
abbrev pub last_piece : List (List ℕ) → List ℕ
last_piece [] = []
last_piece (piece ∷ []) = piece
last_piece (piece ∷ next ∷ pieces) = last_piece (next ∷ pieces)

-- the pieces before the last
abbrev pub earlier_pieces : List (List ℕ) → List (List ℕ)
earlier_pieces [] = []
earlier_pieces (piece ∷ []) = []
earlier_pieces (piece ∷ next ∷ pieces) = piece ∷ earlier_pieces (next ∷ pieces)

-- whether there are no bytes
abbrev pub is_empty : List ℕ → Bool
is_empty [] = true
is_empty (b ∷ bytes) = false

-- the line that a piece is, if it is one
abbrev pub line_of : List ℕ → Option (List ℕ)
line_of piece = if is_empty piece || has_nul piece then None else Some (cut piece)

-- what follows the last line end: no line yet
unfoldable pub tail : List ℕ → List ℕ
tail bytes = last_piece (slice_split is_line_end bytes)

-- the lines of a whole stream, in order
unfoldable pub lines : List ℕ → List (List ℕ)
lines bytes = filter_map line_of (earlier_pieces (slice_split is_line_end bytes))

-- All that counts of a piece that has begun: what a line has room for, and whether a NUL is in it,
-- perhaps behind that.
pub record Begun : Type 0 where
  pub kept : List ℕ
  pub nul_seen : Bool

-- what counts of these bytes, where a piece begins with them
abbrev pub begun_of : List ℕ → Begun
begun_of piece = record { kept = cut piece; nul_seen = has_nul piece }

-- a framer with this value has taken this stream
abbrev pub HasTaken : Begun → List ℕ → Type 0
HasTaken framer stream = framer ≡ begun_of (tail stream)

-- a framer that has no bytes of a line
abbrev pub nothing_begun : Begun
nothing_begun = record { kept = []; nul_seen = false }

-- A stream that the framer may have taken: what it kept, and a NUL behind that where it saw one
-- that it did not keep.
abbrev pub stream_for : Begun → List ℕ
stream_for framer =
    framer.kept ++ (if framer.nul_seen && not (has_nul framer.kept) then 0 ∷ [] else [])

-- the lines that bytes complete which come to a framer, and what it is then
abbrev pub completed : Begun → List ℕ → List (List ℕ)
completed framer bytes = lines (stream_for framer ++ bytes)

-- what a framer is when bytes have come to it: the last piece of all has begun
abbrev pub begun_behind : Begun → List ℕ → Begun
begun_behind framer bytes = begun_of (tail (stream_for framer ++ bytes))

-- whether no byte of a line has come, not even one that is not kept
abbrev pub has_nothing : Begun → Bool
has_nothing framer = is_empty framer.kept && not framer.nul_seen

-- what each line is: 1 to 510 bytes, none of them NUL, CR or LF
pub record IsLine (line : List ℕ) : Type 0 where
  pub some_byte : 0 < length line
  pub fits : length line ≤ max_line
  pub no_nul : has_nul line ≡ false
  pub no_end : list_any is_line_end line ≡ false

-- Whatever stream led to the framer old, after these bytes more it is new, and just the lines found
-- are new.
pub record Takes (old : Begun) (bytes : List ℕ) (found : List (List ℕ)) (new : Begun) : Type 0 where
  pub framer : (stream : List ℕ) → HasTaken old stream → HasTaken new (stream ++ bytes)
  pub lines_found : (stream : List ℕ) → HasTaken old stream
      → lines (stream ++ bytes) ≡ lines stream ++ found

-- Whatever stream led to the framer old, these bytes more end no line.
abbrev pub EndsNoLine : Begun → List ℕ → Type 0
EndsNoLine old bytes =
    (stream : List ℕ) → HasTaken old stream → lines (stream ++ bytes) ≡ lines stream

-- Whatever stream led to the framer, this is whether its tail is empty.
abbrev pub TellsTail : Begun → Bool → Type 0
TellsTail framer none = (stream : List ℕ) → HasTaken framer stream → none ≡ is_empty (tail stream)
