-- What a layer puts out of what its server puts out: what is for clients, as it is; and on a link
-- each line is a piece, with a count in front where the other end is to be told how many were read.
--   a.net has read 5 pieces of b.net of which it has told 3; its server puts out, on two links
--     to b.net    :al JOIN #c         a.net writes    COUNT 5 1
--                                                     :al JOIN #c
--     to b.net    :al PART #c :bye    a.net writes    :al PART #c :bye
--     to c.net    :al PART #c :bye    a.net writes    :al PART #c :bye
-- The servers that are lost together are told of in one piece: else one could seem to be linked to
-- one that is not there.
--     to b.net    :a.net SQUIT c.net :..     a.net writes    COUNT 5 2
--                 :a.net SQUIT d.net :..                     :a.net SQUIT c.net :..
--                                                            :a.net SQUIT d.net :..
-- Not put out is one kind of line: a KILL on the link by which the NICK came that it answers. The
-- other end finds the two users with one nickname as it reads this one's NICK.
-- What a server does as it is told to, for somebody who is gone, is marked:
--     to c.net    :b.net MODE #c +i          a.net writes    COUNT 5 1 set
--                                                            :b.net MODE #c +i
-- On a link that does not count such a MODE or TOPIC goes alone, and raises there; a KICK and an
-- NJOIN of nobody do not go. Who is away is told where both ends have offered that (`Away.antt`).
use Rattle.std.specs.Prelude.{ℕ, suc, ◌-◌, Bool, false, ◌&&◌, ◌||◌, is_some, Option, Some, None}
use Rattle.std.specs.Prelude.{Result, Ok, Err, List, [], ◌∷◌, ◌++◌, codes, length, take, min}
use Rattle.std.specs.Prelude.{nat_eq, if◌then◌else◌}
use Rattle.std.specs.Option.{option_map_or}
use Rattle.irc_line.specs.declared.reading.LineFault.{LineFault}
use Rattle.irc_line.specs.Messages.{Parsed, text}
use Rattle.irc_line.specs.Reading.{read_of}
use Rattle.irc_batch.specs.Batches.{Sent, end_of, end_of_link, line_on, line_to}
use Rattle.irc_pieces.specs.declared.count.Count.{Count}
use Rattle.irc_pieces.specs.declared.count.Mark.{Mark}
use Rattle.irc_pieces.specs.Counting.{count_parts}
use Rattle.irc_pieces.specs.Tallies.{count_alone, count_for}
use Rattle.irc_link_end.specs.LinkEnds.{after_count_out, after_line_out, after_piece_out, way_out}
use Rattle.irc_link_end.specs.Offers.{with_words}
use Rattle.irc_link_end.specs.declared.greeting.WayOut.{WayOut}
use Rattle.irc_link_end.specs.declared.greeting.WayOut.TheVariants.{Plain, WithWords, InPiece}
use Rattle.irc_link_words.specs.Words.{is_command}
use Rattle.irc_crossing.specs.Hearing.{logged_of}
use Rattle.irc_crossing.specs.Lines.{brings_nobody, is_kick_line, is_kill_line}
use Rattle.irc_crossing.specs.Logs.{put_out}
use Rattle.irc_layer.specs.declared.end.Cause.{Cause}
use Rattle.irc_layer.specs.declared.end.End.{End}
use Rattle.irc_layer.specs.declared.putting.NextLine.{NextLine}
use Rattle.irc_layer.specs.declared.putting.NextLine.TheVariants.{Another, Elsewhere, Squit}
use Rattle.irc_layer.specs.Away.{has_no_place}
use Rattle.irc_layer.specs.Ends.{change_end, is_full, with_end, Ends}

-- a line without its CR LF
abbrev pub body : List ℕ → List ℕ
body line = take (length line - 2) line

abbrev pub is_kill_read : Result Parsed LineFault → Bool
is_kill_read (Ok message) = is_kill_line message
is_kill_read (Err fault) = false

-- whether a line is a KILL on the link by which the line came that is being done
abbrev pub is_echo : Cause → ℕ → List ℕ → Bool
is_echo cause link line =
    option_map_or (λ came. nat_eq came link) cause.arrival false && is_kill_read (read_of line)

-- Whether a line is one that a link without counts has no place for: a KICK of a server, by which
-- it sets what somebody did who is gone, and an NJOIN of nobody, by which it tells how a channel is
-- spelled.
abbrev pub is_unknown : Result Parsed LineFault → Bool
is_unknown (Ok message) = is_kick_line message || brings_nobody message
is_unknown (Err fault) = false

abbrev pub is_unspoken : Cause → List ℕ → Bool
is_unspoken cause line = is_some cause.mark && is_unknown (read_of line)

-- whether a line tells that a server is lost
abbrev pub is_squit_read : Result Parsed LineFault → Bool
is_squit_read (Ok message) = is_command (codes "SQUIT") message.command
is_squit_read (Err fault) = false

abbrev pub is_squit : List ℕ → Bool
is_squit line = is_squit_read (read_of line)

-- what something that is put out is for a link: a line that tells so, another, or none of its lines
abbrev pub next_on : ℕ → Sent → NextLine
next_on link (line_on other line) =
    if nat_eq other link then (if is_squit (body line) then Squit else Another) else Elsewhere
next_on link (line_to conn line) = Elsewhere
next_on link (end_of conn) = Elsewhere
next_on link (end_of_link other reason) = Elsewhere

abbrev pub with_next : NextLine → ℕ → ℕ
with_next Elsewhere more = more
with_next Squit more = suc more
with_next Another more = 0

-- how many of the next lines on a link tell that more servers are lost
abbrev pub squits_ahead : ℕ → List Sent → ℕ
squits_ahead link [] = 0
squits_ahead link (sent ∷ outs) = with_next (next_on link sent) (squits_ahead link outs)

-- how many lines a piece has that begins with this one; `outs` is what is put out behind it
abbrev pub piece_lines : ℕ → List ℕ → List Sent → ℕ
piece_lines link line outs =
    if is_squit (body line) then min 16 (suc (squits_ahead link outs)) else 1

-- ---- a line on a link

-- what stands in front of a line, if anything does
abbrev pub count_out : ℕ → Option Count → List Sent
count_out link None = []
count_out link (Some count) = line_on link (text (count_parts count)) ∷ []

-- a piece of so many lines begins, unless one has begun
abbrev pub count_before : Option Mark → ℕ → ℕ → End → List Sent
count_before mark link lines end =
    if nat_eq end.left 0 then count_out link (count_for lines mark end.link.pieces.counts) else []

abbrev pub with_begun : ℕ → End → End
with_begun lines end =
    if nat_eq end.left 0 then record end { link = after_piece_out end.link; left = lines } else end

abbrev pub piece_out : Option Mark → ℕ → ℕ → List ℕ → End → List Sent
piece_out mark link lines line end = count_before mark link lines end ++ line_on link line ∷ []

-- a line of it is in the log from now on, by the number of its piece; not in one that is full, for
-- then the link is closed as the next line comes
abbrev pub with_logged : (begins : Bool) → List ℕ → End → End
with_logged begins line end = record end {
  left = end.left - 1;
  log = if is_full end then end.log
      else put_out end.link.pieces.counts.sent (logged_of begins (body line)) end.log;
}

abbrev pub behind_piece : (begins : Bool) → ℕ → List ℕ → End → End
behind_piece begins lines line end = with_logged begins line (with_begun lines end)

-- `lines` is how many lines a piece has that begins here
abbrev pub out_by : WayOut → Cause → ℕ → ℕ → List ℕ → End → List Sent
out_by Plain cause link lines line end =
    if is_unspoken cause (body line) then [] else line_on link line ∷ []
out_by (WithWords offer) cause link lines line end =
    line_on link (with_words offer (body line)) ∷ []
out_by InPiece cause link lines line end =
    if is_echo cause link (body line) then [] else piece_out cause.mark link lines line end

abbrev pub end_by : WayOut → Cause → ℕ → ℕ → List ℕ → End → End
end_by InPiece cause link lines line end =
    if is_echo cause link (body line) then end else behind_piece cause.begins lines line end
end_by Plain cause link lines line end = end
end_by (WithWords offer) cause link lines line end = end

-- an end that has put out a line more of those with which a link begins
abbrev pub with_line_out : End → End
with_line_out end = record end { link = after_line_out end.link }

-- what a line on a link is put out as that this has a place for, and the end behind it
abbrev pub own_out : Cause → ℕ → ℕ → List ℕ → End → List Sent
own_out cause link lines line end =
    out_by (way_out end.link) cause link lines line (with_line_out end)

abbrev pub behind_own : Cause → ℕ → ℕ → List ℕ → End → End
behind_own cause link lines line end =
    end_by (way_out end.link) cause link lines line (with_line_out end)

-- any line
abbrev pub line_out : Cause → ℕ → ℕ → List ℕ → End → List Sent
line_out cause link lines line end =
    if has_no_place (body line) end.link then [] else own_out cause link lines line end

abbrev pub behind_line : Cause → ℕ → ℕ → List ℕ → End → End
behind_line cause link lines line end =
    if has_no_place (body line) end.link then end else behind_own cause link lines line end

-- ---- all that a server puts out, for a cause

abbrev pub line_put : Cause → ℕ → ℕ → List ℕ → Option End → List Sent
line_put cause link lines line None = line_on link line ∷ []
line_put cause link lines line (Some end) = line_out cause link lines line end

-- one thing, behind which this is put out
abbrev pub one_put : Cause → Sent → List Sent → Ends → List Sent
one_put cause (line_on link line) outs ends =
    line_put cause link (piece_lines link line outs) line (ends link)
one_put cause (line_to conn line) outs ends = line_to conn line ∷ []
one_put cause (end_of conn) outs ends = end_of conn ∷ []
one_put cause (end_of_link link reason) outs ends = end_of_link link reason ∷ []

abbrev pub ends_behind : Cause → Sent → List Sent → Ends → Ends
ends_behind cause (line_on link line) outs ends =
    change_end link (behind_line cause link (piece_lines link line outs) line) ends
ends_behind cause (end_of_link link reason) outs ends = with_end link None ends
ends_behind cause (line_to conn line) outs ends = ends
ends_behind cause (end_of conn) outs ends = ends

abbrev pub all_put : Cause → List Sent → Ends → List Sent
all_put cause [] ends = []
all_put cause (sent ∷ outs) ends =
    one_put cause sent outs ends ++ all_put cause outs (ends_behind cause sent outs ends)

abbrev pub ends_behind_all : Cause → List Sent → Ends → Ends
ends_behind_all cause [] ends = ends
ends_behind_all cause (sent ∷ outs) ends =
    ends_behind_all cause outs (ends_behind cause sent outs ends)

-- ---- a count alone

abbrev pub count_at : ℕ → Option End → List Sent
count_at link None = []
count_at link (Some end) = count_out link (count_alone end.link.pieces.counts)

abbrev pub with_count_out : End → End
with_count_out end = record end { link = after_count_out end.link }
