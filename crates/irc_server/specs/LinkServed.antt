-- What happens by a link of a server (RFC 2813 sections 4.1 and 5): it is opened, a line comes by
-- it, it is lost.
--
-- a.net calls b.net by link 1, and c.net calls a.net by link 2; all keep the password pw for each
-- other.
--   link 1 is opened to b.net  line_on 1 `PASS pw 0210010001 TREE|`, line_on 1
--                              `SERVER a.net 1 1 :A`
--   link 2 is opened by c.net  nothing
--   PASS and SERVER of b.net   line_on 1 the burst of a.net
--   PASS and SERVER of c.net   line_on 2 PASS, SERVER and the burst of a.net, b.net in it; then
--                              line_on 1 `:a.net SERVER c.net 2 3 :C`
--   a line that closes link 1  end_of_link 1 with the reason, and then all that the loss of the
--                              link does
use Rattle.std.specs.Prelude.{ℕ, is_none, Option, Some, None, Result, List, [], ◌∷◌, ◌++◌, map}
use Rattle.std.specs.Prelude.{unwrap_or, if◌then◌else◌}
use Rattle.std.specs.Option.{option_map_or}
use Rattle.std.specs.FinMap.{get}
use Rattle.irc_line.specs.declared.reading.LineFault.{LineFault}
use Rattle.irc_line.specs.Messages.{Parsed, Written, text}
use Rattle.irc_batch.specs.Batches.{Sent, end_of_link, line_on}
use Rattle.irc_batch.specs.declared.close_reason.CloseReason.TheVariants as reason
use Rattle.irc_link_words.specs.GreetingLines.{greeting, pass_parts}
use Rattle.irc_burst_lines.specs.BurstLines.{burst_parts}
use Rattle.irc_burst.specs.DeedsMeant.{a_server}
use Rattle.irc_stage.specs.View.{End, View, password_for, with_end}
use Rattle.irc_stage.specs.EffectTold.{Served, in_silence, with_sent}
use Rattle.irc_stage.specs.Linked.{with_far, with_password}
use Rattle.irc_server.specs.DeedTold.{all_told, link_lost, told_by}
use Rattle.irc_server.specs.Heard.{Heard, ignored, closes, password, meets, tells, heard}

-- ---- the handshake

-- the two lines with which an end begins, to a peer of this name
abbrev pub opening_parts : View → List ℕ → List Written
opening_parts view name =
    pass_parts (unwrap_or (password_for view name) []) ∷ greeting view.routes ∷ []

-- what an end still owes the server that has named itself: the end that is called has said nothing
-- yet, and both tell what their side held before the link
abbrev pub owed_by : View → ℕ → List ℕ → End → List Written
owed_by view link name end = (if is_none end.starts then opening_parts view name else [])
    ++ burst_parts view.room view.routes link

-- the same of a link by its number; on one that is not open nothing is owed
abbrev pub owes : View → ℕ → List ℕ → List Written
owes view link name = option_map_or (owed_by view link name) (get view.ends link) []

-- lines that go out on this link alone, in this order
abbrev pub on_link : ℕ → List Written → List Sent
on_link link lines = map (λ parts. line_on link (text parts)) lines

-- The server at the other end has named itself: it is answered, and then told to all others as a
-- server more, one link away and with number 1.
abbrev pub met_by : ℕ → List ℕ → List ℕ → View → Served
met_by link name info view =
    told_by link (a_server view.routes.name name 1 1 info)
    (with_sent (on_link link (owes view link name)) (in_silence (with_far link name view)))

-- ----

-- a link that is opened to a peer, or by another server
abbrev pub link_opened : View → ℕ → Option (List ℕ) → Served
link_opened view link None = in_silence (with_end link None view)
link_opened view link (Some name) =
    if is_none (password_for view name)
    then with_sent (end_of_link link reason.UnknownPeer ∷ []) (in_silence view)
    else with_sent (on_link link (opening_parts view name))
    (in_silence (with_end link (Some name) view))

-- what is heard on a link
abbrev pub after_heard : View → ℕ → Heard → Served
after_heard view link ignored = in_silence view
after_heard view link (closes why) =
    link_lost link (with_sent (end_of_link link why ∷ []) (in_silence view))
after_heard view link (password word) = in_silence (with_password link word view)
after_heard view link (meets name info) = met_by link name info view
after_heard view link (tells told) = all_told link told (in_silence view)

-- a line that comes by a link; by one that is not open none comes
abbrev pub line_served : View → ℕ → Result Parsed LineFault → Option End → Served
line_served view link read None = in_silence view
line_served view link read (Some end) = after_heard view link (heard view link end read)
