-- What a deed of a server does to a server with links: what a line of a link tells, and the loss of
-- a link (RFC 2813 sections 4 and 5).
--
-- a.net with al, connection 1, and links to b.net (2) and to d.net (3); c.net is behind b.net, and
-- cy is its user. All users are in #c.
--   `:b.net SQUIT c.net :b.net c.net`       line_to 1 `:cy!u@h QUIT :b.net c.net`, then line_on 3
--                                           the same line
--   `:b.net KILL al :Nick collision`        those who share a channel see the QUIT, then line_to 1
--                                           ERROR, end_of 1, then line_on 3 the same line
--   a KILL of a.net's own, by a collision   likewise, and line_on 2 as well: it goes back by the
--                                           link that the other came by
--   `:b.net NJOIN #c :@bo`                  line_to 1 `:bo!u@h JOIN #c`, line_to 1
--                                           `:a.net MODE #c +o bo`, then line_on 3 the same NJOIN
--   `:b.net NJOIN #c :@bo`, #C of a.net's   the same: the channel is #c first, the greater of the
--                                           two spellings, which is shown to nobody
--   `:b.net MODE #c +mk bb`, #c of +m       line_to 1 `:a.net MODE #c +k bb`, then line_on 3 the
--                                           line as it came, +m in it
--   `:b.net TOPIC #c :x`, the topic y there
--                                           nothing is shown, as y is greater; line_on 3 the same
--                                           line
--   link 2 is lost                          as if each server behind it were lost, b.net and then
--                                           c.net: `:a.net SQUIT b.net :a.net b.net` on link 3, ..
use Rattle.std.specs.Prelude.{ℕ, Option, Some, None, List, [], ◌∷◌, ◌++◌, codes, if◌then◌else◌}
use Rattle.std.specs.Option.{option_map_or}
use Rattle.std.specs.FinMap.{get}
use Rattle.irc_merge.specs.Deeds.{Deed, does, gains, loses, kills, brings, effects_of}
use Rattle.irc_merge.specs.Quits.{collision_text}
use Rattle.irc_names.specs.Spellings.{exactly_same}
use Rattle.irc_routes.specs.Known.{names_behind}
use Rattle.irc_burst_lines.specs.DeedLines.{deed_parts}
use Rattle.irc_burst.specs.DeedsMeant.{Told, a_deed, a_server}
use Rattle.irc_stage.specs.View.{End, View}
use Rattle.irc_stage.specs.EffectTold.{Served, all_changed, effect_came, taken_out}
use Rattle.irc_stage.specs.Linked.{is_taken, told_on_all, unlinked, with_row, with_title}
use Rattle.irc_stage.specs.Linked.{without_row}

-- ---- deeds

-- a server that is known no more
abbrev pub forgotten : List ℕ → Served → Served
forgotten name s = record s { state = without_row name s.state }

-- a channel that is there is spelled in the greater of two ways, and nobody is shown it
abbrev pub titled_view : List ℕ → Served → Served
titled_view channel s = record s { state = with_title channel s.state }

-- What a deed does that came by a link, or is the server's own. Its line is what it is in the view
-- before: it goes on as it came, also where it does less than it says.
unfoldable pub deed_told : Option ℕ → Deed → Served → Served
deed_told arrival (does effect) s = effect_came arrival effect s
deed_told arrival (gains uplink name info) s = s
deed_told arrival (loses server name text) s =
    told_on_all arrival (deed_parts s.state.room s.state.routes (loses server name text))
    (forgotten name (all_changed (effects_of s.state.room (loses server name text)) s))
deed_told arrival (kills server nick) s =
    told_on_all arrival (deed_parts s.state.room s.state.routes (kills server nick))
    (taken_out nick collision_text s)
deed_told arrival (brings server channel members) s =
    told_on_all arrival (deed_parts s.state.room s.state.routes (brings server channel members))
    (all_changed (effects_of s.state.room (brings server channel members)) (titled_view channel s))
deed_told arrival deed s =
    told_on_all arrival (deed_parts s.state.room s.state.routes deed)
    (all_changed (effects_of s.state.room deed) s)

-- one after another, each told in the room that those before it have left
abbrev pub deeds_told : Option ℕ → List Deed → Served → Served
deeds_told arrival [] s = s
deeds_told arrival (deed ∷ deeds) s = deeds_told arrival deeds (deed_told arrival deed s)

-- a KILL of the server's own goes back on the link by which the collision came, for the server
-- there has the other user
abbrev pub arrival_of : List ℕ → ℕ → Deed → Option ℕ
arrival_of own link (kills server nick) = if exactly_same server own then None else Some link
arrival_of own link deed = Some link

-- a server more is told of in the routes that have it already
abbrev pub gain_told : ℕ → (uplink name info : List ℕ) → Served → Served
gain_told link uplink name info s =
    told_on_all (Some link) (deed_parts s.state.room s.state.routes (gains uplink name info)) s

-- what a line of a link tells, with the numbers of a SERVER line
unfoldable pub told_by : ℕ → Told → Served → Served
told_by link (a_deed deed) s = deed_told (arrival_of s.state.routes.name link deed) deed s
told_by link (a_server uplink name distance token info) s =
    if is_taken s.state.routes link name token
    then gain_told link uplink name info
    (record s { state = with_row link uplink name distance token info s.state })
    else s

-- one line may tell of several: a new nickname that is held already kills two users
abbrev pub all_told : ℕ → List Told → Served → Served
all_told link [] s = s
all_told link (told ∷ later) s = all_told link later (told_by link told s)

-- ---- a link is lost

-- the text with which the users of the lost side quit: the near end of the link, and the far one
-- (RFC 2813 section 4.1.6)
abbrev pub split_text : List ℕ → List ℕ → List ℕ
split_text near far = near ++ (codes " " ++ far)

-- the server loses those that were behind a link, in order of name
abbrev pub losses : List ℕ → List ℕ → List (List ℕ) → List Deed
losses own far [] = []
losses own far (name ∷ names) = loses own name (split_text own far) ∷ losses own far names

-- what is lost with a link: nothing, while the server at its other end is not met
abbrev pub lost_behind : View → ℕ → Option End → List Deed
lost_behind view link None = []
lost_behind view link (Some end) =
    option_map_or (λ far. losses view.routes.name far (names_behind view.routes link)) end.far []

-- a link that is lost, or is closed: each server behind it is lost, of which the others are told,
-- and then it is open no more
abbrev pub link_lost : ℕ → Served → Served
link_lost link s =
    let left = deeds_told (Some link) (lost_behind s.state link (get s.state.ends link)) s in
    record left { state = unlinked link left.state }
