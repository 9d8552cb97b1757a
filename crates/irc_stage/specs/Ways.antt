-- On which links a line goes: along the tree of servers, and never back (RFC 2810 sections 5.1 and
-- 5.2, RFC 2813 section 5.3).
--
-- a.net is linked to b.net and to d.net, and c.net is behind b.net; bo is a user of b.net, cy of
-- c.net, and both are in #c with al of a.net:
--
--   c.net - b.net - a.net - d.net
--
--   `:al PRIVMSG #c :hi`    goes on the link to b.net, once; on none to d.net, where #c has no
--                           member
--   `:al PRIVMSG cy :hi`    goes toward c.net: on the link to b.net
--   `:al INVITE bo #c`      likewise
--   `:al JOIN #c`           goes on both links: what changes the room is told to all servers
--   `:bo QUIT :x` by b.net  goes on the link to d.net alone, for it came by the other
use Rattle.std.specs.Prelude.{◌≡◌, ℕ, true, not, Option, Some, None, List, map, filter}
use Rattle.std.specs.Prelude.{option_to_list}
use Rattle.std.specs.List.{filter_map}
use Rattle.std.specs.Ordering.{nat_cmp}
use Rattle.std.specs.FinMap.{entries, from_entries, get, keys}
use Rattle.irc_names.specs.Fold.{key}
use Rattle.irc_batch.specs.Batches.{is_number}
use Rattle.irc_room.specs.effect.Effect.{Effect}
use Rattle.irc_room.specs.effect.Effect.TheVariants.{Say, Invite}
use Rattle.irc_room.specs.effect.Target.TheVariants as target
use Rattle.irc_room.specs.Room.{Room}
use Rattle.irc_room.specs.Readers.{home_under, nicks_in}
use Rattle.irc_routes.specs.Known.{Known, link_key, next_hop}
use Rattle.irc_stage.specs.Ends.{End, Ends, is_met}

-- ---- the links that are there

-- the links that count, by number
abbrev pub met_links : Ends → List ℕ
met_links ends = map (λ (e : ℕ × End). e.0) (filter (λ (e : ℕ × End). is_met e.1) (entries ends))

-- these links, but for the one by which a line came
abbrev pub but : Option ℕ → List ℕ → List ℕ
but arrival links = filter (λ link. not (is_number arrival link)) links

-- ---- toward whom a line goes

-- the links toward these servers, by number, each once; toward itself, and toward a server that is
-- unknown, there is none
abbrev pub links_toward : Known → List (List ℕ) → List ℕ
links_toward known homes =
    keys (from_entries {R = nat_cmp} (map link_key (filter_map (next_hop known) homes)))

-- the servers of these users
abbrev pub homes_of : Room → List (List ℕ) → List (List ℕ)
homes_of room nicks = filter_map (λ nick. home_under room (key nick)) nicks

-- the servers of the members of a channel
abbrev pub homes_in : Room → List ℕ → List (List ℕ)
homes_in room channel = homes_of room (nicks_in room channel)

-- The servers toward which an effect is told: those of the members for a text in a channel, that of
-- the user for a private text or an invitation. None:
-- every server is told.
abbrev pub told_homes : Room → Effect → Option (List (List ℕ))
told_homes room (Say by notice (target.Channel channel) text) = Some (homes_in room channel)
told_homes room (Say by notice (target.User nick) text) =
    Some (option_to_list (home_under room (key nick)))
told_homes room (Invite by nick channel) = Some (option_to_list (home_under room (key nick)))
told_homes room effect = None

-- the links toward these servers; where every server is told, all links whose far end is met
abbrev pub ways_toward : Ends → Known → Option (List (List ℕ)) → List ℕ
ways_toward ends known None = met_links ends
ways_toward ends known (Some homes) = links_toward known homes

-- the links on which an effect is told that came by a link, or from a client of the server
abbrev pub ways : Ends → Known → Room → Option ℕ → Effect → List ℕ
ways ends known room arrival effect = but arrival (ways_toward ends known (told_homes room effect))

-- ---- what is always so

abbrev pub IsMetEnd : Option End → Type 0
IsMetEnd None = ⊥
IsMetEnd (Some end) = is_met end ≡ true

-- Each server that is known is behind a link that counts.
abbrev pub AreEnds : Ends → Known → Type 0
AreEnds ends known = (name : List ℕ) (link : ℕ) → next_hop known name ≡ Some link
    → IsMetEnd (get ends link)
