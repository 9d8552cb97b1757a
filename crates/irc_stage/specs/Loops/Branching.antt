-- The links on which a line goes, as the code keeps them.
use Rattle.std.specs.Prelude.{◌≡◌, ℕ, Bool, false, Option, Some, None, List, ◌++◌, filter, map}
use Rattle.std.specs.Prelude.{option_to_list}
use Rattle.std.specs.BTreeMap.{BTreeMap}
use Rattle.std.specs.Global.{Vec}
use Rattle.std.specs.List.{flat_map}
use Rattle.std.specs.Option.{option_and_then}
use Rattle.irc_names.specs.Fold.{key, same}
use Rattle.irc_room.specs.effect.Effect.{Effect}
use Rattle.irc_room.specs.Room.{Room}
use Rattle.irc_room.specs.Readers.{home_under}
use Rattle.irc_routes.specs.Known.{Known, next_hop}
use Rattle.irc_stage.specs.Ends.{End, is_met}
use Rattle.irc_stage.specs.declared.branches.Branches.{Branches}
use Rattle.irc_stage.specs.declared.ways.Around.{Around}
use Rattle.irc_stage.specs.declared.ways.Ways.{Ways}
use Rattle.irc_stage.specs.Ways.{but, homes_in, links_toward, met_links, ways}
use Rattle.irc_stage.specs.Loops.Numbered.{numbered}

-- whether a channel, if there is one, has this name
abbrev pub is_named : Option (List ℕ) → List ℕ → Bool
is_named None channel = false
is_named (Some name) channel = same name channel

-- whether what is kept is of a channel
abbrev pub is_of : Branches → List ℕ → Bool
is_of kept channel = is_named kept.channel channel

-- what is kept, if anything, is right
abbrev pub AreBranches : Branches → Room → Known → Type 0
AreBranches kept room known = (channel : List ℕ) → kept.channel ≡ Some channel
    → kept.links.items ≡ links_toward known (homes_in room channel)

-- the link toward a user, where it is one of another server
abbrev pub link_toward : Room → Known → List ℕ → Option ℕ
link_toward room known nick = option_and_then (next_hop known) (home_under room (key nick))

-- those toward some users, in their order
abbrev pub hops_of : Room → Known → List (List ℕ) → List ℕ
hops_of room known nicks = flat_map (λ nick. option_to_list (link_toward room known nick)) nicks

-- a list with these links more
abbrev pub Added : Vec ℕ → List ℕ → Vec ℕ → Type 0
Added old links new = new.items ≡ old.items ++ links

-- the links behind which a channel has members
abbrev pub links_of : Room → Known → List ℕ → List ℕ
links_of room known channel = links_toward known (homes_in room channel)

-- the links whose ends are met, but for the one by which a line came
abbrev pub but_met : Option ℕ → BTreeMap ℕ End → List ℕ
but_met arrival ends = but arrival (met_links (numbered ends))

-- what decides on which links a line goes
abbrev pub ways_around : Around → Option ℕ → Effect → List ℕ
ways_around around arrival effect =
    ways (numbered around.ends.now) around.routes.now around.room.now.room arrival effect

-- what is kept where nothing is known yet, and what is always kept: what is right, if anything
abbrev pub KnowsNothing : Ways → Type 0
KnowsNothing found = found.branches.channel ≡ None

abbrev pub IsRightIn : Ways → Room → Known → Type 0
IsRightIn found room known = AreBranches found.branches room known

abbrev pub IsRight : Ways → Around → Type 0
IsRight found around = IsRightIn found around.room.now.room around.routes.now

-- the links toward the servers of the members of a channel, and toward that of a user
abbrev pub toward_members : Around → List ℕ → List ℕ
toward_members around channel =
    links_toward around.routes.now (homes_in around.room.now.room channel)

abbrev pub toward_user : Around → List ℕ → List ℕ
toward_user around nick =
    links_toward around.routes.now (option_to_list (home_under around.room.now.room (key nick)))

abbrev pub but_toward : Around → Option ℕ → List ℕ → List ℕ
but_toward around arrival nick = but arrival (toward_user around nick)

-- the links that count among these ends
abbrev pub met_among : List (ℕ × End) → List ℕ
met_among ends = map (λ (e : ℕ × End). e.0) (filter (λ (e : ℕ × End). is_met e.1) ends)
