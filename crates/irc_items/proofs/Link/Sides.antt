-- The two sides of a new link.
use Rattle.std.specs.Prelude.{◌≡◌, ⊤, List, ◌∷◌, ◌++◌, map, if◌then◌else◌}
use Rattle.irc_merge.specs.BurstRead.{read_all}
use Rattle.irc_merge.specs.Bursts.{burst}
use Rattle.irc_merge.specs.Deeds.{Deed, does, gains, kills, brings, sets, tops}
use Rattle.irc_relay.specs.Following.{all_done}
use Rattle.irc_relay.specs.Links.{Name, Link, joined}
use Rattle.irc_room.specs.effect.Effect.TheVariants.{AddUser, ChangeUser}
use Rattle.irc_routes.specs.Known.{Known, servers_told}
use Rattle.irc_routes.specs.declared.server_row.ServerRow.{ServerRow}
use Rattle.irc_world.specs.World.{World}
use Rattle.irc_follow.specs.AtRest.{side_state_of}
use Rattle.irc_follow.specs.SideState.{ItemSetting, SideState, info_in, number}
use Rattle.irc_follow.specs.Relinked.{relinked}
use Rattle.irc_follow.specs.Says.{play}

-- the deeds by which the side of t comes to know the servers of b's side, which it is being linked
-- to
abbrev pub server_deeds : ItemSetting → (Name → Known) → Name → Name → List Deed
server_deeds s routes t b = gains t b (info_in s.settings b) ∷ map
    (λ (r : ServerRow). gains r.uplink r.name r.info) (servers_told (routes b) (number s t))

-- and those by which its room comes to have what the other's has
abbrev pub room_deeds : World → Name → Name → List Deed
room_deeds world t b =
    read_all t (λ home. joined world.links home b) (world.hall t).room (burst b (world.hall b).room)

-- what a line of a burst is read as: as what it says, or as the KILL of whoever has the nickname
-- here
abbrev pub IsReadDeed : Name → Deed → Type 0
IsReadDeed own (does (AddUser user)) = ⊤
IsReadDeed own (does (ChangeUser nick change)) = ⊤
IsReadDeed own (brings server channel members) = ⊤
IsReadDeed own (sets server channel changes) = ⊤
IsReadDeed own (tops server channel topic) = ⊤
IsReadDeed own (kills server nick) = server ≡ own
IsReadDeed own deed = ⊥

abbrev pub deeds_of_link : ItemSetting → World → (Name → Known) → Name → Name → List Deed
deeds_of_link s world routes t b = server_deeds s routes t b ++ room_deeds world t b

-- the side of t, as it is when the link is made and nobody of it knows of that
abbrev pub side_of : ItemSetting → Link → World → (Name → Known) → Name → SideState
side_of s l world routes t = relinked (l ∷ world.links) (side_state_of s world routes t)

-- that side, once it knows the other's servers
abbrev pub side_after : ItemSetting → Link → World → (Name → Known) → Name → Name → SideState
side_after s l world routes t b =
    all_done (play s 0) (side_of s l world routes t) (server_deeds s routes t b)

-- what each server knows by then
abbrev pub routes_after : ItemSetting → Link → World → (Name → Known) → Name → Known
routes_after s l world routes t =
    if joined world.links t l.near then (side_after s l world routes l.near l.far).tree.routes t
    else (if joined world.links t l.far
    then (side_after s l world routes l.far l.near).tree.routes t else routes t)
