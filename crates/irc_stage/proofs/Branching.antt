-- The links behind which a channel has members.
use Rattle.std.proofs.Common.{◌≡◌, ℕ, Option, Some, None, List, [], ◌∷◌, ◌++◌, refl, ◌∙◌, ap}
use Rattle.std.proofs.Common.{filter, filter_map, map, false, true, option_to_list}
use Rattle.std.specs.List.{cons_option}
use Rattle.std.specs.Option.{option_and_then, option_map_or}
use Rattle.std.specs.FinMap.{values}
use Rattle.irc_names.specs.Fold.{key}
use Rattle.std.specs.Cmp.Lexicographic.{bytes_decides}
use Rattle.irc_names.specs.Tables.{row}
use Rattle.irc_users.specs.declared.user.User.{User}
use Rattle.irc_channels.specs.Channels.{has_member}
use Rattle.irc_room.specs.Room.{Room}
use Rattle.irc_room.specs.Readers.{home_under}
use Rattle.irc_routes.specs.Known.{Known, next_hop}
use Rattle.irc_stage.specs.declared.branches.Branches.{Branches}
use Rattle.irc_stage.specs.Ways.{homes_in, homes_of, links_toward}
use Rattle.irc_stage.specs.Loops.Branching.{AreBranches, hops_of, is_named, is_of, link_toward}

hop_first : (hop : Option ℕ) (hops : List ℕ) → option_to_list hop ++ hops ≡ cons_option hop hops
hop_first None hops = refl
hop_first (Some hop) hops = refl

-- the links toward users, one by one, are those toward their servers
pub hops_are : (room : Room) (known : Known) (nicks : List (List ℕ))
    → hops_of room known nicks ≡ filter_map (next_hop known) (homes_of room nicks)
hops_are room known [] = refl
hops_are room known (nick ∷ nicks) =
    ap (λ hops. option_to_list (link_toward room known nick) ++ hops) (hops_are room known nicks)
    ∙ by (home_under room (key nick))
  where
    hops : List ℕ
    hops = filter_map (next_hop known) (homes_of room nicks)

    by : (home : Option (List ℕ)) → option_to_list (option_and_then (next_hop known) home)
        ++ filter_map (next_hop known) (homes_of room nicks)
        ≡ filter_map (next_hop known) (cons_option home (homes_of room nicks))
    by None = refl
    by (Some home) =
        hop_first (next_hop known home) (filter_map (next_hop known) (homes_of room nicks))

abbrev nicks_under : Room → List ℕ → List (List ℕ)
nicks_under room fold =
    map (λ (user : User). user.nick) (filter (λ (user : User). option_map_or
    (has_member (key user.nick)) (row room.channels fold) false) (values room.users))

-- what is kept of a channel is that of each name of it
pub kept_of : (kept : Branches) (room : Room) (known : Known) (channel : List ℕ)
    → AreBranches kept room known → is_of kept channel ≡ true
    → kept.links.items ≡ links_toward known (homes_in room channel)
kept_of kept room known channel so is = by kept.channel refl is
  where
    by : (name : Option (List ℕ)) → kept.channel ≡ name → is_named name channel ≡ true
        → kept.links.items ≡ links_toward known (homes_in room channel)
    by None at is = cc is
    by (Some name) at is =
        so name at ∙ ap (λ fold. links_toward known (homes_of room (nicks_under room fold)))
        ((bytes_decides (key name) (key channel)).0 is)
