-- What one end of a new link writes of its side: a line of each server, and then all that its room
-- has.
use Rattle.std.proofs.Common.{◌≡◌, ◌≢◌, ℕ, Bool, true, false, not, ◌&&◌, Option, Some, None, List}
use Rattle.std.proofs.Common.{[], ◌∷◌, ◌++◌, map, nat_eq, refl, sym, ◌∙◌, ap, subst, option_map}
use Rattle.std.proofs.Common.{if◌then◌else◌}
use Rattle.std.proofs.Math.Path.{fun_ext}
use Rattle.std.proofs.lemmas.Bool.{eqb-true}
use Rattle.std.proofs.lemmas.List.{map-append}
use Rattle.std.specs.FinMap.{retain_keys}
use Rattle.std.specs.Option.{option_and_then, option_map_or}
use Rattle.irc_names.specs.Tables.{row, each}
use Rattle.irc_names.specs.TableLaws.{row-each, same_table}
use Rattle.irc_users.specs.declared.user.User.{User}
use Rattle.irc_channels.specs.Channels.{while_members}
use Rattle.irc_channels.specs.declared.channel.Channel.{Channel}
use Rattle.irc_line.specs.Messages.{line_text}
use Rattle.irc_link_reader.specs.Reader.{is_behind_link}
use Rattle.irc_merge.specs.AsideInvitations.{BurstTellsNoInvitation}
use Rattle.irc_merge.specs.Bursts.{burst, burst_of, home_passes, side_of, user_passes}
use Rattle.irc_merge.specs.Laws.{WholeSide}
use Rattle.irc_relay.specs.Distances.{EndsAreAmong, IsAmong}
use Rattle.irc_relay.specs.Lemmas.TellingNames.{Telling, alike, unlike, tell}
use Rattle.irc_relay.specs.Links.{Name, Link, joined, same, toward, AreJoined, IsForest}
use Rattle.irc_relay.specs.Lemmas.NextHops.{linked_joined, next_hop}
use Rattle.irc_room.specs.Invitations.{of_home}
use Rattle.irc_room.specs.Room.{Room, IsWellFormed}
use Rattle.irc_room.specs.Lemmas.HomeRooms.{home_is_well_formed}
use Rattle.irc_routes.specs.Known.{Known, row_of, servers_told}
use Rattle.irc_routes.specs.declared.server_row.ServerRow.{ServerRow}
use Rattle.irc_burst_lines.specs.BurstLines.{burst_parts, is_near, server_deed}
use Rattle.irc_burst_lines.specs.DeedLines.{deed_parts, server_parts}
use Rattle.irc_world.specs.Homes.{HomesPass}
use Rattle.irc_follow.specs.AtRest.{AreRight}
use Rattle.irc_follow.specs.SideState.{ItemSetting, info_in, number}
use Rattle.irc_follow.specs.Tree.{Shape, shape, shape_in}
use Rattle.irc_follow.specs.Lemmas.PlacesOfNames.{one_place}

-- ---- a side that is all of a room

module _ (passes : List ℕ → Bool) (room : Room) (all : HomesPass passes room) where
  abbrev any_home : List ℕ → Bool
  any_home home = true

  same_users : each (user_passes passes) room.users ≡ each (user_passes any_home) room.users
  same_users = same_table (each (user_passes passes) room.users)
      (each (user_passes any_home) room.users) (λ q.
      row-each (user_passes passes) room.users q ∙ by q (row room.users q) refl
      ∙ sym (row-each (user_passes any_home) room.users q))
    where
      by : (q : List ℕ) (o : Option User) → row room.users q ≡ o
          → option_and_then (user_passes passes) o ≡ option_and_then (user_passes any_home) o
      by q None at = refl
      by q (Some user) at = ap (λ b. if b then Some user else None) (all q user at)

  same_passes : home_passes passes room.users ≡ home_passes any_home room.users
  same_passes = fun_ext (λ q. by q (row room.users q) refl)
    where
      by : (q : List ℕ) (o : Option User) → row room.users q ≡ o → option_map_or (λ (user : User).
          passes user.home) o false ≡ option_map_or (λ (user : User). any_home user.home) o false
      by q None at = refl
      by q (Some user) at = all q user at

  whole : WholeSide → IsWellFormed room → side_of passes room ≡ room
  unfolding side_of
  whole law well =
      (λ i. record {
        users = same_users i;
        channels = each (λ (channel : Channel). while_members (record channel {
          members = retain_keys channel.members (same_passes i);
          invited = retain_keys channel.invited (same_passes i);
        })) room.channels;
      })
      ∙ law room well

-- ---- who is near

module _ (s : ItemSetting) (links : List Link) (routes : Name → Known) (b t : Name)
    (forest : IsForest links) (ends : EndsAreAmong s.names links)
    (right : AreRight s links routes) (among : IsAmong s.names b) (t_among : IsAmong s.names t)
    (apart : AreJoined links b t → ⊥) where
  abbrev kept : Name → Shape
  kept x = shape_in s.names (info_in s.settings) links b x

  by_row : (o : Option ServerRow)
      → option_map_or (nat_eq (number s t)) (option_map (λ (r : ServerRow). r.link) o) false
      ≡ option_map_or (λ (sh : Shape). nat_eq (number s t) sh.link) (option_map shape o) false
  by_row None = refl
  by_row (Some r) = refl

  -- nobody of b's own side is behind the new link
  pub near_all : (x : Name) → AreJoined links x b → is_behind_link (routes b) (number s t) x ≡ false
  near_all x here =
      by_row (row_of (routes b) x)
      ∙ ap (λ o. option_map_or (λ (sh : Shape). nat_eq (number s t) sh.link) o false)
      (right.rows b x among)
      ∙ by (tell x b) (joined links x b)
    where
      hop_other : x ≢ b → nat_eq (number s t) (kept x).link ≡ false
      hop_other two = at (nat_eq (number s t) (kept x).link) refl
        where
          at : (c : Bool) → nat_eq (number s t) (kept x).link ≡ c → c ≡ false
          at false e = refl
          at true e =
              let hop = next_hop links b x forest (sym here) (λ f. two (sym f)) in
              let way : t ≡ toward links b x = one_place s.names t (toward links b x) t_among
              (eqb-true (number s t) (kept x).link e) in
              absurd (apart (subst (AreJoined links b) (sym way)
              (linked_joined links b (toward links b x) hop.linked)))

      by : Telling x b → (c : Bool) → option_map_or (λ (sh : Shape). nat_eq (number s t) sh.link)
          (if c && not (same x b) then Some (kept x) else None) false ≡ false
      by telling false = refl
      by (alike is _) true = ap (λ d. option_map_or (λ (sh : Shape). nat_eq (number s t) sh.link)
          (if not d then Some (kept x) else None) false) is
      by (unlike is two) true =
          ap (λ d. option_map_or (λ (sh : Shape). nat_eq (number s t) sh.link)
          (if not d then Some (kept x) else None) false) is ∙ hop_other two

-- ---- the lines

abbrev pub server_line : Known → ServerRow → List ℕ
server_line known r = line_text (server_parts known r.uplink r.name r.info)

server_lines : (room : Room) (known : Known) (rows : List ServerRow) → map line_text
    (map (deed_parts room known) (map server_deed rows)) ≡ map (server_line known) rows
server_lines room known [] = refl
server_lines room known (r ∷ rows) =
    ap (λ lines. server_line known r ∷ lines) (server_lines room known rows)

pass_at_home : (passes : List ℕ → Bool) (home : List ℕ) (room : Room) → HomesPass passes room
    → HomesPass passes (of_home home room)
unfolding of_home
pass_at_home passes home room all = all

-- of a burst of one behind whose new link nobody is
pub burst_written : WholeSide → BurstTellsNoInvitation → (home : List ℕ) (room : Room)
    (known : Known) (link : ℕ) → IsWellFormed room → known.name ≡ home → HomesPass
    (is_near known link) room → map line_text (burst_parts (of_home home room) known link)
    ≡ map (server_line known) (servers_told known link)
    ++ map line_text (map (deed_parts (of_home home room) known) (burst home room))
unfolding burst_parts
burst_written law no_invitation home room known link well named near =
    ap (λ deeds. map line_text (map (deed_parts (of_home home room) known)
    (map server_deed (servers_told known link) ++ deeds))) room_told
    ∙ ap (map line_text) (map-append (deed_parts (of_home home room) known)
    (map server_deed (servers_told known link)) (burst home room))
    ∙ map-append line_text
    (map (deed_parts (of_home home room) known) (map server_deed (servers_told known link)))
    (map (deed_parts (of_home home room) known) (burst home room))
    ∙ ap (λ lines. lines ++ map line_text
    (map (deed_parts (of_home home room) known) (burst home room)))
    (server_lines (of_home home room) known (servers_told known link))
  where
    room_told : burst_of known.name (is_near known link) (of_home home room) ≡ burst home room
    room_told =
        ap (burst known.name)
        (whole (is_near known link) (of_home home room) (pass_at_home
        (is_near known link) home room near) law (home_is_well_formed home room well))
        ∙ no_invitation known.name home room
        ∙ ap (λ name. burst name room) named
