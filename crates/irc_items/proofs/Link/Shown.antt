-- What the clients of one side see of a new link: just what they receive by it. Nobody else sees
-- anything.
use Rattle.std.proofs.Common.{◌≡◌, ℕ, true, Option, Some, None, is_some, [], ◌++◌, refl, sym, ◌∙◌}
use Rattle.std.proofs.Common.{ap, append-nil, List, inl}
use Rattle.std.specs.FinMap.{get}
use Rattle.std.specs.List.{AllByRecursion}
use Rattle.irc_merge.specs.Laws.{ShownIsMergeShown}
use Rattle.irc_merge.specs.LimitLaws.{WithinLimitsIsTold}
use Rattle.irc_names.specs.Fold.{key}
use Rattle.irc_names.specs.Tables.{row}
use Rattle.irc_relay.specs.Following.{all_done, all_seen}
use Rattle.irc_relay.specs.Links.{Name, Link, AreJoined, joined, HasEnds}
use Rattle.irc_routes.specs.Known.{Known}
use Rattle.irc_stage.specs.declared.clients.Client.{Client}
use Rattle.irc_stage.specs.declared.clients.Client.TheVariants.{Registering, Registered}
use Rattle.irc_world.specs.Stepping.{link_made, meeting_lines}
use Rattle.irc_world.specs.World.{Hall, World}
use Rattle.irc_world.specs.WorldHolds.{IsWorld}
use Rattle.irc_follow.specs.SideState.{ItemSetting, SideState, is_home_of}
use Rattle.irc_follow.specs.Says.{play}
use Rattle.irc_items.proofs.Common.Ends.{both_ends}
use Rattle.irc_items.proofs.Common.DeedsInTurn.{seen_in_turn}
use Rattle.irc_items.proofs.Link.Gains.{all_gained, nothing_seen}
use Rattle.irc_items.proofs.Link.Halls.{client_fares, none_there, rooms_apart, user_of, users_there}
use Rattle.irc_items.proofs.Link.Kills.{burst_seen, end_line, none_sees, registering_sees, seen_in}
use Rattle.irc_items.proofs.Link.Sides.{IsReadDeed, deeds_of_link, room_deeds, server_deeds}
use Rattle.irc_items.proofs.Link.Sides.{side_of}
use Rattle.irc_items.proofs.Link.Side.{told_rows}

-- ---- one side

module _ (shows : ShownIsMergeShown) (told : WithinLimitsIsTold) (s : ItemSetting) (l : Link)
    (world : World) (routes : Name → Known)
    (holds : IsWorld s.settings world) (a b : Name) (apart : AreJoined world.links b a → ⊥)
    (read : AllByRecursion (IsReadDeed a) (room_deeds world a b)) where
  shown_meeting : (client : ℕ)
      → seen_in (world.hall a).room (room_deeds world a b) (get (world.hall a).clients client)
      ≡ meeting_lines (world.hall a) (world.hall b) (get (world.hall a).clients client)
  shown_meeting client = by (get (world.hall a).clients client) refl
    where
      by : (o : Option Client) → get (world.hall a).clients client ≡ o → seen_in (world.hall a).room
          (room_deeds world a b) o ≡ meeting_lines (world.hall a) (world.hall b) o
      by None is = none_sees (room_deeds world a b) (world.hall a).room
      by (Some (Registering pending)) is =
          registering_sees (room_deeds world a b) (world.hall a).room pending
      by (Some (Registered nick)) is =
          let user = user_of (world.hall a).room (key nick)
          (users_there s.settings world holds a client nick is) in
          (client_fares s.settings world holds a b client nick is).seen
          ∙ ap (λ lines. lines ++ end_line (is_some (row (world.hall b).room.users (key nick))))
          (shows a b (λ home. joined world.links home b) (world.hall a).room (world.hall b).room
          (holds.sound.well_formed a) (holds.sound.well_formed b)
          (told (world.hall a).room (holds.within a).room) (told (world.hall b).room
          (holds.within b).room) (rooms_apart s.settings world holds a b apart) nick
          user.0 user.1)

  pub side_seen : (client : ℕ) (t : Name) → AreJoined world.links t a
      → is_home_of s.homes t client ≡ true
      → all_seen (play s client) t (side_of s l world routes t) (deeds_of_link s world routes a b)
      ≡ meeting_lines (world.hall a) (world.hall b) (get (world.hall a).clients client)
  side_seen client t here home =
      seen_in_turn s client t (server_deeds s routes a b) (room_deeds world a b)
      (side_of s l world routes t)
      ∙ ap (λ lines. lines ++ all_seen (play s client) t knows (room_deeds world a b))
      (nothing_seen s client t (told_rows s routes a b) (side_of s l world routes t))
      ∙ burst_seen s client a t home (room_deeds world a b) knows read
      ∙ ap (λ (hall : Hall). seen_in hall.room (room_deeds world a b)
      (get hall.clients client)) hall_is
      ∙ shown_meeting client
    where
      knows : SideState
      knows = all_done (play s client) (side_of s l world routes t) (server_deeds s routes a b)

      hall_is : knows.hall ≡ world.hall a
      hall_is = (all_gained s client (told_rows s routes a b) (side_of s l world routes t)).hall
          ∙ holds.sound.one_hall t a here

-- ---- both sides

module _ (s : ItemSetting) (l : Link) (world : World) (holds : IsWorld s.settings world)
    (homes : s.homes ≡ world.homes) (client : ℕ) (t : Name)
    (home : is_home_of s.homes t client ≡ true) where
  abbrev shown : Name → Name → Option Client → List (List ℕ)
  shown e o = meeting_lines (world.hall e) (world.hall o)

  abbrev in_hall : Name → Option Client
  in_hall e = get (world.hall e).clients client

  none_in : (e : Name) → (AreJoined world.links t e → ⊥) → in_hall e ≡ None
  none_in e two = none_there s.settings world holds s.homes homes e t client two home

  -- a client of one side receives what that side is shown
  pub side_receives : (e o : Name) → HasEnds l e o → (AreJoined world.links t o → ⊥)
      → shown e o (in_hall e) ≡ (link_made world l.near l.far).out client
  side_receives = both_ends l (λ e o. (AreJoined world.links t o → ⊥)
      → shown e o (in_hall e) ≡ (link_made world l.near l.far).out client)
      (λ other. sym (ap (λ o. shown l.near l.far (in_hall l.near) ++ shown l.far l.near o)
      (none_in l.far other)
      ∙ append-nil (shown l.near l.far (in_hall l.near))))
      (λ other. sym (ap (λ o. shown l.near l.far o ++ shown l.far l.near (in_hall l.far))
      (none_in l.near other)))

  -- one of another part receives nothing
  pub aside_receives : (AreJoined world.links t l.near → ⊥) → (AreJoined world.links t l.far → ⊥)
      → (link_made world l.near l.far).out client ≡ []
  aside_receives two other = sym (side_receives l.near l.far (inl (refl, refl)) other)
      ∙ ap (shown l.near l.far) (none_in l.near two)
