-- Two halls as one: everybody is there who was in one of them, but for those whose nicknames are on
-- both sides. A side that has read what the other tells has those of its own clients that are there
-- still; and what a server has of the room by then is what it has to have of the room of both.
use Rattle.std.proofs.Common.{◌≡◌, ℕ, Bool, true, false, cond, not, Option, Some, None, is_some}
use Rattle.std.proofs.Common.{List, refl, sym, ◌∙◌, ap, if◌then◌else◌}
use Rattle.std.specs.Cmp.Lexicographic.{bytes_decides}
use Rattle.std.specs.FinMap.{get}
use Rattle.std.specs.Option.{option_and_then, option_map, option_map_or}
use Rattle.irc_channels.specs.declared.channel.Channel.{Channel}
use Rattle.irc_merge.specs.Deeds.{after_deeds}
use Rattle.irc_merge.specs.Laws.{AreApart, BurstReadIsMerge}
use Rattle.irc_merge.specs.LimitLaws.{WithinLimitsIsTold}
use Rattle.irc_merge.specs.Merge.{channel_uninvited, merge, uninvited}
use Rattle.irc_merge.specs.Lemmas.HomeOfMerge.{home_of_merge}
use Rattle.irc_merge.specs.Lemmas.UninvitedRooms.{uninvited_well}
use Rattle.irc_names.specs.Fold.{key}
use Rattle.irc_names.specs.Tables.{Table, each, row}
use Rattle.irc_names.specs.TableLaws.{row-each, same_table}
use Rattle.irc_relay.specs.Links.{Name, AreJoined, joined, part, same}
use Rattle.irc_relay.specs.Lemmas.TellingNames.{same_unless}
use Rattle.irc_room.specs.Invitations.{of_home}
use Rattle.irc_room.specs.Room.{Room, IsWellFormed}
use Rattle.irc_stage.specs.declared.clients.Client.{Client}
use Rattle.irc_stage.specs.declared.clients.Client.TheVariants.{Registering, Registered}
use Rattle.irc_users.specs.UserTable.{is_home}
use Rattle.irc_users.specs.declared.user.User.{User}
use Rattle.irc_world.specs.ClientsUsers.{fold_of}
use Rattle.irc_world.specs.Stepping.{clashes_in, merged}
use Rattle.irc_world.specs.World.{Hall, Setting, World}
use Rattle.irc_world.specs.WorldHolds.{IsWorld}
use Rattle.irc_world.specs.Lemmas.MergedClients.{first_of, get-merged}
use Rattle.irc_follow.specs.SideState.{is_home_of}
use Rattle.irc_follow.specs.Lemmas.SideAtRest.{joined_so}
use Rattle.irc_items.proofs.Link.Gains.{hall_left}
use Rattle.irc_items.proofs.Link.Kills.{Fares, burst_fares, client_left, left_of, none_left}
use Rattle.irc_items.proofs.Link.Kills.{registering_left}
use Rattle.irc_items.proofs.Link.Sides.{room_deeds}

-- ---- the clients

-- each registered client of a hall is a user of its room
abbrev pub AreUsers : Hall → Type 0
AreUsers hall = (client : ℕ) (nick : List ℕ) → get hall.clients client ≡ Some (Registered nick)
    → is_some (row hall.room.users (key nick)) ≡ true

pub users_there : (settings : List Setting) (world : World) → IsWorld settings world → (t : Name)
    → AreUsers (world.hall t)
users_there settings world holds t client nick is =
    has_home (row (world.hall t).room.users (key nick))
    (ap is_some ((holds.clients_users t).registered_is_user client (key nick)
    (ap (option_and_then fold_of) is)).of_user)
  where
    has_home : (o : Option User) → is_some (option_map (λ (user : User). user.home) o) ≡ true
        → is_some o ≡ true
    has_home None none = none
    has_home (Some user) there = refl

-- a client is in no hall but that of its home's part
pub none_there : (settings : List Setting) (world : World) → IsWorld settings world
    → (homes : List Name) → homes ≡ world.homes → (server t : Name) (q : ℕ)
    → (AreJoined world.links t server → ⊥) → is_home_of homes t q ≡ true
    → get (world.hall server).clients q ≡ None
none_there settings world holds homes same_homes server t q apart home =
    by (get (world.hall server).clients q) refl
  where
    by : (o : Option Client) → get (world.hall server).clients q ≡ o → o ≡ None
    by None is = refl
    by (Some client) is =
        let at = holds.sound.clients_home server q (ap is_some is) in
        let home_is : same t at.home ≡ true =
        sym (ap (λ o. option_map_or (same t) o false) at.is_home)
        ∙ ap (λ homes. is_home_of homes t q) (sym same_homes) ∙ home in
        absurd (apart (ap (part world.links) ((bytes_decides t at.home).0 home_is) ∙ at.joined))

-- one that is not killed where its nickname is in another room too
abbrev pub surviving_in : Room → Option Client → Option Client
surviving_in other o = cond (not (clashes_in other o)) o None

first_alone : (o : Option Client) → first_of o None ≡ o
first_alone None = refl
first_alone (Some client) = refl

-- what is left in the hall of both of a client of one of them
pub one_survives : (one other : Hall) (client : ℕ) → get other.clients client ≡ None
    → get (merged one other).clients client ≡ surviving_in other.room (get one.clients client)
one_survives one other client none =
    get-merged one other client
    ∙ ap (λ o. first_of (surviving_in other.room (get one.clients client))
    (surviving_in one.room o)) none
    ∙ first_alone (surviving_in other.room (get one.clients client))

pub other_survives : (one other : Hall) (client : ℕ) → get one.clients client ≡ None
    → get (merged one other).clients client ≡ surviving_in one.room (get other.clients client)
other_survives one other client none =
    get-merged one other client
    ∙ ap (λ o. first_of (surviving_in other.room o)
    (surviving_in one.room (get other.clients client))) none

pub user_of : (room : Room) (fold : List ℕ) → is_some (row room.users fold) ≡ true
    → (user : User) × (row room.users fold ≡ Some user)
user_of room fold there = by (row room.users fold) refl there
  where
    by : (o : Option User) → row room.users fold ≡ o → is_some o ≡ true
        → (user : User) × (row room.users fold ≡ Some user)
    by None is none = absurd (cc none)
    by (Some user) is some = (user, is)

module _ (settings : List Setting) (world : World) (holds : IsWorld settings world)
    (a b : Name) where
  -- how a registered client of a's side fares by what b tells
  pub client_fares : (client : ℕ) (nick : List ℕ) → get (world.hall a).clients client
      ≡ Some (Registered nick) → Fares (is_some (row (world.hall b).room.users (key nick)))
      (world.hall a).room nick (room_deeds world a b)
  client_fares client nick is =
      let user = user_of (world.hall a).room (key nick)
      (users_there settings world holds a client nick is) in
      burst_fares a b (λ home. joined world.links home b) (world.hall a).room (world.hall b).room
      (holds.sound.well_formed a) (holds.sound.well_formed b)
      nick user.0 user.1

  -- once a's side has read that, those of its clients are left that survive
  pub side_survives : (client : ℕ)
      → get (hall_left (room_deeds world a b) (world.hall a)).clients client
      ≡ surviving_in (world.hall b).room (get (world.hall a).clients client)
  side_survives client = left_of (room_deeds world a b) (world.hall a).clients client
      ∙ by (get (world.hall a).clients client) refl
    where
      by_clash : (nick : List ℕ) (killed : Bool) → (if killed then None else Some (Registered nick))
          ≡ cond (not killed) (Some (Registered nick)) None
      by_clash nick true = refl
      by_clash nick false = refl

      by : (o : Option Client) → get (world.hall a).clients client ≡ o
          → client_left (room_deeds world a b) o ≡ surviving_in (world.hall b).room o
      by None is = none_left (room_deeds world a b)
      by (Some (Registering pending)) is = registering_left (room_deeds world a b) pending
      by (Some (Registered nick)) is =
          (client_fares client nick is).left
          ∙ by_clash nick (is_some (row (world.hall b).room.users (key nick)))

-- ---- the room

-- no invitation is taken away twice
uninvited_twice : (room : Room) → uninvited (uninvited room) ≡ uninvited room
uninvited_twice room = ap (λ (t : Table Channel). record room { channels = t }) (same_table
    (each channel_uninvited (each channel_uninvited room.channels))
    (each channel_uninvited room.channels) (λ q.
    row-each channel_uninvited (each channel_uninvited room.channels) q
    ∙ ap (option_and_then channel_uninvited) (row-each channel_uninvited room.channels q)
    ∙ by_row (row room.channels q)
    ∙ sym (row-each channel_uninvited room.channels q)))
  where
    by_row : (o : Option Channel) → option_and_then channel_uninvited
        (option_and_then channel_uninvited o) ≡ option_and_then channel_uninvited o
    by_row None = refl
    by_row (Some channel) = refl

-- a server of this side has the same of the room, whether or not invitations of the other side's
-- users are in it
home_uninvited : (home : List ℕ) (room other : Room) → IsWellFormed room → IsWellFormed other
    → ((q : List ℕ) (user : User) → row other.users q ≡ Some user → is_home home user ≡ false)
    → of_home home (merge room (uninvited other)) ≡ of_home home (merge room other)
home_uninvited home room other well well_other elsewhere =
    sym (home_of_merge home room (uninvited other) well (uninvited_well other well_other) elsewhere)
    ∙ ap (merge (of_home home room)) (uninvited_twice other)
    ∙ home_of_merge home room other well well_other elsewhere

module _ (settings : List Setting) (world : World) (holds : IsWorld settings world) (a b : Name)
    (apart : AreJoined world.links b a → ⊥) where
  -- the users of a's side are not behind the link to b, and those of b's are
  pub rooms_apart : AreApart (λ home. joined world.links home b) (world.hall a).room
      (world.hall b).room
  rooms_apart = record {
    near = λ fold user is. same_unless (part world.links user.home) (part world.links b)
        (λ there. apart
        (sym there ∙ joined_so world.links user.home a (holds.homes_joined a fold user is)));
    behind = λ fold user is. holds.homes_joined b fold user is;
  }

  -- what a server of a's side has of the room once it has read what b tells
  pub room_read : BurstReadIsMerge → WithinLimitsIsTold → (t : Name) → AreJoined world.links t a
      → of_home t (after_deeds (world.hall a).room (room_deeds world a b))
      ≡ of_home t (merge (world.hall a).room (world.hall b).room)
  room_read reads told t here =
      ap (of_home t)
      (reads a b (λ home. joined world.links home b) (world.hall a).room (world.hall b).room
      (holds.sound.well_formed a) (holds.sound.well_formed b)
      (told (world.hall a).room (holds.within a).room)
      (told (world.hall b).room (holds.within b).room) rooms_apart)
      ∙ home_uninvited t (world.hall a).room (world.hall b).room (holds.sound.well_formed a)
      (holds.sound.well_formed b) elsewhere
    where
      elsewhere : (q : List ℕ) (user : User) → row (world.hall b).room.users q ≡ Some user
          → is_home t user ≡ false
      elsewhere q user is = same_unless user.home t
          (λ one. apart (sym (joined_so world.links user.home b (holds.homes_joined b q user is))
          ∙ ap (part world.links) one ∙ here))
