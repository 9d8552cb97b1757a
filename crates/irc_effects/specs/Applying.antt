-- A room as a server keeps it, and what comes of asking it for an effect.
use Rattle.std.specs.Prelude.{◌≡◌, ℕ, Bool, true, false, not, ◌&&◌, is_none, Option, Some, None}
use Rattle.std.specs.Prelude.{Result, Ok, Err, List, [], map, filter, if◌then◌else◌}
use Rattle.std.specs.List.{list_all}
use Rattle.std.specs.Option.{option_map_or}
use Rattle.arrayvec.specs.ArrayVec.{ArrayVec}
use Rattle.irc_names.specs.Fold.{key}
use Rattle.irc_names.specs.Tables.{row}
use Rattle.irc_users.specs.declared.user.User.{User}
use Rattle.irc_users.specs.UserTable.{is_home}
use Rattle.irc_effects.specs.declared.effect.Effect.{Effect}
use Rattle.irc_effects.specs.declared.shown_line.ShownLine.{ShownLine}
use Rattle.irc_effects.specs.declared.fault.RoomFault.{RoomFault}
use Rattle.irc_effects.specs.declared.fault.RoomFault.TheVariants.{NoSuchUser, NoSuchChannel}
use Rattle.irc_effects.specs.declared.fault.RoomFault.TheVariants.{Memory, Failed}
use Rattle.irc_effects.specs.Room.{Room}
use Rattle.irc_effects.specs.Effects.{has_user, has_channel, is_idle, needs_users, needs_channel}
use Rattle.irc_effects.specs.After.{after}
use Rattle.irc_effects.specs.Seen.{Showing, seen, shown_line}

-- whose room it is, whether memory ran out, and the room
pub record ServerRoom : Type 0 where
  pub own : List ℕ
  pub failed : Bool
  pub room : Room

-- what of all that an effect names is not there, if anything is not
abbrev pub missing_fault : Room → Effect → Option RoomFault
missing_fault room effect =
    if not (list_all (has_user room) (needs_users effect)) then Some NoSuchUser
    else (if not (option_map_or (has_channel room) (needs_channel effect) true)
    then Some NoSuchChannel
    else None)

-- why an effect is refused, if it is: the causes in the order in which they are looked for
abbrev pub room_fault : ServerRoom → Effect → Option RoomFault
room_fault kept effect = if kept.failed then Some Failed else missing_fault kept.room effect

-- why a channel's name is not spelled anew, if it is not: in the same order
abbrev pub respelling_fault : ServerRoom → List ℕ → Option RoomFault
respelling_fault kept channel =
    if kept.failed then Some Failed
    else (if has_channel kept.room channel then None
    else Some NoSuchChannel)

-- whether an effect does anything: a room that has not failed does not refuse it, and it is not
-- idle
abbrev pub does : Room → Effect → Bool
does room effect = is_none (missing_fault room effect) && not (is_idle room effect)

-- whether a viewer is connected to the server whose room it is
abbrev pub is_own : ServerRoom → Showing → Bool
is_own kept showing =
    option_map_or (is_home kept.own) (row kept.room.users (key showing.viewer)) false

-- a showing, as the code hands it out
abbrev pub handed : Showing → List ℕ × ArrayVec ℕ
handed showing = (showing.viewer, record { items = showing.line })

-- what an effect shows to the server's own users, in folded order
abbrev pub shown_here : ServerRoom → Effect → List (List ℕ × ArrayVec ℕ)
shown_here kept effect = map handed (filter (is_own kept) (seen kept.room effect))

-- the line that an effect shows to each of the server's own users who sees it
abbrev pub ShowsHere : ServerRoom → Effect → Option (List ℕ) → Type 0
ShowsHere kept effect line = (viewer : User) → viewer.home ≡ kept.own
    → shown_line kept.room effect viewer ≡ line

-- what was shown: the line, to each viewer
abbrev pub pairs_of : ShownLine → List (List ℕ × ArrayVec ℕ)
pairs_of shown = map (λ viewer. (viewer, shown.line)) shown.viewers.items

-- An effect is applied: the room is the one after it, and what it shows is put out. Where it is
-- refused nothing changes and nothing is shown, save that a room for which memory ran out answers
-- Failed from then on.
abbrev pub Applied : ServerRoom → Effect → Result (Unit {0}) RoomFault → ServerRoom → ShownLine
    → Type 0
Applied old effect (Ok done) new shown =
    (room_fault old effect ≡ None) × (new ≡ record old { room = after old.room effect })
    × (pairs_of shown ≡ shown_here old effect)
Applied old effect (Err Memory) new shown = (room_fault old effect ≡ None)
    × (new ≡ record old { failed = true }) × (shown.viewers.items ≡ [])
Applied old effect (Err fault) new shown =
    (room_fault old effect ≡ Some fault) × (new ≡ old) × (shown.viewers.items ≡ [])

-- An effect that does nothing is refused for the same causes. Where there is none it is done: it
-- takes no memory, changes nothing and shows nothing.
abbrev pub IdleStays : ServerRoom → Effect → Result (Unit {0}) RoomFault → ServerRoom → ShownLine
    → Type 0
IdleStays old effect result new shown =
    is_idle old.room effect ≡ true → room_fault old effect ≡ None
    → (result ≡ Ok tt) × (new ≡ old) × (pairs_of shown ≡ [])

-- An effect is made, and shown to nobody: the room is the one after it. Where it is refused nothing
-- changes, save that a room for which memory ran out answers Failed from then on.
abbrev pub Changed : ServerRoom → Effect → Result (Unit {0}) RoomFault → ServerRoom → Type 0
Changed old effect (Ok done) new =
    (room_fault old effect ≡ None) × (new ≡ record old { room = after old.room effect })
Changed old effect (Err Memory) new =
    (room_fault old effect ≡ None) × (new ≡ record old { failed = true })
Changed old effect (Err fault) new = (room_fault old effect ≡ Some fault) × (new ≡ old)

-- An effect that does nothing is refused for the same causes. Where there is none it is done: it
-- takes no memory and changes nothing.
abbrev pub IdleKeeps : ServerRoom → Effect → Result (Unit {0}) RoomFault → ServerRoom → Type 0
IdleKeeps old effect result new =
    is_idle old.room effect ≡ true → room_fault old effect ≡ None → (result ≡ Ok tt) × (new ≡ old)
