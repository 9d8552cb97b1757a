-- A network loses some of its servers (RFC 2813 section 4.1.6).
use Rattle.std.specs.Prelude.{ℕ, Bool, true, not, ◌&&◌, List, [], ◌∷◌, map}
use Rattle.std.specs.List.{list_any, flat_map}
use Rattle.irc_names.specs.Spellings.{exactly_same}
use Rattle.irc_users.specs.declared.user.User.{User}
use Rattle.irc_room.specs.effect.Effect.{Effect}
use Rattle.irc_room.specs.Room.{Room}
use Rattle.irc_room.specs.InTurn.{after_all}
use Rattle.irc_merge.specs.Quits.{quits_of, users_at}
use Rattle.irc_merge.specs.Deeds.{Deed, loses}

-- a room after a server is lost: its users have quit, in folded order
unfoldable pub lost_home : List ℕ → Room → List ℕ → Room
lost_home text room home = after_all room (quits_of text (users_at home room))

-- several, one after another
abbrev pub lost_homes : List ℕ → Room → List (List ℕ) → Room
lost_homes text room [] = room
lost_homes text room (home ∷ homes) = lost_homes text (lost_home text room home) homes

-- those who quit when these servers are lost: server by server, in folded order
abbrev pub lost_users : List (List ℕ) → Room → List User
lost_users homes room = flat_map (λ home. users_at home room) homes

-- all that a lost link does to a room on this side: these users quit, each with the same text
abbrev pub split_effects : List ℕ → List (List ℕ) → Room → List Effect
split_effects text homes room = quits_of text (lost_users homes room)

-- what is left of a room on this side, when these servers of the other are lost
unfoldable pub split : List ℕ → List (List ℕ) → Room → Room
split text homes room = after_all room (split_effects text homes room)

-- no server stands twice in a list, by the bytes of its name
abbrev pub are_distinct : List (List ℕ) → Bool
are_distinct [] = true
are_distinct (home ∷ homes) = not (list_any (exactly_same home) homes) && are_distinct homes

-- the SQUITs of these servers, one after another
abbrev pub squits : List ℕ → List ℕ → List (List ℕ) → List Deed
squits server text homes = map (λ home. loses server home text) homes
