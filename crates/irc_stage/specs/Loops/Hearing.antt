-- To whom the line of an effect goes: the connections of the users that see it, told by the folds
-- of their nicknames.
use Rattle.std.specs.Prelude.{◌≡◌, ℕ, ⊤, Bool, false, not, ◌&&◌, ◌||◌, nat_eq, Option, None}
use Rattle.std.specs.Prelude.{List, [], ◌∷◌, ◌++◌, map, filter, if◌then◌else◌}
use Rattle.std.specs.List.{list_any}
use Rattle.std.specs.FinMap.{values}
use Rattle.std.specs.Cmp.Lexicographic.{pointwise}
use Rattle.irc_names.specs.Fold.{key}
use Rattle.irc_names.specs.Tables.{Table}
use Rattle.irc_users.specs.declared.user.User.{User as Person}
use Rattle.irc_users.specs.UserTable.{is_shown}
use Rattle.irc_batch.specs.Batches.{Batch, Sent, batch_of, is_number, line_to}
use Rattle.irc_room.specs.effect.Effect.{Effect}
use Rattle.irc_room.specs.effect.Effect.TheVariants.{AddUser, Rename, Quit, Join, Part, Kick}
use Rattle.irc_room.specs.effect.Effect.TheVariants.{ChangeModes, SetTopic, Say, Invite, ChangeUser}
use Rattle.irc_room.specs.effect.Target.{Target}
use Rattle.irc_room.specs.effect.Target.TheVariants.{Channel, User}
use Rattle.irc_room.specs.Applying.{ServerRoom}
use Rattle.irc_room.specs.Effects.{is_idle}
use Rattle.irc_room.specs.Readers.{names_of}
use Rattle.irc_room.specs.Room.{Room}
use Rattle.irc_room.specs.Seen.{shown_line}
use Rattle.irc_stage.specs.Loops.Listening.{conns_of, is_in}

-- ---- who sees an effect, by the folds of nicknames

-- whether a fold is that of a nickname
abbrev pub is_nick_of : List ℕ → List ℕ → Bool
is_nick_of nick fold = pointwise nat_eq (key nick) fold

-- whether its user is in a channel that the user of a nickname is in
abbrev pub is_beside : Room → List ℕ → List ℕ → Bool
is_beside room nick fold = list_any (is_in room fold) (names_of room nick)

-- whether its user is told what a user says
abbrev pub is_told : Room → List ℕ → Target → List ℕ → Bool
is_told room by (User nick) fold = is_nick_of nick fold
is_told room by (Channel channel) fold = not (is_nick_of by fold) && is_in room fold (key channel)

-- whether its user sees an effect
abbrev pub sees_fold : Room → Effect → List ℕ → Bool
sees_fold room (AddUser user) fold = false
sees_fold room (Rename nick new) fold = is_nick_of nick fold || is_beside room nick fold
sees_fold room (Quit nick text) fold = not (is_nick_of nick fold) && is_beside room nick fold
sees_fold room (Join nick channel op) fold = is_nick_of nick fold || is_in room fold (key channel)
sees_fold room (Part nick channel text) fold = is_in room fold (key channel)
sees_fold room (Kick by channel nick text) fold = is_in room fold (key channel)
sees_fold room (ChangeModes by channel changes) fold = is_in room fold (key channel)
sees_fold room (SetTopic by channel text) fold = is_in room fold (key channel)
sees_fold room (Say by notice target text) fold = is_told room by target fold
sees_fold room (Invite by nick channel) fold = is_nick_of nick fold
sees_fold room (ChangeUser nick change) fold = is_shown change && is_nick_of nick fold

-- ---- their connections

-- those of the users of whose folds a test holds, as far as they are clients, in folded order
abbrev pub conns_who : Room → Table ℕ → (List ℕ → Bool) → List ℕ
conns_who room by_nick test =
    conns_of by_nick
    (map (λ (user : Person). user.nick)
    (filter (λ (user : Person). test (key user.nick)) (values room.users)))

-- those of the users that see an effect
abbrev pub hearers : Room → Table ℕ → Effect → List ℕ
hearers room by_nick effect = conns_who room by_nick (sees_fold room effect)

-- some connections, or none
abbrev pub conns_if : Bool → List ℕ → List ℕ
conns_if shown conns = if shown then conns else []

-- a line to each of some connections, and the line at hand
abbrev pub to_each : List ℕ → List ℕ → List Sent
to_each line conns = map (λ conn. line_to conn line) conns

-- those of some connections that are not this one
abbrev pub others_of : Option ℕ → List ℕ → List ℕ
others_of one conns = filter (λ conn. not (is_number one conn)) conns

-- A line is put out to each of these connections, and is at hand then. Where there are none the
-- batch stays as it was.
abbrev pub told_to : List ℕ → List ℕ → Batch → Batch
told_to line [] batch = batch
told_to line (conn ∷ conns) batch = batch_of (batch.outs ++ to_each line (conn ∷ conns)) line

abbrev pub SendsTo : List ℕ → List ℕ → Batch → Batch → Type 0
SendsTo line conns old new = new ≡ told_to line conns old

-- The line that an effect shows to each user at home who sees it, if it shows one: an idle one does
-- not.
abbrev pub line_of : Room → Effect → Person → Option (List ℕ)
line_of room effect viewer = if is_idle room effect then None else shown_line room effect viewer

abbrev pub IsLineOf : ServerRoom → Effect → Option (List ℕ) → Type 0
IsLineOf kept effect line =
    (viewer : Person) → viewer.home ≡ kept.own → line_of kept.room effect viewer ≡ line

-- an effect by which nothing is said, and one by which nobody joins either
abbrev pub IsUnsaid : Effect → Type 0
IsUnsaid (Say by notice target text) = ⊥
IsUnsaid effect = ⊤

abbrev pub IsToldFirst : Effect → Type 0
IsToldFirst (Say by notice target text) = ⊥
IsToldFirst (Join nick channel op) = ⊥
IsToldFirst effect = ⊤

-- one that nobody sees
abbrev pub IsUnseen : Effect → Type 0
IsUnseen (AddUser user) = ⊤
IsUnseen effect = ⊥
