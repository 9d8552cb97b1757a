-- The users that see an effect, and how they are found by names.
use Rattle.std.specs.Prelude.{◌≡◌, ℕ, Bool, ◌&&◌, ◌||◌, is_some, not, List, [], ◌∷◌, nat_eq, map}
use Rattle.std.specs.Prelude.{option_to_list, if◌then◌else◌}
use Rattle.std.specs.Borrow.{Bor}
use Rattle.std.specs.List.{flat_map, list_any}
use Rattle.std.specs.Cmp.Lexicographic.{pointwise}
use Rattle.std.specs.FinMap.{values}
use Rattle.arrayvec.specs.ArrayVec.{ArrayVec}
use Rattle.irc_names.specs.Fold.{key, same}
use Rattle.irc_names.specs.Tables.{Table, row}
use Rattle.irc_names.specs.TableLaws.{same_fold}
use Rattle.irc_tables.specs.declared.table.Row.{Row}
use Rattle.irc_users.specs.declared.user.User.{User}
use Rattle.irc_users.specs.declared.user_change.UserChange.{UserChange}
use Rattle.irc_users.specs.UserTable.{is_shown}
use Rattle.irc_channels.specs.declared.channel.Channel.{Channel}
use Rattle.irc_channels.specs.declared.flags.Flags.{Flags}
use Rattle.irc_channels.specs.Channels.{has_member}
use Rattle.irc_effects.specs.declared.effect.Effect.{Effect}
use Rattle.irc_effects.specs.declared.effect.Target.{Target}
use Rattle.irc_effects.specs.declared.effect.Target.TheVariants as target
use Rattle.irc_effects.specs.Effects.{is_member}
use Rattle.irc_room.specs.Indexes.{holds, joins_both}
use Rattle.irc_effects.specs.Found.{users_who}
use Rattle.irc_effects.specs.Room.{Room}
use Rattle.irc_effects.specs.Seen.{sees, share_channel}

-- those that see an effect
abbrev pub viewers : Room → Effect → List User
viewers room effect = users_who room.users (sees room effect)

-- what was found is all users whose nicknames pass a test of the room, in folded order
abbrev pub Finds : Room → (Room → List ℕ → Bool) → List (Bor User) → Type 0
Finds room test found = map (λ (user : Bor User). user.now) found ≡ users_who room.users (test room)

-- those that see a change of nickname, a quit, a join, and a text that is said in a channel
abbrev pub sees_rename : Room → List ℕ → List ℕ → Bool
sees_rename room nick viewer = same nick viewer || share_channel room nick viewer

abbrev pub sees_quit : Room → List ℕ → List ℕ → Bool
sees_quit room nick viewer = not (same nick viewer) && share_channel room nick viewer

abbrev pub sees_join : Room → List ℕ → List ℕ → List ℕ → Bool
sees_join room nick channel viewer = same nick viewer || is_member room viewer channel

abbrev pub hears : Room → List ℕ → List ℕ → List ℕ → Bool
hears room by channel viewer = not (same by viewer) && is_member room viewer channel

-- who sees a change of a user's own
abbrev pub sees_change : List ℕ → UserChange → List ℕ → Bool
sees_change nick change viewer = is_shown change && same nick viewer

-- those that are shown what a user says
abbrev pub hears_text : Room → List ℕ → Target → List ℕ → Bool
hears_text room by (target.User nick) viewer = same nick viewer
hears_text room by (target.Channel channel) viewer = hears room by channel viewer

-- the line, for a user of the server of this name
abbrev pub line_for_own : List ℕ → List ℕ → User → List (List ℕ × ArrayVec ℕ)
line_for_own own line user =
    if pointwise nat_eq user.home own then (user.nick, record { items = line }) ∷ [] else []

-- the nickname of a user, where it is one of the server of this name
abbrev pub own_nick : List ℕ → User → List (List ℕ)
own_nick own user = if pointwise nat_eq user.home own then user.nick ∷ [] else []

-- those nicknames of some users, and of all that see an effect
abbrev pub own_nicks : List ℕ → List User → List (List ℕ)
own_nicks own users = flat_map (own_nick own) users

abbrev pub own_viewers : List ℕ → Room → Effect → List (List ℕ)
own_viewers own room effect = own_nicks own (viewers room effect)

-- whether a fold is that of a member of some channel that a user is in
abbrev pub is_sharer : Table Channel → List ℕ → List ℕ → Bool
is_sharer channels nick fold = list_any (joins_both (key nick) fold) (values channels)

-- a table has rows under just these
abbrev pub AreSharers : Table Flags → Table Channel → List ℕ → Type 0
AreSharers names channels nick =
    (fold : List ℕ) → is_some (row names fold) ≡ is_sharer channels nick fold

-- whether it is that of a member of one of some channels, by their rows
abbrev pub is_in_any : Table Channel → List (Row (Unit {0})) → List ℕ → Bool
is_in_any channels rows fold =
    list_any (λ row. holds has_member channels fold (key row.name.items)) rows

-- whether it is that of one of some rows
abbrev pub is_one_of : List (Row Flags) → List ℕ → Bool
is_one_of rows fold = list_any (λ row. same_fold fold (key row.name.items)) rows

-- the user of a nickname, if there is one
abbrev pub user_named : Table User → List ℕ → List User
user_named users name = option_to_list (row users (key name))

-- a table that has rows under these folds, too
abbrev pub Gains : Table Flags → Table Flags → (List ℕ → Bool) → Type 0
Gains before after new =
    (fold : List ℕ) → is_some (row after fold) ≡ (is_some (row before fold) || new fold)
