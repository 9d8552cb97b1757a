-- What a split leaves where the room is lists, and who is invited once two such rooms are joined.
use Rattle.std.proofs.Common.{◌≡◌, ℕ, Bool, false, ◌||◌, Option, Some, None, List, refl, ◌∙◌}
use Rattle.std.proofs.Common.{ap, map, fold, filter, is_some, option_map, sym}
use Rattle.std.specs.List.{flat_map}
use Rattle.std.specs.Option.{option_map_or}
use Rattle.std.specs.FinMap.Entries.{find}
use Rattle.std.proofs.Math.Bool.{or-false}
use Rattle.std.proofs.lemmas.Iterator.Adapters.{option_map_id}
use Rattle.irc_names.specs.Tables.{fold_cmp, row}
use Rattle.irc_users.specs.declared.user.User.{User}
use Rattle.irc_users.specs.UserTable.{is_home}
use Rattle.irc_channels.specs.Channels.{is_invited}
use Rattle.irc_room.specs.InTurn.{after_all}
use Rattle.irc_room.specs.Lemmas.Listed.{table_of, row_listed}
use Rattle.irc_room.specs.Lemmas.ListedRooms.{ListedChannel, ListedRoom, channel_of, room_of}
use Rattle.irc_room.specs.Lemmas.ListedRooms.{list_after, all_listed}
use Rattle.irc_merge.specs.Quits.{quits_of}
use Rattle.irc_merge.specs.Merge.{either, joined_channel, merge}
use Rattle.irc_merge.specs.Split.{lost_users, split}
use Rattle.irc_merge.specs.Lemmas.Joining.{row-either}
use Rattle.irc_merge.specs.Lemmas.ListedMerge.{AreInOrder, channel_merged, in_turn, list_without}
use Rattle.irc_merge.specs.Lemmas.ListedMerge.{users_listed}

abbrev pub list_lost : List (List ℕ) → ListedRoom → List User
list_lost homes room = flat_map (λ home. filter (is_home home) (map (λ e. e.1) room.users)) homes

abbrev pub list_split : List ℕ → List (List ℕ) → ListedRoom → ListedRoom
list_split text homes room = fold list_after room (quits_of text (list_lost homes room))

lost_listed : (room : ListedRoom) → AreInOrder room → (homes : List (List ℕ))
    → lost_users homes (room_of room) ≡ list_lost homes room
lost_listed room order homes =
    λ i. flat_map (λ home. filter (is_home home) (users_listed room order i)) homes

pub split_listed : (text : List ℕ) (homes : List (List ℕ)) (room : ListedRoom) → AreInOrder room
    → split text homes (room_of room) ≡ room_of (list_split text homes room)
unfolding split
split_listed text homes room order =
    ap (λ users. after_all (room_of room) (quits_of text users)) (lost_listed room order homes)
    ∙ in_turn (room_of room) (quits_of text (list_lost homes room))
    ∙ all_listed room (quits_of text (list_lost homes room))

-- ---- who is invited

abbrev pub invited_in : List ℕ → Option ListedChannel → Bool
invited_in nick x =
    option_map_or (λ (c : ListedChannel). is_some (find fold_cmp nick c.invited)) x false

invited_row : (nick : List ℕ) (c : ListedChannel)
    → row (table_of (λ (u : Unit {0}). u) c.invited) nick ≡ find fold_cmp nick c.invited
invited_row nick c =
    row_listed (λ u. u) c.invited nick ∙ option_map_id (find fold_cmp nick c.invited)

either_there : {X : Type 0} (x y : Option X) → is_some (either x y) ≡ (is_some x || is_some y)
either_there None y = refl
either_there (Some x) y = refl

joined_invited : (nick : List ℕ) (x y : Option ListedChannel) → option_map_or (is_invited nick)
    (joined_channel (option_map channel_of x) (option_map channel_of y)) false
    ≡ (invited_in nick x || invited_in nick y)
joined_invited nick None None = refl
joined_invited nick None (Some d) = ap is_some (invited_row nick d)
joined_invited nick (Some c) None =
    ap is_some (invited_row nick c) ∙ sym (or-false (is_some (find fold_cmp nick c.invited)))
joined_invited nick (Some c) (Some d) =
    ap is_some (row-either (table_of (λ (u : Unit {0}). u) c.invited)
    (table_of (λ (u : Unit {0}). u) d.invited) nick
    ∙ (λ i. either (invited_row nick c i) (invited_row nick d i)))
    ∙ either_there (find fold_cmp nick c.invited) (find fold_cmp nick d.invited)

pub invited_merged : (one other : ListedRoom) → AreInOrder one → AreInOrder other
    → (nick channel : List ℕ) → option_map_or (is_invited nick)
    (row (merge (room_of one) (room_of other)).channels channel) false
    ≡ (invited_in nick (find fold_cmp channel (list_without one other).channels)
    || invited_in nick (find fold_cmp channel (list_without other one).channels))
invited_merged one other order_one order_other nick channel =
    ap (λ o. option_map_or (is_invited nick) o false)
    (channel_merged one other order_one order_other channel)
    ∙ joined_invited nick (find fold_cmp channel (list_without one other).channels)
    (find fold_cmp channel (list_without other one).channels)
