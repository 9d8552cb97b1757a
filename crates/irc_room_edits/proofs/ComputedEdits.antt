-- The examples, by computing over the lists of rows that the effects make.
use Rattle.std.proofs.Common.{◌≡◌, ℕ, Option, Some, None, List, [], ◌∷◌, ◌++◌, refl, ◌∙◌, ap}
use Rattle.std.proofs.Common.{is_some, option_map, option_and_then}
use Rattle.std.specs.Option.{option_map_or}
use Rattle.std.specs.FinMap.Entries.{find}
use Rattle.std.proofs.lemmas.Iterator.Adapters.{option_map_id}
use Rattle.irc_names.specs.Fold.{key}
use Rattle.irc_names.specs.Tables.{fold_cmp}
use Rattle.irc_effects.specs.declared.effect.Effect.{Effect}
use Rattle.irc_effects.specs.declared.effect.Effect.TheVariants.{AddUser, Rename, Quit, Join, Part}
use Rattle.irc_effects.specs.declared.effect.Effect.TheVariants.{Kick, ChangeModes, SetTopic, Say}
use Rattle.irc_effects.specs.declared.effect.Effect.TheVariants.{Invite, ChangeUser}
use Rattle.irc_effects.specs.Examples.{room_after}
use Rattle.irc_effects.specs.Lemmas.ExampleRooms.{list_room}
use Rattle.irc_effects.specs.Lemmas.Listed.{row_listed}
use Rattle.irc_effects.specs.Lemmas.ListedRooms.{ListedChannel, ListedRoom, channel_of, room_of}
use Rattle.irc_effects.specs.Lemmas.ListedRooms.{all_listed, no_list}
use Rattle.irc_effects.specs.Lemmas.ListedSeen.{list_asked, user_listed, channel_listed}
use Rattle.irc_effects.specs.Lemmas.ListedSeen.{member_asked}
use Rattle.irc_documents.specs.Lists.{all_done, all_through}
use Rattle.irc_edited_rooms.specs.Writes.{Row, blank_row}
use Rattle.irc_edited_rooms.specs.Documents.{Document, Edit}
use Rattle.irc_room_edits.specs.Documents.{document, member_in}
use Rattle.irc_room_edits.specs.Edits.{edits_of, joining_if, mode_edits}
use Rattle.irc_room_edits.specs.Examples.{Makes, Agree, rooms, at_end}
use Rattle.irc_room_edits.specs.Places.{Place, channel_row, member_row, user_row}

-- ---- the document of a room that is made of lists

abbrev list_member : List ℕ → ListedChannel → Option (Row Place)
list_member nick channel = option_map member_row (find fold_cmp nick channel.members)

abbrev list_row : ListedChannel → Row Place
list_row channel = channel_row (channel_of channel)

abbrev list_document : ListedRoom → Document Place
list_document room = record {
  user = λ nick. option_map user_row (find fold_cmp nick room.users);
  member = λ name nick.
      option_and_then (list_member nick) (find fold_cmp name room.channels);
  channel = λ name. option_map_or list_row (find fold_cmp name room.channels) blank_row;
}

members_are : (nick : List ℕ) (channel : Option ListedChannel)
    → option_and_then (member_in nick) (option_map channel_of channel)
    ≡ option_and_then (list_member nick) channel
members_are nick None = refl
members_are nick (Some channel) = ap (option_map member_row)
    (row_listed (λ f. f) channel.members nick
    ∙ option_map_id (find fold_cmp nick channel.members))

rows_are : (channel : Option ListedChannel)
    → option_map_or channel_row (option_map channel_of channel) blank_row
    ≡ option_map_or list_row channel blank_row
rows_are None = refl
rows_are (Some channel) = refl

document_is : (room : ListedRoom) → document (room_of room) ≡ list_document room
document_is room = λ i. record {
  user = λ nick. option_map user_row (user_listed room nick i);
  member = λ name nick. (ap (option_and_then (member_in nick)) (channel_listed room name)
      ∙ members_are nick (find fold_cmp name room.channels)) i;
  channel = λ name. (ap (λ c. option_map_or channel_row c blank_row) (channel_listed room name)
      ∙ rows_are (find fold_cmp name room.channels)) i;
}

-- ---- what an effect edits there

abbrev list_edits : ListedRoom → Effect → List (Edit Place)
list_edits room (Join nick channel op) =
    joining_if ((list_asked room).member nick channel)
    (is_some (option_map channel_of (find fold_cmp (key channel) room.channels))) nick channel op
list_edits room (ChangeModes by channel changes) = option_map_or (mode_edits (key channel) changes)
    (option_map channel_of (find fold_cmp (key channel) room.channels)) []
list_edits room other = edits_of (room_of room) other

edits_are : (room : ListedRoom) (effect : Effect)
    → edits_of (room_of room) effect ≡ list_edits room effect
edits_are room (AddUser user) = refl
edits_are room (Rename nick new) = refl
edits_are room (Quit nick text) = refl
edits_are room (Join nick channel op) = λ i.
    joining_if (member_asked room nick channel i)
    (is_some (channel_listed room (key channel) i)) nick channel op
edits_are room (Part nick channel text) = refl
edits_are room (Kick by channel nick text) = refl
edits_are room (ChangeModes by channel changes) =
    ap (λ c. option_map_or (mode_edits (key channel) changes) c [])
    (channel_listed room (key channel))
edits_are room (SetTopic by channel text) = refl
edits_are room (Say by notice target text) = refl
edits_are room (Invite by nick channel) = refl
edits_are room (ChangeUser nick change) = refl

-- ---- the room after some effects

document_after : (effects : List Effect)
    → document (room_after effects) ≡ list_document (list_room effects)
document_after effects =
    ap document (all_listed no_list effects) ∙ document_is (list_room effects)

edits_after : (effects : List Effect) (effect : Effect)
    → edits_of (room_after effects) effect ≡ list_edits (list_room effects) effect
edits_after effects effect = ap (λ room. edits_of room effect) (all_listed no_list effects)
    ∙ edits_are (list_room effects) effect

-- ---- what is looked at

abbrev list_edited : List Effect → Effect → Document Place
list_edited before effect = all_done rooms (list_document (list_room before))
    (list_edits (list_room before) effect)

abbrev list_end : List Effect → (ours theirs : Effect) → Document Place
list_end before ours theirs =
    all_done rooms (list_edited before ours) (all_through rooms (list_document (list_room before))
    (list_edits (list_room before) theirs) (list_edits (list_room before) ours))

pub makes : {A : Type 0} (before : List Effect) (effect : Effect)
    (look : Document Place → A) (it : A) → look (list_edited before effect) ≡ it
    → look (list_document (list_room (before ++ effect ∷ []))) ≡ it → Makes before effect look it
makes before effect look it edited behind = record {
  edited = (λ i. look (all_done rooms (document_after before i) (edits_after before effect i)))
      ∙ edited;
  behind = ap look (document_after (before ++ effect ∷ [])) ∙ behind;
}

end_is : (before : List Effect) (ours theirs : Effect)
    → at_end before ours theirs ≡ list_end before ours theirs
end_is before ours theirs = λ i.
    all_done rooms (all_done rooms (document_after before i) (edits_after before ours i))
    (all_through rooms (document_after before i) (edits_after before theirs i)
    (edits_after before ours i))

pub agree : {A : Type 0} (before : List Effect) (one other : Effect) (look : Document Place → A)
    (it : A) → look (list_end before one other) ≡ it → look (list_end before other one) ≡ it
    → Agree before one other look it
agree before one other look it here there = record {
  here = ap look (end_is before one other) ∙ here;
  there = ap look (end_is before other one) ∙ there;
}
