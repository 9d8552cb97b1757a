-- The document of a room is sound, and how an update is shown to lead from one room's document to
-- another one's.
use Rattle.std.proofs.Common.{◌≡◌, Bool, true, false, Option, Some, None, List, [], ◌∷◌}
use Rattle.std.proofs.Common.{refl, sym, ap, ◌∙◌, is_some, option_map, option_and_then}
use Rattle.std.proofs.Common.{true≢false}
use Rattle.std.proofs.Math.Bool.{false≢true}
use Rattle.std.specs.Option.{option_map_or}
use Rattle.irc_names.specs.Tables.{row}
use Rattle.irc_users.specs.declared.user.User.{User}
use Rattle.irc_channels.specs.declared.channel.Channel.{Channel}
use Rattle.irc_effects.specs.Lemmas.Rows.{some_row}
use Rattle.irc_effects.specs.Limits.{IsWithinLimits}
use Rattle.irc_effects.specs.Room.{Room, IsWellFormed}
use Rattle.irc_edited_rooms.specs.Writes.{Row, blank_row, written}
use Rattle.irc_edited_rooms.specs.Fates.{after_fate}
use Rattle.irc_edited_rooms.specs.Documents.{ChannelName, Document, Nick, Update, IsSound, is_name}
use Rattle.irc_edited_rooms.specs.Documents.{lives, row_while, update}
use Rattle.irc_edited_rooms.specs.Crossing.{IsFitting}
use Rattle.irc_edited_rooms.specs.Lemmas.Living.{blank_while, living}
use Rattle.irc_room_edits.specs.Documents.{document, member_in}
use Rattle.irc_room_edits.specs.Laws.{HasAllNicks, DocumentsAreSound, Lead}
use Rattle.irc_room_edits.specs.Places.{Place, channel_row, member_row, user_row}

-- ---- the document of a room

there_mapped : {A B : Type 0} (f : A → B) (row : Option A)
    → is_some (option_map f row) ≡ is_some row
there_mapped f None = refl
there_mapped f (Some a) = refl

module _ (names : List Nick) (all : HasAllNicks names) (room : Room) (well : IsWellFormed room)
    (within : IsWithinLimits room) where
  user_named : (fold : Nick) (user : Option User) → row room.users fold ≡ user
      → is_some user ≡ true → is_name names fold ≡ true
  user_named fold None at there = absurd (false≢true there)
  user_named fold (Some user) at there =
      ap (is_name names) (sym (well.users_named fold user at))
      ∙ all user.nick (within.users fold user at).nick

  named : (nick : Nick) → is_some ((document room).user nick) ≡ true → is_name names nick ≡ true
  named nick there = user_named nick (row room.users nick) refl
      (sym (there_mapped user_row (row room.users nick)) ∙ there)

  known_in : (name : ChannelName) (nick : Nick) (channel : Option Channel)
      → row room.channels name ≡ channel
      → is_some (option_and_then (member_in nick) channel) ≡ true
      → is_some (row room.users nick) ≡ true
  known_in name nick None at there = absurd (false≢true there)
  known_in name nick (Some channel) at there =
      (well.channels_sound name channel at).members_known nick
      (sym (there_mapped member_row (row channel.members nick)) ∙ there)

  known : (name : ChannelName) (nick : Nick) → is_some ((document room).member name nick) ≡ true
      → is_some ((document room).user nick) ≡ true
  known name nick there =
      there_mapped user_row (row room.users nick)
      ∙ known_in name nick (row room.channels name) refl there

  -- a channel that is there lives
  pub living_row : (name : ChannelName) (channel : Channel)
      → row room.channels name ≡ Some channel
      → lives names ((document room).member name) ≡ true
  living_row name channel at =
      let sound = well.channels_sound name channel at in
      let one = some_row channel.members sound.some_member in
      living names ((document room).member name) one.0
      (user_named one.0 (row room.users one.0) refl (sound.members_known one.0 one.1))
      (ap (λ it. is_some (option_and_then (member_in one.0) it)) at
      ∙ there_mapped member_row (row channel.members one.0) ∙ one.1)

  blank_in : (name : ChannelName) (channel : Option Channel) → row room.channels name ≡ channel
      → lives names ((document room).member name) ≡ false
      → option_map_or channel_row channel blank_row ≡ blank_row
  blank_in name None at none = refl
  blank_in name (Some channel) at none =
      absurd (true≢false (sym (living_row name channel at) ∙ none))

  pub document_sound : IsSound names (document room)
  document_sound = record {
    known = known;
    named = named;
    blank = λ name. blank_in name (row room.channels name) refl;
  }

pub documents_are_sound : DocumentsAreSound
documents_are_sound names all room well within = document_sound names all room well within

-- ---- one update leads to another room

-- the rows behind an update are those of the other room
pub record AreRows (names : List Nick) (one other : Document Place) (what : Update Place)
    : Type 0 where
  pub users : (nick : Nick) → after_fate (what.user nick) (one.user nick) ≡ other.user nick
  pub members : (name : ChannelName) (nick : Nick)
      → after_fate (what.member name nick) (one.member name nick) ≡ other.member name nick
  pub channels : (name : ChannelName) → lives names (other.member name) ≡ true
      → written (what.set name) (one.channel name) ≡ other.channel name

while_there : (there : Bool) (one other : Row Place) → (there ≡ true → one ≡ other)
    → row_while there one ≡ row_while there other
while_there true one other same = same refl
while_there false one other same = refl

pub update_leads : (names : List Nick) (one other : Document Place) (what : Update Place)
    → IsSound names other → IsFitting names one what → AreRows names one other what
    → Lead names one (update what ∷ []) other
update_leads names one other what sound fitting rows = record {
  may = (fitting, tt);
  same = λ i. record {
    user = λ nick. rows.users nick i;
    member = λ name nick. rows.members name nick i;
    channel = λ name. (ap (λ there. row_while there (written (what.set name) (one.channel name)))
        (λ j. lives names (λ nick. rows.members name nick j))
        ∙ while_there (lives names (other.member name))
        (written (what.set name) (one.channel name)) (other.channel name) (rows.channels name)
        ∙ blank_while (lives names (other.member name)) (other.channel name)
        (sound.blank name)) i;
  };
}
