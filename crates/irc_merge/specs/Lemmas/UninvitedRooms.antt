-- A room in which nobody is invited is well formed as the room is that it comes of.
use Rattle.std.proofs.Common.{◌≡◌, ℕ, Option, Some, None, List, refl, sym, ◌∙◌, ap, subst, is_some}
use Rattle.std.specs.Option.{option_and_then}
use Rattle.std.specs.FinMap.{empty, get-empty}
use Rattle.std.proofs.Math.Bool.{false≢true}
use Rattle.std.proofs.lemmas.Option.{none-some, same_Some}
use Rattle.irc_names.specs.Tables.{Table, fold_cmp, row}
use Rattle.irc_names.specs.TableLaws.{row-each}
use Rattle.irc_users.specs.declared.user.User.{User}
use Rattle.irc_channels.specs.declared.channel.Channel.{Channel}
use Rattle.irc_room.specs.Room.{Room, IsWellFormed, IsSoundRow}
use Rattle.irc_merge.specs.Merge.{uninvited, channel_uninvited}

pub uninvited_row : (o : Option Channel) (channel : Channel)
    → option_and_then channel_uninvited o ≡ Some channel
    → (before : Channel) × ((o ≡ Some before) × (record before { invited = empty } ≡ channel))
uninvited_row None channel is = absurd (none-some channel is)
uninvited_row (Some before) channel is = (before, (refl, same_Some _ channel is))

uninvited_sound : (users : Table User) (fold : List ℕ) (channel : Channel)
    → IsSoundRow users fold channel → IsSoundRow users fold (record channel { invited = empty })
uninvited_sound users fold channel sound = record {
  named = sound.named;
  members_known = sound.members_known;
  invited_known =
      λ q there.
      absurd (false≢true (sym (ap is_some (get-empty {X = Unit {0}} fold_cmp q)) ∙ there));
  some_member = sound.some_member;
}

pub uninvited_well : (room : Room) → IsWellFormed room → IsWellFormed (uninvited room)
uninvited_well room well = record {
  users_named = well.users_named;
  channels_sound = λ fold channel is.
      let found = uninvited_row (row room.channels fold) channel
      (sym (row-each channel_uninvited room.channels fold) ∙ is) in
      subst (IsSoundRow room.users fold) found.1.1
      (uninvited_sound room.users fold found.0 (well.channels_sound fold found.0 found.1.0));
}
