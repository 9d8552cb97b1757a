-- An effect that can be done is the edits that it is said to be; so is another spelling.
use Rattle.std.proofs.Common.{◌≡◌, ℕ, Option, Some, None, List, [], ◌∷◌, refl, sym, ap, ◌∙◌}
use Rattle.std.proofs.Common.{option_map, option_and_then}
use Rattle.std.specs.Option.{option_map_or}
use Rattle.irc_names.specs.Fold.{key}
use Rattle.irc_names.specs.Greater.{bytes_cmp, greater}
use Rattle.irc_names.specs.Names.{IsChannel}
use Rattle.irc_names.specs.Tables.{Table, row}
use Rattle.irc_names.specs.TableLaws.{same_fold}
use Rattle.irc_channels.specs.Channels.{respelled}
use Rattle.irc_channels.specs.declared.channel.Channel.{Channel}
use Rattle.irc_effects.specs.declared.effect.Effect.TheVariants.{AddUser, Rename, Quit, Join, Part}
use Rattle.irc_effects.specs.declared.effect.Effect.TheVariants.{Kick, ChangeModes, SetTopic, Say}
use Rattle.irc_effects.specs.declared.effect.Effect.TheVariants.{Invite, ChangeUser}
use Rattle.irc_effects.specs.After.{after, titled_by}
use Rattle.irc_effects.specs.Lemmas.RespelledRooms.{respelled_is_well_formed}
use Rattle.irc_effects.specs.Lemmas.RespelledRooms.{respelled_is_within_limits}
use Rattle.irc_effects.specs.Lemmas.Rows.{alter_same}
use Rattle.irc_effects.specs.Limits.{IsWithinLimits}
use Rattle.irc_effects.specs.Room.{Room, IsWellFormed}
use Rattle.irc_edited_rooms.specs.Writes.{blank_row, written}
use Rattle.irc_edited_rooms.specs.Documents.{Nick, update}
use Rattle.irc_room_edits.specs.Documents.{document, member_in}
use Rattle.irc_room_edits.specs.Edits.{of_one_channel}
use Rattle.irc_room_edits.specs.Laws.{EffectsAreEdits, HasAllNicks, Lead, SpellingsAreEdits}
use Rattle.irc_room_edits.specs.Lemmas.ChannelsEdited.{spelling_written}
use Rattle.irc_room_edits.specs.Lemmas.EffectsLead.{add_leads, at_one_set, change_leads}
use Rattle.irc_room_edits.specs.Lemmas.EffectsLead.{invite_leads, join_leads, kick_leads}
use Rattle.irc_room_edits.specs.Lemmas.EffectsLead.{one_channel_rows, part_leads, quit_leads}
use Rattle.irc_room_edits.specs.Lemmas.EffectsLead.{renames_by, topic_leads}
use Rattle.irc_room_edits.specs.Lemmas.Fitting.{channel_fits}
use Rattle.irc_room_edits.specs.Lemmas.ModesLead.{modes_lead}
use Rattle.irc_room_edits.specs.Lemmas.SoundDocuments.{document_sound, update_leads}
use Rattle.irc_room_edits.specs.Places.{channel_row, channel_write, spelling}

pub effects_are_edits : EffectsAreEdits
unfolding after
effects_are_edits names all room (AddUser user) well within possible keeps =
    add_leads names all room well within user possible keeps
effects_are_edits names all room (Rename nick new) well within possible keeps =
    renames_by names all room well within nick new possible keeps
    (same_fold (key nick) (key new)) refl
effects_are_edits names all room (Quit nick text) well within possible keeps =
    quit_leads names all room well within nick text possible
effects_are_edits names all room (Join nick channel op) well within possible keeps =
    join_leads names all room well within nick channel op possible keeps
effects_are_edits names all room (Part nick channel text) well within possible keeps =
    part_leads names all room well within nick channel text possible
effects_are_edits names all room (Kick by channel nick text) well within possible keeps =
    kick_leads names all room well within by channel nick text possible
effects_are_edits names all room (ChangeModes by channel changes) well within possible keeps =
    modes_lead names all by channel changes room well within possible keeps
effects_are_edits names all room (SetTopic by channel text) well within possible keeps =
    topic_leads names all room well within by channel text possible keeps
effects_are_edits names all room (Say by notice target text) well within possible keeps =
    record { may = tt; same = refl }
effects_are_edits names all room (Invite by nick channel) well within possible keeps =
    invite_leads names all room well within by nick channel
effects_are_edits names all room (ChangeUser nick change) well within possible keeps =
    change_leads names all room well within nick change possible keeps

-- ---- another spelling

respelled_member : (name : List ℕ) (q : Nick) (channel : Option Channel)
    → option_and_then (member_in q) channel
    ≡ option_and_then (member_in q) (option_map (respelled name) channel)
respelled_member name q None = refl
respelled_member name q (Some channel) = refl

spelled_by : (names : List Nick) → HasAllNicks names → (room : Room) (name : List ℕ)
    → IsChannel name → IsWellFormed room → IsWithinLimits room → (there : Option Channel)
    → row room.channels (key name) ≡ there
    → Lead names (document room) (option_map_or (λ (channel : Channel). update (of_one_channel
    (key name) (channel_write spelling (greater bytes_cmp channel.name name))) ∷ []) there [])
    (document (titled_by name room))
spelled_by names all room name is well within None at = record {
  may = tt;
  same = ap (λ (channels : Table Channel). document (record room { channels = channels }))
      (sym (alter_same (key name) (option_map (respelled name)) room.channels
      (ap (option_map (respelled name)) at ∙ sym at)));
}
spelled_by names all room name is well within (Some channel) at =
    let writes = channel_write spelling (greater bytes_cmp channel.name name) in
    update_leads names (document room) (document (titled_by name room))
    (of_one_channel (key name) writes)
    (document_sound names all (titled_by name room) (respelled_is_well_formed name room well)
    (respelled_is_within_limits name room is within))
    (channel_fits names (document room) (document_sound names all room well within) (key name)
    writes)
    (one_channel_rows names room (key name) (option_map (respelled name))
    (of_one_channel (key name) writes)
    (at_one_set names room (key name) (option_map (respelled name)) writes
    (λ q. respelled_member name q (row room.channels (key name)))
    (ap (λ it. written writes (option_map_or channel_row it blank_row)) at
    ∙ spelling_written (greater bytes_cmp channel.name name) channel
    ∙ sym (ap (λ it. option_map_or channel_row (option_map (respelled name) it) blank_row) at))))

pub spellings_are_edits : SpellingsAreEdits
spellings_are_edits names all room name is well within =
    spelled_by names all room name is well within (row room.channels (key name)) refl
