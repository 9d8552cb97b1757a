-- Changes of modes, one behind another, are the edits that they are said to be.
use Rattle.std.proofs.Common.{◌≡◌, ℕ, Bool, true, false, cond, Option, Some, None, List, []}
use Rattle.std.proofs.Common.{◌∷◌, refl, sym, ap, subst, ◌∙◌, is_some, option_map, option_and_then}
use Rattle.std.proofs.Math.Bool.{false≢true}
use Rattle.std.specs.List.{AllByRecursion}
use Rattle.std.specs.Option.{option_map_or}
use Rattle.irc_names.specs.Fold.{key}
use Rattle.irc_names.specs.Tables.{Table, alter, row}
use Rattle.irc_names.specs.TableLaws.{same_fold, row-alter, row-alter_same, same_table}
use Rattle.irc_modes.specs.declared.modes.ModeChange.{ModeChange}
use Rattle.irc_modes.specs.declared.modes.ModeLetter.{ModeLetter}
use Rattle.irc_modes.specs.declared.modes.ModeLetter.TheVariants as letter
use Rattle.irc_channels.specs.Channels.{all_changed, changed}
use Rattle.irc_channels.specs.declared.channel.Channel.{Channel}
use Rattle.irc_effects.specs.declared.effect.By.{By}
use Rattle.irc_effects.specs.declared.effect.Effect.{Effect}
use Rattle.irc_effects.specs.declared.effect.Effect.TheVariants.{ChangeModes}
use Rattle.irc_effects.specs.After.{after}
use Rattle.irc_effects.specs.Effects.{IsPossible}
use Rattle.irc_effects.specs.Lemmas.LimitsKept.{after_is_within_limits}
use Rattle.irc_effects.specs.Lemmas.Rows.{alter_same}
use Rattle.irc_effects.specs.Lemmas.WellFormedLaw.{after_is_well_formed}
use Rattle.irc_effects.specs.Limits.{IsBanCarried, IsWithinLimits, KeepsLimits}
use Rattle.irc_effects.specs.Room.{Room, IsWellFormed}
use Rattle.irc_documents.specs.Lists.{AllMay, all_done}
use Rattle.irc_edited_rooms.specs.Writes.{no_writes, blank_row, written}
use Rattle.irc_edited_rooms.specs.Fates.{stays, after_fate}
use Rattle.irc_edited_rooms.specs.Documents.{ChannelName, Document, Edit, IsSound, Nick, Update}
use Rattle.irc_edited_rooms.specs.Documents.{update}
use Rattle.irc_edited_rooms.specs.Crossing.{IsFitting}
use Rattle.irc_edited_rooms.specs.EditedRooms.{edited_rooms}
use Rattle.irc_room_edits.specs.Documents.{document, member_in}
use Rattle.irc_room_edits.specs.Edits.{edits_of, letter_edit, mode_edits, place_of, write_at}
use Rattle.irc_room_edits.specs.Laws.{HasAllNicks, Lead}
use Rattle.irc_room_edits.specs.Lemmas.EffectsLead.{one_channel_rows}
use Rattle.irc_room_edits.specs.Lemmas.Fitting.{channel_fits, member_fits}
use Rattle.irc_room_edits.specs.Lemmas.LettersEdited.{letter_members, letter_members_elsewhere}
use Rattle.irc_room_edits.specs.Lemmas.LettersEdited.{letter_set, letter_set_elsewhere}
use Rattle.irc_room_edits.specs.Lemmas.LettersEdited.{letter_users}
use Rattle.irc_room_edits.specs.Lemmas.SoundDocuments.{document_sound, update_leads}
use Rattle.irc_room_edits.specs.Places.{Place, channel_row, flag_value, member_write, operator}
use Rattle.irc_room_edits.specs.Places.{voice}

-- ---- one letter can be done

module _ (names : List Nick) (room : Document Place) (sound : IsSound names room)
    (name : ChannelName) where
  letter_fits : (plus : Bool) (which : ModeLetter) (word : Option (List ℕ)) (channel : Channel)
      → IsFitting names room (letter_edit name plus which word channel)
  letter_fits plus letter.Operator (Some word) channel =
      member_fits names room sound name (key word) (stays (member_write operator (flag_value plus)))
      no_writes refl
  letter_fits plus letter.Voice (Some word) channel =
      member_fits names room sound name (key word) (stays (member_write voice (flag_value plus)))
      no_writes refl
  letter_fits plus letter.Operator None channel = channel_fits names room sound name no_writes
  letter_fits plus letter.Voice None channel = channel_fits names room sound name no_writes
  letter_fits plus letter.InviteOnly word channel =
      channel_fits names room sound name (write_at (place_of letter.InviteOnly word) channel)
  letter_fits plus letter.Moderated word channel =
      channel_fits names room sound name (write_at (place_of letter.Moderated word) channel)
  letter_fits plus letter.NoOutside word channel =
      channel_fits names room sound name (write_at (place_of letter.NoOutside word) channel)
  letter_fits plus letter.TopicLocked word channel =
      channel_fits names room sound name (write_at (place_of letter.TopicLocked word) channel)
  letter_fits plus letter.Private word channel =
      channel_fits names room sound name (write_at (place_of letter.Private word) channel)
  letter_fits plus letter.Secret word channel =
      channel_fits names room sound name (write_at (place_of letter.Secret word) channel)
  letter_fits plus letter.Key word channel =
      channel_fits names room sound name (write_at (place_of letter.Key word) channel)
  letter_fits plus letter.Limit word channel =
      channel_fits names room sound name (write_at (place_of letter.Limit word) channel)
  letter_fits plus letter.Ban word channel =
      channel_fits names room sound name (write_at (place_of letter.Ban word) channel)

-- ---- edits one behind another

then_lead : (names : List Nick) (one between other : Document Place) (edit : Edit Place)
    (edits : List (Edit Place)) → Lead names one (edit ∷ []) between
    → Lead names between edits other → Lead names one (edit ∷ edits) other
then_lead names one between other edit edits first rest = record {
  may = (first.may.0, subst (λ it. AllMay (edited_rooms names) it edits) (sym first.same) rest.may);
  same = ap (λ it. all_done (edited_rooms names) it edits) first.same ∙ rest.same;
}

changed_twice : (table : Table Channel) (fold : List ℕ) (f g : Channel → Channel)
    → alter fold (option_map g) (alter fold (option_map f) table)
    ≡ alter fold (option_map (λ it. g (f it))) table
changed_twice table fold f g = same_table (alter fold (option_map g) once)
    (alter fold (option_map (λ it. g (f it))) table) (λ q.
    row-alter fold (option_map g) once q
    ∙ (λ i. cond (same_fold q fold) (option_map g (row-alter_same fold (option_map f) table i))
    (row-alter fold (option_map f) table q i))
    ∙ by q (same_fold q fold)
    ∙ sym (row-alter fold (option_map (λ it. g (f it))) table q))
  where
    once : Table Channel
    once = alter fold (option_map f) table

    mapped : (o : Option Channel)
        → option_map g (option_map f o) ≡ option_map (λ it. g (f it)) o
    mapped None = refl
    mapped (Some channel) = refl

    by : (q : List ℕ) (b : Bool)
        → cond b (option_map g (option_map f (row table fold)))
        (cond b (option_map f (row table fold)) (row table q))
        ≡ cond b (option_map (λ it. g (f it)) (row table fold)) (row table q)
    by q true = mapped (row table fold)
    by q false = refl

module _ (names : List Nick) (all : HasAllNicks names) (by : By) (channel : List ℕ) where
  abbrev behind : Room → List ModeChange → Room
  behind room changes = record room {
    channels = alter (key channel) (option_map (all_changed changes)) room.channels;
  }

  module _ (room : Room) (well : IsWellFormed room) (within : IsWithinLimits room)
      (now : Channel) (at : row room.channels (key channel) ≡ Some now) (change : ModeChange)
      (possible : IsPossible room (ChangeModes by channel (change ∷ [])))
      (keeps : IsBanCarried change.letter change.word) where
    abbrev effect : Effect
    effect = ChangeModes by channel (change ∷ [])

    well_then : IsWellFormed (behind room (change ∷ []))
    unfolding after
    well_then = after_is_well_formed room effect well possible

    within_then : IsWithinLimits (behind room (change ∷ []))
    unfolding after
    within_then = after_is_within_limits room effect within (keeps, tt)

    one_leads : Lead names (document room)
        (update (letter_edit (key channel) change.plus change.letter change.word
        (changed change now)) ∷ []) (document (behind room (change ∷ [])))
    one_leads =
        update_leads names (document room) (document (behind room (change ∷ []))) what
        (document_sound names all (behind room (change ∷ [])) well_then within_then)
        (letter_fits names (document room) (document_sound names all room well within)
        (key channel) change.plus change.letter change.word (changed change now))
        (one_channel_rows names room (key channel) (option_map (changed change)) what (record {
          users = letter_users (key channel) change.plus change.letter change.word
              (changed change now);
          elsewhere = λ name q differ. letter_members_elsewhere (key channel) change.plus
              change.letter change.word (changed change now) name q differ;
          set_elsewhere = λ name differ. letter_set_elsewhere (key channel) change.plus
              change.letter change.word (changed change now) name differ;
          members = λ q.
              ap (λ it. after_fate (what.member (key channel) q) (option_and_then (member_in q) it))
              at
              ∙ letter_members (key channel) change.plus change.letter change.word now q
              ∙ sym (ap (λ it. option_and_then (member_in q) (option_map (changed change) it)) at);
          channel = λ living.
              ap (λ it. written (what.set (key channel))
              (option_map_or channel_row it blank_row)) at
              ∙ letter_set (key channel) change.plus change.letter change.word now
              (within.channels (key channel) now at).modes.in_order
              ∙ sym (ap (λ it. option_map_or channel_row (option_map (changed change) it)
              blank_row) at);
        }))
      where
        what : Update Place
        what = letter_edit (key channel) change.plus change.letter change.word (changed change now)

  -- the same for any room, with the channel as it is there
  all_lead : (changes : List ModeChange) (room : Room) → IsWellFormed room → IsWithinLimits room
      → (now : Channel) → row room.channels (key channel) ≡ Some now
      → IsPossible room (ChangeModes by channel changes)
      → AllByRecursion (λ (c : ModeChange). IsBanCarried c.letter c.word) changes
      → Lead names (document room) (mode_edits (key channel) changes now)
      (document (behind room changes))
  all_lead [] room well within now at possible keeps = record {
    may = tt;
    same = ap (λ (channels : Table Channel). document (record room { channels = channels }))
        (sym (alter_same (key channel) (option_map (all_changed [])) room.channels
        (ap (option_map (all_changed [])) at ∙ sym at)));
  }
  all_lead (change ∷ changes) room well within now at possible keeps =
      let next = behind room (change ∷ []) in
      let at_next : row next.channels (key channel) ≡ Some (changed change now) =
      row-alter_same (key channel) (option_map (changed change)) room.channels
      ∙ ap (option_map (changed change)) at in
      then_lead names (document room) (document next) (document (behind room (change ∷ changes)))
      (update (letter_edit (key channel) change.plus change.letter change.word
      (changed change now))) (mode_edits (key channel) changes (changed change now))
      (one_leads room well within now at change
      (record {
        users_there = possible.users_there;
        channel_there = possible.channel_there;
        nick_free = refl;
      }) keeps.0)
      (subst (λ (channels : Table Channel). Lead names (document next)
      (mode_edits (key channel) changes (changed change now))
      (document (record room { channels = channels })))
      (changed_twice room.channels (key channel) (changed change) (all_changed changes))
      (all_lead changes next
      (well_then room well within now at change
      (record {
        users_there = possible.users_there;
        channel_there = possible.channel_there;
        nick_free = refl;
      }) keeps.0)
      (within_then room well within now at change
      (record {
        users_there = possible.users_there;
        channel_there = possible.channel_there;
        nick_free = refl;
      }) keeps.0) (changed change now) at_next
      (record {
        users_there = possible.users_there;
        channel_there = ap is_some at_next;
        nick_free = refl;
      }) keeps.1))

  modes_by : (changes : List ModeChange) (room : Room) → IsWellFormed room → IsWithinLimits room
      → (there : Option Channel) → row room.channels (key channel) ≡ there
      → IsPossible room (ChangeModes by channel changes)
      → AllByRecursion (λ (c : ModeChange). IsBanCarried c.letter c.word) changes
      → Lead names (document room) (option_map_or (mode_edits (key channel) changes) there [])
      (document (behind room changes))
  modes_by changes room well within None at possible keeps =
      absurd (false≢true (sym (ap is_some at) ∙ possible.channel_there))
  modes_by changes room well within (Some now) at possible keeps =
      all_lead changes room well within now at possible keeps

  pub modes_lead : (changes : List ModeChange) (room : Room) → IsWellFormed room
      → IsWithinLimits room → IsPossible room (ChangeModes by channel changes)
      → KeepsLimits (ChangeModes by channel changes)
      → Lead names (document room) (edits_of room (ChangeModes by channel changes))
      (document (after room (ChangeModes by channel changes)))
  unfolding after
  modes_lead changes room well within possible keeps =
      modes_by changes room well within (row room.channels (key channel)) refl possible keeps
