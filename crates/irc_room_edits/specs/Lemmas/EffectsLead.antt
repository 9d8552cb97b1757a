-- Each effect is the edits that it is said to be.
use Rattle.std.proofs.Common.{◌≡◌, ℕ, Bool, true, false, cond, not, ◌&&◌, ◌||◌, Option, Some, None}
use Rattle.std.proofs.Common.{List, [], ◌∷◌, refl, sym, ap, subst, ◌∙◌, is_some, true≢false}
use Rattle.std.proofs.Common.{option_map, option_and_then, unwrap_or}
use Rattle.std.proofs.Math.Bool.{false≢true}
use Rattle.std.proofs.lemmas.Bool.{and_parts}
use Rattle.std.specs.Option.{option_map_or}
use Rattle.irc_names.specs.Fold.{key, same}
use Rattle.irc_names.specs.FoldLaws.{same-ties}
use Rattle.irc_names.specs.Tables.{Table, alter, each, row}
use Rattle.irc_names.specs.TableLaws.{same_fold, same_fold-refl, one_fold, row-alter, row-each}
use Rattle.irc_names.specs.TableLaws.{row-moved, row-moved_none}
use Rattle.irc_users.specs.declared.user.User.{User}
use Rattle.irc_users.specs.declared.user_change.UserChange.{UserChange}
use Rattle.irc_users.specs.UserTable.{with_change, with_nick}
use Rattle.irc_channels.specs.Channels.{invited_too, joined, left, new_channel, renamed}
use Rattle.irc_channels.specs.Channels.{with_topic, without_user}
use Rattle.irc_channels.specs.declared.channel.Channel.{Channel}
use Rattle.irc_channels.specs.declared.flags.Flags.{Flags}
use Rattle.irc_effects.specs.declared.effect.By.{By}
use Rattle.irc_effects.specs.declared.effect.Effect.{Effect}
use Rattle.irc_effects.specs.declared.effect.Effect.TheVariants.{AddUser, Rename, Quit, Join, Part}
use Rattle.irc_effects.specs.declared.effect.Effect.TheVariants.{Kick, SetTopic}
use Rattle.irc_effects.specs.declared.effect.Effect.TheVariants.{Invite, ChangeUser}
use Rattle.irc_effects.specs.After.{after}
use Rattle.irc_effects.specs.Effects.{IsPossible, has_channel, has_user, is_member}
use Rattle.irc_effects.specs.Lemmas.IdleLaw.{idle_changes_nothing}
use Rattle.irc_effects.specs.Lemmas.LimitsKept.{after_is_within_limits}
use Rattle.irc_effects.specs.Lemmas.WellFormedLaw.{after_is_well_formed}
use Rattle.irc_effects.specs.Limits.{IsWithinLimits, KeepsLimits}
use Rattle.irc_effects.specs.Room.{Room, IsWellFormed}
use Rattle.irc_edited_rooms.specs.Writes.{Writes, all_of, blank_row, no_writes, written}
use Rattle.irc_edited_rooms.specs.Fates.{Fate, stays, goes, comes, untouched, after_fate}
use Rattle.irc_edited_rooms.specs.Documents.{ChannelName, Document, IsSound, Nick, Update}
use Rattle.irc_edited_rooms.specs.Documents.{lives, pick}
use Rattle.irc_edited_rooms.specs.Documents.{row_while, swapped, written_at}
use Rattle.irc_edited_rooms.specs.Lemmas.FatesMeet.{untouched_stays}
use Rattle.irc_edited_rooms.specs.Lemmas.Living.{blank_while}
use Rattle.irc_room_edits.specs.Documents.{document, member_in}
use Rattle.irc_room_edits.specs.Edits.{change_write, edits_of, fate_if, joining_if, making}
use Rattle.irc_room_edits.specs.Edits.{of_one_channel, of_one_gone, of_one_member, of_one_user}
use Rattle.irc_room_edits.specs.Edits.{renaming, writes_if}
use Rattle.irc_room_edits.specs.Laws.{HasAllNicks, Lead}
use Rattle.irc_room_edits.specs.Lemmas.ChannelsEdited.{joined_member, joined_row, left_member}
use Rattle.irc_room_edits.specs.Lemmas.ChannelsEdited.{left_row, renamed_member, row_of_parts}
use Rattle.irc_room_edits.specs.Lemmas.ChannelsEdited.{topic_member, topic_row, without_member}
use Rattle.irc_room_edits.specs.Lemmas.ChannelsEdited.{without_row}
use Rattle.irc_room_edits.specs.Lemmas.Fitting.{channel_fits, comer_fits, goer_fits, joiner_fits}
use Rattle.irc_room_edits.specs.Lemmas.Fitting.{member_fits, user_fits}
use Rattle.irc_room_edits.specs.Lemmas.SoundDocuments.{AreRows, document_sound, update_leads}
use Rattle.irc_room_edits.specs.Lemmas.UsersEdited.{change_at, come_at, gone_at, nick_written}
use Rattle.irc_room_edits.specs.Lemmas.UsersEdited.{respell_at}
use Rattle.irc_room_edits.specs.Places.{Place, channel_row, channel_write, member_row, nickname}
use Rattle.irc_room_edits.specs.Places.{topic, user_row, user_write}

-- ---- small facts

here_fate : (fold : List ℕ) (b : Bool) (fate : Fate Place)
    → fate_if (same_fold fold fold && b) fate ≡ fate_if b fate
here_fate fold b fate = ap (λ a. fate_if (a && b) fate) (same_fold-refl fold)

here_writes : (fold : List ℕ) (writes : Writes Place)
    → writes_if (same_fold fold fold) writes ≡ writes
here_writes fold writes = ap (λ a. writes_if a writes) (same_fold-refl fold)

there_too : {A B : Type 0} (f : A → B) (row : Option A) → is_some row ≡ true
    → is_some (option_map f row) ≡ true
there_too f None there = there
there_too f (Some a) there = refl

some_of : {A : Type 0} (row : Option A) → is_some row ≡ true → (a : A) × (row ≡ Some a)
some_of None there = absurd (false≢true there)
some_of (Some a) there = (a, refl)

none_of : {A : Type 0} (row : Option A) → not (is_some row) ≡ true → row ≡ None
none_of None free = refl
none_of (Some a) free = absurd (false≢true free)

-- ---- what changes one channel

-- what an update does at one channel, and that it does nothing elsewhere
pub record AtOne (names : List Nick) (room : Room) (fold : List ℕ)
    (change : Option Channel → Option Channel) (what : Update Place) : Type 0 where
  pub users : (nick : Nick) → what.user nick ≡ untouched
  pub elsewhere : (name : ChannelName) (nick : Nick) → same_fold name fold ≡ false
      → what.member name nick ≡ untouched
  pub set_elsewhere : (name : ChannelName) → same_fold name fold ≡ false
      → what.set name ≡ no_writes
  pub members : (nick : Nick) → after_fate (what.member fold nick)
      (option_and_then (member_in nick) (row room.channels fold))
      ≡ option_and_then (member_in nick) (change (row room.channels fold))
  pub channel : lives names (λ nick.
      option_and_then (member_in nick) (change (row room.channels fold))) ≡ true
      → written (what.set fold) (option_map_or channel_row (row room.channels fold) blank_row)
      ≡ option_map_or channel_row (change (row room.channels fold)) blank_row

module _ (names : List Nick) (room : Room) (fold : List ℕ)
    (change : Option Channel → Option Channel) (what : Update Place)
    (at : AtOne names room fold change what) where
  abbrev other : Room
  other = record room { channels = alter fold change room.channels }

  here : (name : ChannelName) → same_fold name fold ≡ true
      → row other.channels name ≡ change (row room.channels fold)
  here name is = row-alter fold change room.channels name
      ∙ ap (λ b. cond b (change (row room.channels fold)) (row room.channels name)) is

  far : (name : ChannelName) → same_fold name fold ≡ false
      → row other.channels name ≡ row room.channels name
  far name is = row-alter fold change room.channels name
      ∙ ap (λ b. cond b (change (row room.channels fold)) (row room.channels name)) is

  member_at : (name : ChannelName) (nick : Nick) (b : Bool) → same_fold name fold ≡ b
      → after_fate (what.member name nick) ((document room).member name nick)
      ≡ (document other).member name nick
  member_at name nick true is =
      ap (λ it. after_fate (what.member it nick) ((document room).member it nick))
      (one_fold name fold is)
      ∙ at.members nick ∙ sym (ap (option_and_then (member_in nick)) (here name is))
  member_at name nick false is =
      ap (λ fate. after_fate fate ((document room).member name nick)) (at.elsewhere name nick is)
      ∙ untouched_stays ((document room).member name nick)
      ∙ sym (ap (option_and_then (member_in nick)) (far name is))

  channel_at : (name : ChannelName) (b : Bool) → same_fold name fold ≡ b
      → lives names ((document other).member name) ≡ true
      → written (what.set name) ((document room).channel name) ≡ (document other).channel name
  channel_at name true is living =
      ap (λ it. written (what.set it) ((document room).channel it)) (one_fold name fold is)
      ∙ at.channel (sym (ap (λ it. lives names (λ nick. option_and_then (member_in nick) it))
      (here name is)) ∙ living)
      ∙ sym (ap (λ it. option_map_or channel_row it blank_row) (here name is))
  channel_at name false is living =
      ap (λ it. written it ((document room).channel name)) (at.set_elsewhere name is)
      ∙ sym (ap (λ it. option_map_or channel_row it blank_row) (far name is))

  pub one_channel_rows : AreRows names (document room) (document other) what
  one_channel_rows = record {
    users = λ nick. ap (λ fate. after_fate fate ((document room).user nick)) (at.users nick)
        ∙ untouched_stays ((document room).user nick);
    members = λ name nick. member_at name nick (same_fold name fold) refl;
    channels = λ name. channel_at name (same_fold name fold) refl;
  }

-- one member of it
pub at_one_member : (names : List Nick) (room : Room) (fold nick : List ℕ)
    (change : Option Channel → Option Channel) (fate : Fate Place) (writes : Writes Place)
    → ((q : Nick) → after_fate (fate_if (same_fold q nick) fate)
    (option_and_then (member_in q) (row room.channels fold))
    ≡ option_and_then (member_in q) (change (row room.channels fold)))
    → (lives names (λ q. option_and_then (member_in q) (change (row room.channels fold))) ≡ true
    → written writes (option_map_or channel_row (row room.channels fold) blank_row)
    ≡ option_map_or channel_row (change (row room.channels fold)) blank_row)
    → AtOne names room fold change (of_one_member fold nick fate writes)
at_one_member names room fold nick change fate writes members channel = record {
  users = λ q. refl;
  elsewhere = λ name q is. ap (λ b. fate_if (b && same_fold q nick) fate) is;
  set_elsewhere = λ name is. ap (λ b. writes_if b writes) is;
  members = λ q. ap (λ it. after_fate it (option_and_then (member_in q) (row room.channels fold)))
      (here_fate fold (same_fold q nick) fate) ∙ members q;
  channel = λ living.
      ap (λ it. written it (option_map_or channel_row (row room.channels fold) blank_row))
      (here_writes fold writes) ∙ channel living;
}

-- what is set in it
pub at_one_set : (names : List Nick) (room : Room) (fold : List ℕ)
    (change : Option Channel → Option Channel) (writes : Writes Place)
    → ((q : Nick) → option_and_then (member_in q) (row room.channels fold)
    ≡ option_and_then (member_in q) (change (row room.channels fold)))
    → written writes (option_map_or channel_row (row room.channels fold) blank_row)
    ≡ option_map_or channel_row (change (row room.channels fold)) blank_row
    → AtOne names room fold change (of_one_channel fold writes)
at_one_set names room fold change writes members channel = record {
  users = λ q. refl;
  elsewhere = λ name q is. refl;
  set_elsewhere = λ name is. ap (λ b. writes_if b writes) is;
  members = λ q. untouched_stays (option_and_then (member_in q) (row room.channels fold))
      ∙ members q;
  channel = λ living.
      ap (λ it. written it (option_map_or channel_row (row room.channels fold) blank_row))
      (here_writes fold writes) ∙ channel;
}

-- ---- each effect

module _ (names : List Nick) (all : HasAllNicks names) (room : Room) (well : IsWellFormed room)
    (within : IsWithinLimits room) where
  abbrev now : IsSound names (document room)
  now = document_sound names all room well within

  then_sound : (effect : Effect) → IsPossible room effect → KeepsLimits effect
      → IsSound names (document (after room effect))
  then_sound effect possible keeps =
      document_sound names all (after room effect)
      (after_is_well_formed room effect well possible)
      (after_is_within_limits room effect within keeps)

  pub part_leads : (nick channel text : List ℕ) → IsPossible room (Part nick channel text)
      → Lead names (document room) (edits_of room (Part nick channel text))
      (document (after room (Part nick channel text)))
  unfolding after
  part_leads nick channel text possible =
      update_leads names (document room) (document (after room (Part nick channel text)))
      (of_one_member (key channel) (key nick) goes no_writes)
      (then_sound (Part nick channel text) possible tt)
      (member_fits names (document room) now (key channel) (key nick) goes no_writes refl)
      (one_channel_rows names room (key channel) (option_and_then (left (key nick)))
      (of_one_member (key channel) (key nick) goes no_writes)
      (at_one_member names room (key channel) (key nick) (option_and_then (left (key nick))) goes
      no_writes (left_member (key nick) (row room.channels (key channel)))
      (left_row names (key nick) (row room.channels (key channel)))))

  pub kick_leads : (by channel nick text : List ℕ) → IsPossible room (Kick by channel nick text)
      → Lead names (document room) (edits_of room (Kick by channel nick text))
      (document (after room (Kick by channel nick text)))
  unfolding after
  kick_leads by channel nick text possible =
      update_leads names (document room) (document (after room (Kick by channel nick text)))
      (of_one_member (key channel) (key nick) goes no_writes)
      (then_sound (Kick by channel nick text) possible tt)
      (member_fits names (document room) now (key channel) (key nick) goes no_writes refl)
      (one_channel_rows names room (key channel) (option_and_then (left (key nick)))
      (of_one_member (key channel) (key nick) goes no_writes)
      (at_one_member names room (key channel) (key nick) (option_and_then (left (key nick))) goes
      no_writes (left_member (key nick) (row room.channels (key channel)))
      (left_row names (key nick) (row room.channels (key channel)))))

  -- who is needed is there
  first_there : (fold : List ℕ) → is_some (row room.users fold) ≡ true
      → is_some ((document room).user fold) ≡ true
  first_there fold there = there_too user_row (row room.users fold) there

  one_needed : (nick : List ℕ) → (has_user room nick && true) ≡ true → has_user room nick ≡ true
  one_needed nick there = (and_parts (has_user room nick) true there).0

  join_by : (nick channel : List ℕ) (op : Bool) → IsPossible room (Join nick channel op)
      → KeepsLimits (Join nick channel op) → (b : Bool) → is_member room nick channel ≡ b
      → Lead names (document room)
      (joining_if b (has_channel room channel) nick channel op)
      (document (after room (Join nick channel op)))
  unfolding after
  join_by nick channel op possible keeps true is = record {
    may = tt;
    same = sym (ap document (idle_changes_nothing room (Join nick channel op) is));
  }
  join_by nick channel op possible keeps false is =
      let fold = key channel in
      let flags : Flags = record { op = op; voice = false } in
      let writes = making (has_channel room channel) channel in
      let change = λ (it : Option Channel).
      Some (joined (key nick) op (unwrap_or it (new_channel channel))) in
      update_leads names (document room) (document (after room (Join nick channel op)))
      (of_one_member fold (key nick) (comes (all_of (member_row flags))) writes)
      (then_sound (Join nick channel op) possible keeps)
      (joiner_fits names (document room) now fold (key nick) (comes (all_of (member_row flags)))
      writes (first_there (key nick) (one_needed nick possible.users_there)))
      (one_channel_rows names room fold change
      (of_one_member fold (key nick) (comes (all_of (member_row flags))) writes)
      (at_one_member names room fold (key nick) change (comes (all_of (member_row flags))) writes
      (λ q. joined_member (key nick) channel op (row room.channels fold) q is)
      (λ living. joined_row (key nick) channel op (row room.channels fold) is)))

  pub join_leads : (nick channel : List ℕ) (op : Bool) → IsPossible room (Join nick channel op)
      → KeepsLimits (Join nick channel op)
      → Lead names (document room) (edits_of room (Join nick channel op))
      (document (after room (Join nick channel op)))
  join_leads nick channel op possible keeps =
      join_by nick channel op possible keeps (is_member room nick channel) refl

  pub topic_leads : (by : By) (channel text : List ℕ) → IsPossible room (SetTopic by channel text)
      → KeepsLimits (SetTopic by channel text)
      → Lead names (document room) (edits_of room (SetTopic by channel text))
      (document (after room (SetTopic by channel text)))
  unfolding after
  topic_leads by channel text possible keeps =
      let fold = key channel in
      let writes = channel_write topic text in
      update_leads names (document room) (document (after room (SetTopic by channel text)))
      (of_one_channel fold writes) (then_sound (SetTopic by channel text) possible keeps)
      (channel_fits names (document room) now fold writes)
      (one_channel_rows names room fold (option_map (with_topic text))
      (of_one_channel fold writes)
      (at_one_set names room fold (option_map (with_topic text)) writes
      (topic_member text (row room.channels fold))
      (topic_row text (row room.channels fold) possible.channel_there)))

  -- ---- what only is said

  invited_member : (nick : List ℕ) (q : Nick) (channel : Option Channel)
      → option_and_then (member_in q) channel
      ≡ option_and_then (member_in q) (option_map (invited_too nick) channel)
  invited_member nick q None = refl
  invited_member nick q (Some channel) = refl

  invited_row : (nick : List ℕ) (channel : Option Channel)
      → option_map_or channel_row channel blank_row
      ≡ option_map_or channel_row (option_map (invited_too nick) channel) blank_row
  invited_row nick None = refl
  invited_row nick (Some channel) =
      row_of_parts channel (invited_too nick channel) refl refl refl

  invite_at : (nick channel : List ℕ) (name : List ℕ) (b : Bool)
      → same_fold name (key channel) ≡ b
      → (here_is : Option Channel → Type 0) → ((it : Option Channel)
      → here_is it → here_is (option_map (invited_too (key nick)) it))
      → here_is (row room.channels name)
      → here_is (row (alter (key channel) (option_map (invited_too (key nick))) room.channels) name)
  invite_at nick channel name true is here_is stays_so so =
      subst here_is (sym (row-alter (key channel) (option_map (invited_too (key nick)))
      room.channels name ∙ ap (λ b. cond b
      (option_map (invited_too (key nick)) (row room.channels (key channel)))
      (row room.channels name)) is))
      (subst here_is (ap (λ it. option_map (invited_too (key nick)) (row room.channels it))
      (one_fold name (key channel) is)) (stays_so (row room.channels name) so))
  invite_at nick channel name false is here_is stays_so so =
      subst here_is (sym (row-alter (key channel) (option_map (invited_too (key nick)))
      room.channels name ∙ ap (λ b. cond b
      (option_map (invited_too (key nick)) (row room.channels (key channel)))
      (row room.channels name)) is)) so

  pub invite_leads : (by nick channel : List ℕ)
      → Lead names (document room) (edits_of room (Invite by nick channel))
      (document (after room (Invite by nick channel)))
  unfolding after
  invite_leads by nick channel = record {
    may = tt;
    same = λ i. record {
      user = (document room).user;
      member = λ name q. invite_at nick channel name (same_fold name (key channel)) refl
          (λ it. (document room).member name q ≡ option_and_then (member_in q) it)
          (λ it so. so ∙ invited_member (key nick) q it) refl i;
      channel = λ name. invite_at nick channel name (same_fold name (key channel)) refl
          (λ it. (document room).channel name ≡ option_map_or channel_row it blank_row)
          (λ it so. so ∙ invited_row (key nick) it) refl i;
    };
  }

  -- ---- users

  rows_of_user : (users : Table User) (what : Update Place)
      → ((nick : Nick) → after_fate (what.user nick) ((document room).user nick)
      ≡ option_map user_row (row users nick))
      → ((name : ChannelName) (nick : Nick) → what.member name nick ≡ untouched)
      → ((name : ChannelName) → what.set name ≡ no_writes)
      → AreRows names (document room) (document (record room { users = users })) what
  rows_of_user users what changed members sets = record {
    users = changed;
    members = λ name nick.
        ap (λ fate. after_fate fate ((document room).member name nick)) (members name nick)
        ∙ untouched_stays ((document room).member name nick);
    channels = λ name living. ap (λ it. written it ((document room).channel name)) (sets name);
  }

  pub add_leads : (user : User) → IsPossible room (AddUser user) → KeepsLimits (AddUser user)
      → Lead names (document room) (edits_of room (AddUser user))
      (document (after room (AddUser user)))
  unfolding after
  add_leads user possible keeps =
      let fold = key user.nick in
      let what = of_one_user fold (comes (all_of (user_row user))) in
      update_leads names (document room) (document (after room (AddUser user))) what
      (then_sound (AddUser user) possible keeps)
      (comer_fits names (document room) now fold (all_of (user_row user))
      (ap (option_map user_row) (none_of (row room.users fold) possible.nick_free))
      (all user.nick keeps.nick))
      (rows_of_user (alter fold (λ _. Some user) room.users) what
      (come_at room.users fold user) (λ name nick. refl) (λ name. refl))

  pub change_leads : (nick : List ℕ) (change : UserChange)
      → IsPossible room (ChangeUser nick change) → KeepsLimits (ChangeUser nick change)
      → Lead names (document room) (edits_of room (ChangeUser nick change))
      (document (after room (ChangeUser nick change)))
  unfolding after
  change_leads nick change possible keeps =
      let what = of_one_user (key nick) (stays (change_write change)) in
      update_leads names (document room) (document (after room (ChangeUser nick change))) what
      (then_sound (ChangeUser nick change) possible keeps)
      (user_fits names (document room) now (key nick) (change_write change))
      (rows_of_user (alter (key nick) (option_map (with_change change)) room.users) what
      (change_at room.users (key nick) change) (λ name q. refl) (λ name. refl))

  pub quit_leads : (nick text : List ℕ) → IsPossible room (Quit nick text)
      → Lead names (document room) (edits_of room (Quit nick text))
      (document (after room (Quit nick text)))
  unfolding after
  quit_leads nick text possible =
      let fold = key nick in
      let behind = each (without_user fold) room.channels in
      let of_row = row-each (without_user fold) room.channels in
      update_leads names (document room) (document (after room (Quit nick text)))
      (of_one_gone fold) (then_sound (Quit nick text) possible tt)
      (goer_fits names (document room) now fold)
      (record {
        users = gone_at room.users fold;
        members = λ name q. without_member fold (row room.channels name) q
            ∙ sym (ap (option_and_then (member_in q)) (of_row name));
        channels = λ name living.
            without_row names fold (row room.channels name)
            (sym (ap (λ it. lives names (λ q. option_and_then (member_in q) it)) (of_row name))
            ∙ living)
            ∙ sym (ap (λ it. option_map_or channel_row it blank_row) (of_row name));
      })

  -- ---- a nickname for another

  -- one that is the same is another spelling
  same_member : (fold q : List ℕ) (channel : Channel)
      → member_in q channel ≡ member_in q (renamed fold fold channel)
  same_member fold q channel = by (row channel.members fold) refl
    where
      stays_so : (flags : Flags) (b : Bool) → same_fold q fold ≡ b
          → row channel.members fold ≡ Some flags
          → row channel.members q ≡ cond b (Some flags) (cond b None (row channel.members q))
      stays_so flags true is at = ap (row channel.members) (one_fold q fold is) ∙ at
      stays_so flags false is at = refl

      by : (flags : Option Flags) → row channel.members fold ≡ flags
          → member_in q channel ≡ member_in q (renamed fold fold channel)
      by None at = sym (ap (option_map member_row)
          (row-moved_none fold fold (λ flags. flags) channel.members at q))
      by (Some flags) at = ap (option_map member_row)
          (stays_so flags (same_fold q fold) refl at
          ∙ sym (row-moved fold fold (λ flags. flags) channel.members flags at q))

  same_members : (old new q : List ℕ) → old ≡ new → (channel : Option Channel)
      → option_and_then (member_in q) channel
      ≡ option_and_then (member_in q)
      (option_and_then (λ it. Some (renamed old new it)) channel)
  same_members old new q one None = refl
  same_members old new q one (Some channel) =
      same_member old q channel ∙ ap (λ it. member_in q (renamed old it channel)) one

  other_members : (old new q : List ℕ) → row room.users new ≡ None → (name : ChannelName)
      (channel : Option Channel) → row room.channels name ≡ channel
      → option_and_then (member_in (swapped old new q)) channel
      ≡ option_and_then (member_in q)
      (option_and_then (λ it. Some (renamed old new it)) channel)
  other_members old new q free name None at = refl
  other_members old new q free name (Some channel) at =
      renamed_member old new channel q (by (row channel.members new) refl)
    where
      by : (flags : Option Flags) → row channel.members new ≡ flags → flags ≡ None
      by None is = refl
      by (Some flags) is = absurd (false≢true (sym (ap is_some free)
          ∙ (well.channels_sound name channel at).members_known new (ap is_some is)))

  renamed_row : (old new : List ℕ) (channel : Option Channel)
      → option_map_or channel_row channel blank_row
      ≡ option_map_or channel_row (option_and_then (λ it. Some (renamed old new it)) channel)
      blank_row
  renamed_row old new None = refl
  renamed_row old new (Some channel) =
      row_of_parts channel (renamed old new channel) refl refl refl

  renamed_user : (old new : List ℕ) (name : List ℕ) (user : User)
      → row room.users old ≡ Some user → row room.users new ≡ None → (q : Nick) (b c : Bool)
      → written_at b (user_write nickname name)
      (option_map user_row (row room.users (pick b c old new q)))
      ≡ option_map user_row (cond b (Some (with_nick name user)) (cond c None (row room.users q)))
  renamed_user old new name user at free q true c =
      ap (λ it. option_map (written (user_write nickname name)) (option_map user_row it)) at
      ∙ ap Some (nick_written name user)
  renamed_user old new name user at free q false true = ap (option_map user_row) free
  renamed_user old new name user at free q false false = refl

  module _ (nick new : List ℕ) (possible : IsPossible room (Rename nick new))
      (keeps : KeepsLimits (Rename nick new)) where
    abbrev other_name : Document Place
    other_name = document (after room (Rename nick new))

    channels_so : (name : ChannelName) → row (each (λ it. Some (renamed (key nick) (key new) it))
        room.channels) name
        ≡ option_and_then (λ it. Some (renamed (key nick) (key new) it)) (row room.channels name)
    channels_so name = row-each (λ it. Some (renamed (key nick) (key new) it)) room.channels name

    user_there : (user : User) × (row room.users (key nick) ≡ Some user)
    user_there = some_of (row room.users (key nick)) (one_needed nick possible.users_there)

    respelled_leads : key nick ≡ key new
        → Lead names (document room) (renaming true nick new ∷ []) other_name
    unfolding after
    respelled_leads one =
        update_leads names (document room) other_name
        (of_one_user (key nick) (stays (user_write nickname new)))
        (then_sound (Rename nick new) possible keeps)
        (user_fits names (document room) now (key nick) (user_write nickname new))
        (record {
          users = respell_at room.users (key nick) (key new) new user_there.0 user_there.1 one;
          members = λ name q. untouched_stays ((document room).member name q)
              ∙ same_members (key nick) (key new) q one (row room.channels name)
              ∙ sym (ap (option_and_then (member_in q)) (channels_so name));
          channels = λ name living. renamed_row (key nick) (key new) (row room.channels name)
              ∙ sym (ap (λ it. option_map_or channel_row it blank_row) (channels_so name));
        })

    free_by : (b : Bool) → same nick new ≡ b → same_fold (key nick) (key new) ≡ false
        → (not (has_user room new) || b) ≡ true → row room.users (key new) ≡ None
    free_by true is differ free =
        absurd (true≢false (sym is ∙ same-ties nick new ∙ differ))
    free_by false is differ free =
        none_of (row room.users (key new)) (only (has_user room new) free)
      where
        only : (a : Bool) → (not a || false) ≡ true → not a ≡ true
        only true so = so
        only false so = refl

    renamed_leads : same_fold (key nick) (key new) ≡ false
        → Lead names (document room) (renaming false nick new ∷ []) other_name
    unfolding after
    renamed_leads other =
        let free = free_by (same nick new) refl other possible.nick_free in
        record {
          may = (
            record {
              sound = now;
              there = first_there (key nick) (one_needed nick possible.users_there);
              free = ap (option_map user_row) free;
              named = all new keeps;
            },
            tt,
          );
          same = λ i. record {
            user = λ q. (renamed_user (key nick) (key new) new user_there.0 user_there.1 free q
                (same_fold q (key new)) (same_fold q (key nick))
                ∙ sym (ap (option_map user_row)
                (row-moved (key nick) (key new) (with_nick new) room.users user_there.0
                user_there.1 q))) i;
            member = λ name q. member_then free name q i;
            channel = λ name. (ap (λ there. row_while there ((document room).channel name))
                (λ j. lives names (λ q. member_then free name q j))
                ∙ ap (row_while (lives names (other_name.member name)))
                (renamed_row (key nick) (key new) (row room.channels name)
                ∙ sym (ap (λ it. option_map_or channel_row it blank_row) (channels_so name)))
                ∙ blank_while (lives names (other_name.member name)) (other_name.channel name)
                ((then_sound (Rename nick new) possible keeps).blank name)) i;
          };
        }
      where
        member_then : row room.users (key new) ≡ None → (name : ChannelName) (q : Nick)
            → (document room).member name (swapped (key nick) (key new) q)
            ≡ other_name.member name q
        member_then free name q =
            other_members (key nick) (key new) q free name (row room.channels name) refl
            ∙ sym (ap (option_and_then (member_in q)) (channels_so name))

    pub renames_by : (b : Bool) → same_fold (key nick) (key new) ≡ b
        → Lead names (document room) (renaming b nick new ∷ []) other_name
    renames_by true is = respelled_leads (one_fold (key nick) (key new) is)
    renames_by false is = renamed_leads is
