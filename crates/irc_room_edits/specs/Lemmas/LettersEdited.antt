-- What one change of a mode does to the row of a channel and to its members, as an edit.
use Rattle.std.proofs.Common.{◌≡◌, ℕ, Bool, true, false, cond, not, ◌&&◌, Option, Some, None, List}
use Rattle.std.proofs.Common.{find, refl, sym, ap, ◌∙◌, option_map, unwrap_or}
use Rattle.irc_names.specs.Fold.{key, same}
use Rattle.irc_names.specs.FoldLaws.{same-equivalence}
use Rattle.irc_names.specs.Names.{is_ban_mask}
use Rattle.irc_names.specs.Tables.{row}
use Rattle.irc_names.specs.TableLaws.{same_fold, same_fold-refl, one_fold, row-alter}
use Rattle.irc_modes.specs.declared.modes.ModeLetter.{ModeLetter}
use Rattle.irc_modes.specs.declared.modes.ModeLetter.TheVariants as letter
use Rattle.irc_modes.specs.Bans.{rises, IsBanList}
use Rattle.irc_modes.specs.Modes.{ban_changed, bans_by_word, mode_changed}
use Rattle.irc_modes.specs.Lemmas.BanPlaces.{rises-filter, with_rises}
use Rattle.irc_modes.specs.Lemmas.FoundBans.{find-with_ban, find-without_ban}
use Rattle.irc_channels.specs.Channels.{letter_changed, member_changed, modes_changed}
use Rattle.irc_channels.specs.declared.channel.Channel.{Channel}
use Rattle.irc_channels.specs.declared.flags.Flags.{Flags}
use Rattle.irc_edited_rooms.specs.Writes.{Row, Writes, no_writes, written}
use Rattle.irc_edited_rooms.specs.Fates.{stays, after_fate, untouched}
use Rattle.irc_edited_rooms.specs.Documents.{Nick, ChannelName, Update}
use Rattle.irc_room_edits.specs.Places.{ChannelPlace, MemberPlace, Place, of_user, of_member}
use Rattle.irc_room_edits.specs.Places.{of_channel, spelling, topic, invite_only, moderated}
use Rattle.irc_room_edits.specs.Places.{no_outside, topic_locked, privacy, channel_key, limit, ban}
use Rattle.irc_room_edits.specs.Places.{operator, voice, channel_row, flag_value}
use Rattle.irc_room_edits.specs.Places.{member_row, member_write, set_at, text_value}
use Rattle.irc_room_edits.specs.Documents.{member_in}
use Rattle.irc_room_edits.specs.Edits.{ban_place, fate_if, letter_edit, of_one_channel}
use Rattle.irc_room_edits.specs.Edits.{of_one_member, place_of, write_at, writes_if}

-- ---- what kind of change it is

-- a flag of one member is changed, and this is what stands in its row behind it
record IsFlag (plus : Bool) (which : ModeLetter) (text : Option (List ℕ)) (word : List ℕ)
    (place : MemberPlace) (change : Flags → Flags) : Type 0 where
  edits : (name : ChannelName) (c : Channel) → letter_edit name plus which text c
      ≡ of_one_member name (key word) (stays (member_write place (flag_value plus))) no_writes
  changes : (c : Channel) → letter_changed plus which text c ≡ member_changed word change c
  writes : (flags : Flags) → written (member_write place (flag_value plus)) (member_row flags)
      ≡ member_row (change flags)

-- a mode of the channel is changed
record IsMode (plus : Bool) (which : ModeLetter) (text : Option (List ℕ)) : Type 0 where
  edits : (name : ChannelName) (c : Channel) → letter_edit name plus which text c
      ≡ of_one_channel name (write_at (place_of which text) c)
  changes : (c : Channel)
      → letter_changed plus which text c ≡ modes_changed (mode_changed plus which text) c

data Kind (plus : Bool) (which : ModeLetter) (text : Option (List ℕ)) : Type 0 where
  of_flag : (word : List ℕ) (place : MemberPlace) (change : Flags → Flags)
      → IsFlag plus which text word place change → Kind plus which text
  of_mode : IsMode plus which text → Kind plus which text

operator_written : (plus : Bool) (flags : Flags) (place : Place)
    → written (member_write operator (flag_value plus)) (member_row flags) place
    ≡ member_row (record flags { op = plus }) place
operator_written plus flags (of_user place) = refl
operator_written plus flags (of_channel place) = refl
operator_written plus flags (of_member operator) = refl
operator_written plus flags (of_member voice) = refl

voice_written : (plus : Bool) (flags : Flags) (place : Place)
    → written (member_write voice (flag_value plus)) (member_row flags) place
    ≡ member_row (record flags { voice = plus }) place
voice_written plus flags (of_user place) = refl
voice_written plus flags (of_channel place) = refl
voice_written plus flags (of_member operator) = refl
voice_written plus flags (of_member voice) = refl

kind : (plus : Bool) (which : ModeLetter) (text : Option (List ℕ)) → Kind plus which text
kind plus letter.Operator (Some word) = of_flag word operator (λ f. record f { op = plus })
    (record {
      edits = λ name c. refl;
      changes = λ c. refl;
      writes = λ flags i place. operator_written plus flags place i;
    })
kind plus letter.Voice (Some word) = of_flag word voice (λ f. record f { voice = plus })
    (record {
      edits = λ name c. refl;
      changes = λ c. refl;
      writes = λ flags i place. voice_written plus flags place i;
    })
kind plus letter.Operator None = of_mode (record { edits = λ name c. refl; changes = λ c. refl })
kind plus letter.Voice None = of_mode (record { edits = λ name c. refl; changes = λ c. refl })
kind plus letter.InviteOnly text =
    of_mode (record { edits = λ name c. refl; changes = λ c. refl })
kind plus letter.Moderated text =
    of_mode (record { edits = λ name c. refl; changes = λ c. refl })
kind plus letter.NoOutside text =
    of_mode (record { edits = λ name c. refl; changes = λ c. refl })
kind plus letter.TopicLocked text =
    of_mode (record { edits = λ name c. refl; changes = λ c. refl })
kind plus letter.Private text = of_mode (record { edits = λ name c. refl; changes = λ c. refl })
kind plus letter.Secret text = of_mode (record { edits = λ name c. refl; changes = λ c. refl })
kind plus letter.Key text = of_mode (record { edits = λ name c. refl; changes = λ c. refl })
kind plus letter.Limit text = of_mode (record { edits = λ name c. refl; changes = λ c. refl })
kind plus letter.Ban text = of_mode (record { edits = λ name c. refl; changes = λ c. refl })

-- ---- place by place

-- what holds at each place holds at all
by_place : (P : ChannelPlace → Type 0) → P spelling → P topic → P invite_only → P moderated
    → P no_outside → P topic_locked → P privacy → P channel_key → P limit
    → ((mask : List ℕ) → P (ban mask)) → (place : ChannelPlace) → P place
by_place P there _ _ _ _ _ _ _ _ _ spelling = there
by_place P _ there _ _ _ _ _ _ _ _ topic = there
by_place P _ _ there _ _ _ _ _ _ _ invite_only = there
by_place P _ _ _ there _ _ _ _ _ _ moderated = there
by_place P _ _ _ _ there _ _ _ _ _ no_outside = there
by_place P _ _ _ _ _ there _ _ _ _ topic_locked = there
by_place P _ _ _ _ _ _ there _ _ _ privacy = there
by_place P _ _ _ _ _ _ _ there _ _ channel_key = there
by_place P _ _ _ _ _ _ _ _ there _ limit = there
by_place P _ _ _ _ _ _ _ _ _ there (ban mask) = there mask

-- what stands at one place behind a write is what is there afterwards
abbrev IsWritten : Option ChannelPlace → (before after : Channel) → ChannelPlace → Type 0
IsWritten at before after place =
    unwrap_or (write_at at after (of_channel place)) (set_at before place) ≡ set_at after place

row_written : (at : Option ChannelPlace) (before after : Channel)
    → ((place : ChannelPlace) → IsWritten at before after place)
    → written (write_at at after) (channel_row before) ≡ channel_row after
row_written at before after so i place = by at so place i
  where
    by : (o : Option ChannelPlace) → ((place : ChannelPlace) → IsWritten o before after place)
        → (place : Place) → written (write_at o after) (channel_row before) place
        ≡ channel_row after place
    by None so (of_user place) = refl
    by None so (of_member place) = refl
    by None so (of_channel place) = so place
    by (Some at) so (of_user place) = refl
    by (Some at) so (of_member place) = refl
    by (Some at) so (of_channel place) = so place

-- ---- bans

-- masks that are the same find the same
found_alike : (w m : List ℕ) (bans : List (List ℕ)) → same w m ≡ true
    → find (same w) bans ≡ find (same m) bans
found_alike w m bans alike = ap (λ (test : List ℕ → Bool). find test bans)
    (λ i ban. same-equivalence.congr w m ban alike i)

-- a mask finds what it did where one that is not the same is set or taken out
found_still : (plus : Bool) (w m : List ℕ) (bans : List (List ℕ)) → rises bans ≡ true
    → same w m ≡ false → find (same m) bans ≡ find (same m) (ban_changed plus w bans)
found_still true w m bans rising other = sym (find-with_ban m w bans rising
    ∙ ap (λ b. cond b (Some w) (find (same m) bans)) other)
found_still false w m bans rising other = sym (find-without_ban m w bans
    ∙ ap (λ b. cond b None (find (same m) bans)) other)

ban_written : (plus : Bool) (w m : List ℕ) (bans : List (List ℕ)) → rises bans ≡ true
    → unwrap_or (cond (same w m) (Some (text_value (find (same w) (ban_changed plus w bans)))) None)
    (text_value (find (same m) bans)) ≡ text_value (find (same m) (ban_changed plus w bans))
ban_written plus w m bans rising = by (same w m) refl
  where
    by : (test : Bool) → same w m ≡ test → unwrap_or
        (cond test (Some (text_value (find (same w) (ban_changed plus w bans)))) None)
        (text_value (find (same m) bans)) ≡ text_value (find (same m) (ban_changed plus w bans))
    by true alike = ap text_value (found_alike w m (ban_changed plus w bans) alike)
    by false other = ap text_value (found_still plus w m bans rising other)

-- the channel with other bans
abbrev with_bans : List (List ℕ) → Channel → Channel
with_bans bans = modes_changed (λ m. record m { bans = bans })

bans_written : (plus is_mask : Bool) (w : List ℕ) (c : Channel) → rises c.modes.bans ≡ true
    → (place : ChannelPlace) → IsWritten (ban_place (cond is_mask (Some w) None)) c
    (with_bans (cond is_mask (ban_changed plus w c.modes.bans) c.modes.bans) c) place
bans_written plus false w c rising =
    by_place _ refl refl refl refl refl refl refl refl refl (λ m. refl)
bans_written plus true w c rising = by_place _ refl refl refl refl refl refl refl refl refl
    (λ m. ban_written plus w m c.modes.bans rising)

-- ---- modes of the channel

mode_written : (plus : Bool) (which : ModeLetter) (text : Option (List ℕ)) (c : Channel)
    → rises c.modes.bans ≡ true → (place : ChannelPlace) → IsWritten (place_of which text) c
    (modes_changed (mode_changed plus which text) c) place
mode_written plus letter.InviteOnly text c rising =
    by_place _ refl refl refl refl refl refl refl refl refl (λ mask. refl)
mode_written plus letter.Moderated text c rising =
    by_place _ refl refl refl refl refl refl refl refl refl (λ mask. refl)
mode_written plus letter.NoOutside text c rising =
    by_place _ refl refl refl refl refl refl refl refl refl (λ mask. refl)
mode_written plus letter.TopicLocked text c rising =
    by_place _ refl refl refl refl refl refl refl refl refl (λ mask. refl)
mode_written plus letter.Private text c rising =
    by_place _ refl refl refl refl refl refl refl refl refl (λ mask. refl)
mode_written plus letter.Secret text c rising =
    by_place _ refl refl refl refl refl refl refl refl refl (λ mask. refl)
mode_written plus letter.Key text c rising =
    by_place _ refl refl refl refl refl refl refl refl refl (λ mask. refl)
mode_written plus letter.Limit text c rising =
    by_place _ refl refl refl refl refl refl refl refl refl (λ mask. refl)
mode_written plus letter.Ban None c rising =
    by_place _ refl refl refl refl refl refl refl refl refl (λ mask. refl)
mode_written plus letter.Ban (Some word) c rising =
    bans_written plus (is_ban_mask word) word c rising
mode_written plus letter.Operator text c rising =
    by_place _ refl refl refl refl refl refl refl refl refl (λ mask. refl)
mode_written plus letter.Voice text c rising =
    by_place _ refl refl refl refl refl refl refl refl refl (λ mask. refl)

-- ---- members

-- nothing is written in the row of the channel where a flag of a member is changed
row_stays : (word : List ℕ) (change : Flags → Flags) (c : Channel)
    → channel_row c ≡ channel_row (member_changed word change c)
row_stays word change c i place = by place i
  where
    by_set : (place : ChannelPlace) → set_at c place ≡ set_at (member_changed word change c) place
    by_set = by_place _ refl refl refl refl refl refl refl refl refl (λ mask. refl)

    by : (place : Place) → channel_row c place ≡ channel_row (member_changed word change c) place
    by (of_user place) = refl
    by (of_member place) = refl
    by (of_channel place) = by_set place

stays_so : (member : Option (Row Place)) → after_fate untouched member ≡ member
stays_so None = refl
stays_so (Some flags) = refl

flag_written : (writes : Writes Place) (change : Flags → Flags) (flags : Option Flags)
    → ((f : Flags) → written writes (member_row f) ≡ member_row (change f))
    → after_fate (stays writes) (option_map member_row flags)
    ≡ option_map member_row (option_map change flags)
flag_written writes change None so = refl
flag_written writes change (Some flags) so = ap Some (so flags)

member_written : (word : List ℕ) (writes : Writes Place) (change : Flags → Flags) (c : Channel)
    (nick : Nick) → ((f : Flags) → written writes (member_row f) ≡ member_row (change f))
    → after_fate (fate_if (same_fold nick (key word)) (stays writes)) (member_in nick c)
    ≡ member_in nick (member_changed word change c)
member_written word writes change c nick so =
    by (same_fold nick (key word)) refl
    ∙ sym (ap (option_map member_row) (row-alter (key word) (option_map change) c.members nick))
  where
    by : (test : Bool) → same_fold nick (key word) ≡ test
        → after_fate (fate_if test (stays writes)) (member_in nick c) ≡ option_map member_row
        (cond test (option_map change (row c.members (key word))) (row c.members nick))
    by true is = flag_written writes change (row c.members nick) so
        ∙ ap (λ fold. option_map member_row (option_map change (row c.members fold)))
        (one_fold nick (key word) is)
    by false other = stays_so (member_in nick c)

-- ---- what one change edits, and what it does not

-- the row of the channel behind it
pub letter_set : (name : ChannelName) (plus : Bool) (which : ModeLetter) (text : Option (List ℕ))
    (c : Channel) → IsBanList c.modes.bans
    → written ((letter_edit name plus which text (letter_changed plus which text c)).set name)
    (channel_row c) ≡ channel_row (letter_changed plus which text c)
letter_set name plus which text c rising = by (kind plus which text)
  where
    after : Channel
    after = letter_changed plus which text c

    by : Kind plus which text → written ((letter_edit name plus which text after).set name)
        (channel_row c) ≡ channel_row after
    by (of_flag word place change is) =
        ap (λ (what : Update Place). written (what.set name) (channel_row c)) (is.edits name after)
        ∙ ap (λ b. written (writes_if b no_writes) (channel_row c)) (same_fold-refl name)
        ∙ row_stays word change c
        ∙ sym (ap channel_row (is.changes c))
    by (of_mode is) =
        ap (λ (what : Update Place). written (what.set name) (channel_row c)) (is.edits name after)
        ∙ ap (λ b. written (writes_if b (write_at (place_of which text) after)) (channel_row c))
        (same_fold-refl name)
        ∙ ap (λ now. written (write_at (place_of which text) now) (channel_row c)) (is.changes c)
        ∙ row_written (place_of which text) c (modes_changed (mode_changed plus which text) c)
        (mode_written plus which text c rising)
        ∙ sym (ap channel_row (is.changes c))

-- each member behind it
pub letter_members : (name : ChannelName) (plus : Bool) (which : ModeLetter)
    (text : Option (List ℕ)) (c : Channel) (nick : Nick) → after_fate
    ((letter_edit name plus which text (letter_changed plus which text c)).member name nick)
    (member_in nick c) ≡ member_in nick (letter_changed plus which text c)
letter_members name plus which text c nick = by (kind plus which text)
  where
    after : Channel
    after = letter_changed plus which text c

    by : Kind plus which text
        → after_fate ((letter_edit name plus which text after).member name nick) (member_in nick c)
        ≡ member_in nick after
    by (of_flag word place change is) =
        ap (λ (what : Update Place). after_fate (what.member name nick) (member_in nick c))
        (is.edits name after)
        ∙ ap (λ b. after_fate (fate_if (b && same_fold nick (key word))
        (stays (member_write place (flag_value plus)))) (member_in nick c)) (same_fold-refl name)
        ∙ member_written word (member_write place (flag_value plus)) change c nick is.writes
        ∙ sym (ap (member_in nick) (is.changes c))
    by (of_mode is) =
        ap (λ (what : Update Place). after_fate (what.member name nick) (member_in nick c))
        (is.edits name after)
        ∙ stays_so (member_in nick c)
        ∙ sym (ap (member_in nick) (is.changes c))

-- nothing is written in another channel
pub letter_set_elsewhere : (name : ChannelName) (plus : Bool) (which : ModeLetter)
    (text : Option (List ℕ)) (c : Channel) (other : ChannelName) → same_fold other name ≡ false
    → (letter_edit name plus which text c).set other ≡ no_writes
letter_set_elsewhere name plus which text c other apart = by (kind plus which text)
  where
    by : Kind plus which text → (letter_edit name plus which text c).set other ≡ no_writes
    by (of_flag word place change is) =
        ap (λ (what : Update Place). what.set other) (is.edits name c)
        ∙ ap (λ b. writes_if b no_writes) apart
    by (of_mode is) =
        ap (λ (what : Update Place). what.set other) (is.edits name c)
        ∙ ap (λ b. writes_if b (write_at (place_of which text) c)) apart

-- no member of another channel is touched
pub letter_members_elsewhere : (name : ChannelName) (plus : Bool) (which : ModeLetter)
    (text : Option (List ℕ)) (c : Channel) (other : ChannelName) (nick : Nick)
    → same_fold other name ≡ false
    → (letter_edit name plus which text c).member other nick ≡ untouched
letter_members_elsewhere name plus which text c other nick apart = by (kind plus which text)
  where
    by : Kind plus which text
        → (letter_edit name plus which text c).member other nick ≡ untouched
    by (of_flag word place change is) =
        ap (λ (what : Update Place). what.member other nick) (is.edits name c)
        ∙ ap (λ b. fate_if (b && same_fold nick (key word))
        (stays (member_write place (flag_value plus)))) apart
    by (of_mode is) = ap (λ (what : Update Place). what.member other nick) (is.edits name c)

-- no user is touched
pub letter_users : (name : ChannelName) (plus : Bool) (which : ModeLetter)
    (text : Option (List ℕ)) (c : Channel) (nick : Nick)
    → (letter_edit name plus which text c).user nick ≡ untouched
letter_users name plus which text c nick = by (kind plus which text)
  where
    by : Kind plus which text → (letter_edit name plus which text c).user nick ≡ untouched
    by (of_flag word place change is) =
        ap (λ (what : Update Place). what.user nick) (is.edits name c)
    by (of_mode is) = ap (λ (what : Update Place). what.user nick) (is.edits name c)

-- ---- bans stay in order

ban_rises : (plus : Bool) (w : List ℕ) (bans : List (List ℕ)) → IsBanList bans
    → IsBanList (ban_changed plus w bans)
ban_rises true w bans rising = with_rises w bans rising
ban_rises false w bans rising = rises-filter (λ ban. not (same w ban)) bans rising

bans_rise : (plus : Bool) (text : Option (List ℕ)) (bans : List (List ℕ)) → IsBanList bans
    → IsBanList (bans_by_word plus text bans)
bans_rise plus None bans rising = rising
bans_rise plus (Some word) bans rising = by (is_ban_mask word)
  where
    by : (test : Bool) → IsBanList (cond test (ban_changed plus word bans) bans)
    by true = ban_rises plus word bans rising
    by false = rising

mode_rises : (plus : Bool) (which : ModeLetter) (text : Option (List ℕ)) (c : Channel)
    → IsBanList c.modes.bans
    → IsBanList (modes_changed (mode_changed plus which text) c).modes.bans
mode_rises plus letter.InviteOnly text c rising = rising
mode_rises plus letter.Moderated text c rising = rising
mode_rises plus letter.NoOutside text c rising = rising
mode_rises plus letter.TopicLocked text c rising = rising
mode_rises plus letter.Private text c rising = rising
mode_rises plus letter.Secret text c rising = rising
mode_rises plus letter.Key text c rising = rising
mode_rises plus letter.Limit text c rising = rising
mode_rises plus letter.Ban text c rising = bans_rise plus text c.modes.bans rising
mode_rises plus letter.Operator text c rising = rising
mode_rises plus letter.Voice text c rising = rising

pub letter_rises : (plus : Bool) (which : ModeLetter) (text : Option (List ℕ)) (c : Channel)
    → IsBanList c.modes.bans → IsBanList (letter_changed plus which text c).modes.bans
letter_rises plus which text c rising = by (kind plus which text)
  where
    by : Kind plus which text → IsBanList (letter_changed plus which text c).modes.bans
    by (of_flag word place change is) =
        ap (λ (now : Channel). rises now.modes.bans) (is.changes c) ∙ rising
    by (of_mode is) = ap (λ (now : Channel). rises now.modes.bans) (is.changes c)
        ∙ mode_rises plus which text c rising
