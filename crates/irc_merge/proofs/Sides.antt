-- The side of a room whose homes pass a test is well formed, and what is told of it is what it has.
use Rattle.std.proofs.Common.{◌≡◌, ℕ, Bool, true, false, cond, Option, Some, None, List, refl, sym}
use Rattle.std.proofs.Common.{◌∙◌, ap, subst, is_some}
use Rattle.std.specs.Option.{option_and_then, option_map_or}
use Rattle.std.specs.FinMap.{keys, retain_keys}
use Rattle.std.proofs.Math.Bool.{false≢true}
use Rattle.std.proofs.lemmas.Option.{none-some, same_Some}
use Rattle.irc_names.specs.Tables.{Table, row, each}
use Rattle.irc_names.specs.TableLaws.{row-each}
use Rattle.irc_users.specs.declared.user.User.{User}
use Rattle.irc_channels.specs.declared.channel.Channel.{Channel}
use Rattle.irc_modes.specs.Modes.{is_nil}
use Rattle.irc_room.specs.Room.{Room, IsSoundRow}
use Rattle.irc_modes.specs.ModesSet.{AreWithinLimits}
use Rattle.irc_merge.specs.Bursts.{home_passes, user_passes, channel_side, side_of}
use Rattle.irc_merge.specs.Laws.{CanBeTold, SideIsWellFormed, SideReadIsMerge}
use Rattle.irc_merge.specs.Lemmas.TableWords.{row-kept}
use Rattle.irc_merge.proofs.ReadMerge.{burst_read_is_merge}

-- ---- the side of a well-formed room is well formed, and can be told where the room can

side_row : (passes : List ℕ → Bool) (o : Option User) (user : User) → option_and_then
    (user_passes passes) o ≡ Some user → (o ≡ Some user) × (passes user.home ≡ true)
side_row passes None user is = absurd (none-some user is)
side_row passes (Some before) user is = by_test (passes before.home) refl is
  where
    by_test : (b : Bool) → passes before.home ≡ b → cond b (Some before) None ≡ Some user
        → (Some before ≡ Some user) × (passes user.home ≡ true)
    by_test true pass is =
        (is, ap (λ (u : User). passes u.home) (sym (same_Some before user is)) ∙ pass)
    by_test false fails is = absurd (none-some user is)

-- who passes is in the side
side_keeps : (passes : List ℕ → Bool) (users : Table User) (q : List ℕ)
    → home_passes passes users q ≡ true → is_some (row (each (user_passes passes) users) q) ≡ true
side_keeps passes users q pass =
    ap is_some (row-each (user_passes passes) users q) ∙ by_row (row users q) pass
  where
    by_row : (o : Option User) → option_map_or (λ (user : User). passes user.home) o false ≡ true
        → is_some (option_and_then (user_passes passes) o) ≡ true
    by_row None pass = absurd (false≢true pass)
    by_row (Some user) pass = ap (λ b. is_some (cond b (Some user) None)) pass

kept_passes : {X : Type 0} (table : Table X) (p : List ℕ → Bool) (q : List ℕ)
    → is_some (row (retain_keys table p) q) ≡ true → p q ≡ true
kept_passes table p q there = by_test (p q) (sym (ap is_some (row-kept table p q)) ∙ there)
  where
    by_test : (b : Bool) → is_some (cond b (row table q) None) ≡ true → b ≡ true
    by_test true there = refl
    by_test false there = there

-- a channel of the side, and the channel that it comes of
record ComesOfChannel (passes : List ℕ → Bool) (users : Table User) (fold : List ℕ)
    (before channel : Channel) : Type 0 where
  is : record before {
    members = retain_keys before.members (home_passes passes users);
    invited = retain_keys before.invited (home_passes passes users);
  } ≡ channel
  some : is_nil (keys (retain_keys before.members (home_passes passes users))) ≡ false

side_channel : (passes : List ℕ → Bool) (users : Table User) (fold : List ℕ) (o : Option Channel)
    (channel : Channel) → option_and_then (channel_side passes users) o ≡ Some channel
    → (before : Channel) × ((o ≡ Some before) × ComesOfChannel passes users fold before channel)
side_channel passes users fold None channel is = absurd (none-some channel is)
side_channel passes users fold (Some before) channel is = (
  before,
  (
    refl,
    by_test
        (is_nil (keys (retain_keys before.members (home_passes passes users)))) refl is,
  ),
)
  where
    by_test : (b : Bool)
        → is_nil (keys (retain_keys before.members (home_passes passes users))) ≡ b → cond b None
        (Some (record before {
          members = retain_keys before.members (home_passes passes users);
          invited = retain_keys before.invited (home_passes passes users);
        })) ≡ Some channel
        → ComesOfChannel passes users fold before channel
    by_test true none is = absurd (none-some channel is)
    by_test false some is = record { is = same_Some _ channel is; some = some }

side_sound : (passes : List ℕ → Bool) (users : Table User) (fold : List ℕ)
    (before channel : Channel) → IsSoundRow users fold before
    → ComesOfChannel passes users fold before channel
    → IsSoundRow (each (user_passes passes) users) fold channel
side_sound passes users fold before channel sound comes =
    subst (IsSoundRow (each (user_passes passes) users) fold) comes.is (record {
      named = sound.named;
      members_known = λ q there. side_keeps passes users q
          (kept_passes before.members (home_passes passes users) q there);
      invited_known = λ q there. side_keeps passes users q
          (kept_passes before.invited (home_passes passes users) q there);
      some_member = comes.some;
    })

pub side_is_well_formed : SideIsWellFormed
unfolding side_of
side_is_well_formed passes room well = record {
  users_named = λ q user is. well.users_named q user (side_row passes (row room.users q) user
      (sym (row-each (user_passes passes) room.users q) ∙ is)).0;
  channels_sound = λ fold channel is.
      let found = side_channel passes room.users fold (row room.channels fold) channel
      (sym (row-each (channel_side passes room.users) room.channels fold) ∙ is) in
      side_sound passes room.users fold found.0 channel
      (well.channels_sound fold found.0 found.1.0) found.1.1;
}

side_told : (passes : List ℕ → Bool) (room : Room) → CanBeTold room
    → CanBeTold (side_of passes room)
unfolding side_of
side_told passes room told = record {
  modes = λ fold channel is.
      let found = side_channel passes room.users fold (row room.channels fold) channel
      (sym (row-each (channel_side passes room.users) room.channels fold) ∙ is) in
      subst (λ (c : Channel). AreWithinLimits c.modes) (found.1.1).is
      (told.modes fold found.0 found.1.0);
}

pub side_read_is_merge : SideReadIsMerge
side_read_is_merge own server far passes room other well well_other ours told apart =
    burst_read_is_merge own server far room (side_of passes other) well
    (side_is_well_formed passes other well_other) ours (side_told passes other told) apart
