-- A burst that is read is the merge: users first, then channel by channel.
use Rattle.std.proofs.Common.{◌≡◌, ℕ, Bool, true, false, cond, not, ◌&&◌, Option, Some, None, List}
use Rattle.std.proofs.Common.{[], ◌∷◌, ◌++◌, refl, sym, ◌∙◌, ap, subst, map, filter_map, is_some}
use Rattle.std.proofs.lemmas.Bool.{and_parts}
use Rattle.std.specs.List.{flat_map, AllByRecursion}
use Rattle.std.specs.Option.{option_map_or, option_and_then}
use Rattle.std.specs.FinMap.{empty, entries, entries_sorted, values, retain_keys, find, is_sorted}
use Rattle.std.specs.FinMap.{get-empty, get-entries}
use Rattle.std.specs.FinMap.Entries.{below_all}
use Rattle.std.proofs.Math.Bool.{false≢true}
use Rattle.irc_names.specs.Lemmas.PlainFacts.{is_true, same_either_way}
use Rattle.irc_names.specs.Fold.{key}
use Rattle.irc_names.specs.Tables.{Table, fold_cmp, row, both}
use Rattle.irc_names.specs.TableLaws.{same_fold, one_fold, same_table, row-alter, row-each}
use Rattle.irc_users.specs.declared.user.User.{User}
use Rattle.irc_channels.specs.declared.flags.Flags.{Flags}
use Rattle.irc_channels.specs.declared.channel.Channel.{Channel}
use Rattle.irc_modes.specs.ModesSet.{AreWithinLimits}
use Rattle.irc_room.specs.Room.{Room, IsWellFormed, IsSoundRow}
use Rattle.irc_room.specs.After.{alter_channel}
use Rattle.irc_merge.specs.Deeds.{Deed}
use Rattle.irc_merge.specs.Bursts.{burst, people_deeds, channel_deeds, home_passes}
use Rattle.irc_merge.specs.Merge.{clash, room_without, either, joined_channel, merge, uninvited}
use Rattle.irc_merge.specs.Merge.{channel_uninvited}
use Rattle.irc_merge.specs.Laws.{AreApart, CanBeTold, BurstReadIsMerge}
use Rattle.irc_merge.specs.Lemmas.TableWords.{row-kept, absent, first_there, above_first}
use Rattle.irc_merge.specs.Lemmas.TableWords.{entries_all, values_each}
use Rattle.irc_merge.specs.Lemmas.Quitting.{among, peopled, thinned}
use Rattle.irc_merge.specs.Lemmas.Clashing.{clashing, users_without, channels_without, without_well}
use Rattle.irc_merge.specs.Lemmas.Joining.{row-joined}
use Rattle.irc_merge.specs.Lemmas.Reading.{reads, reads-append}
use Rattle.irc_merge.specs.Lemmas.Introducing.{told_user, both_users}
use Rattle.irc_merge.proofs.UsersRead.{users_introduced, channels_introduced}
use Rattle.irc_merge.specs.Lemmas.ChannelRows.{channel_row, deeds_row}
use Rattle.irc_merge.proofs.ChannelTold.{IsNear, IsNearRow, channel_told}
use Rattle.irc_merge.proofs.NothingNew.{without_comes}
use Rattle.irc_merge.specs.Lemmas.UninvitedRooms.{uninvited_row, uninvited_well}

joined_none : (x : Option Channel) → joined_channel x None ≡ x
joined_none None = refl
joined_none (Some channel) = refl

pub nothing_kept : {X : Type 0} (p : List ℕ → Bool)
    → empty {X = X} {R = fold_cmp} ≡ retain_keys empty p
nothing_kept {X} p = same_table empty (retain_keys empty p) (λ q.
    get-empty {X = X} fold_cmp q
    ∙ sym (row-kept (empty {X = X} {R = fold_cmp}) p q
    ∙ ap (λ o. cond (p q) o None) (get-empty {X = X} fold_cmp q) ∙ same_either_way (p q) None))

-- this side's room, the other's, and which homes are behind the link
module _ (far : List ℕ → Bool) (room other : Room) (well : IsWellFormed room)
    (well_other : IsWellFormed other) (apart : AreApart far room other) where
  -- the users of both
  abbrev pub all_users : Table User
  all_users = both either (room_without room other).users (room_without other room).users

  abbrev pub passes : List ℕ → Bool
  passes = home_passes far all_users

  abbrev pub gone : List ℕ → Bool
  gone = among (clash other room)

  pub passes_is : (q : List ℕ) → passes q ≡ option_map_or (λ (user : User). far user.home)
      (told_user (row room.users q) (row other.users q)) false
  passes_is q = ap (λ o. option_map_or (λ (user : User). far user.home) o false)
      (both_users room other well well_other q)

  -- who passes is nobody of this side
  pub none_near : (q : List ℕ) → passes q ≡ true → row (room_without room other).users q ≡ None
  none_near q pass =
      users_without room other well q
      ∙ by_rows (row room.users q) refl (row other.users q) (sym (passes_is q) ∙ pass)
    where
      by_rows : (o : Option User) → row room.users q ≡ o → (p : Option User)
          → option_map_or (λ (user : User). far user.home) (told_user o p) false ≡ true
          → cond (is_some o && is_some p) None o ≡ None
      by_rows None at p pass = refl
      by_rows (Some holder) at None pass = absurd (false≢true (sym (apart.near q holder at) ∙ pass))
      by_rows (Some holder) at (Some user) pass = refl

  -- and of the other side's users those pass who are left
  pub left_passes : (q : List ℕ) → is_some (row other.users q) ≡ true → passes q ≡ not (gone q)
  left_passes q there = passes_is q ∙ by_rows (row room.users q) (row other.users q) refl there
      ∙ ap not (sym (clashing other room well_other q))
    where
      by_rows : (o p : Option User) → row other.users q ≡ p → is_some p ≡ true → option_map_or
          (λ (user : User). far user.home) (told_user o p) false ≡ not (is_some p && is_some o)
      by_rows o None at there = absurd (false≢true there)
      by_rows None (Some user) at there = apart.behind q user at
      by_rows (Some holder) (Some user) at there = refl

  pub left_kept : (channel : Channel)
      → ((q : List ℕ) → is_some (row channel.members q) ≡ true → is_some (row other.users q) ≡ true)
      → retain_keys channel.members passes ≡ retain_keys channel.members (λ q. not (gone q))
  left_kept channel known = same_table (retain_keys channel.members passes)
      (retain_keys channel.members (λ q. not (gone q))) (λ q.
      row-kept channel.members passes q ∙ by_row q (row channel.members q) refl
      ∙ sym (row-kept channel.members (λ q. not (gone q)) q))
    where
      by_row : (q : List ℕ) (o : Option Flags) → row channel.members q ≡ o
          → cond (passes q) o None ≡ cond (not (gone q)) o None
      by_row q None at = same_either_way (passes q) None ∙ sym (same_either_way (not (gone q)) None)
      by_row q (Some flags) at =
          ap (λ b. cond b (Some flags) None) (left_passes q (known q (ap is_some at)))

  unknown : {X : Type 0} (small : Table X) (q : List ℕ)
      → (is_some (row small q) ≡ true → is_some (row (room_without room other).users q) ≡ true)
      → row (room_without room other).users q ≡ None → row small q ≡ None
  unknown {X} small q known none = by_row (row small q) refl
    where
      by_row : (o : Option X) → row small q ≡ o → o ≡ None
      by_row None at = refl
      by_row (Some x) at = absurd (false≢true (sym (ap is_some none) ∙ known (ap is_some at)))

  -- what is left of a channel of this side has modes that can be told
  left_told : CanBeTold room → (fold : List ℕ) (channel : Channel)
      → row (room_without room other).channels fold ≡ Some channel → AreWithinLimits channel.modes
  left_told told fold channel at =
      let before = (without_comes room other well).channels fold channel at in
      subst AreWithinLimits (sym (before.1.1).modes) (told.modes fold before.0 before.1.0)

  pub near_channel : CanBeTold room → (fold : List ℕ) (channel : Channel)
      → row (room_without room other).channels fold ≡ Some channel → IsNear passes channel
  near_channel told fold channel at =
      let sound = (without_well room other well).channels_sound fold channel at in
      record {
        members = λ q pass. unknown channel.members q (sound.members_known q) (none_near q pass);
        invited = λ q pass. unknown channel.invited q (sound.invited_known q) (none_near q pass);
        some_member = sound.some_member;
        rising = (left_told told fold channel at).in_order;
      }

  pub near_row : CanBeTold room → (fold : List ℕ)
      → IsNearRow passes (row (room_without room other).channels fold)
  near_row told fold = by_row (row (room_without room other).channels fold) refl
    where
      by_row : (o : Option Channel) → row (room_without room other).channels fold ≡ o
          → IsNearRow passes o
      by_row None at = tt
      by_row (Some channel) at = near_channel told fold channel at

  -- what the lines about a channel of the other side make of its row here
  pub record IsRead (fold : List ℕ) (channel : Channel) : Type 0 where
    pub named : key channel.name ≡ fold
    pub row_is : channel_row passes other.users channel
        (row (room_without room other).channels fold)
        ≡ joined_channel (row (room_without room other).channels fold) (thinned gone channel)

  pub channel_read : CanBeTold room → (fold : List ℕ) (channel : Channel)
      → IsSoundRow other.users fold channel → channel.invited ≡ empty
      → AreWithinLimits channel.modes → IsRead fold channel
  channel_read ours fold channel sound uninvited told = record {
    named = sound.named;
    row_is =
        channel_told passes other.users channel (row (room_without room other).channels fold)
        (record { modes = told; members = sound.members_known; named = well_other.users_named })
        (near_row ours fold)
        ∙ (λ i. joined_channel (row (room_without room other).channels fold)
        (peopled channel (left_kept channel sound.members_known i)
        ((nothing_kept (λ q. not (gone q)) ∙ ap
        (λ (t : Table (Unit {0})). retain_keys t (λ q. not (gone q))) (sym uninvited)) i)));
  }

  -- the row of a channel that was told, or was not
  abbrev row_after : List ℕ → Option Channel → Option Channel → Option Channel
  row_after q None before = before
  row_after q (Some channel) before =
      joined_channel (row (room_without room other).channels q) (thinned gone channel)

  record AreRead (before : Room) (es : List (List ℕ × Channel)) (new : Room) : Type 0 where
    users : new.users ≡ all_users
    rows : (q : List ℕ)
        → row new.channels q ≡ row_after q (find fold_cmp q es) (row before.channels q)

  abbrev pub told_deeds : List ℕ → List (List ℕ × Channel) → List Deed
  told_deeds server es = flat_map (channel_deeds server other.users) (map (λ e. e.1) es)

  -- one channel

  abbrev pub step_row : Room → Channel → Option Channel → Option Channel
  step_row before channel = channel_row (home_passes far before.users) other.users channel

  abbrev pub stepped : Room → Channel → Room
  stepped before channel = alter_channel channel.name (step_row before channel) before

  pub step_here : (before : Room) (e : List ℕ × Channel) (es : List (List ℕ × Channel))
      → below_all fold_cmp e.0 es ≡ true → key e.1.name ≡ e.0
      → ((q : List ℕ) → is_some (find fold_cmp q (e ∷ es)) ≡ true → row before.channels q ≡ row
      (room_without room other).channels q) → (q : List ℕ) → is_some (find fold_cmp q es) ≡ true
      → row (stepped before e.1).channels q ≡ row (room_without room other).channels q
  step_here before e es below named here q there =
      row-alter (key e.1.name) (step_row before e.1) before.channels q
      ∙ ap (λ b. cond b (step_row before e.1 (row before.channels (key e.1.name)))
      (row before.channels q)) (ap (same_fold q) named ∙ above_first q e es below there)
      ∙ here q (ap (λ b. is_some (cond b (Some e.1) (find fold_cmp q es)))
      (above_first q e es below there) ∙ there)

  step_rows : (before : Room) (e : List ℕ × Channel) (es : List (List ℕ × Channel))
      → below_all fold_cmp e.0 es ≡ true → IsRead e.0 e.1 → before.users ≡ all_users
      → row before.channels e.0 ≡ row (room_without room other).channels e.0 → (q : List ℕ)
      → row_after q (find fold_cmp q es) (row (stepped before e.1).channels q)
      ≡ row_after q (find fold_cmp q (e ∷ es)) (row before.channels q)
  step_rows before e es below read users here q =
      ap (row_after q (find fold_cmp q es))
      (row-alter (key e.1.name) (step_row before e.1) before.channels q
      ∙ ap (λ f. cond (same_fold q f) (step_row before e.1 (row before.channels f))
      (row before.channels q)) read.named)
      ∙ by_fold (same_fold q e.0) refl
    where
      by_fold : (b : Bool) → same_fold q e.0 ≡ b → row_after q (find fold_cmp q es)
          (cond b (step_row before e.1 (row before.channels e.0)) (row before.channels q))
          ≡ row_after q (cond b (Some e.1) (find fold_cmp q es)) (row before.channels q)
      by_fold true one =
          ap (λ o. row_after q o (step_row before e.1 (row before.channels e.0)))
          (ap (λ f. find fold_cmp f es) (one_fold q e.0 one) ∙ absent e.0 es below)
          ∙ ap (λ us. channel_row (home_passes far us) other.users e.1
          (row before.channels e.0)) users
          ∙ ap (channel_row passes other.users e.1) here
          ∙ read.row_is
          ∙ ap (λ f. joined_channel (row (room_without room other).channels f) (thinned gone e.1))
          (sym (one_fold q e.0 one))
      by_fold false two = refl

  channels_read : (own server : List ℕ) (es : List (List ℕ × Channel))
      → is_sorted fold_cmp es ≡ true → AllByRecursion (λ e. IsRead e.0 e.1) es → (before : Room)
      → before.users ≡ all_users → ((q : List ℕ) → is_some (find fold_cmp q es) ≡ true
      → row before.channels q ≡ row (room_without room other).channels q)
      → AreRead before es (reads own far before (told_deeds server es))
  channels_read own server [] rise read before users here =
      record { users = users; rows = λ q. refl }
  channels_read own server (e ∷ es) rise read before users here =
      let parts = and_parts _ _ rise in
      let first : reads own far before (told_deeds server (e ∷ es))
      ≡ reads own far (stepped before e.1) (told_deeds server es) =
      reads-append own far before (channel_deeds server other.users e.1) (told_deeds server es)
      ∙ ap (λ r. reads own far r (told_deeds server es))
      (deeds_row own server far other.users e.1 before) in
      let later = channels_read own server es parts.1 read.1 (stepped before e.1) users
      (step_here before e es parts.0 (read.0).named here) in
      record {
        users = ap (λ (r : Room). r.users) first ∙ later.users;
        rows = λ q.
            ap (λ (r : Room). row r.channels q) first
            ∙ later.rows q
            ∙ step_rows before e es parts.0 read.0 users (here e.0 (first_there e es)) q;
      }

  -- ---- all of them

  pub read_gives : (own server : List ℕ) → ((fold : List ℕ) (channel : Channel)
      → row other.channels fold ≡ Some channel → channel.invited ≡ empty) → CanBeTold room
      → CanBeTold other → reads own far room (burst server other) ≡ merge room other
  unfolding burst merge
  read_gives own server uninvited ours told =
      let met = reads own far room (people_deeds other) in
      let here : met.channels ≡ (room_without room other).channels =
      channels_introduced own far room other well well_other in
      let rise = is_true _ (entries_sorted other.channels) in
      let read = channels_read own server (entries other.channels) rise
      (entries_all IsRead (entries other.channels)
      (λ q channel is.
      let at : row other.channels q ≡ Some channel = get-entries other.channels q ∙ is in
      channel_read ours q channel (well_other.channels_sound q channel at) (uninvited q channel at)
      (told.modes q channel at))
      rise)
      met (users_introduced own far room other well well_other) (λ q there. ap (λ t. row t q) here)
      in
      reads-append own far room (people_deeds other)
      (flat_map (channel_deeds server other.users) (values other.channels))
      ∙ (λ i. record {
        users = read.users i;
        channels =
            same_table (reads own far met (told_deeds server (entries other.channels))).channels
            (both joined_channel (room_without room other).channels
            (room_without other room).channels) (λ q.
            read.rows q
            ∙ ap (row_after q (find fold_cmp q (entries other.channels))) (ap (λ t. row t q) here)
            ∙ ap (λ o. row_after q o (row (room_without room other).channels q))
            (sym (get-entries other.channels q))
            ∙ by_row q (row other.channels q)
            ∙ ap (joined_channel (row (room_without room other).channels q))
            (sym (channels_without other room well_other q))
            ∙ sym (row-joined (room_without room other).channels
            (room_without other room).channels q)) i;
      })
    where
      by_row : (q : List ℕ) (o : Option Channel)
          → row_after q o (row (room_without room other).channels q)
          ≡ joined_channel (row (room_without room other).channels q)
          (option_and_then (thinned gone) o)
      by_row q None = sym (joined_none (row (room_without room other).channels q))
      by_row q (Some channel) = refl

-- ---- invitations are not told

pub uninvited_told : (room : Room) → CanBeTold room → CanBeTold (uninvited room)
uninvited_told room told = record {
  modes = λ fold channel is.
      let found = uninvited_row (row room.channels fold) channel
      (sym (row-each channel_uninvited room.channels fold) ∙ is) in
      subst (λ (c : Channel). AreWithinLimits c.modes) found.1.1
      (told.modes fold found.0 found.1.0);
}

uninvited_empty : (room : Room) (fold : List ℕ) (channel : Channel)
    → row (uninvited room).channels fold ≡ Some channel → channel.invited ≡ empty
uninvited_empty room fold channel is =
    let found = uninvited_row (row room.channels fold) channel
    (sym (row-each channel_uninvited room.channels fold) ∙ is) in
    ap (λ (c : Channel). c.invited) (sym found.1.1)

same_deeds : (server : List ℕ) (users : Table User) (channels : List Channel)
    → flat_map (channel_deeds server users) (filter_map channel_uninvited channels)
    ≡ flat_map (channel_deeds server users) channels
same_deeds server users [] = refl
same_deeds server users (channel ∷ channels) =
    ap (λ ds. channel_deeds server users channel ++ ds) (same_deeds server users channels)

pub uninvited_burst : (server : List ℕ) (room : Room)
    → burst server (uninvited room) ≡ burst server room
unfolding burst
uninvited_burst server room =
    ap (λ ds. people_deeds room ++ ds)
    (ap (flat_map (channel_deeds server room.users)) (values_each channel_uninvited room.channels)
    ∙ same_deeds server room.users (values room.channels))

pub burst_read_is_merge : BurstReadIsMerge
burst_read_is_merge own server far room other well well_other ours told apart =
    ap (reads own far room) (sym (uninvited_burst server other))
    ∙ read_gives far room (uninvited other) well (uninvited_well other well_other)
    (record { near = apart.near; behind = apart.behind })
    own server (uninvited_empty other) ours (uninvited_told other told)
