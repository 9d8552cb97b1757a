-- The two sides of a room, joined, are the room.
use Rattle.std.proofs.Common.{◌≡◌, ℕ, Bool, true, false, cond, not, ◌&&◌, ◌||◌, Option, Some, None}
use Rattle.std.proofs.Common.{List, [], ◌∷◌, refl, sym, ◌∙◌, ap, map, filter, is_some}
use Rattle.std.proofs.Common.{if◌then◌else◌}
use Rattle.std.proofs.lemmas.List.Folds.{list_any-append}
use Rattle.std.specs.List.{list_any}
use Rattle.std.specs.Option.{option_and_then, option_map_or}
use Rattle.std.specs.FinMap.{entries, keys, retain_keys}
use Rattle.std.proofs.lemmas.Bool.{not-false}
use Rattle.std.proofs.Math.Bool.{false≢true}
use Rattle.irc_names.specs.Lemmas.PlainFacts.{same_either_way}
use Rattle.irc_names.specs.Fold.{key}
use Rattle.irc_names.specs.GreaterLaws.{greater_with_itself}
use Rattle.irc_names.specs.Tables.{Table, row, each, both}
use Rattle.irc_names.specs.TableLaws.{same_fold, same_table, row-each, retain_keys-alike}
use Rattle.irc_modes.specs.JoinedLaws.{joined_with_itself}
use Rattle.irc_modes.specs.Bans.{IsBanList}
use Rattle.irc_modes.specs.Modes.{is_nil}
use Rattle.irc_users.specs.declared.user.User.{User}
use Rattle.irc_users.specs.UserTable.{is_home}
use Rattle.irc_channels.specs.declared.channel.Channel.{Channel}
use Rattle.irc_channels.specs.declared.flags.Flags.{Flags}
use Rattle.irc_room.specs.Room.{Room, IsWellFormed, IsSoundRow}
use Rattle.irc_room.specs.Lemmas.Rows.{some_key}
use Rattle.irc_merge.specs.Quits.{users_at}
use Rattle.irc_merge.specs.Merge.{either, one_channel, joined_channel, union}
use Rattle.irc_merge.specs.Split.{lost_users, split}
use Rattle.irc_merge.specs.Laws.{CanBeTold}
use Rattle.irc_merge.specs.Rejoined.{has_home_in, AreSides, SidesShareNoNickname, is_lost}
use Rattle.irc_merge.specs.Rejoined.{has_member_beside, inviting_beside, without_ended}
use Rattle.irc_merge.specs.Rejoined.{RejoinGivesBack, RejoinGivesAllBack}
use Rattle.irc_merge.specs.Lemmas.Joining.{row-either, row-joined}
use Rattle.irc_merge.specs.Lemmas.Quitting.{among, among_values, users_left, channels_left, thinned}
use Rattle.irc_merge.specs.Lemmas.SplitInTurn.{split_is_well_formed}
use Rattle.irc_merge.specs.Lemmas.TableWords.{row-kept, entries_kept}
use Rattle.irc_merge.proofs.EvenMerge.{merged_whole}

-- ---- who is lost

pub among_lost : (room : Room) → IsWellFormed room → (homes : List (List ℕ)) (q : List ℕ)
    → among (lost_users homes room) q ≡ is_lost homes room.users q
among_lost room well [] q = by_row (row room.users q)
  where
    by_row : (o : Option User) → false ≡ option_map_or (has_home_in []) o false
    by_row None = refl
    by_row (Some user) = refl
among_lost room well (home ∷ homes) q =
    list_any-append (λ (user : User). same_fold q (key user.nick)) (users_at home room)
    (lost_users homes room)
    ∙ ap (λ b. b || among (lost_users homes room) q)
    (among_values room.users well.users_named (is_home home) q)
    ∙ ap (λ b. option_map_or (is_home home) (row room.users q) false || b)
    (among_lost room well homes q)
    ∙ by_row (row room.users q)
  where
    by_row : (o : Option User)
        → (option_map_or (is_home home) o false || option_map_or (has_home_in homes) o false)
        ≡ option_map_or (has_home_in (home ∷ homes)) o false
    by_row None = refl
    by_row (Some user) = refl

pub users_split : (text : List ℕ) (homes : List (List ℕ)) (room : Room) → IsWellFormed room
    → (q : List ℕ) → row (split text homes room).users q
    ≡ cond (is_lost homes room.users q) None (row room.users q)
unfolding split
users_split text homes room well q =
    users_left room text (lost_users homes room) q
    ∙ ap (λ b. cond b None (row room.users q)) (among_lost room well homes q)

pub channels_split : (text : List ℕ) (homes : List (List ℕ)) (room : Room) → IsWellFormed room
    → (fold : List ℕ) → row (split text homes room).channels fold
    ≡ option_and_then (thinned (among (lost_users homes room))) (row room.channels fold)
unfolding split
channels_split text homes room well fold =
    channels_left room text (lost_users homes room) well fold

-- a user is lost on just one side
pub one_side : (lost others : List (List ℕ)) (room : Room) → AreSides lost others room
    → (q : List ℕ) → is_some (row room.users q) ≡ true
    → is_lost others room.users q ≡ not (is_lost lost room.users q)
one_side lost others room sides q there = by_row (row room.users q) refl there
  where
    by_row : (o : Option User) → row room.users q ≡ o → is_some o ≡ true → option_map_or
        (has_home_in others) o false ≡ not (option_map_or (has_home_in lost) o false)
    by_row None at there = absurd (false≢true there)
    by_row (Some user) at there = sides.apart q user at

-- ---- nobody is on both sides

never_both : (b c : Bool) (o : Option User) → (is_some o ≡ true → c ≡ not b)
    → (is_some (cond b None o) && is_some (cond c None o)) ≡ false
never_both true c o other = refl
never_both false c None other = refl
never_both false c (Some user) other =
    ap (λ (d : Bool). is_some (cond d None (Some user))) (other refl)

pub sides_share_no_nickname : SidesShareNoNickname
sides_share_no_nickname near_text far_text lost others room well sides q =
    (λ i. is_some (users_split near_text lost room well q i)
    && is_some (users_split far_text others room well q i))
    ∙ never_both (is_lost lost room.users q) (is_lost others room.users q) (row room.users q)
    (one_side lost others room sides q)

-- ---- what is kept of a table on either side

-- a table that keeps rows at some folds has a key there
some_kept : {X : Type 0} (table : Table X) (p : List ℕ → Bool)
    → list_any p (keys table) ≡ not (is_nil (keys (retain_keys table p)))
some_kept {X} table p =
    any_kept (entries table)
    ∙ ap (λ es. not (is_nil (map (λ e. e.0) es))) (sym (entries_kept table p))
  where
    any_kept : (es : List (List ℕ × X)) → list_any p (map (λ e. e.0) es)
        ≡ not (is_nil (map (λ e. e.0) (filter (λ e. p e.0) es)))
    any_kept [] = refl
    any_kept (e ∷ es) = by_test (p e.0) (any_kept es)
      where
        by_test : (b : Bool) → list_any p (map (λ e. e.0) es)
            ≡ not (is_nil (map (λ e. e.0) (filter (λ e. p e.0) es)))
            → (b || list_any p (map (λ e. e.0) es))
            ≡ not (is_nil (map (λ e. e.0) (cond b (e ∷ filter (λ e. p e.0) es)
            (filter (λ e. p e.0) es))))
        by_test true rest = refl
        by_test false rest = rest

-- where no row is kept, the test fails at each
none_kept : {X : Type 0} (table : Table X) (p : List ℕ → Bool)
    → is_nil (keys (retain_keys table p)) ≡ true → (q : List ℕ) → is_some (row table q) ≡ true
    → p q ≡ false
none_kept {X} table p none q there = by_test (p q) refl
  where
    by_test : (b : Bool) → p q ≡ b → b ≡ false
    by_test true passes =
        absurd (false≢true (sym (some_key (retain_keys table p) q
        (ap is_some (row-kept table p q ∙ ap (λ b. cond b (row table q) None) passes) ∙ there))
        ∙ none))
    by_test false fails = refl

whole_kept : {X : Type 0} (table : Table X) (p : List ℕ → Bool)
    → ((q : List ℕ) → is_some (row table q) ≡ true → p q ≡ true) → retain_keys table p ≡ table
whole_kept {X} table p each_passes = same_table (retain_keys table p) table
    (λ q. row-kept table p q ∙ by_row (p q) (row table q) (each_passes q))
  where
    by_row : (b : Bool) (o : Option X) → (is_some o ≡ true → b ≡ true) → cond b o None ≡ o
    by_row b None passes = same_either_way b None
    by_row b (Some x) passes = ap (λ (c : Bool). cond c (Some x) None) (passes refl)

-- what each side keeps of a table, where a row is lost on just one
module _ {X : Type 0} (table : Table X) (gone other : List ℕ → Bool)
    (apart : (q : List ℕ) → is_some (row table q) ≡ true → other q ≡ not (gone q)) where
  abbrev near : Table X
  near = retain_keys table (λ q. not (gone q))

  abbrev far : Table X
  far = retain_keys table (λ q. not (other q))

  row_back : (b c : Bool) (o : Option X) → (is_some o ≡ true → c ≡ not b)
      → either (cond (not b) o None) (cond (not c) o None) ≡ o
  row_back b c None apart =
      (λ i. either (same_either_way {X = Option X} (not b) None i)
      (same_either_way {X = Option X} (not c) None i))
  row_back true c (Some x) apart = ap (λ (d : Bool). cond (not d) (Some x) None) (apart refl)
  row_back false c (Some x) apart = refl

  pub two_parts : both either near far ≡ table
  two_parts = same_table (both either near far) table (λ q.
      row-either near far q
      ∙ (λ i. either (row-kept table (λ q. not (gone q)) q i)
      (row-kept table (λ q. not (other q)) q i))
      ∙ row_back (gone q) (other q) (row table q) (apart q))

  turned : (b c : Bool) → c ≡ not b → b ≡ not c
  turned true c is = ap not (sym is)
  turned false c is = ap not (sym is)

  pub kept_there : retain_keys table gone ≡ far
  kept_there = retain_keys-alike table gone (λ q. not (other q))
      (λ q there. turned (gone q) (other q) (apart q there))

  -- a side that keeps nothing, and one that keeps all
  pub all_far : is_nil (keys near) ≡ true → far ≡ table
  all_far none = whole_kept table (λ q. not (other q)) (λ q there.
      ap not (apart q there)
      ∙ ap (λ b. not (not b))
      (not-false (gone q) (none_kept table (λ q. not (gone q)) none q there)))

  pub all_near : is_nil (keys far) ≡ true → near ≡ table
  all_near none = whole_kept table (λ q. not (gone q)) (λ q there.
      sym (apart q there) ∙ not-false (other q) (none_kept table (λ q. not (other q)) none q there))

  pub some_side : {A : Type 0} → is_nil (keys table) ≡ false → is_nil (keys near) ≡ true
      → is_nil (keys far) ≡ true → A
  some_side some none none_too =
      absurd (false≢true (sym (sym none_too ∙ ap (λ t. is_nil (keys t)) (all_far none) ∙ some)))

-- ---- one channel

module _ (lost others : List (List ℕ)) (users : Table User) (fold : List ℕ) (channel : Channel)
    (sound : IsSoundRow users fold channel) (rising : IsBanList channel.modes.bans)
    (apart : (q : List ℕ) → is_some (row users q) ≡ true
    → is_lost others users q ≡ not (is_lost lost users q)) where
  abbrev gone : List ℕ → Bool
  gone = is_lost lost users

  abbrev other : List ℕ → Bool
  other = is_lost others users

  members_apart : (q : List ℕ) → is_some (row channel.members q) ≡ true → other q ≡ not (gone q)
  members_apart q there = apart q (sound.members_known q there)

  invited_apart : (q : List ℕ) → is_some (row channel.invited q) ≡ true → other q ≡ not (gone q)
  invited_apart q there = apart q (sound.invited_known q there)

  abbrev members_near : Table Flags
  members_near = near channel.members gone other members_apart

  abbrev members_far : Table Flags
  members_far = far channel.members gone other members_apart

  abbrev invited_near : Table (Unit {0})
  invited_near = near channel.invited gone other invited_apart

  abbrev invited_far : Table (Unit {0})
  invited_far = far channel.invited gone other invited_apart

  abbrev none_near : Bool
  none_near = is_nil (keys members_near)

  abbrev none_far : Bool
  none_far = is_nil (keys members_far)

  -- an invitation stays where there is a member on its side
  beside_by : (q : List ℕ)
      → has_member_beside lost users channel q ≡ cond (gone q) (not none_far) (not none_near)
  beside_by q = by_side (gone q)
    where
      by_side : (b : Bool)
          → list_any (λ (m : List ℕ). if b then gone m else not (gone m)) (keys channel.members)
          ≡ cond b (not none_far) (not none_near)
      by_side true =
          some_kept channel.members gone
          ∙ ap (λ t. not (is_nil (keys t)))
          (kept_there channel.members gone other members_apart)
      by_side false = some_kept channel.members (λ m. not (gone m))

  abbrev beside : List ℕ → Bool
  beside = has_member_beside lost users channel

  abbrev left : Table Flags → Table (Unit {0}) → Channel
  left members invited = record channel { members = members; invited = invited }

  invited_kept : (p : List ℕ → Bool) → ((q : List ℕ) → is_some (row channel.invited q) ≡ true
      → p q ≡ beside q) → retain_keys channel.invited p ≡ retain_keys channel.invited beside
  invited_kept p agree = retain_keys-alike channel.invited p beside agree

  both_sides : none_near ≡ false → none_far ≡ false
      → one_channel (left members_near invited_near) (left members_far invited_far)
      ≡ left channel.members (retain_keys channel.invited beside)
  both_sides near_some far_some = λ i. record {
    name = greater_with_itself channel.name i;
    modes = joined_with_itself channel.modes rising i;
    topic = greater_with_itself channel.topic i;
    members = two_parts channel.members gone other members_apart i;
    invited = (two_parts channel.invited gone other invited_apart ∙ sym stay) i;
  }
    where
      stay : retain_keys channel.invited beside ≡ channel.invited
      stay = whole_kept channel.invited beside (λ q there.
          beside_by q ∙ (λ i. cond (gone q) (not (far_some i)) (not (near_some i)))
          ∙ same_either_way (gone q) true)

  far_alone : none_near ≡ true → none_far ≡ false → left members_far invited_far
      ≡ left channel.members (retain_keys channel.invited beside)
  far_alone near_none far_some =
      λ i. left (all_far channel.members gone other members_apart near_none i)
      (invited_kept (λ q. not (other q)) agree i)
    where
      agree : (q : List ℕ) → is_some (row channel.invited q) ≡ true → not (other q) ≡ beside q
      agree q there =
          ap not (invited_apart q there) ∙ by_side (gone q)
          ∙ sym (beside_by q ∙ (λ i. cond (gone q) (not (far_some i)) (not (near_none i))))
        where
          by_side : (b : Bool) → not (not b) ≡ cond b true false
          by_side true = refl
          by_side false = refl

  near_alone : none_near ≡ false → none_far ≡ true → left members_near invited_near
      ≡ left channel.members (retain_keys channel.invited beside)
  near_alone near_some far_none =
      λ i. left (all_near channel.members gone other members_apart far_none i)
      (invited_kept (λ q. not (gone q)) agree i)
    where
      agree : (q : List ℕ) → is_some (row channel.invited q) ≡ true → not (gone q) ≡ beside q
      agree q there =
          by_side (gone q)
          ∙ sym (beside_by q ∙ (λ i. cond (gone q) (not (far_none i)) (not (near_some i))))
        where
          by_side : (b : Bool) → not b ≡ cond b false true
          by_side true = refl
          by_side false = refl

  pub channel_back : joined_channel (thinned gone channel) (thinned other channel)
      ≡ inviting_beside lost users channel
  channel_back = by_sides none_near none_far refl refl
    where
      by_sides : (b c : Bool) → none_near ≡ b → none_far ≡ c
          → joined_channel (cond b None (Some (left members_near invited_near)))
          (cond c None (Some (left members_far invited_far)))
          ≡ inviting_beside lost users channel
      by_sides true true near_none far_none =
          some_side channel.members gone other members_apart sound.some_member near_none far_none
      by_sides true false near_none far_some = ap Some (far_alone near_none far_some)
      by_sides false true near_some far_none = ap Some (near_alone near_some far_none)
      by_sides false false near_some far_some = ap Some (both_sides near_some far_some)

-- ---- the room

user_back : (b c : Bool) (o : Option User) → (is_some o ≡ true → c ≡ not b)
    → either (cond b None o) (cond c None o) ≡ o
user_back b c None apart =
    (λ i. either (same_either_way {X = Option User} b None i)
    (same_either_way {X = Option User} c None i))
user_back true c (Some user) apart = ap (λ (d : Bool). cond d None (Some user)) (apart refl)
user_back false c (Some user) apart = refl

module _ (near_text far_text : List ℕ) (lost others : List (List ℕ)) (room : Room)
    (well : IsWellFormed room) (told : CanBeTold room) (sides : AreSides lost others room) where
  abbrev near_room : Room
  near_room = split near_text lost room

  abbrev far_room : Room
  far_room = split far_text others room

  users_back : both either near_room.users far_room.users ≡ room.users
  users_back = same_table (both either near_room.users far_room.users) room.users (λ q.
      row-either near_room.users far_room.users q
      ∙ (λ i. either (users_split near_text lost room well q i)
      (users_split far_text others room well q i))
      ∙ user_back (is_lost lost room.users q) (is_lost others room.users q) (row room.users q)
      (one_side lost others room sides q))

  row_back_in : (fold : List ℕ) (o : Option Channel) → row room.channels fold ≡ o
      → joined_channel (option_and_then (thinned (is_lost lost room.users)) o)
      (option_and_then (thinned (is_lost others room.users)) o)
      ≡ option_and_then (inviting_beside lost room.users) o
  row_back_in fold None at = refl
  row_back_in fold (Some channel) at =
      channel_back lost others room.users fold channel (well.channels_sound fold channel at)
      (told.modes fold channel at).in_order (one_side lost others room sides)

  channels_back : both joined_channel near_room.channels far_room.channels
      ≡ each (inviting_beside lost room.users) room.channels
  channels_back = same_table (both joined_channel near_room.channels far_room.channels)
      (each (inviting_beside lost room.users) room.channels) (λ fold.
      row-joined near_room.channels far_room.channels fold
      ∙ (λ i. joined_channel (channels_split near_text lost room well fold i)
      (channels_split far_text others room well fold i))
      ∙ (λ i. joined_channel
      (option_and_then (thinned (λ q. among_lost room well lost q i)) (row room.channels fold))
      (option_and_then (thinned (λ q. among_lost room well others q i)) (row room.channels fold)))
      ∙ row_back_in fold (row room.channels fold) refl
      ∙ sym (row-each (inviting_beside lost room.users) room.channels fold))

  both_back : union near_room far_room ≡ without_ended lost room
  both_back = λ i. record { users = users_back i; channels = channels_back i }

pub rejoin_gives_back : RejoinGivesBack
rejoin_gives_back near_text far_text lost others room well told sides =
    merged_whole (split near_text lost room) (split far_text others room)
    (split_is_well_formed near_text lost room well)
    (split_is_well_formed far_text others room well)
    (sides_share_no_nickname near_text far_text lost others room well sides)
    ∙ both_back near_text far_text lost others room well told sides

pub rejoin_gives_all_back : RejoinGivesAllBack
rejoin_gives_all_back near_text far_text lost others room well told sides invited =
    rejoin_gives_back near_text far_text lost others room well told sides
    ∙ (λ i. record room { channels = channels_stay i })
  where
    channel_stays : (fold : List ℕ) (o : Option Channel) → row room.channels fold ≡ o
        → option_and_then (inviting_beside lost room.users) o ≡ o
    channel_stays fold None at = refl
    channel_stays fold (Some channel) at =
        λ i. Some (record channel {
          invited = whole_kept channel.invited (has_member_beside lost room.users channel)
              (λ nick there. invited.beside fold nick channel at there) i;
        })

    channels_stay : each (inviting_beside lost room.users) room.channels ≡ room.channels
    channels_stay = same_table (each (inviting_beside lost room.users) room.channels) room.channels
        (λ fold. row-each (inviting_beside lost room.users) room.channels fold
        ∙ channel_stays fold (row room.channels fold) refl)
