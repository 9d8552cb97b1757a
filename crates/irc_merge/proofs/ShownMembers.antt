-- What a user of this side is shown while the members of a channel are brought.
use Rattle.std.proofs.Common.{◌≡◌, ℕ, Bool, true, false, cond, not, ◌&&◌, Option, Some, None, List}
use Rattle.std.proofs.Common.{[], ◌∷◌, ◌++◌, refl, sym, ◌∙◌, ap, map, fold, is_some, option_map}
use Rattle.std.proofs.Common.{filter_map, arith, if◌then◌else◌}
use Rattle.std.proofs.lemmas.Bool.{and_parts}
use Rattle.std.proofs.lemmas.List.{append-nil, append_assoc}
use Rattle.std.specs.List.{flat_map, cons_option, AllByRecursion}
use Rattle.std.specs.Option.{option_map_or}
use Rattle.std.specs.FinMap.{find, is_sorted}
use Rattle.std.specs.FinMap.Entries.{below_all}
use Rattle.std.proofs.Math.Bool.{false≢true}
use Rattle.irc_names.specs.Fold.{key}
use Rattle.irc_names.specs.GreaterLaws.{greater_with_itself}
use Rattle.irc_names.specs.Tables.{Table, fold_cmp, row}
use Rattle.irc_names.specs.TableLaws.{same_fold, one_fold, row-alter_same}
use Rattle.irc_users.specs.declared.user.User.{User}
use Rattle.irc_channels.specs.declared.flags.Flags.{Flags}
use Rattle.irc_channels.specs.declared.channel.Channel.{Channel}
use Rattle.irc_channels.specs.Channels.{has_member, new_channel, respelled}
use Rattle.irc_room.specs.Room.{Room}
use Rattle.irc_room.specs.Effects.{is_member}
use Rattle.irc_room.specs.After.{alter_channel, titled_by}
use Rattle.irc_room.specs.InTurn.{after_all}
use Rattle.irc_room.specs.Lemmas.RespelledRooms.{respelled_once}
use Rattle.irc_merge.specs.ShownAlong.{shown_along}
use Rattle.irc_merge.specs.Deeds.{brings, member_comes, shown_by, shown_by_all}
use Rattle.irc_merge.specs.Bursts.{in_lines, members_a_line, home_passes, stored_member}
use Rattle.irc_merge.specs.Bursts.{stored_members, channel_deeds}
use Rattle.irc_merge.specs.BurstRead.{is_new_member, new_members, brought}
use Rattle.irc_merge.specs.MergeShown.{arrival, mode_lines}
use Rattle.irc_merge.specs.Lemmas.SplitInTurn.{shown-append}
use Rattle.irc_merge.specs.Lemmas.TableWords.{first_there, above_first}
use Rattle.irc_merge.proofs.Lines.{joined_lines, all_in_lines}
use Rattle.irc_merge.specs.Lemmas.Reading.{read_one}
use Rattle.irc_merge.specs.Lemmas.ShownReading.{shown_one, shown_reads, shown_reads-one}
use Rattle.irc_merge.specs.Lemmas.ShownReading.{shown_reads-append}
use Rattle.irc_merge.specs.Lemmas.SpelledMembers.{new_titled}
use Rattle.irc_merge.specs.Lemmas.ChannelRows.{row_has, channel_by, channel_twice, comes, comes_to}
use Rattle.irc_merge.specs.Lemmas.ChannelRows.{with_member, member_joins, one_joins, joins_row}
use Rattle.irc_merge.specs.Lemmas.ChannelRows.{spelled, line_spelled, line_joins, lines_row}
use Rattle.irc_merge.specs.Lemmas.ChannelRows.{members_row, told_in_lines}
use Rattle.irc_merge.proofs.ChannelTold.{StandsThere}
use Rattle.irc_merge.proofs.ShownChannels.{Sees, IsBlind, come_shown, sees_come, comes_outside}
use Rattle.irc_merge.proofs.ShownChannels.{come_unseen, blind_come}
use Rattle.irc_merge.proofs.ShownModes.{tail}
use Rattle.irc_merge.specs.Lemmas.BooleanTests.{and_not}

-- ---- member by member

abbrev shown_join : List ℕ → (List ℕ → Bool) → List ℕ → Room → List ℕ × Flags → List (List ℕ)
shown_join viewer far name room member = if is_new_member far room name member
    then shown_along viewer room (member_comes name member) else []

abbrev pub shown_joins : List ℕ → (List ℕ → Bool) → List ℕ → Room → List (List ℕ × Flags)
    → List (List ℕ)
shown_joins viewer far name room [] = []
shown_joins viewer far name room (member ∷ members) =
    shown_join viewer far name room member ++ shown_joins viewer far name
    (one_joins far name room member) members

new_shown : (viewer : List ℕ) (far : List ℕ → Bool) (name : List ℕ)
    (members : List (List ℕ × Flags)) (room : Room)
    → shown_along viewer room (flat_map (member_comes name) (new_members far room name members))
    ≡ shown_joins viewer far name room members
new_shown viewer far name [] room = refl
new_shown viewer far name (member ∷ members) room =
    by_test (is_new_member far room name member)
    (new_shown viewer far name members (after_all room (member_comes name member)))
    (new_shown viewer far name members room)
  where
    by_test : (b : Bool) → shown_along viewer
        (after_all room (member_comes name member)) (flat_map (member_comes name)
        (new_members far (after_all room (member_comes name member)) name members))
        ≡ shown_joins viewer far name (after_all room (member_comes name member)) members
        → shown_along viewer room (flat_map (member_comes name) (new_members far room name members))
        ≡ shown_joins viewer far name room members
        → shown_along viewer room (flat_map (member_comes name) (cond b
        (member ∷ new_members far (after_all room (member_comes name member)) name members)
        (new_members far room name members)))
        ≡ cond b (shown_along viewer room (member_comes name member)) [] ++ shown_joins viewer far
        name (cond b (after_all room (member_comes name member)) room) members
    by_test true more less =
        shown-append viewer room (member_comes name member) (flat_map (member_comes name)
        (new_members far (after_all room (member_comes name member)) name members))
        ∙ ap (λ rest. shown_along viewer room (member_comes name member) ++ rest) more
    by_test false more less = less

joins-append : (viewer : List ℕ) (far : List ℕ → Bool) (name : List ℕ) (a b : List (List ℕ × Flags))
    (room : Room) → shown_joins viewer far name room (a ++ b) ≡ shown_joins viewer far name room a
    ++ shown_joins viewer far name (fold (one_joins far name) room a) b
joins-append viewer far name [] b room = refl
joins-append viewer far name (member ∷ a) b room =
    ap (λ rest. shown_join viewer far name room member ++ rest)
    (joins-append viewer far name a b (one_joins far name room member))
    ∙ sym (append_assoc (shown_join viewer far name room member)
    (shown_joins viewer far name (one_joins far name room member) a)
    (shown_joins viewer far name (fold (one_joins far name) (one_joins far name room member) a) b))

-- where nobody comes, the spelling shows nothing
brought_shown : (viewer server name : List ℕ) (members : List (List ℕ × Flags)) (room : Room)
    → shown_by_all viewer room (brought server name members) ≡ shown_along viewer
    (titled_by name room) (flat_map (member_comes name) members)
unfolding shown_by
brought_shown viewer server name [] room = refl
brought_shown viewer server name (member ∷ members) room =
    append-nil
    (shown_along viewer (titled_by name room) (flat_map (member_comes name) (member ∷ members)))

line_shown : (viewer own server name : List ℕ) (far : List ℕ → Bool) (line : List (List ℕ × Flags))
    (room : Room) → shown_one viewer own far room (brings server name line)
    ≡ shown_joins viewer far name (titled_by name room) line
line_shown viewer own server name far line room =
    brought_shown viewer server name (new_members far room name line) room
    ∙ ap (λ news. shown_along viewer (titled_by name room) (flat_map (member_comes name) news))
    (sym (new_titled far name line room))
    ∙ new_shown viewer far name line (titled_by name room)

-- ---- a channel is spelled before those of a line come, or behind them: it is the same

member_titled : (passes : List ℕ → Bool) (name : List ℕ) (x : Option Channel)
    (member : List ℕ × Flags) → option_map (respelled name) (member_joins passes name x member)
    ≡ member_joins passes name (option_map (respelled name) x) member
member_titled passes name None member = by_test (passes (key member.0))
  where
    made : option_map (respelled name) (comes_to name (key member.0) member.1 None)
        ≡ comes_to name (key member.0) member.1 None
    made = ap (λ title. Some (record (with_member (key member.0) member.1
        (new_channel name)) { name = title })) (greater_with_itself name)

    by_test : (b : Bool) → option_map (respelled name)
        (cond (b && true) (comes_to name (key member.0) member.1 None) None)
        ≡ cond (b && true) (comes_to name (key member.0) member.1 None) None
    by_test true = made
    by_test false = refl
member_titled passes name (Some channel) member =
    by_test (passes (key member.0) && not (has_member (key member.0) channel))
  where
    by_test : (b : Bool) → option_map (respelled name)
        (cond b (comes_to name (key member.0) member.1 (Some channel)) (Some channel))
        ≡ cond b (comes_to name (key member.0) member.1 (Some (respelled name channel)))
        (Some (respelled name channel))
    by_test true = refl
    by_test false = refl

members_titled : (passes : List ℕ → Bool) (name : List ℕ) (members : List (List ℕ × Flags))
    (x : Option Channel) → option_map (respelled name) (fold (member_joins passes name) x members)
    ≡ fold (member_joins passes name) (option_map (respelled name) x) members
members_titled passes name [] x = refl
members_titled passes name (member ∷ members) x =
    members_titled passes name members (member_joins passes name x member)
    ∙ ap (λ y. fold (member_joins passes name) y members) (member_titled passes name x member)

titled_before : (far : List ℕ → Bool) (name : List ℕ) (members : List (List ℕ × Flags))
    (room : Room) → titled_by name (fold (one_joins far name) room members)
    ≡ fold (one_joins far name) (titled_by name room) members
titled_before far name members room =
    let join = member_joins (home_passes far room.users) name in
    ap (titled_by name) (joins_row far name members room)
    ∙ channel_twice name (λ x. fold join x members) (option_map (respelled name)) room
    ∙ channel_by name (λ x. option_map (respelled name) (fold join x members))
    (λ x. fold join (option_map (respelled name) x) members) room
    (members_titled (home_passes far room.users) name members (row room.channels (key name)))
    ∙ sym (joins_row far name members (titled_by name room)
    ∙ channel_twice name (option_map (respelled name)) (λ x. fold join x members) room)

line_titled : (own server name : List ℕ) (far : List ℕ → Bool) (line : List (List ℕ × Flags))
    (room : Room) → titled_by name (read_one own far room (brings server name line))
    ≡ fold (one_joins far name) (titled_by name room) line
line_titled own server name far line room =
    ap (titled_by name) (line_joins own server name far line room)
    ∙ titled_before far name line (line_spelled far name room line)
    ∙ ap (λ r. fold (one_joins far name) r line) (by (new_members far room name line))
  where
    by : (news : List (List ℕ × Flags))
        → titled_by name (spelled name news room) ≡ titled_by name room
    by [] = refl
    by (member ∷ news) = respelled_once name room

pub lines_shown : (viewer own server name : List ℕ) (far : List ℕ → Bool)
    (lines : List (List (List ℕ × Flags))) (room : Room)
    → shown_reads viewer own far room (map (brings server name) lines) ≡ shown_joins viewer far name
    (titled_by name room) (joined_lines lines)
lines_shown viewer own server name far [] room = refl
lines_shown viewer own server name far (line ∷ lines) room =
    shown_reads-one viewer own far room (brings server name line) (map (brings server name) lines)
    ∙ (λ i. line_shown viewer own server name far line room i
    ++ lines_shown viewer own server name far lines
    (read_one own far room (brings server name line)) i)
    ∙ ap (λ r. shown_joins viewer far name (titled_by name room) line
    ++ shown_joins viewer far name r (joined_lines lines))
    (line_titled own server name far line room)
    ∙ sym (joins-append viewer far name line (joined_lines lines) (titled_by name room))

-- ---- who is not in the channel is shown nothing

-- a fold that passes is not the viewer's, which does not
other_fold : (passes : List ℕ → Bool) (one other : List ℕ) → passes one ≡ false
    → passes other ≡ true → same_fold one other ≡ false
other_fold passes one other out pass = by_fold (same_fold one other) refl
  where
    by_fold : (b : Bool) → same_fold one other ≡ b → b ≡ false
    by_fold true same = absurd (false≢true (sym out ∙ ap passes (one_fold one other same) ∙ pass))
    by_fold false two = refl

pub joins_unseen : (viewer name : List ℕ) (far : List ℕ → Bool) (members : List (List ℕ × Flags))
    (room : Room) → home_passes far room.users (key viewer) ≡ false → IsBlind viewer name room
    → shown_joins viewer far name room members ≡ []
joins_unseen viewer name far [] room out blind = refl
joins_unseen viewer name far (member ∷ members) room out blind =
    by_test (is_new_member far room name member) refl
    (joins_unseen viewer name far members
    (alter_channel name (comes_to name (key member.0) member.1) room) out)
    (joins_unseen viewer name far members room out blind)
  where
    by_test : (b : Bool) → is_new_member far room name member ≡ b
        → (IsBlind viewer name (alter_channel name (comes_to name (key member.0) member.1) room)
        → shown_joins viewer far name
        (alter_channel name (comes_to name (key member.0) member.1) room) members ≡ [])
        → shown_joins viewer far name room members ≡ [] → cond b
        (shown_along viewer room (member_comes name member)) [] ++ shown_joins viewer far name
        (cond b (after_all room (member_comes name member)) room) members ≡ []
    by_test true new more less =
        let parts = and_not (home_passes far room.users (key member.0))
        (is_member room member.0 name) new in
        let two = other_fold (home_passes far room.users) (key viewer) (key member.0) out parts.0 in
        (λ i. come_unseen viewer name member.0 member.1 room blind two i
        ++ shown_joins viewer far name (comes name member room parts.1 i) members)
        ∙ more (blind_come viewer name (key member.0) member.1 room blind two)
    by_test false old more less = less

-- ---- who is in it is shown each who comes

-- what is shown of one entry
abbrev pub arrived : (List ℕ → Bool) → Table User → User → List ℕ → List ℕ × Flags → List (List ℕ)
arrived passes users viewer title e =
    if passes e.0 then option_map_or (arrival viewer title e.1) (row users e.0) [] else []

-- who passes and is still to come is no member
abbrev pub AreOutside : (List ℕ → Bool) → List ℕ → List (List ℕ × Flags) → Room → Type 0
AreOutside passes name es room = (q : List ℕ) → is_some (find fold_cmp q es) ≡ true
    → passes q ≡ true → row_has q (row room.channels (key name)) ≡ false

-- who passes stands under the same fold in two tables
abbrev pub AreHeld : (List ℕ → Bool) → Table User → Table User → Type 0
AreHeld passes users all = (q : List ℕ) (holder : User) → row users q ≡ Some holder
    → passes q ≡ true → row all q ≡ Some holder

there_later : (q : List ℕ) (e : List ℕ × Flags) (es : List (List ℕ × Flags))
    → is_some (find fold_cmp q es) ≡ true → is_some (find fold_cmp q (e ∷ es)) ≡ true
there_later q e es there = by_fold (same_fold q e.0)
  where
    by_fold : (b : Bool) → is_some (cond b (Some e.1) (find fold_cmp q es)) ≡ true
    by_fold true = refl
    by_fold false = there

-- those who come later are no members either once one has come
outside_later : (passes : List ℕ → Bool) (name : List ℕ)
    (e : List ℕ × Flags) (es : List (List ℕ × Flags)) (room : Room)
    → below_all fold_cmp e.0 es ≡ true → AreOutside passes name (e ∷ es) room
    → AreOutside passes name es (alter_channel name (comes_to name e.0 e.1) room)
outside_later passes name e es room below outside q there pass =
    ap (row_has q) (row-alter_same (key name) (comes_to name e.0 e.1) room.channels)
    ∙ comes_outside name q e.0 e.1 (row room.channels (key name)) (above_first q e es below there)
    (outside q (there_later q e es there) pass)

new_if : (b c : Bool) → (b ≡ true → c ≡ false) → (b && not c) ≡ b
new_if true c none = ap not (none refl)
new_if false c none = refl

module _ (viewer name : List ℕ) (far : List ℕ → Bool) (users : Table User) (user : User)
    (title : List ℕ) where
  abbrev all_arrived : Room → List (List ℕ × Flags) → List (List ℕ)
  all_arrived room es = flat_map (arrived (home_passes far room.users) users user title) es

  abbrev all_joins : Room → List (List ℕ × Flags) → List (List ℕ)
  all_joins room es = shown_joins viewer far name room (filter_map (stored_member users) es)

  one_seen : (e : List ℕ × Flags) (es : List (List ℕ × Flags)) (room : Room) (holder : User)
      → row users e.0 ≡ Some holder → key holder.nick ≡ e.0 → Sees viewer name user title room
      → AreOutside (home_passes far room.users) name (e ∷ es) room → AreHeld
      (home_passes far room.users) users room.users → all_joins room es ≡ all_arrived room es
      → all_joins (alter_channel name (comes_to name e.0 e.1) room) es ≡ all_arrived room es
      → shown_joins viewer far name room ((holder.nick, e.1) ∷ filter_map (stored_member users) es)
      ≡ all_arrived room (e ∷ es)
  one_seen e es room holder at named sees outside held less more =
      ap (λ b. cond b (shown_along viewer room (member_comes name (holder.nick, e.1))) []
      ++ shown_joins viewer far name (cond b (after_all room (member_comes name (holder.nick, e.1)))
      room) (filter_map (stored_member users) es)) new
      ∙ by_pass (home_passes far room.users e.0) refl
    where
      new : is_new_member far room name (holder.nick, e.1) ≡ home_passes far room.users e.0
      new =
          ap (λ f. home_passes far room.users f
          && not (row_has f (row room.channels (key name)))) named
          ∙ new_if (home_passes far room.users e.0) (row_has e.0 (row room.channels (key name)))
          (outside e.0 (first_there e es))

      by_pass : (b : Bool) → home_passes far room.users e.0 ≡ b
          → cond b (shown_along viewer room (member_comes name (holder.nick, e.1))) []
          ++ shown_joins viewer far name
          (cond b (after_all room (member_comes name (holder.nick, e.1))) room)
          (filter_map (stored_member users) es)
          ≡ cond b (option_map_or (arrival user title e.1) (row users e.0) []) []
          ++ all_arrived room es
      by_pass true pass =
          let none : is_member room holder.nick name ≡ false =
          ap (λ f. row_has f (row room.channels (key name))) named
          ∙ outside e.0 (first_there e es) pass in
          (λ i. come_shown viewer name user title holder.nick e.1 holder room sees none
          (ap (row room.users) named ∙ held e.0 holder at pass) i
          ++ shown_joins viewer far name ((comes name (holder.nick, e.1) room none
          ∙ ap (λ f. alter_channel name (comes_to name f e.1) room) named) i)
          (filter_map (stored_member users) es))
          ∙ (λ i. option_map_or (arrival user title e.1) (sym at i) [] ++ more i)
      by_pass false fails = less

  pub joins_seen : (es : List (List ℕ × Flags)) → is_sorted fold_cmp es ≡ true
      → AllByRecursion (λ e. StandsThere users e.0) es → (room : Room)
      → Sees viewer name user title room → AreOutside (home_passes far room.users) name es room
      → AreHeld (home_passes far room.users) users room.users
      → all_joins room es ≡ all_arrived room es
  joins_seen [] rise there room sees outside held = refl
  joins_seen (e ∷ es) rise there room sees outside held =
      let parts = and_parts _ _ rise in
      ap (λ o. shown_joins viewer far name room (cons_option (option_map (λ
      (u : User). (u.nick, e.1)) o) (filter_map (stored_member users) es))) (there.0).at
      ∙ one_seen e es room (there.0).holder (there.0).at (there.0).named sees outside held
      (joins_seen es parts.1 there.1 room sees
      (λ q known. outside q (there_later q e es known)) held)
      (joins_seen es parts.1 there.1 (alter_channel name (comes_to name e.0 e.1) room)
      (sees_come viewer name user title e.0 e.1 room sees)
      (outside_later (home_passes far room.users) name e es room parts.0 outside) held)

-- ---- all lines about a channel: those that bring its members, and then those that tell its modes
-- and its topic

pub deeds_shown : (viewer own server : List ℕ) (far : List ℕ → Bool)
    (users : Table User) (channel : Channel) (room : Room)
    → shown_reads viewer own far room (channel_deeds server users channel)
    ≡ shown_joins viewer far channel.name (titled_by channel.name room)
    (stored_members users channel)
    ++ shown_reads viewer own far
    (alter_channel channel.name (members_row (home_passes far room.users) users channel) room)
    (tail server channel.name (mode_lines channel.modes) channel.topic)
deeds_shown viewer own server far users channel room =
    let name = channel.name in
    let lines = in_lines members_a_line (stored_members users channel) in
    let rest = tail server name (mode_lines channel.modes) channel.topic in
    ap (shown_reads viewer own far room) (told_in_lines server users channel)
    ∙ shown_reads-append viewer own far room (map (brings server name) lines) rest
    ∙ (λ i. (lines_shown viewer own server name far lines room
    ∙ ap (shown_joins viewer far name (titled_by name room))
    (all_in_lines members_a_line (stored_members users channel) (omega arith))) i
    ++ shown_reads viewer own far (lines_row own server name far lines room i) rest)
