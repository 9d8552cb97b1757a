-- The examples, each by computing what the lists say.
use Rattle.std.proofs.Common.{◌≡◌, ℕ, Bool, false, cond, ◌-◌, min, Option, List, [], ◌∷◌, ◌∙◌, ap}
use Rattle.std.proofs.Common.{map, length, drop, is_some, option_map, codes, nat_eq, arith}
use Rattle.std.proofs.Common.{if◌then◌else◌}
use Rattle.std.proofs.lemmas.List.{length-take, length-take-le, length-drop}
use Rattle.std.specs.Int.{div_ceil}
use Rattle.std.specs.Simd.{first_chunks}
use Rattle.std.specs.List.{list_any}
use Rattle.std.specs.Ordering.{is_lt}
use Rattle.std.specs.Option.{option_map_or}
use Rattle.std.specs.Cmp.Lexicographic.{pointwise}
use Rattle.std.specs.FinMap.{keys}
use Rattle.irc_names.specs.Fold.{fold, fold_table, key}
use Rattle.irc_names.specs.Greater.{bytes_cmp}
use Rattle.irc_names.specs.Names.{is_key, is_ban_mask}
use Rattle.irc_names.specs.Tables.{row}
use Rattle.irc_names.specs.TableLaws.{row-keys}
use Rattle.irc_line.specs.Bytes.{cut}
use Rattle.irc_line.specs.Messages.{line_text}
use Rattle.irc_users.specs.declared.user.User.{User}
use Rattle.irc_channels.specs.declared.flags.Flags.{Flags}
use Rattle.irc_channels.specs.declared.channel.Channel.{Channel}
use Rattle.irc_room.specs.effect.By.TheVariants as by
use Rattle.irc_room.specs.effect.Effect.{Effect}
use Rattle.irc_room.specs.effect.Effect.TheVariants.{AddUser, SetTopic}
use Rattle.irc_room.specs.Effects.{has_user}
use Rattle.irc_room.specs.Examples.{room_after, flags_of, invited_to}
use Rattle.irc_room.specs.Lemmas.Listed.{table_of, row_listed}
use Rattle.irc_room.specs.Lemmas.ListedRooms.{room_of, all_listed, no_list}
use Rattle.irc_room.specs.Lemmas.ListedSeen.{user_listed, channel_listed}
use Rattle.irc_room.specs.Lemmas.ExampleRooms.{list_room}
use Rattle.irc_merge.specs.Deeds.{does, kills, effects_of}
use Rattle.irc_merge.specs.Bursts.{in_lines, members_a_line, burst, home_passes}
use Rattle.irc_merge.specs.BurstRead.{read_deed}
use Rattle.irc_merge.specs.Merge.{merge}
use Rattle.irc_merge.specs.MergeShown.{merge_shown}
use Rattle.irc_merge.specs.Examples.{an_operator, a_member, of_a, with_modes, als_side, bos_side}
use Rattle.irc_merge.specs.Examples.{secret_side, keyed_side, modes_written, bo_has_come}
use Rattle.irc_merge.specs.Examples.{topic_of_b, zeds_side, other_zeds_side, ChannelIsTold}
use Rattle.irc_merge.specs.Examples.{ThirtyOneMembers, ChannelsAreJoined, ModesAreJoined}
use Rattle.irc_merge.specs.Examples.{GreaterTopicIsSet, NicknameOnBothSides, two_channels}
use Rattle.irc_merge.specs.Examples.{LinkIsMadeAgain}
use Rattle.irc_merge.proofs.ChannelTold.{one_passes}
use Rattle.irc_merge.specs.Lemmas.ListedMerge.{AreInOrder, burst_listed, user_merged}
use Rattle.irc_merge.specs.Lemmas.ListedMerge.{channel_merged, merge_listed}
use Rattle.irc_merge.specs.Split.{split}
use Rattle.irc_merge.proofs.FlagsMerged.{flags_merged}
use Rattle.irc_merge.proofs.ListedSplit.{invited_merged, list_split, split_listed}

made : (effects : List Effect) → room_after effects ≡ room_of (list_room effects)
made effects = all_listed no_list effects

pub channel_is_told : ChannelIsTold
unfolding fold fold_table is_key is_ban_mask in_lines
channel_is_told =
    ap (burst (codes "b.net")) (made with_modes)
    ∙ burst_listed (codes "b.net") (list_room with_modes)
    (record { users = tt; channels = tt; members = (tt, tt) })

pub thirty_one_members : ThirtyOneMembers
unfolding in_lines
thirty_one_members members is =
    let size = members_a_line in
    let behind_one = drop size members in
    let behind_two = drop size behind_one in
    let behind_three = drop size behind_two in
    let after_one : length behind_one ≡ 21 = length-drop size members ∙ ap (λ l. l - size) is in
    let after_two : length behind_two ≡ 11 =
    length-drop size behind_one ∙ ap (λ l. l - size) after_one in
    let after_three : length behind_three ≡ 1 =
    length-drop size behind_two ∙ ap (λ l. l - size) after_two in
    ap (λ l. map length (first_chunks size (div_ceil l size) members)) is
    ∙ (λ i. length-take-le size members (omega (arith, is)) i ∷ length-take-le size behind_one
    (omega (arith, after_one)) i
    ∷ length-take-le size behind_two (omega (arith, after_two)) i
    ∷ (length-take size behind_three ∙ ap (min size) after_three) i ∷ [])

pub channels_are_joined : ChannelsAreJoined
unfolding fold fold_table cut line_text in_lines
channels_are_joined =
    let one = list_room als_side in
    let other = list_room bos_side in
    let first : AreInOrder one = record { users = tt; channels = tt; members = (tt, tt) } in
    let second : AreInOrder other = record { users = tt; channels = tt; members = (tt, tt) } in (
      (λ i. flags_of (merge (made als_side i) (made bos_side i)) (codes "al") (codes "#c"))
          ∙ flags_merged one other first second (key (codes "al")) (key (codes "#c")),
      (λ i. flags_of (merge (made als_side i) (made bos_side i)) (codes "bo") (codes "#c"))
          ∙ flags_merged one other first second (key (codes "bo")) (key (codes "#c")),
      (λ i. merge_shown (made als_side i) (made bos_side i) (codes "al"))
          ∙ merge_listed one other (codes "al")
          (record { first = first; second = second; along = tt; left = second }),
      (λ i. merge_shown (made bos_side i) (made als_side i) (codes "bo"))
          ∙ merge_listed other one (codes "bo")
          (record { first = second; second = first; along = tt; left = first }),
      (λ i. merge_shown (made als_side i) (made bos_side i) (codes "an"))
          ∙ merge_listed one other (codes "an")
          (record { first = first; second = second; along = tt; left = second }),
    )

pub modes_are_joined : ModesAreJoined
unfolding fold fold_table is_key cut line_text in_lines
modes_are_joined =
    let one = list_room secret_side in
    let other = list_room keyed_side in
    let channel = key (codes "#c") in
    let first : AreInOrder one = record { users = tt; channels = tt; members = (tt, tt) } in
    let second : AreInOrder other = record { users = tt; channels = tt; members = (tt, tt) } in (
      (λ i. merge_shown (made secret_side i) (made keyed_side i) (codes "al"))
          ∙ merge_listed one other (codes "al")
          (record { first = first; second = second; along = tt; left = second }),
      (λ i. merge_shown (made keyed_side i) (made secret_side i) (codes "bo"))
          ∙ merge_listed other one (codes "bo")
          (record { first = second; second = first; along = tt; left = first }),
      (λ i. option_map modes_written
          (row (merge (made secret_side i) (made keyed_side i)).channels channel))
          ∙ ap (option_map modes_written) (channel_merged one other first second channel),
      (λ i. option_map (λ (c : Channel). c.topic)
          (row (merge (made secret_side i) (made keyed_side i)).channels channel))
          ∙ ap (option_map (λ (c : Channel). c.topic))
          (channel_merged one other first second channel),
    )

-- what a topic of #c that is told does, by what is there
abbrev set_by : List ℕ → Option Channel → List Effect
set_by topic found =
    if option_map_or (λ (c : Channel). is_lt (bytes_cmp c.topic topic)) found false
    then SetTopic by.Home (codes "#c") topic ∷ [] else []

pub greater_topic_is_set : GreaterTopicIsSet
unfolding fold fold_table
greater_topic_is_set =
    let side = list_room bo_has_come in
    let channel = key (codes "#c") in
    let far : List ℕ → Bool = λ home. pointwise nat_eq home (codes "b.net") in
    let bo = key (codes "bo") in
    let passes = home_passes far (room_of side).users in
    let members : List (List ℕ × Flags) = (key (codes "al"), an_operator) ∷ (bo, a_member) ∷ [] in
    let deed = topic_of_b (codes "hallo") in (
      ap (λ r. read_deed (codes "a.net") far r deed) (made bo_has_come)
          ∙ ap (λ b. cond b (deed ∷ []) [])
          (ap (λ o. option_map_or (λ (c : Channel). list_any passes (keys c.members)) o false)
          (channel_listed side channel)
          ∙ one_passes passes bo (keys (table_of (λ f. f) members)) (row-keys
          (table_of (λ f. f) members) bo ∙ ap is_some (row_listed (λ f. f) members bo))
          (ap (λ o. option_map_or (λ (user : User). far user.home) o false) (user_listed side bo))),
      ap (λ r. effects_of r deed) (made bo_has_come)
          ∙ ap (set_by (codes "hallo")) (channel_listed side channel),
      ap (λ r. effects_of r (topic_of_b (codes "hi"))) (made bo_has_come)
          ∙ ap (set_by (codes "hi")) (channel_listed side channel),
    )

pub nickname_on_both_sides : NicknameOnBothSides
unfolding fold fold_table cut line_text
nickname_on_both_sides =
    let one = list_room zeds_side in
    let other = list_room other_zeds_side in
    let first : AreInOrder one = record { users = tt; channels = tt; members = (tt, (tt, tt)) } in
    let second : AreInOrder other = record { users = tt; channels = tt; members = (tt, tt) } in (
      (λ i. has_user (merge (made zeds_side i) (made other_zeds_side i)) (codes "zed"))
          ∙ ap is_some (user_merged one other first second (key (codes "zed"))),
      (λ i. merge_shown (made zeds_side i) (made other_zeds_side i) (codes "al"))
          ∙ merge_listed one other (codes "al")
          (record {
            first = first;
            second = second;
            along = (first, tt);
            left = record { users = tt; channels = tt; members = (tt, tt) };
          }),
      (λ i. merge_shown (made zeds_side i) (made other_zeds_side i) (codes "zed"))
          ∙ merge_listed one other (codes "zed")
          (record {
            first = first;
            second = second;
            along = (first, tt);
            left = record { users = tt; channels = tt; members = (tt, tt) };
          }),
      (λ i. merge_shown (made other_zeds_side i) (made zeds_side i) (codes "bo"))
          ∙ merge_listed other one (codes "bo")
          (record {
            first = second;
            second = first;
            along = (second, tt);
            left = record { users = tt; channels = tt; members = (tt, tt) };
          }),
      (λ i. read_deed (codes "b.net") (λ home. pointwise nat_eq home (codes "a.net"))
          (made other_zeds_side i) (does (AddUser (of_a (codes "zed")))))
          ∙ ap (λ o. option_map_or (λ (holder : User). kills (codes "b.net") holder.nick ∷ []) o
          (does (AddUser (of_a (codes "zed"))) ∷ [])) (user_listed other (key (codes "zed"))),
    )

pub link_is_made_again : LinkIsMadeAgain
unfolding fold fold_table
link_is_made_again =
    let all = list_room two_channels in
    let near = list_split (codes "a.net b.net") (codes "b.net" ∷ []) all in
    let far = list_split (codes "b.net a.net") (codes "a.net" ∷ []) all in
    let order : AreInOrder all = record { users = tt; channels = tt; members = (tt, (tt, tt)) } in
    let first : AreInOrder near = record { users = tt; channels = tt; members = (tt, (tt, tt)) } in
    let second : AreInOrder far = record { users = tt; channels = tt; members = (tt, tt) } in
    let back : merge
    (split (codes "a.net b.net") (codes "b.net" ∷ []) (room_after two_channels))
    (split (codes "b.net a.net") (codes "a.net" ∷ []) (room_after two_channels))
    ≡ merge (room_of near) (room_of far) =
    λ i. merge
    ((ap (split (codes "a.net b.net") (codes "b.net" ∷ [])) (made two_channels)
    ∙ split_listed (codes "a.net b.net") (codes "b.net" ∷ []) all order) i)
    ((ap (split (codes "b.net a.net") (codes "a.net" ∷ [])) (made two_channels)
    ∙ split_listed (codes "b.net a.net") (codes "a.net" ∷ []) all order) i) in (
      ap (λ r. flags_of r (codes "al") (codes "#c")) back
          ∙ flags_merged near far first second (key (codes "al")) (key (codes "#c")),
      ap (λ r. flags_of r (codes "bo") (codes "#c")) back
          ∙ flags_merged near far first second (key (codes "bo")) (key (codes "#c")),
      ap (λ r. flags_of r (codes "al") (codes "#d")) back
          ∙ flags_merged near far first second (key (codes "al")) (key (codes "#d")),
      ap (λ r. invited_to r (codes "cy") (codes "#c")) back
          ∙ invited_merged near far first second (key (codes "cy")) (key (codes "#c")),
      ap (λ r. invited_to r (codes "cy") (codes "#d")) back
          ∙ invited_merged near far first second (key (codes "cy")) (key (codes "#d")),
    )
