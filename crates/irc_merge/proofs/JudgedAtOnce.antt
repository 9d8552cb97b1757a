-- The members of one line, judged one after another or all at the start: it is the same where none
-- stands twice.
use Rattle.std.proofs.Common.{◌≡◌, ℕ, Bool, true, false, cond, not, ◌&&◌, Option, Some, None, List}
use Rattle.std.proofs.Common.{[], ◌∷◌, refl, sym, ◌∙◌, ap, filter, is_some}
use Rattle.std.specs.List.{list_any}
use Rattle.std.specs.Prelude.{unwrap_or}
use Rattle.std.specs.Cmp.Lexicographic.{bytes_decides}
use Rattle.std.specs.FinMap.{get-empty}
use Rattle.std.proofs.lemmas.Bool.{or_parts}
use Rattle.std.proofs.Math.Bool.{false≢true}
use Rattle.irc_names.specs.Fold.{key, same}
use Rattle.irc_names.specs.Tables.{fold_cmp, row}
use Rattle.irc_names.specs.TableLaws.{same_fold, one_fold, row-alter, row-alter_same}
use Rattle.irc_channels.specs.declared.flags.Flags.{Flags}
use Rattle.irc_channels.specs.declared.channel.Channel.{Channel}
use Rattle.irc_channels.specs.Channels.{has_member, new_channel}
use Rattle.irc_room.specs.Room.{Room}
use Rattle.irc_room.specs.Effects.{is_member}
use Rattle.irc_room.specs.After.{alter_channel}
use Rattle.irc_room.specs.InTurn.{after_all}
use Rattle.irc_merge.specs.Deeds.{member_comes}
use Rattle.irc_merge.specs.Bursts.{home_passes}
use Rattle.irc_merge.specs.BurstRead.{is_new_member, new_members}
use Rattle.irc_merge.specs.Laws.{no_member_twice, MembersAtOnce}
use Rattle.irc_merge.specs.Lemmas.ChannelRows.{comes, comes_to}
use Rattle.irc_merge.specs.Lemmas.ChannelRows.{row_has}
use Rattle.irc_merge.specs.Lemmas.BooleanTests.{and_not, not_and}

-- two nicknames that are not the same
two_folds : (one other : List ℕ) → same one other ≡ false → same_fold (key other) (key one) ≡ false
two_folds one other two = by_test (same_fold (key other) (key one)) refl
  where
    by_test : (b : Bool) → same_fold (key other) (key one) ≡ b → b ≡ false
    by_test true is = absurd (false≢true (sym two
        ∙ (bytes_decides (key one) (key other)).1 (sym (one_fold (key other) (key one) is))))
    by_test false none = refl

-- whether one is a member does not change when another comes
comes_same : (name q fold : List ℕ) (flags : Flags) (x : Option Channel) → same_fold q fold ≡ false
    → row_has q (comes_to name fold flags x) ≡ row_has q x
comes_same name q fold flags x two =
    ap is_some (row-alter fold (λ _. Some flags) (unwrap_or x (new_channel name)).members q)
    ∙ ap (λ b. is_some (cond b (Some flags) (row (unwrap_or x (new_channel name)).members q))) two
    ∙ by_row x
  where
    by_row : (x : Option Channel) → has_member q (unwrap_or x (new_channel name)) ≡ row_has q x
    by_row None = ap is_some (get-empty {X = Flags} fold_cmp q)
    by_row (Some channel) = refl

module _ (far : List ℕ → Bool) (channel : List ℕ) where
  still_new : (room : Room) (member other : List ℕ × Flags) → same member.0 other.0 ≡ false
      → is_new_member far (alter_channel channel (comes_to channel (key member.0) member.1) room)
      channel other ≡ is_new_member far room channel other
  still_new room member other two =
      ap (λ b. home_passes far room.users (key other.0) && not b)
      (ap (row_has (key other.0))
      (row-alter_same (key channel) (comes_to channel (key member.0) member.1) room.channels)
      ∙ comes_same channel (key other.0) (key member.0) member.1 (row room.channels (key channel))
      (two_folds member.0 other.0 two))

  all_still : (room : Room) (member : List ℕ × Flags) (members : List (List ℕ × Flags))
      → list_any (λ (other : List ℕ × Flags). same member.0 other.0) members ≡ false → filter
      (is_new_member far (alter_channel channel (comes_to channel (key member.0) member.1) room)
      channel) members ≡ filter (is_new_member far room channel) members
  all_still room member [] apart = refl
  all_still room member (other ∷ members) apart =
      let parts = or_parts _ _ apart in
      λ i. cond (still_new room member other parts.0 i) (other
      ∷ all_still room member members parts.1 i) (all_still room member members parts.1 i)

  at_once : (members : List (List ℕ × Flags)) (room : Room) → no_member_twice members ≡ true
      → new_members far room channel members ≡ filter (is_new_member far room channel) members
  at_once [] room distinct = refl
  at_once (member ∷ members) room distinct =
      let parts = not_and _ _ distinct in
      by_test (is_new_member far room channel member) refl parts.0
      (at_once members (alter_channel channel (comes_to channel (key member.0) member.1) room)
      parts.1) (at_once members room parts.1)
    where
      by_test : (b : Bool) → is_new_member far room channel member ≡ b → list_any
          (λ (other : List ℕ × Flags). same member.0 other.0) members ≡ false → new_members far
          (alter_channel channel (comes_to channel (key member.0) member.1) room) channel members
          ≡ filter (is_new_member far (alter_channel channel
          (comes_to channel (key member.0) member.1) room) channel) members
          → new_members far room channel members ≡ filter (is_new_member far room channel) members
          → cond b (member ∷ new_members far (after_all room (member_comes channel member)) channel
          members) (new_members far room channel members)
          ≡ cond b (member ∷ filter (is_new_member far room channel) members)
          (filter (is_new_member far room channel) members)
      by_test true new apart more less =
          ap (λ r. member ∷ new_members far r channel members)
          (comes channel member room ((and_not (home_passes far room.users (key member.0))
          (is_member room member.0 channel) new).1))
          ∙ ap (λ ms. member ∷ ms) (more ∙ all_still room member members apart)
      by_test false old apart more less = less

pub members_at_once : MembersAtOnce
members_at_once far room channel members distinct = at_once far channel members room distinct
