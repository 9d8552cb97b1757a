-- Two rooms become one, the same whichever is named first; and of three it makes no difference
-- which two become one first.
use Rattle.std.proofs.Common.{◌≡◌, ℕ, true, false, ◌&&◌, ◌||◌, Option, Some, None, List, [], ◌∷◌}
use Rattle.std.proofs.Common.{refl, sym, ◌∙◌, ap, is_some}
use Rattle.std.proofs.Math.Bool.{and_comm}
use Rattle.irc_names.specs.Fold.{key}
use Rattle.irc_names.specs.GreaterLaws.{greater_is_even, greater_associates}
use Rattle.irc_names.specs.Tables.{Table, row, both}
use Rattle.irc_names.specs.TableLaws.{same_fold-refl, same_table}
use Rattle.irc_modes.specs.JoinedLaws.{joined_is_even, joined_associates}
use Rattle.irc_users.specs.declared.user.User.{User}
use Rattle.irc_channels.specs.declared.channel.Channel.{Channel}
use Rattle.irc_room.specs.Room.{Room, IsWellFormed}
use Rattle.irc_room.specs.InTurn.{after_all}
use Rattle.irc_merge.specs.Quits.{quits_of, collision_text}
use Rattle.irc_merge.specs.Merge.{clash, either, one_channel, joined_channel, union, merge}
use Rattle.irc_merge.specs.Merge.{room_without}
use Rattle.irc_merge.specs.Laws.{MergeIsEven, ShareNoNickname, MergeAssociates}
use Rattle.irc_merge.specs.Lemmas.Clashing.{clashing, without_well, held_apart}
use Rattle.irc_merge.specs.Lemmas.Joining.{row-either, row-joined, union_well}
use Rattle.irc_merge.specs.Lemmas.Quitting.{among}

-- ---- whichever is named first

either_turned : {X : Type 0} (x y : Option X) → (is_some x ≡ true → is_some y ≡ true → ⊥)
    → either x y ≡ either y x
either_turned None None apart = refl
either_turned None (Some y) apart = refl
either_turned (Some x) None apart = refl
either_turned (Some x) (Some y) apart = absurd (apart refl refl)

turned : {X : Type 0} (one other : Table X) → ((q : List ℕ) → is_some (row one q) ≡ true
    → is_some (row other q) ≡ true → ⊥) → both either one other ≡ both either other one
turned one other apart = same_table (both either one other) (both either other one) (λ q.
    row-either one other q ∙ either_turned (row one q) (row other q) (apart q)
    ∙ sym (row-either other one q))

one_turned : (c d : Channel)
    → ((q : List ℕ) → is_some (row c.members q) ≡ true → is_some (row d.members q) ≡ true → ⊥)
    → ((q : List ℕ) → is_some (row c.invited q) ≡ true → is_some (row d.invited q) ≡ true → ⊥)
    → one_channel c d ≡ one_channel d c
one_turned c d members invited = λ i. record {
  name = greater_is_even c.name d.name i;
  modes = joined_is_even c.modes d.modes i;
  topic = greater_is_even c.topic d.topic i;
  members = turned c.members d.members members i;
  invited = turned c.invited d.invited invited i;
}

channels_turned : (x y : Room) → IsWellFormed x → IsWellFormed y
    → ((q : List ℕ) → is_some (row x.users q) ≡ true → is_some (row y.users q) ≡ true → ⊥)
    → both joined_channel x.channels y.channels ≡ both joined_channel y.channels x.channels
channels_turned x y well_x well_y apart = same_table (both joined_channel x.channels y.channels)
    (both joined_channel y.channels x.channels) (λ f.
    row-joined x.channels y.channels f
    ∙ by_rows f (row x.channels f) refl (row y.channels f) refl
    ∙ sym (row-joined y.channels x.channels f))
  where
    by_rows : (f : List ℕ) (o : Option Channel) → row x.channels f ≡ o → (p : Option Channel)
        → row y.channels f ≡ p → joined_channel o p ≡ joined_channel p o
    by_rows f None at None that = refl
    by_rows f None at (Some d) that = refl
    by_rows f (Some c) at None that = refl
    by_rows f (Some c) at (Some d) that =
        let here = well_x.channels_sound f c at in
        let there = well_y.channels_sound f d that in
        ap Some (one_turned c d
        (λ q one other. apart q (here.members_known q one) (there.members_known q other))
        (λ q one other. apart q (here.invited_known q one) (there.invited_known q other)))

pub merge_is_even : MergeIsEven
unfolding merge
merge_is_even one other well_one well_other =
    let x = room_without one other in
    let y = room_without other one in
    let apart : (q : List ℕ) → is_some (row x.users q) ≡ true → is_some (row y.users q) ≡ true
    → ⊥ = λ q. held_apart one other well_one well_other q in
    λ i. record {
      users = turned x.users y.users apart i;
      channels = channels_turned x y (without_well one other well_one)
          (without_well other one well_other) apart i;
    }

-- ---- which two are taken first

either_associates : {X : Type 0} (x y z : Option X) → either (either x y) z ≡ either x (either y z)
either_associates None y z = refl
either_associates (Some x) y z = refl

tables_associate : {X : Type 0} (one next last : Table X)
    → both either (both either one next) last ≡ both either one (both either next last)
tables_associate one next last =
    same_table (both either (both either one next) last)
    (both either one (both either next last)) (λ q.
    row-either (both either one next) last q
    ∙ ap (λ x. either x (row last q)) (row-either one next q)
    ∙ either_associates (row one q) (row next q) (row last q)
    ∙ sym (row-either one (both either next last) q
    ∙ ap (either (row one q)) (row-either next last q)))

one_associates : (c d e : Channel)
    → one_channel (one_channel c d) e ≡ one_channel c (one_channel d e)
one_associates c d e = λ i. record {
  name = greater_associates c.name d.name e.name i;
  modes = joined_associates c.modes d.modes e.modes i;
  topic = greater_associates c.topic d.topic e.topic i;
  members = tables_associate c.members d.members e.members i;
  invited = tables_associate c.invited d.invited e.invited i;
}

joined_channel_associates : (x y z : Option Channel)
    → joined_channel (joined_channel x y) z ≡ joined_channel x (joined_channel y z)
joined_channel_associates None y z = refl
joined_channel_associates (Some c) None z = refl
joined_channel_associates (Some c) (Some d) None = refl
joined_channel_associates (Some c) (Some d) (Some e) = ap Some (one_associates c d e)

channels_associate : (one next last : Table Channel) → both joined_channel
    (both joined_channel one next) last ≡ both joined_channel one (both joined_channel next last)
channels_associate one next last =
    same_table (both joined_channel (both joined_channel one next) last)
    (both joined_channel one (both joined_channel next last)) (λ q.
    row-joined (both joined_channel one next) last q
    ∙ ap (λ x. joined_channel x (row last q)) (row-joined one next q)
    ∙ joined_channel_associates (row one q) (row next q) (row last q)
    ∙ sym (row-joined one (both joined_channel next last) q
    ∙ ap (joined_channel (row one q)) (row-joined next last q)))

union_associates : (one next last : Room)
    → union (union one next) last ≡ union one (union next last)
union_associates one next last = λ i. record {
  users = tables_associate one.users next.users last.users i;
  channels = channels_associate one.channels next.channels last.channels i;
}

-- ---- nobody is killed where no nickname is in both

nobody : (users : List User) → ((q : List ℕ) → among users q ≡ false) → users ≡ []
nobody [] none = refl
nobody (user ∷ users) none =
    let there : among (user ∷ users) (key user.nick) ≡ true =
    ap (λ b. b || among users (key user.nick)) (same_fold-refl (key user.nick)) in
    let clash : true ≡ false = sym there ∙ none (key user.nick) in
    absurd (cc clash)

pub none_clash : (one other : Room) → IsWellFormed one → ShareNoNickname one other
    → clash one other ≡ []
none_clash one other well apart =
    nobody (clash one other) (λ q. clashing one other well q ∙ apart q)

pub all_stay : (one other : Room) → IsWellFormed one → ShareNoNickname one other
    → room_without one other ≡ one
unfolding room_without
all_stay one other well apart =
    ap (λ users. after_all one (quits_of collision_text users)) (none_clash one other well apart)

pub apart_turned : (one other : Room) → ShareNoNickname one other → ShareNoNickname other one
apart_turned one other apart q = and_comm (is_some (row other.users q)) (is_some (row one.users q))
    ∙ apart q

apart_of_both : (one next last : Room) → ShareNoNickname one last → ShareNoNickname next last
    → ShareNoNickname (union one next) last
apart_of_both one next last first second q =
    ap (λ o. is_some o && is_some (row last.users q)) (row-either one.users next.users q)
    ∙ by_rows (row one.users q) (row next.users q) (row last.users q) (first q) (second q)
  where
    by_rows : (x y z : Option User) → (is_some x && is_some z) ≡ false
        → (is_some y && is_some z) ≡ false → (is_some (either x y) && is_some z) ≡ false
    by_rows None y z here there = there
    by_rows (Some user) y z here there = here

pub merged_whole : (one other : Room) → IsWellFormed one → IsWellFormed other
    → ShareNoNickname one other → merge one other ≡ union one other
unfolding merge
merged_whole one other well_one well_other apart =
    λ i. union (all_stay one other well_one apart i)
    (all_stay other one well_other (apart_turned one other apart) i)

pub merge_associates : MergeAssociates
merge_associates one next last well_one well_next well_last one_next one_last next_last =
    ap (λ room. merge room last) (merged_whole one next well_one well_next one_next)
    ∙ merged_whole (union one next) last (union_well one next well_one well_next) well_last
    (apart_of_both one next last one_last next_last)
    ∙ union_associates one next last
    ∙ sym (merged_whole one (union next last) well_one (union_well next last well_next well_last)
    (apart_turned (union next last) one (apart_of_both next last one
    (apart_turned one next one_next) (apart_turned one last one_last))))
    ∙ ap (merge one) (sym (merged_whole next last well_next well_last next_last))
