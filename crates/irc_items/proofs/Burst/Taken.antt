-- What a room takes of the lines of a burst: who comes is known there by the same nickname, and
-- each change can be made and does something.
use Rattle.std.proofs.Common.{◌≡◌, ℕ, ◌≤◌, Bool, true, false, cond, Option, Some, None, suc, List}
use Rattle.std.proofs.Common.{[], ◌∷◌, ◌++◌, length, map, refl, sym, ◌∙◌, ap, subst, arith}
use Rattle.std.proofs.Common.{if◌then◌else◌}
use Rattle.std.proofs.lemmas.List.{append-nil}
use Rattle.std.specs.List.{flat_map, AllByRecursion}
use Rattle.std.specs.Option.{option_map, option_map_or}
use Rattle.std.proofs.Math.Bool.{false≢true}
use Rattle.std.proofs.lemmas.Option.{same_Some}
use Rattle.irc_burst.specs.DeedsMeant.{as_stored}
use Rattle.irc_channels.specs.declared.channel.Channel.{Channel}
use Rattle.irc_channels.specs.declared.flags.Flags.{Flags}
use Rattle.irc_follow.specs.Lemmas.DeedEffects.{members_quiet, users_stay}
use Rattle.irc_merge.specs.Lemmas.DoableDeeds.{members_do}
use Rattle.irc_merge.specs.Lemmas.BooleanTests.{and_not}
use Rattle.irc_merge.specs.BurstRead.{is_new_member, new_members}
use Rattle.irc_merge.specs.Bursts.{home_passes}
use Rattle.irc_merge.specs.CanBeDone.{DoesSomething}
use Rattle.irc_merge.specs.Deeds.{flag_given, member_comes, changes_made, raised_in}
use Rattle.irc_merge.specs.Lemmas.SpelledMembers.{new_titled}
use Rattle.irc_modes.specs.declared.modes.ModeChange.{ModeChange}
use Rattle.irc_modes.specs.declared.modes.ModeLetter.{ModeLetter}
use Rattle.irc_modes.specs.declared.modes.ModeLetter.TheVariants as letter
use Rattle.irc_modes.specs.declared.modes.Modes.{Modes}
use Rattle.irc_modes.specs.Modes.{mode_step}
use Rattle.irc_modes.specs.Raised.{raises, raising}
use Rattle.irc_names.specs.Fold.{key}
use Rattle.irc_names.specs.Names.{IsChannel}
use Rattle.irc_names.specs.Tables.{row}
use Rattle.irc_room.specs.After.{titled_by}
use Rattle.irc_room.specs.effect.By.TheVariants as by
use Rattle.irc_room.specs.effect.Effect.TheVariants.{SetTopic}
use Rattle.irc_room.specs.Effects.{is_member}
use Rattle.irc_room.specs.InTurn.{after_all, EachInTurn}
use Rattle.irc_room.specs.Limits.{IsBanCarried, IsCarriedText, KeepsLimits}
use Rattle.irc_room.specs.Room.{Room, IsWellFormed}
use Rattle.irc_room.specs.Sendable.{IsStoredNick}
use Rattle.irc_users.specs.declared.user.User.{User}
use Rattle.irc_items.proofs.Burst.Stated.{both_all}
use Rattle.irc_items.proofs.Burst.Told.{IsTheirMember, AreTheirMembers, AreTheirs, AreComing}

-- ---- who comes

module _ (far : List ℕ → Bool) (room : Room) (channel : List ℕ) where
  -- a member whose home is behind the link, and whom the room knows by this nickname
  record IsComing (member : List ℕ × Flags) : Type 0 where
    stored : IsStoredNick room member.0
    passes : home_passes far room.users (key member.0) ≡ true

  -- who is taken of some members, by what follows for each that is far
  taken_are : (P : List ℕ × Flags → Type 0) (members : List (List ℕ × Flags)) (now : Room)
      → now.users ≡ room.users → AllByRecursion (λ (m : List ℕ × Flags). home_passes far room.users
      (key m.0) ≡ true → P m) members → AllByRecursion P (new_members far now channel members)
  taken_are P [] now users each = tt
  taken_are P (member ∷ members) now users each =
      let came : (after_all now (member_comes channel member)).users ≡ room.users =
      ap (λ effects. (after_all now effects).users) (sym (append-nil (member_comes channel member)))
      ∙ users_stay now (member_comes channel member ++ []) (members_quiet channel (member ∷ []))
      ∙ users in
      by_test (is_new_member far now channel member) refl
      (taken_are P members (after_all now (member_comes channel member)) came each.1)
      (taken_are P members now users each.1)
    where
      by_test : (b : Bool) → is_new_member far now channel member ≡ b → AllByRecursion P
          (new_members far (after_all now (member_comes channel member)) channel members)
          → AllByRecursion P (new_members far now channel members) → AllByRecursion P
          (cond b (member ∷ new_members far (after_all now (member_comes channel member)) channel
          members) (new_members far now channel members))
      by_test true new more less = (
        each.0 (ap (λ us. home_passes far us (key member.0)) (sym users)
            ∙ (and_not (home_passes far now.users (key member.0))
            (is_member now member.0 channel) new).0),
        more,
      )
      by_test false old more less = less

  taken_few : (members : List (List ℕ × Flags)) (now : Room)
      → length (new_members far now channel members) ≤ length members
  taken_few [] now = omega arith
  taken_few (member ∷ members) now =
      by_test (is_new_member far now channel member)
      (taken_few members (after_all now (member_comes channel member))) (taken_few members now)
    where
      by_test : (b : Bool)
          → length (new_members far (after_all now (member_comes channel member)) channel members)
          ≤ length members → length (new_members far now channel members) ≤ length members
          → length (cond b (member ∷ new_members far (after_all now (member_comes channel member))
          channel members) (new_members far now channel members))
          ≤ suc (length members)
      by_test true more less = omega (arith, more)
      by_test false more less = omega (arith, less)

  all_stored : (members : List (List ℕ × Flags)) → AllByRecursion IsComing members
      → AllByRecursion (λ (m : List ℕ × Flags). IsStoredNick room m.0) members
  all_stored [] each = tt
  all_stored (member ∷ members) each = (each.0.stored, all_stored members each.1)

  all_behind : (members : List (List ℕ × Flags)) → AllByRecursion IsComing members
      → AllByRecursion (λ (m : List ℕ × Flags). home_passes far room.users (key m.0) ≡ true) members
  all_behind [] each = tt
  all_behind (member ∷ members) each = (each.0.passes, all_behind members each.1)

-- whoever is far under the nickname of a member of the other room is that member
module _ (far : List ℕ → Bool) (other room : Room) where
  known : AreTheirs far other room → (member : List ℕ × Flags) → IsTheirMember other member
      → home_passes far room.users (key member.0) ≡ true → IsStoredNick room member.0
  known theirs member is pass = by_row (row room.users (key member.0)) refl pass
    where
      by_row : (o : Option User) → row room.users (key member.0) ≡ o
          → option_map_or (λ (user : User). far user.home) o false ≡ true
          → option_map (λ (user : User). user.nick) o ≡ Some member.0
      by_row None at pass = absurd (false≢true pass)
      by_row (Some user) at pass =
          let they = theirs (key member.0) user at pass in
          let found : they.their ≡ is.user =
          same_Some they.their is.user (sym they.there ∙ is.there) in
          ap Some they.same_nick ∙ ap (λ (u : User). Some u.nick) found ∙ ap Some is.stored

  coming : (channel : List ℕ) → AreTheirs far other room → (members : List (List ℕ × Flags))
      → AllByRecursion (IsTheirMember other) members → AllByRecursion (λ (m : List ℕ × Flags).
      home_passes far room.users (key m.0) ≡ true → IsComing far room channel m) members
  coming channel theirs [] each = tt
  coming channel theirs (member ∷ members) each = (
    λ pass. record { stored = known theirs member each.0 pass; passes = pass },
    coming channel theirs members each.1,
  )

-- ---- what their coming does

given_within : (has : Bool) (which : ModeLetter) (channel nick : List ℕ) → IsBanCarried which
    (Some nick) → AllByRecursion KeepsLimits (flag_given has which channel nick)
given_within true which channel nick is = ((is, tt), tt)
given_within false which channel nick is = tt

comes_within : (channel : List ℕ) (member : List ℕ × Flags) → IsChannel channel
    → AllByRecursion KeepsLimits (member_comes channel member)
comes_within channel member named = (
  named,
  both_all KeepsLimits (flag_given member.1.op letter.Operator channel member.0)
      (flag_given member.1.voice letter.Voice channel member.0)
      (given_within member.1.op letter.Operator channel member.0 tt)
      (given_within member.1.voice letter.Voice channel member.0 tt),
)

all_within : (channel : List ℕ) (members : List (List ℕ × Flags)) → IsChannel channel
    → AllByRecursion KeepsLimits (flat_map (member_comes channel) members)
all_within channel [] named = tt
all_within channel (member ∷ members) named =
    both_all KeepsLimits (member_comes channel member) (flat_map (member_comes channel) members)
    (comes_within channel member named) (all_within channel members named)

-- who comes is judged in the room before the spelling, and comes in the room behind it
all_done : (far : List ℕ → Bool) (room : Room) (channel : List ℕ) (members : List (List ℕ × Flags))
    → EachInTurn DoesSomething (titled_by channel room)
    (flat_map (member_comes channel) (new_members far room channel members))
all_done far room channel members =
    subst (λ come. EachInTurn DoesSomething (titled_by channel room)
    (flat_map (member_comes channel) come))
    (new_titled far channel members room) (members_do far channel members (titled_by channel room))

pub members_come : (far : List ℕ → Bool) (other room : Room) (channel : List ℕ)
    (members : List (List ℕ × Flags)) → IsWellFormed room → IsWellFormed other
    → AreTheirs far other room → AreTheirMembers other channel members
    → AreComing far room channel (new_members far room channel members)
members_come far other room channel members well well_other theirs told =
    let each = taken_are far room channel (IsComing far room channel) members room refl
    (coming far other room channel theirs members told.each) in
    let fewer = taken_few far room channel members room in
    let few = told.few in
    record {
      stored = all_stored far room channel (new_members far room channel members) each;
      far = all_behind far room channel (new_members far room channel members) each;
      few = omega (arith, fewer, few);
      done = all_done far room channel members;
      within = all_within channel (new_members far room channel members) told.named;
    }

spelled : (room : Room) (members : List (List ℕ × Flags)) → AllByRecursion
    (λ (m : List ℕ × Flags). IsStoredNick room m.0) members → map (as_stored room) members ≡ members
spelled room [] stored = refl
spelled room (member ∷ members) stored =
    λ i. (by_row (row room.users (key member.0)) stored.0 i, member.1)
    ∷ spelled room members stored.1 i
  where
    by_row : (o : Option User) → option_map (λ (user : User). user.nick) o ≡ Some member.0
        → option_map_or (λ (user : User). user.nick) o member.0 ≡ member.0
    by_row None at = refl
    by_row (Some user) at = same_Some user.nick member.0 at

pub members_spelled : (far : List ℕ → Bool) (other room : Room) (channel : List ℕ)
    (members : List (List ℕ × Flags)) → IsWellFormed room → IsWellFormed other
    → AreTheirs far other room → AreTheirMembers other channel members → map (as_stored room)
    (new_members far room channel members) ≡ new_members far room channel members
members_spelled far other room channel members well well_other theirs told =
    let come : AreComing far room channel (new_members far room channel members) =
    members_come far other room channel members well well_other theirs told in
    spelled room (new_members far room channel members) come.stored

-- ---- modes and topics

-- of some changes those that raise something are what each of them is
raising_each : (P : ModeChange → Type 0) (changes : List ModeChange) (modes : Modes)
    → AllByRecursion P changes → AllByRecursion P (raising changes modes)
raising_each P [] modes each = tt
raising_each P (change ∷ changes) modes each =
    by_test (raises change.plus change.letter change.word modes)
    (raising_each P changes (mode_step modes change) each.1) (raising_each P changes modes each.1)
  where
    by_test : (b : Bool) → AllByRecursion P (raising changes (mode_step modes change))
        → AllByRecursion P (raising changes modes) → AllByRecursion P
        (cond b (change ∷ raising changes (mode_step modes change)) (raising changes modes))
    by_test true more less = (each.0, more)
    by_test false more less = less

abbrev AreKept : List ModeChange → Type 0
AreKept changes = AllByRecursion (λ (c : ModeChange). IsBanCarried c.letter c.word) changes

pub changes_within : (room : Room) (channel : List ℕ) (changes : List ModeChange) → AreKept changes
    → AllByRecursion KeepsLimits (changes_made channel (raised_in room channel changes))
changes_within room channel changes kept =
    made (raised_in room channel changes) (raised (row room.channels (key channel)))
  where
    raised : (o : Option Channel)
        → AreKept (option_map_or (λ (c : Channel). raising changes c.modes) o [])
    raised None = tt
    raised (Some c) = raising_each
        (λ (change : ModeChange). IsBanCarried change.letter change.word) changes c.modes kept

    made : (those : List ModeChange) → AreKept those
        → AllByRecursion KeepsLimits (changes_made channel those)
    made [] kept = tt
    made (change ∷ those) kept = (kept, tt)

pub topic_within : (channel topic : List ℕ) → IsCarriedText topic → (greater : Bool)
    → AllByRecursion KeepsLimits (if greater then SetTopic by.Home channel topic ∷ [] else [])
topic_within channel topic carried true = (carried, tt)
topic_within channel topic carried false = tt
