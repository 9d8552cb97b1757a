-- What the effects of a server's deed are: none invites anybody or gives a nickname, and each that
-- is done in the room of the side is done at a server.
use Rattle.std.proofs.Common.{◌≡◌, ℕ, Bool, true, false, not, ◌&&◌, List, [], ◌∷◌, ◌++◌, refl, ◌∙◌}
use Rattle.std.proofs.Common.{ap, if◌then◌else◌}
use Rattle.std.specs.List.{AllByRecursion, flat_map}
use Rattle.irc_users.specs.declared.user.User.{User}
use Rattle.irc_channels.specs.declared.flags.Flags.{Flags}
use Rattle.irc_modes.specs.declared.modes.ModeChange.{ModeChange}
use Rattle.irc_modes.specs.declared.modes.ModeLetter.{ModeLetter}
use Rattle.irc_modes.specs.declared.modes.ModeLetter.TheVariants as letter
use Rattle.irc_batch.specs.Batches.{Sent}
use Rattle.irc_room.specs.effect.By.TheVariants as by
use Rattle.irc_room.specs.effect.Effect.{Effect}
use Rattle.irc_room.specs.effect.Effect.TheVariants.{AddUser, Rename, Quit, SetTopic, Say, Invite}
use Rattle.irc_room.specs.effect.Effect.TheVariants.{ChangeUser}
use Rattle.irc_room.specs.After.{after}
use Rattle.irc_room.specs.Effects.{brings_free}
use Rattle.irc_room.specs.InTurn.{after_all, EachInTurn}
use Rattle.irc_room.specs.OtherInvitations.{AreAlike, IsTakenAlike}
use Rattle.irc_room.specs.Room.{Room}
use Rattle.irc_room.specs.Lemmas.AlikeLaw.{alike_stay_alike, alike_take_alike}
use Rattle.irc_merge.specs.CanBeDone.{DoesSomething}
use Rattle.irc_merge.specs.Deeds.{changes_made, flag_given, is_greater_topic, member_comes}
use Rattle.irc_merge.specs.Deeds.{raised_in, sets, tops, effects_of}
use Rattle.irc_merge.specs.Quits.{quits_of}
use Rattle.irc_stage.specs.EffectTold.{Served, all_changed, changed, counts, is_of_here, view_after}
use Rattle.irc_stage.specs.View.{View}
use Rattle.irc_follow.specs.Lemmas.SaidEffect.{doing}

-- ---- effects that leave clients as they are

abbrev pub is_calm : Effect → Bool
is_calm (Rename nick new) = false
is_calm (Invite by nick channel) = false
is_calm effect = true

-- and users too, and are nobody's who is here
abbrev pub is_quiet : Effect → Bool
is_quiet (AddUser user) = false
is_quiet (Rename nick new) = false
is_quiet (Quit nick text) = false
is_quiet (ChangeUser nick change) = false
is_quiet (Say by notice to text) = false
is_quiet effect = true

abbrev pub AllCalm : List Effect → Type 0
AllCalm effects = AllByRecursion (λ effect. is_calm effect ≡ true) effects

abbrev pub AllQuiet : List Effect → Type 0
AllQuiet effects = AllByRecursion (λ effect. is_quiet effect ≡ true) effects

pub quits_calm : (text : List ℕ) (users : List User) → AllCalm (quits_of text users)
quits_calm text [] = tt
quits_calm text (user ∷ users) = (refl, quits_calm text users)

module _ (is : Effect → Bool) where
  both_all : (a b : List Effect) → AllByRecursion (λ effect. is effect ≡ true) a → AllByRecursion
      (λ effect. is effect ≡ true) b → AllByRecursion (λ effect. is effect ≡ true) (a ++ b)
  both_all [] b one other = other
  both_all (effect ∷ a) b one other = (one.0, both_all a b one.1 other)

given_calm : (has : Bool) (which : ModeLetter) (channel nick : List ℕ)
    → AllCalm (flag_given has which channel nick)
given_calm true which channel nick = (refl, tt)
given_calm false which channel nick = tt

given_quiet : (has : Bool) (which : ModeLetter) (channel nick : List ℕ)
    → AllQuiet (flag_given has which channel nick)
given_quiet true which channel nick = (refl, tt)
given_quiet false which channel nick = tt

pub members_calm : (channel : List ℕ) (members : List (List ℕ × Flags))
    → AllCalm (flat_map (member_comes channel) members)
members_calm channel [] = tt
members_calm channel (member ∷ members) = (
  refl,
  both_all is_calm (flag_given member.1.op letter.Operator channel member.0
      ++ flag_given member.1.voice letter.Voice channel member.0)
      (flat_map (member_comes channel) members)
      (both_all is_calm (flag_given member.1.op letter.Operator channel member.0)
      (flag_given member.1.voice letter.Voice channel member.0)
      (given_calm member.1.op letter.Operator channel member.0)
      (given_calm member.1.voice letter.Voice channel member.0))
      (members_calm channel members),
)

pub members_quiet : (channel : List ℕ) (members : List (List ℕ × Flags))
    → AllQuiet (flat_map (member_comes channel) members)
members_quiet channel [] = tt
members_quiet channel (member ∷ members) = (
  refl,
  both_all is_quiet (flag_given member.1.op letter.Operator channel member.0
      ++ flag_given member.1.voice letter.Voice channel member.0)
      (flat_map (member_comes channel) members)
      (both_all is_quiet (flag_given member.1.op letter.Operator channel member.0)
      (flag_given member.1.voice letter.Voice channel member.0)
      (given_quiet member.1.op letter.Operator channel member.0)
      (given_quiet member.1.voice letter.Voice channel member.0))
      (members_quiet channel members),
)

-- changes of modes are one effect, or none where they raise nothing
made_calm : (channel : List ℕ) (changes : List ModeChange) → AllCalm (changes_made channel changes)
made_calm channel [] = tt
made_calm channel (change ∷ changes) = (refl, tt)

made_quiet : (channel : List ℕ) (changes : List ModeChange)
    → AllQuiet (changes_made channel changes)
made_quiet channel [] = tt
made_quiet channel (change ∷ changes) = (refl, tt)

pub sets_calm : (room : Room) (server channel : List ℕ) (changes : List ModeChange)
    → AllCalm (effects_of room (sets server channel changes))
sets_calm room server channel changes = made_calm channel (raised_in room channel changes)

pub sets_quiet : (room : Room) (server channel : List ℕ) (changes : List ModeChange)
    → AllQuiet (effects_of room (sets server channel changes))
sets_quiet room server channel changes = made_quiet channel (raised_in room channel changes)

-- and so is a topic
pub tops_calm : (room : Room) (server channel topic : List ℕ)
    → AllCalm (effects_of room (tops server channel topic))
tops_calm room server channel topic = by_test (is_greater_topic room channel topic)
  where
    by_test : (b : Bool) → AllCalm (if b then SetTopic by.Home channel topic ∷ [] else [])
    by_test true = (refl, tt)
    by_test false = tt

pub tops_quiet : (room : Room) (server channel topic : List ℕ)
    → AllQuiet (effects_of room (tops server channel topic))
tops_quiet room server channel topic = by_test (is_greater_topic room channel topic)
  where
    by_test : (b : Bool) → AllQuiet (if b then SetTopic by.Home channel topic ∷ [] else [])
    by_test true = (refl, tt)
    by_test false = tt

-- ---- users stay

quiet_users : (room : Room) (effect : Effect) → is_quiet effect ≡ true
    → (after room effect).users ≡ room.users
unfolding after
quiet_users room (AddUser user) is = cc is
quiet_users room (Rename nick new) is = cc is
quiet_users room (Quit nick text) is = cc is
quiet_users room (ChangeUser nick change) is = cc is
quiet_users room effect is = refl

pub users_stay : (room : Room) (effects : List Effect) → AllQuiet effects
    → (after_all room effects).users ≡ room.users
users_stay room [] all = refl
users_stay room (effect ∷ effects) all =
    users_stay (after room effect) effects all.1 ∙ quiet_users room effect all.0

-- ---- one after another at a server

module _ (view : View) where
  abbrev pub in_room : Room → View
  in_room room = record view { room = room }

  pub calm_view : (room : Room) (effect : Effect) → is_calm effect ≡ true
      → view_after (in_room room) effect ≡ in_room (after room effect)
  calm_view room (Rename nick new) is = cc is
  calm_view room (Invite by nick channel) is = cc is
  calm_view room effect is = refl

  -- it does something in the room of the side, and is no doing of the server's own users
  pub record IsCounted (room : Room) (effect : Effect) : Type 0 where
    pub does_it : DoesSomething room effect
    pub away : is_of_here (in_room room) effect ≡ false

  quiet_away : (room : Room) (effect : Effect) → is_quiet effect ≡ true
      → is_of_here (in_room room) effect ≡ false
  quiet_away room (AddUser user) is = cc is
  quiet_away room (Quit nick text) is = cc is
  quiet_away room (Say by notice to text) is = cc is
  quiet_away room effect is = refl

  pub quiet_counted : (room : Room) (effects : List Effect) → AllQuiet effects
      → EachInTurn DoesSomething room effects → EachInTurn IsCounted room effects
  quiet_counted room [] quiet each = tt
  quiet_counted room (effect ∷ effects) quiet each = record {
    now = record { does_it = each.now; away = quiet_away room effect quiet.0 };
    later = quiet_counted (after room effect) effects quiet.1 each.later;
  }

  here_alike : (room other : Room) (effect : Effect) → AreAlike room other
      → is_of_here (in_room room) effect ≡ is_of_here (in_room other) effect
  here_alike room other (Quit nick text) alike = ap
      (λ users. is_of_here (in_room (record room { users = users })) (Quit nick text)) alike.users
  here_alike room other (Say by notice to text) alike = ap (λ users.
      is_of_here (in_room (record room { users = users })) (Say by notice to text)) alike.users
  here_alike room other effect alike = refl

  pub counted_there : (room other : Room) (effect : Effect) → AreAlike room other
      → IsCounted other effect → counts (in_room room) effect ≡ true
  counted_there room other effect alike counted =
      let taken : IsTakenAlike room other effect = alike_take_alike room other effect alike in
      ap (λ b. b && (brings_free room effect && not (is_of_here (in_room room) effect)))
      (taken.does ∙ doing other effect counted.does_it.possible counted.does_it.busy)
      ∙ ap (λ b. b && not (is_of_here (in_room room) effect))
      (taken.free ∙ counted.does_it.possible.nick_free)
      ∙ ap not (here_alike room other effect alike ∙ counted.away)

  abbrev pub at_room : Room → List Sent → Served
  at_room room out = record { state = in_room room; out = out }

  pub all_view : (effects : List Effect) (room other : Room) (out : List Sent)
      → AreAlike room other → AllCalm effects → EachInTurn IsCounted other effects
      → (all_changed effects (at_room room out)).state ≡ in_room (after_all room effects)
  all_view [] room other out alike calm counted = refl
  all_view (effect ∷ effects) room other out alike calm counted =
      ap (λ b. (all_changed effects (if b then changed effect (at_room room out)
      else at_room room out)).state)
      (counted_there room other effect alike counted.now)
      ∙ ap (λ v. (all_changed effects
      (record { state = v; out = (changed effect (at_room room out)).out })).state)
      (calm_view room effect calm.0)
      ∙ all_view effects (after room effect) (after other effect) (changed effect
      (at_room room out)).out (alike_stay_alike room other effect alike) calm.1 counted.later
