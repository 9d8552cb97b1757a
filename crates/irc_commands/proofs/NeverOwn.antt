-- What no effect is that is its user's own.
use Rattle.std.proofs.Common.{◌≡◌, ℕ, Bool, true, false, ◌||◌, List, [], ◌∷◌, map, refl, ◌∙◌, ap}
use Rattle.std.specs.List.{list_any}
use Rattle.irc_users.specs.declared.user.User.{User}
use Rattle.irc_channels.specs.declared.channel.Channel.{Channel}
use Rattle.irc_numerics.specs.declared.replies.Reply.{Reply}
use Rattle.arrayvec.specs.ArrayVec.{ArrayVec}
use Rattle.irc_room.specs.effect.Effect.{Effect}
use Rattle.irc_room.specs.effect.Effect.TheVariants.{AddUser, Quit, Rename}
use Rattle.irc_room.specs.Room.{Room}
use Rattle.irc_room.specs.After.{after}
use Rattle.irc_acts.specs.declared.act.Act.{Act}
use Rattle.irc_acts.specs.declared.act.Act.TheVariants.{Answer, Raw, Do}
use Rattle.irc_acts.specs.Own.{IsOwn, to_user, AreOwn}
use Rattle.irc_channel_commands.specs.Join.{leaves}
use Rattle.irc_commands.specs.Comings.{adds_user, adds_or_ends, renames_other}

-- a test that fails for all such steps
pub record IsNeverOwn (me : User) (test : Act → Bool) : Type 0 where
  pub of_answers : (reply : Reply) → test (Answer reply) ≡ false
  pub of_lines : (line : ArrayVec ℕ) → test (Raw line) ≡ false
  pub of_own : (room : Room) (effect : Effect) → IsOwn me room effect → test (Do effect) ≡ false

pub never_own : (me : User) (test : Act → Bool) → IsNeverOwn me test
    → (room : Room) (acts : List Act) → AreOwn me room acts → list_any test acts ≡ false
never_own me test never room [] own = refl
never_own me test never room (Answer reply ∷ acts) own =
    ap (λ b. b || list_any test acts) (never.of_answers reply)
    ∙ never_own me test never room acts own
never_own me test never room (Raw line ∷ acts) own =
    ap (λ b. b || list_any test acts) (never.of_lines line) ∙ never_own me test never room acts own
never_own me test never room (Do effect ∷ acts) own =
    ap (λ b. b || list_any test acts) (never.of_own room effect own.now)
    ∙ never_own me test never (after room effect) acts own.later

-- ---- who is a user, and by which nickname

-- whether a step makes somebody a user, gives another nickname, or makes a user nobody
abbrev is_coming : Act → Bool
is_coming (Do (AddUser user)) = true
is_coming (Do (Rename nick new)) = true
is_coming (Do (Quit nick text)) = true
is_coming act = false

own_is_none : (me : User) (room : Room) (effect : Effect) → IsOwn me room effect
    → is_coming (Do effect) ≡ false
own_is_none me room effect (to_user name other notice words is) = refl
own_is_none me room effect own = refl

never_coming : (me : User) (test : Act → Bool)
    → ((act : Act) → is_coming act ≡ false → test act ≡ false) → IsNeverOwn me test
never_coming me test fails = record {
  of_answers = λ reply. fails (Answer reply) refl;
  of_lines = λ line. fails (Raw line) refl;
  of_own = λ room effect own. fails (Do effect) (own_is_none me room effect own);
}

pub own_adds_nobody : (me : User) → IsNeverOwn me adds_user
own_adds_nobody me = never_coming me adds_user by_act
  where
    by_act : (act : Act) → is_coming act ≡ false → adds_user act ≡ false
    by_act (Do (AddUser user)) none = none
    by_act act none = refl

pub own_ends_nobody : (me : User) → IsNeverOwn me adds_or_ends
own_ends_nobody me = never_coming me adds_or_ends by_act
  where
    by_act : (act : Act) → is_coming act ≡ false → adds_or_ends act ≡ false
    by_act (Do (AddUser user)) none = none
    by_act (Do (Quit nick text)) none = none
    by_act act none = refl

pub own_renames_nobody : (me : User) (who : List ℕ) → IsNeverOwn me (renames_other who)
own_renames_nobody me who = never_coming me (renames_other who) by_act
  where
    by_act : (act : Act) → is_coming act ≡ false → renames_other who act ≡ false
    by_act (Do (Rename nick new)) none = absurd (cc none)
    by_act act none = refl

-- a test that fails for each channel that is left
pub none_leaving : (me : User) (test : Act → Bool) (channels : List Channel) → ((channel : Channel)
    → test (leaves me channel) ≡ false) → list_any test (map (leaves me) channels) ≡ false
none_leaving me test [] each = refl
none_leaving me test (channel ∷ channels) each =
    ap (λ b. b || list_any test (map (leaves me) channels)) (each channel)
    ∙ none_leaving me test channels each
