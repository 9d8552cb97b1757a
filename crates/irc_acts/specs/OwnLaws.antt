-- What follows where each effect of some steps is its user's own.
use Rattle.std.proofs.Common.{◌≡◌, ℕ, true, ◌&&◌, is_some, Some, List, [], ◌∷◌, refl, sym, ◌∙◌, ap}
use Rattle.std.proofs.Common.{subst}
use Rattle.std.specs.Prelude.{⊤}
use Rattle.std.specs.List.{AllByRecursion, list_all}
use Rattle.irc_names.specs.Fold.{key}
use Rattle.irc_names.specs.Tables.{row}
use Rattle.irc_users.specs.declared.user.User.{User}
use Rattle.irc_users.specs.UserTable.{with_change}
use Rattle.irc_channels.specs.declared.channel.Channel.{Channel}
use Rattle.irc_room.specs.effect.Effect.{Effect}
use Rattle.irc_room.specs.Room.{Room, IsWellFormed}
use Rattle.irc_room.specs.Effects.{IsPossible, has_user, has_channel}
use Rattle.irc_room.specs.After.{after}
use Rattle.irc_room.specs.InTurn.{EachInTurn}
use Rattle.irc_room.specs.Lemmas.ModesKept.{same_rows}
use Rattle.irc_room.specs.Lemmas.WellFormedLaw.{after_is_well_formed}
use Rattle.irc_acts.specs.declared.act.Act.{Act}
use Rattle.irc_acts.specs.declared.act.Act.TheVariants.{Answer, Raw, Do}
use Rattle.irc_acts.specs.Acts.{effects_among}
use Rattle.irc_acts.specs.Possible.{ArePossible}
use Rattle.irc_acts.specs.Own.{IsOwn, to_user, to_channel, makes, enters, parts, sets_topic, kicks}
use Rattle.irc_acts.specs.Own.{invites, changes_modes, changes_itself, AreOwn}

-- an answer, a line, or a text: it leaves the room as it is
pub record LeavesRoom (me : User) (room : Room) (effect : Effect) : Type 0 where
  pub own : IsOwn me room effect
  pub same : after room effect ≡ room

abbrev pub IsSaid : User → Room → Act → Type 0
IsSaid me room (Do effect) = LeavesRoom me room effect
IsSaid me room act = ⊤

pub said_own : (me : User) (room : Room) (acts : List Act) → AllByRecursion (IsSaid me room) acts
    → AreOwn me room acts
said_own me room [] all = tt
said_own me room (Answer reply ∷ acts) all = said_own me room acts all.1
said_own me room (Raw line ∷ acts) all = said_own me room acts all.1
said_own me room (Do effect ∷ acts) all = record {
  now = all.0.own;
  later = subst (λ r. AreOwn me r acts) (sym all.0.same) (said_own me room acts all.1);
}

-- Such steps can be done by a user that is there.

-- a user, or a channel, that is found is there under its own name
pub stored_there : (room : Room) → IsWellFormed room → (fold : List ℕ) (found : User)
    → row room.users fold ≡ Some found → has_user room found.nick ≡ true
stored_there room well fold found is =
    ap is_some (ap (row room.users) (well.users_named fold found is) ∙ is)

channel_there : (room : Room) → IsWellFormed room → (fold : List ℕ) (found : Channel)
    → row room.channels fold ≡ Some found → has_channel room found.name ≡ true
channel_there room well fold found is =
    ap is_some (ap (row room.channels) ((well.channels_sound fold found is).named) ∙ is)

pub one_there : (room : Room) (nick : List ℕ) → has_user room nick ≡ true
    → list_all (has_user room) (nick ∷ []) ≡ true
one_there room nick there = ap (λ b. b && true) there

two_there : (room : Room) (nick other : List ℕ) → has_user room nick ≡ true
    → has_user room other ≡ true → list_all (has_user room) (nick ∷ other ∷ []) ≡ true
two_there room nick other there other_there =
    ap (λ b. b && (has_user room other && true)) there ∙ one_there room other other_there

pub own_possible : (me : User) (room : Room) (effect : Effect) → IsWellFormed room
    → has_user room me.nick ≡ true → IsOwn me room effect → IsPossible room effect
own_possible me room effect well there (to_user name other notice words is) = record {
  users_there =
      two_there room me.nick other.nick there (stored_there room well (key name) other is);
  channel_there = refl;
  nick_free = refl;
}
own_possible me room effect well there (to_channel name channel notice words is) = record {
  users_there = one_there room me.nick there;
  channel_there = channel_there room well (key name) channel is;
  nick_free = refl;
}
own_possible me room effect well there (makes name named none) =
    record { users_there = one_there room me.nick there; channel_there = refl; nick_free = refl }
own_possible me room effect well there (enters name channel is outside) =
    record { users_there = one_there room me.nick there; channel_there = refl; nick_free = refl }
own_possible me room effect well there (parts name text channel is member) = record {
  users_there = one_there room me.nick there;
  channel_there = channel_there room well (key name) channel is;
  nick_free = refl;
}
own_possible me room effect well there (sets_topic name text channel is) = record {
  users_there = one_there room me.nick there;
  channel_there = channel_there room well (key name) channel is;
  nick_free = refl;
}
own_possible me room effect well there (kicks name nick text channel other is member known) =
    record {
      users_there =
          two_there room me.nick other.nick there (stored_there room well (key nick) other known);
      channel_there = channel_there room well (key name) channel is;
      nick_free = refl;
    }
own_possible me room effect well there (invites nick name other is named) = record {
  users_there =
      two_there room me.nick other.nick there (stored_there room well (key nick) other is);
  channel_there = refl;
  nick_free = refl;
}
own_possible me room effect well there (changes_modes name changes channel is) = record {
  users_there = one_there room me.nick there;
  channel_there = channel_there room well (key name) channel is;
  nick_free = refl;
}
own_possible me room effect well there (changes_itself change) =
    record { users_there = one_there room me.nick there; channel_there = refl; nick_free = refl }

-- who is a user stays one, and nobody else becomes one
own_stays : (me : User) (room : Room) (effect : Effect) → IsOwn me room effect → (fold : List ℕ)
    → is_some (row (after room effect).users fold) ≡ is_some (row room.users fold)
unfolding after
own_stays me room effect (to_user name other notice words is) fold = refl
own_stays me room effect (to_channel name channel notice words is) fold = refl
own_stays me room effect (makes name named none) fold = refl
own_stays me room effect (enters name channel is outside) fold = refl
own_stays me room effect (parts name text channel is member) fold = refl
own_stays me room effect (sets_topic name text channel is) fold = refl
own_stays me room effect (kicks name nick text channel other is member known) fold = refl
own_stays me room effect (invites nick name other is named) fold = refl
own_stays me room effect (changes_modes name changes channel is) fold = refl
own_stays me room effect (changes_itself change) fold =
    same_rows (key me.nick) (with_change change) room.users fold

-- What own effects are in any well-formed room in which the user is there, each of some is in its
-- turn.
pub own_in_turn : (me : User) (Q : Room → Effect → Type 0)
    → ((room : Room) (effect : Effect) → IsWellFormed room → has_user room me.nick ≡ true
    → IsOwn me room effect → Q room effect)
    → (room : Room) (effects : List Effect) → IsWellFormed room → has_user room me.nick ≡ true
    → EachInTurn (IsOwn me) room effects → EachInTurn Q room effects
own_in_turn me Q so room [] well there own = tt
own_in_turn me Q so room (effect ∷ effects) well there own = record {
  now = so room effect well there own.now;
  later = own_in_turn me Q so (after room effect) effects
      (after_is_well_formed room effect well (own_possible me room effect well there own.now))
      (own_stays me room effect own.now (key me.nick) ∙ there) own.later;
}

pub own_are_possible : (me : User) (room : Room) (acts : List Act) → IsWellFormed room
    → has_user room me.nick ≡ true → AreOwn me room acts
    → ArePossible room acts
own_are_possible me room acts =
    own_in_turn me IsPossible (own_possible me) room (effects_among acts)
