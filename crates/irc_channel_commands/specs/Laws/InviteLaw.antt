-- The steps of an INVITE are its user's own, so they can be done and sent; each does something; and
-- they look at no invitation.
use Rattle.std.proofs.Common.{◌≡◌, ℕ, Option, Some, None, List, [], ◌∷◌, refl, true, sym, ◌∙◌, ap}
use Rattle.std.proofs.Common.{inl}
use Rattle.std.specs.Option.{option_map}
use Rattle.irc_names.specs.Fold.{key}
use Rattle.irc_names.specs.Names.{is_channel}
use Rattle.irc_names.specs.Tables.{row}
use Rattle.irc_users.specs.declared.user.User.{User}
use Rattle.irc_channels.specs.declared.channel.Channel.{Channel}
use Rattle.irc_numerics.specs.declared.replies.Reply.TheVariants.{NoSuchChannel}
use Rattle.irc_room.specs.effect.Effect.{Effect}
use Rattle.irc_room.specs.effect.Effect.TheVariants.{Invite}
use Rattle.irc_room.specs.Room.{Room, IsWellFormed}
use Rattle.irc_room.specs.InTurn.{EachInTurn}
use Rattle.irc_room.specs.Effects.{has_user}
use Rattle.irc_acts.specs.declared.act.Act.{Act}
use Rattle.irc_acts.specs.declared.act.Act.TheVariants.{Answer}
use Rattle.irc_acts.specs.Acts.{client_words, effects_among}
use Rattle.irc_acts.specs.ByTest.{by_test}
use Rattle.irc_acts.specs.Own.{IsOwn, IsChannelName, AreOwn}
use Rattle.irc_acts.specs.Refusing.{first_refusal}
use Rattle.irc_acts.specs.Doing.{AreDoing, DoesSomething}
use Rattle.irc_acts.specs.OtherInvitations.{uninviting, AreAlike}
use Rattle.irc_acts.specs.OwnLaws.{own_are_possible}
use Rattle.irc_acts.specs.Possible.{ArePossible}
use Rattle.irc_acts.specs.Sendable.{AreSendable, CarriesSendable, CarrySendable}
use Rattle.irc_acts.specs.SendableLaws.{nick_stored, own_are_sendable}
use Rattle.irc_acts.specs.Own as own
use Rattle.irc_channel_commands.specs.Invite.{invite_refusals, invites, invites_found, invites_user}
use Rattle.irc_channel_commands.specs.Invite.{invite_steps}
use Rattle.irc_channel_commands.specs.Laws.KickLaw.{refused_so}
use Rattle.irc_channel_commands.specs.Laws.Lawful.{IsLawful}

abbrev pub InviteIsOwn : Type 0
InviteIsOwn =
    (me : User) (room : Room) (nick name : List ℕ) → AreOwn me room (invite_steps room me nick name)

-- ---- what is so of each Invite of a user to a channel's name is so of each effect of an INVITE

pub record IsSoOfInvites (Q : Room → Effect → Type 0) (me : User) (room : Room) : Type 0 where
  pub invites_it : (nick name : List ℕ) (other : User) → row room.users (key nick) ≡ Some other
      → IsChannelName room name → Q room (Invite me.nick other.nick name)

module _ (Q : Room → Effect → Type 0) (me : User) (room : Room) (so : IsSoOfInvites Q me room)
    (nick name : List ℕ) where
  invites_so : (other : User) → row room.users (key nick) ≡ Some other → (given : List ℕ)
      → IsChannelName room given → EachInTurn Q room (effects_among (invites me other given))
  invites_so other known given named =
      record { now = so.invites_it nick given other known named; later = tt }

  found_so : (other : User) → row room.users (key nick) ≡ Some other
      → (found : Option Channel) → row room.channels (key name) ≡ found
      → EachInTurn Q room (effects_among (invites_found me other name found))
  found_so other known None is =
      by_test (λ (steps : List Act). EachInTurn Q room (effects_among steps)) (is_channel name)
      (invites me other name)
      (Answer (NoSuchChannel (client_words name)) ∷ [])
      (λ fine. invites_so other known name (own.by_rule name fine is)) (λ bad. tt)
  found_so other known (Some channel) is =
      refused_so Q room (first_refusal (invite_refusals me other channel))
      (invites me other channel.name)
      (invites_so other known channel.name (own.of_found name channel is))

  pub user_so : (found : Option User) → row room.users (key nick) ≡ found
      → EachInTurn Q room (effects_among (invites_user room me nick name found))
  user_so None known = tt
  user_so (Some other) known = found_so other known (row room.channels (key name)) refl

pub all_so : (Q : Room → Effect → Type 0) (me : User) (room : Room) → IsSoOfInvites Q me room
    → (nick name : List ℕ) → EachInTurn Q room (effects_among (invite_steps room me nick name))
unfolding invite_steps
all_so Q me room so nick name = user_so Q me room so nick name (row room.users (key nick)) refl

pub invite_is_own : InviteIsOwn
invite_is_own me room = all_so (IsOwn me) me room
    (record { invites_it = λ nick name other known named. own.invites nick name other known named })

-- A user's INVITE can be done.
abbrev pub InviteIsPossible : Type 0
InviteIsPossible = (me : User) (room : Room) (nick name : List ℕ) → IsWellFormed room
    → has_user room me.nick ≡ true
    → ArePossible room (invite_steps room me nick name)

-- It does something: whoever is invited is told.
abbrev pub InviteDoes : Type 0
InviteDoes =
    (me : User) (room : Room) (nick name : List ℕ) → AreDoing room (invite_steps room me nick name)

-- Whoever is invited already, its steps are the same.
abbrev pub InviteLooksAtNoInvitation : Type 0
InviteLooksAtNoInvitation = (me : User) (room other : Room) (nick name : List ℕ)
    → AreAlike room other
    → invite_steps room me nick name ≡ invite_steps other me nick name

pub invite_is_possible : InviteIsPossible
invite_is_possible me room nick name well there =
    own_are_possible me room (invite_steps room me nick name) well there
    (invite_is_own me room nick name)

pub invite_does : InviteDoes
invite_does me room =
    all_so DoesSomething me room (record { invites_it = λ nick name other known named. refl })

found_aside : (me other : User) (name : List ℕ) (found : Option Channel)
    → invites_found me other name found ≡ invites_found me other name (option_map uninviting found)
found_aside me other name None = refl
found_aside me other name (Some channel) = refl

user_alike : (me : User) (room now : Room) (nick name : List ℕ)
    → AreAlike room now → (found : Option User)
    → invites_user room me nick name found ≡ invites_user now me nick name found
user_alike me room now nick name alike None = refl
user_alike me room now nick name alike (Some other) =
    found_aside me other name (row room.channels (key name))
    ∙ ap (invites_found me other name) (alike.channels (key name))
    ∙ sym (found_aside me other name (row now.channels (key name)))

pub invite_looks_at_no_invitation : InviteLooksAtNoInvitation
unfolding invite_steps
invite_looks_at_no_invitation me room other nick name alike =
    user_alike me room other nick name alike (row room.users (key nick))
    ∙ ap (λ users. invites_user other me nick name (row users (key nick))) alike.users

-- of a user that is there: the names that it has are stored, or keep the rule
abbrev pub InviteIsSendable : Type 0
InviteIsSendable = (me : User) (room : Room) (nick name : List ℕ) → IsWellFormed room
    → row room.users (key me.nick) ≡ Some me
    → AreSendable room (invite_steps room me nick name)

pub invite_carries : (me : User) (room : Room) (nick name : List ℕ)
    → CarrySendable room (invite_steps room me nick name)
invite_carries me room =
    all_so CarriesSendable me room (record { invites_it = λ nick name other known named. tt })

pub invite_is_sendable : InviteIsSendable
invite_is_sendable me room nick name well mine =
    own_are_sendable me room (invite_steps room me nick name) well
    (nick_stored room well (key me.nick) me mine) (invite_is_own me room nick name)
    (invite_carries me room nick name)

pub invite_is_lawful : {given : List (List ℕ)} (nick name : List ℕ)
    → IsLawful given (λ me room. invite_steps room me nick name)
invite_is_lawful nick name = record {
  own = λ me room. inl (invite_is_own me room nick name);
  carries = λ me room well within mine carried. invite_carries me room nick name;
  alike = λ me room other so. invite_looks_at_no_invitation me room other nick name so.alike;
}
