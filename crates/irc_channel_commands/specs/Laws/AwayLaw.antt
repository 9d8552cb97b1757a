-- The steps of an AWAY are its user's own, what it sets is a text that can be sent, and it leaves
-- its user another than it was.
use Rattle.std.proofs.Common.{◌≡◌, ◌≢◌, ℕ, Bool, true, false, cond, Option, Some, None, List, []}
use Rattle.std.proofs.Common.{◌∷◌, ◌&&◌, nat_eq, refl, sym, ◌∙◌, ap, inl, true≢false}
use Rattle.std.specs.Cmp.Lexicographic.{pointwise}
use Rattle.std.specs.Option.{IfSome}
use Rattle.std.proofs.lemmas.Bool.{eq-eqb}
use Rattle.std.proofs.lemmas.Option.{same_Some}
use Rattle.irc_names.specs.Fold.{key}
use Rattle.irc_names.specs.Tables.{row}
use Rattle.irc_names.specs.UserTexts.{is_away, IsAway}
use Rattle.irc_users.specs.declared.user.User.{User}
use Rattle.irc_users.specs.declared.user_change.UserChange.TheVariants.{Away}
use Rattle.irc_channels.specs.Texts.{cut_words}
use Rattle.irc_room.specs.effect.Effect.{Effect}
use Rattle.irc_room.specs.effect.Effect.TheVariants.{ChangeUser}
use Rattle.irc_room.specs.InTurn.{EachInTurn}
use Rattle.irc_room.specs.Room.{Room, IsWellFormed}
use Rattle.irc_acts.specs.declared.act.Act.{Act}
use Rattle.irc_acts.specs.declared.act.Act.TheVariants.{Do}
use Rattle.irc_acts.specs.Acts.{effects_among}
use Rattle.irc_acts.specs.ByTest.{by_test}
use Rattle.irc_acts.specs.Own.{IsOwn, AreOwn}
use Rattle.irc_acts.specs.Own as own
use Rattle.irc_acts.specs.Sendable.{AreSendable, CarriesSendable, CarrySendable}
use Rattle.irc_acts.specs.SendableLaws.{nick_stored, own_are_sendable}
use Rattle.irc_channel_commands.specs.Away.{as_away, away_given, away_steps, away_taken}
use Rattle.irc_channel_commands.specs.Away.{is_same_text}
use Rattle.irc_channel_commands.specs.Laws.ChangesLaw.{IsDoing}
use Rattle.irc_channel_commands.specs.Laws.Lawful.{IsLawful}

abbrev pub AwayIsOwn : Type 0
AwayIsOwn = (me : User) (room : Room) (params : List (List ℕ))
    → AreOwn me room (away_steps me params)

-- of a user that is there
abbrev pub AwayDoesSomething : Type 0
AwayDoesSomething = (me : User) (room : Room) (params : List (List ℕ))
    → row room.users (key me.nick) ≡ Some me
    → EachInTurn IsDoing room (effects_among (away_steps me params))

abbrev pub AwayIsSendable : Type 0
AwayIsSendable = (me : User) (room : Room) (params : List (List ℕ)) → IsWellFormed room
    → row room.users (key me.nick) ≡ Some me
    → AreSendable room (away_steps me params)

-- what is so of the change to the text that is given is so of each effect
away_so : (Q : Room → Effect → Type 0) (me : User) (room : Room) (text : Option (List ℕ))
    → (is_same_text me.set.away text ≡ false → Q room (ChangeUser me.nick (Away text)))
    → EachInTurn Q room (effects_among (away_taken me text))
away_so Q me room text so = by_test (λ (acts : List Act). EachInTurn Q room (effects_among acts))
    (is_same_text me.set.away text) [] (Do (ChangeUser me.nick (Away text)) ∷ [])
    (λ same. tt) (λ other. record { now = so other; later = tt })

pub away_is_own : AwayIsOwn
unfolding away_steps
away_is_own me room params =
    away_so (IsOwn me) me room (away_given params) (λ other. own.changes_itself _)

-- ---- what is set is a text

as_within : (bytes : List ℕ) → IfSome (as_away bytes) IsAway
as_within bytes = by (is_away bytes) refl
  where
    by : (b : Bool) → is_away bytes ≡ b → IfSome (cond b (Some bytes) None) IsAway
    by true is = is
    by false is = tt

given_within : (params : List (List ℕ)) → IfSome (away_given params) IsAway
given_within [] = tt
given_within (words ∷ more) = as_within (cut_words words)

away_carries : (me : User) (room : Room) (params : List (List ℕ))
    → CarrySendable room (away_steps me params)
unfolding away_steps
away_carries me room params =
    away_so CarriesSendable me room (away_given params) (λ other. given_within params)

pub away_is_sendable : AwayIsSendable
away_is_sendable me room params well mine =
    own_are_sendable me room (away_steps me params) well
    (nick_stored room well (key me.nick) me mine) (away_is_own me room params)
    (away_carries me room params)

-- ---- it is another than it was

same_bytes : (bytes : List ℕ) → pointwise nat_eq bytes bytes ≡ true
same_bytes [] = refl
same_bytes (byte ∷ bytes) =
    ap (λ b. b && pointwise nat_eq bytes bytes) (eq-eqb byte byte refl) ∙ same_bytes bytes

same_text : (text : Option (List ℕ)) → is_same_text text text ≡ true
same_text None = refl
same_text (Some bytes) = same_bytes bytes

apart : (was text : Option (List ℕ)) → is_same_text was text ≡ false → text ≢ was
apart was text other same =
    true≢false (sym (same_text was) ∙ ap (is_same_text was) (sym same) ∙ other)

pub away_does_something : AwayDoesSomething
unfolding away_steps
away_does_something me room params mine =
    away_so IsDoing me room (away_given params) (λ other user at same.
    apart me.set.away (away_given params) other
    (ap (λ (u : User). u.set.away) (same ∙ same_Some user me (sym at ∙ mine))))

pub away_is_lawful : (params : List (List ℕ)) → IsLawful params (λ me room. away_steps me params)
away_is_lawful params = record {
  own = λ me room. inl (away_is_own me room params);
  carries = λ me room well within mine carried. away_carries me room params;
  alike = λ me room other so. refl;
}
