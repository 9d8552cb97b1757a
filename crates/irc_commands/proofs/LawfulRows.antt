-- A row of the command table with its laws.
use Rattle.std.proofs.Common.{◌≡◌, ◌⊎◌, inl, inr, ℕ, zero, suc, Bool, true, false, cond, Some, List}
use Rattle.std.proofs.Common.{[], ◌∷◌, map, drop, refl, sym, ap, subst}
use Rattle.std.specs.List.{AllByRecursion}
use Rattle.arrayvec.specs.ArrayVec.{ArrayVec}
use Rattle.irc_names.specs.Fold.{key}
use Rattle.irc_names.specs.Names.{is_nick}
use Rattle.irc_names.specs.Tables.{row}
use Rattle.irc_line.specs.Carried.{IsCarried}
use Rattle.irc_users.specs.declared.user.User.{User}
use Rattle.irc_room.specs.effect.Effect.{Effect}
use Rattle.irc_room.specs.effect.Effect.TheVariants.{Rename, Quit}
use Rattle.irc_room.specs.Room.{Room}
use Rattle.irc_room.specs.InTurn.{EachInTurn}
use Rattle.irc_acts.specs.declared.act.Act.{Act}
use Rattle.irc_acts.specs.declared.act.Act.TheVariants.{Raw, Do}
use Rattle.irc_acts.specs.Acts.{effects_among}
use Rattle.irc_acts.specs.Moves.{own_channels}
use Rattle.irc_acts.specs.OtherInvitations.{AreAlikeFor}
use Rattle.irc_acts.specs.Own.{IsOwn, AreOwn}
use Rattle.irc_acts.specs.Sendable.{CarriesSendable}
use Rattle.irc_acts.specs.Words.{reason_given}
use Rattle.irc_queries.specs.Laws.OnlyAsks.{OnlyAsks}
use Rattle.irc_channel_commands.specs.Join.{leaves}
use Rattle.irc_channel_commands.specs.Laws.Lawful.{CarryGiven, IsLawful}
use Rattle.irc_commands.specs.Decisions.{Decided, nothing, does}
use Rattle.irc_commands.specs.Nick.{is_anothers}

-- so it is in each case that can come of a user's line
pub record IsSoDecided (room : Room) (who : List ℕ) (params : List (List ℕ))
    (Q : Decided → Type 0) : Type 0 where
  pub silent : Q nothing
  pub own : (me : User) (steps : List Act) → row room.users (key who) ≡ Some me
      → AreOwn me room steps → CarryGiven me room params steps → Q (does steps)
  pub renamed : (me : User) (nickname : List ℕ) → row room.users (key who) ≡ Some me
      → is_nick nickname ≡ true → is_anothers room me nickname ≡ false
      → Q (does (Do (Rename me.nick nickname) ∷ []))
  pub leaves_all : (me : User) → row room.users (key who) ≡ Some me
      → Q (does (map (leaves me) (own_channels room me)))
  pub quits : (me : User) (reason : List ℕ) (line : ArrayVec ℕ)
      → row room.users (key who) ≡ Some me → reason ≡ reason_given params me.nick
      → Q (record { steps = Do (Quit me.nick reason) ∷ Raw line ∷ []; close = true })

-- What a row does is one of these cases, so each of its effects is possible, does something and is
-- its user's own doing, and what it carries can be sent; and it is the same whoever else is
-- invited, so at the user's home what it is in the whole room.
pub record IsLawfulRow (params : List (List ℕ)) (served : User → Room → Decided) : Type 1 where
  pub cases : (me : User) (room : Room) (who : List ℕ) (Q : Decided → Type 0)
      → IsSoDecided room who params Q → row room.users (key who) ≡ Some me → Q (served me room)
  pub alike : (me : User) (room other : Room) → AreAlikeFor me.nick room other
      → served me room ≡ served me other

-- ---- rows by which a user stays, and keeps its nickname

behind_carried : (n : ℕ) (params : List (List ℕ)) → AllByRecursion IsCarried params
    → AllByRecursion IsCarried (drop n params)
behind_carried zero params all = all
behind_carried (suc n) [] all = tt
behind_carried (suc n) (word ∷ params) all = behind_carried n params all.1

own_or_leaves : (me : User) (room : Room) (who : List ℕ) (params : List (List ℕ))
    (Q : Decided → Type 0) → IsSoDecided room who params Q → row room.users (key who) ≡ Some me
    → (steps : List Act) → CarryGiven me room params steps
    → AreOwn me room steps ⊎ (steps ≡ map (leaves me) (own_channels room me)) → Q (does steps)
own_or_leaves me room who params Q so is steps carries (inl own) = so.own me steps is own carries
own_or_leaves me room who params Q so is steps carries (inr all) =
    subst (λ (acts : List Act). Q (does acts)) (sym all) (so.leaves_all me is)

-- of a command that carries no word but those behind the first so many
pub lawful : (n : ℕ) (params : List (List ℕ)) {steps : User → Room → List Act}
    → IsLawful (drop n params) steps → IsLawfulRow params (λ me room. does (steps me room))
lawful n params {steps} laws = record {
  cases = λ me room who Q so is. own_or_leaves me room who params Q so is (steps me room)
      (λ well within mine carried.
      laws.carries me room well within mine (behind_carried n params carried))
      (laws.own me room);
  alike = λ me room other so. ap does (laws.alike me room other so);
}

quiet_so : (Q : Room → Effect → Type 0) (room : Room) (steps : List Act)
    → effects_among steps ≡ [] → EachInTurn Q room (effects_among steps)
quiet_so Q room steps none = subst (EachInTurn Q room) (sym none) tt

pub asks : (params : List (List ℕ)) {steps : User → Room → List Act}
    → OnlyAsks steps → IsLawfulRow params (λ me room. does (steps me room))
asks params {steps} only = lawful 0 params (record {
  own = λ me room. inl (quiet_so (IsOwn me) room (steps me room) (only.answers me room));
  carries = λ me room well within mine carried.
      quiet_so CarriesSendable room (steps me room) (only.answers me room);
  alike = λ me room other so. only.alike me room other so.alike;
})

-- of one that says the same in every room
pub says : (params : List (List ℕ)) (steps : List Act) → effects_among steps ≡ []
    → IsLawfulRow params (λ me room. does steps)
says params steps none =
    let only : OnlyAsks (λ me room. steps) =
    record { answers = λ me room. none; alike = λ me room other alike. refl } in
    asks params only

pub either : (params : List (List ℕ)) (test : Bool) {one other : User → Room → Decided}
    → IsLawfulRow params one → IsLawfulRow params other
    → IsLawfulRow params (λ me room. cond test (one me room) (other me room))
either params true one other = one
either params false one other = other
