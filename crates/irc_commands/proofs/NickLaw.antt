-- A NICK takes a nickname that is one and free, or its own in another spelling; and it looks at no
-- invitation.
use Rattle.std.proofs.Common.{◌≡◌, ℕ, not, Some, List, [], ◌∷◌, nat_eq, refl, ap}
use Rattle.std.proofs.Common.{if◌then◌else◌}
use Rattle.std.specs.Cmp.Lexicographic.{pointwise}
use Rattle.std.proofs.lemmas.Bool.{not-false}
use Rattle.irc_names.specs.Fold.{key}
use Rattle.irc_names.specs.Names.{is_nick}
use Rattle.irc_names.specs.Tables.{Table, row}
use Rattle.irc_users.specs.declared.user.User.{User}
use Rattle.irc_numerics.specs.declared.replies.Reply.{Reply}
use Rattle.irc_numerics.specs.declared.replies.Reply.TheVariants.{ErroneousNickname, NicknameInUse}
use Rattle.irc_room.specs.effect.Effect.TheVariants.{Rename}
use Rattle.irc_room.specs.Room.{Room}
use Rattle.irc_acts.specs.declared.act.Act.{Act}
use Rattle.irc_acts.specs.declared.act.Act.TheVariants.{Answer, Do}
use Rattle.irc_acts.specs.Acts.{client_words}
use Rattle.irc_acts.specs.ByTest.{by_test}
use Rattle.irc_acts.specs.OtherInvitations.{AreAlike}
use Rattle.irc_commands.specs.Decisions.{Decided, does}
use Rattle.irc_commands.specs.Nick.{is_anothers, nick_taken, nick_steps}
use Rattle.irc_commands.proofs.LawfulRows.{IsSoDecided, IsLawfulRow}

module _ (me : User) (room : Room) (who : List ℕ) (params : List (List ℕ)) (Q : Decided → Type 0)
    (so : IsSoDecided room who params Q) (is : row room.users (key who) ≡ Some me) where
  answered : (reply : Reply) → Q (does (Answer reply ∷ []))
  answered reply = so.own me (Answer reply ∷ []) is tt (λ well within mine carried. tt)

  taken_so : (nickname : List ℕ) → Q (does (nick_taken room me nickname))
  taken_so nickname =
      let S = λ (steps : List Act). Q (does steps) in
      let renames : List Act =
      if pointwise nat_eq nickname me.nick then [] else Do (Rename me.nick nickname) ∷ [] in
      let free : List Act =
      if is_anothers room me nickname then Answer (NicknameInUse nickname) ∷ [] else renames in
      by_test S (not (is_nick nickname))
      (Answer (ErroneousNickname (client_words nickname)) ∷ []) free
      (λ erroneous. answered _)
      (λ fine. by_test S (is_anothers room me nickname) (Answer (NicknameInUse nickname) ∷ [])
      renames (λ taken. answered _)
      (λ not_taken. by_test S (pointwise nat_eq nickname me.nick) []
      (Do (Rename me.nick nickname) ∷ []) (λ same. so.silent)
      (λ other. so.renamed me nickname is (not-false (is_nick nickname) fine) not_taken)))

  nick_so : (words : List (List ℕ)) → Q (does (nick_steps room me words))
  unfolding nick_steps
  nick_so [] = answered _
  nick_so ([] ∷ more) = answered _
  nick_so ((b ∷ bytes) ∷ more) = taken_so (b ∷ bytes)

nick_alike : (room other : Room) → AreAlike room other → (me : User) (params : List (List ℕ))
    → nick_steps room me params ≡ nick_steps other me params
unfolding nick_steps
nick_alike room other alike me [] = refl
nick_alike room other alike me ([] ∷ more) = refl
nick_alike room other alike me ((b ∷ bytes) ∷ more) =
    ap (λ (users : Table User). nick_taken (record { users = users; channels = room.channels }) me
    (b ∷ bytes)) alike.users

pub nick_is_lawful : (params : List (List ℕ))
    → IsLawfulRow params (λ me room. does (nick_steps room me params))
nick_is_lawful params = record {
  cases = λ me room who Q so is. nick_so me room who params Q so is params;
  alike = λ me room other so. ap does (nick_alike room other so.alike me params);
}
