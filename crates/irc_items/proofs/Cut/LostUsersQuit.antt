-- The users of a server that is lost can quit one after another: each is there when its turn comes.
use Rattle.std.proofs.Common.{◌≡◌, ℕ, Bool, true, false, cond, ◌&&◌, Some, None, is_some, List, []}
use Rattle.std.proofs.Common.{◌∷◌, filter, map, refl, ◌∙◌, ap}
use Rattle.std.proofs.lemmas.Bool.{and_parts}
use Rattle.std.specs.FinMap.{entries, entries_sorted, get-entries, is_sorted}
use Rattle.std.specs.FinMap.Entries.{below_all}
use Rattle.std.specs.List.{AllByRecursion}
use Rattle.irc_names.specs.Lemmas.PlainFacts.{is_true}
use Rattle.irc_names.specs.Fold.{key}
use Rattle.irc_names.specs.Tables.{fold_cmp, row}
use Rattle.irc_names.specs.TableLaws.{same_fold, row-alter}
use Rattle.irc_users.specs.declared.user.User.{User}
use Rattle.irc_users.specs.UserTable.{is_home}
use Rattle.irc_room.specs.effect.Effect.TheVariants.{Quit}
use Rattle.irc_room.specs.After.{after}
use Rattle.irc_room.specs.InTurn.{EachInTurn}
use Rattle.irc_room.specs.Limits.{KeepsLimits}
use Rattle.irc_room.specs.Room.{Room, IsWellFormed}
use Rattle.irc_room.specs.Lemmas.ViewerLaws.{IsNamed, table_named}
use Rattle.irc_merge.specs.CanBeDone.{DoesSomething}
use Rattle.irc_merge.specs.Lemmas.TableWords.{above_first, entries_all, first_there}
use Rattle.irc_merge.specs.Quits.{quits_of, users_at}

-- each of these entries is a user of the room
abbrev AreThere : Room → List (List ℕ × User) → Type 0
AreThere room es = AllByRecursion (λ (e : List ℕ × User). row room.users e.0 ≡ Some e.1) es

quit_does : (room : Room) (user : User) (text : List ℕ) → row room.users (key user.nick) ≡ Some user
    → DoesSomething room (Quit user.nick text)
quit_does room user text there = record {
  possible = record {
    users_there = ap (λ o. is_some o && true) there;
    channel_there = refl;
    nick_free = refl;
  };
  busy = refl;
}

-- those behind one who quits are there still
still_there : (room : Room) (nick text : List ℕ) (e : List ℕ × User) (es : List (List ℕ × User))
    → below_all fold_cmp e.0 es ≡ true → key nick ≡ e.0 → AreThere room es
    → AreThere (after room (Quit nick text)) es
unfolding after
still_there room nick text e [] below is there = tt
still_there room nick text e (other ∷ es) below is there = (
  row-alter (key nick) (λ _. None) room.users other.0
      ∙ ap (λ b. cond b None (row room.users other.0)) (ap (same_fold other.0) is
      ∙ above_first other.0 e (other ∷ es) below (first_there other es))
      ∙ there.0,
  still_there room nick text e es (and_parts _ _ below).1 is there.1,
)

quit_in_turn : (p : User → Bool) (text : List ℕ) (es : List (List ℕ × User)) (room : Room)
    → is_sorted fold_cmp es ≡ true → AllByRecursion IsNamed es → AreThere room es
    → EachInTurn DoesSomething room (quits_of text (filter p (map (λ e. e.1) es)))
quit_in_turn p text [] room rise named there = tt
quit_in_turn p text (e ∷ es) room rise named there =
    let parts = and_parts _ _ rise in
    by (p e.1) (quit_in_turn p text es room parts.1 named.1 there.1)
    (quit_in_turn p text es (after room (Quit e.1.nick text)) parts.1 named.1
    (still_there room e.1.nick text e es parts.0 named.0 there.1))
  where
    by : (b : Bool) → EachInTurn DoesSomething room (quits_of text (filter p (map (λ e. e.1) es)))
        → EachInTurn DoesSomething (after room (Quit e.1.nick text))
        (quits_of text (filter p (map (λ e. e.1) es))) → EachInTurn DoesSomething room
        (quits_of text (cond b (e.1 ∷ filter p (map (λ e. e.1) es)) (filter p (map (λ e. e.1) es))))
    by true stays gone = record {
      now = quit_does room e.1 text
          (ap (row room.users) named.0 ∙ there.0);
      later = gone;
    }
    by false stays gone = stays

pub quits_do : (room : Room) (name text : List ℕ) → IsWellFormed room
    → EachInTurn DoesSomething room (quits_of text (users_at name room))
quits_do room name text well =
    let rise = is_true _ (entries_sorted room.users) in
    quit_in_turn (is_home name) text (entries room.users) room rise
    (table_named room.users well.users_named)
    (entries_all (λ q x. row room.users q ≡ Some x) (entries room.users)
    (λ q x is. get-entries room.users q ∙ is) rise)

pub quits_keep : (text : List ℕ) (users : List User)
    → AllByRecursion KeepsLimits (quits_of text users)
quits_keep text [] = tt
quits_keep text (user ∷ users) = (tt, quits_keep text users)
