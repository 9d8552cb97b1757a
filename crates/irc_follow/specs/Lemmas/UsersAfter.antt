-- Where a user is after an effect: under what fold, and with the home that it had.
use Rattle.std.proofs.Common.{◌≡◌, ℕ, Bool, true, false, cond, not, ◌||◌, Option, Some, None, List}
use Rattle.std.proofs.Common.{refl, sym, ◌∙◌, ap, option_map, is_some, if◌then◌else◌}
use Rattle.std.specs.Cmp.Lexicographic.{bytes_decides}
use Rattle.irc_names.specs.Fold.{key, same}
use Rattle.irc_names.specs.Tables.{row, alter, moved}
use Rattle.irc_names.specs.TableLaws.{same_fold, same_fold-refl, one_fold, row-alter, row-moved}
use Rattle.irc_names.specs.TableLaws.{row-moved_none}
use Rattle.irc_users.specs.declared.user.User.{User}
use Rattle.irc_users.specs.UserTable.{with_nick, with_change}
use Rattle.irc_room.specs.effect.Effect.{Effect}
use Rattle.irc_room.specs.effect.Effect.TheVariants.{AddUser, Rename, Quit, ChangeUser}
use Rattle.irc_room.specs.Room.{Room}
use Rattle.irc_room.specs.After.{after}
use Rattle.irc_room.specs.Effects.{brings_free}
use Rattle.irc_room.specs.Readers.{home_under}

-- the fold of a user's nickname afterwards, if it stays
abbrev pub fold_after : Effect → List ℕ → List ℕ
fold_after (Rename nick new) fold = if same_fold fold (key nick) then key new else fold
fold_after effect fold = fold

-- whether an effect takes the user of a fold out
abbrev pub takes_out : Effect → List ℕ → Bool
takes_out (Quit nick text) fold = same_fold fold (key nick)
takes_out effect fold = false

user_there : (room : Room) (fold home : List ℕ) → home_under room fold ≡ Some home
    → is_some (row room.users fold) ≡ true
user_there room fold home is = by (row room.users fold) is
  where
    by : (o : Option User) → option_map (λ (u : User). u.home) o ≡ Some home → is_some o ≡ true
    by None there = cc there
    by (Some user) there = refl

home_altered : (room : Room) (at : List ℕ) (change : Option User → Option User)
    (fold home : List ℕ) → home_under room fold ≡ Some home
    → ((user : User) → row room.users at ≡ Some user → same_fold fold at ≡ true
    → option_map (λ (u : User). u.home) (change (Some user)) ≡ Some user.home)
    → option_map (λ (u : User). u.home) (row (alter at change room.users) fold) ≡ Some home
home_altered room at change fold home is keeps =
    ap (option_map (λ (u : User). u.home)) (row-alter at change room.users fold)
    ∙ by (same_fold fold at) refl
  where
    here : same_fold fold at ≡ true → (o : Option User) → row room.users at ≡ o
        → option_map (λ (u : User). u.home) o ≡ Some home
        → option_map (λ (u : User). u.home) (change o) ≡ Some home
    here one None there home_is = cc home_is
    here one (Some user) there home_is = keeps user there one ∙ home_is

    by : (b : Bool) → same_fold fold at ≡ b → option_map (λ (u : User). u.home)
        (cond b (change (row room.users at)) (row room.users fold)) ≡ Some home
    by true one =
        here one (row room.users at) refl (ap (home_under room) (sym (one_fold fold at one)) ∙ is)
    by false two = is

-- it has the home that it had
pub home_stays : (room : Room) (effect : Effect) (fold home : List ℕ) → brings_free room effect
    ≡ true → takes_out effect fold ≡ false → home_under room fold ≡ Some home
    → home_under (after room effect) (fold_after effect fold) ≡ Some home
unfolding after
home_stays room (AddUser user) fold home free stays is =
    home_altered room (key user.nick) (λ _. Some user) fold home is
    (λ other there one. absurd (cc (sym free ∙ ap (λ o. not (is_some o)) there)))
home_stays room (Rename nick new) fold home free stays is =
    by (row room.users (key nick)) refl (same_fold fold (key nick)) refl
  where
    not_new : same_fold fold (key nick) ≡ false → same_fold fold (key new) ≡ false
    not_new two = clash (same_fold fold (key new)) refl
      where
        clash : (b : Bool) → same_fold fold (key new) ≡ b → b ≡ false
        clash false apart = refl
        clash true one =
            let taken = ap (λ f. is_some (row room.users f)) (sym (one_fold fold (key new) one))
            ∙ user_there room fold home is in
            let own : same nick new ≡ true = sym (ap (λ b. not b || same nick new) taken) ∙ free in
            absurd (cc (sym two ∙ ap (same_fold fold) ((bytes_decides (key nick) (key new)).0 own)
            ∙ one))

    by : (o : Option User) → row room.users (key nick) ≡ o → (b : Bool)
        → same_fold fold (key nick) ≡ b → option_map (λ (u : User). u.home)
        (row (moved (key nick) (key new) (with_nick new) room.users) (if b then key new else fold))
        ≡ Some home
    by None there true one = absurd (cc (sym (user_there room fold home is) ∙ ap
        (λ f. is_some (row room.users f)) (one_fold fold (key nick) one) ∙ ap is_some there))
    by None there false two =
        ap (option_map (λ (u : User). u.home))
        (row-moved_none (key nick) (key new) (with_nick new) room.users there fold) ∙ is
    by (Some user) there true one =
        ap (option_map (λ (u : User). u.home))
        (row-moved (key nick) (key new) (with_nick new) room.users user there (key new)
        ∙ ap (λ b. cond b (Some (with_nick new user)) (cond (same_fold (key new) (key nick)) None
        (row room.users (key new)))) (same_fold-refl (key new)))
        ∙ sym (ap (option_map (λ (u : User). u.home)) there)
        ∙ ap (home_under room) (sym (one_fold fold (key nick) one)) ∙ is
    by (Some user) there false two =
        ap (option_map (λ (u : User). u.home))
        (row-moved (key nick) (key new) (with_nick new) room.users user there fold
        ∙ ap (λ b. cond b (Some (with_nick new user))
        (cond (same_fold fold (key nick)) None (row room.users fold))) (not_new two)
        ∙ ap (λ b. cond b None (row room.users fold)) two)
        ∙ is
home_stays room (Quit nick text) fold home free stays is =
    home_altered room (key nick) (λ _. None) fold home is
    (λ other there one. absurd (cc (sym stays ∙ one)))
home_stays room (ChangeUser nick change) fold home free stays is =
    home_altered room (key nick) (option_map (with_change change)) fold home is
    (λ user there one. refl)
home_stays room other fold home free stays is = is
