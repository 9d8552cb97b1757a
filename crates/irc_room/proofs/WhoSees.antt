-- The users that see an effect, by the names that the code puts together.
use Rattle.std.specs.Borrow.{Bor}
use Rattle.std.proofs.Common.{◌≡◌, ℕ, Bool, true, false, cond, not, ◌&&◌, ◌||◌, Option, Some, None}
use Rattle.std.proofs.Common.{List, [], ◌∷◌, refl, sym, ◌∙◌, ap, map, filter, is_some}
use Rattle.std.proofs.Common.{nat_eq}
use Rattle.std.specs.List.{list_any}
use Rattle.std.specs.Option.{option_map_or}
use Rattle.std.specs.Cmp.Lexicographic.{pointwise}
use Rattle.std.specs.FinMap.{empty, entries, values, get-empty}
use Rattle.std.proofs.Math.Bool.{or_comm}
use Rattle.irc_names.specs.Fold.{key, same}
use Rattle.irc_names.specs.Tables.{Table, fold_cmp, row, alter}
use Rattle.irc_names.specs.TableLaws.{same_fold, row-alter, row-keys}
use Rattle.irc_tables.specs.declared.table.Row.{Row}
use Rattle.irc_tables.specs.RowViews.{row_entry}
use Rattle.irc_users.specs.declared.user.User.{User}
use Rattle.irc_channels.specs.declared.channel.Channel.{Channel}
use Rattle.irc_channels.specs.declared.flags.Flags.{Flags}
use Rattle.irc_channels.specs.Channels.{has_member}
use Rattle.irc_channels.specs.ChannelTable.{members_in}
use Rattle.irc_effects.specs.Found.{AreNamed}
use Rattle.irc_room.specs.Indexes.{joins_both}
use Rattle.irc_effects.specs.Found.{users_who, users_under}
use Rattle.irc_room.specs.Loops.Viewing.{Gains}
use Rattle.irc_effects.specs.Lemmas.FoundInTurn.{entries_choose, table_chooses, fold_of}

-- ---- names put into a table

put_or_there : (b : Bool) (flags : Flags) (o : Option Flags)
    → is_some (cond b (Some flags) o) ≡ (is_some o || b)
put_or_there true flags None = refl
put_or_there true flags (Some f) = refl
put_or_there false flags None = refl
put_or_there false flags (Some f) = refl

pub put_gains : (names after : Table Flags) (fold : List ℕ) (flags : Flags)
    → after ≡ alter fold (λ _. Some flags) names → Gains names after (λ q. same_fold q fold)
put_gains names after fold flags is = λ q.
    ap (λ t. is_some (row t q)) is ∙ ap is_some (row-alter fold (λ _. Some flags) names q)
    ∙ put_or_there (same_fold q fold) flags (row names q)

pub gains_alike : (before after : Table Flags) (one other : List ℕ → Bool)
    → ((q : List ℕ) → one q ≡ other q) → Gains before after one → Gains before after other
gains_alike before after one other alike gained =
    λ q. gained q ∙ ap (λ b. is_some (row before q) || b) (alike q)

-- whether some rows have a fold
abbrev pub stands_in : List (Row Flags) → List ℕ → Bool
stands_in rows q = list_any (λ (row : Row Flags). same_fold q (key row.name.items)) rows

folds_of : (rows : List (Row Flags)) (q : List ℕ)
    → stands_in rows q ≡ list_any (same_fold q) (map (λ e. e.0) (map row_entry rows))
folds_of [] q = refl
folds_of (row ∷ rows) q = ap (λ b. same_fold q (key row.name.items) || b) (folds_of rows q)

pub table_rows : (members : Table Flags) (rows : List (Row Flags)) → map row_entry rows
    ≡ entries members → (q : List ℕ) → stands_in rows q ≡ is_some (row members q)
table_rows members rows is q =
    folds_of rows q ∙ ap (λ es. list_any (same_fold q) (map (λ e. e.0) es)) is ∙ row-keys members q

pub channel_rows : (o : Option Channel) (rows : List (Row Flags)) → map row_entry rows
    ≡ members_in o → (q : List ℕ) → stands_in rows q ≡ option_map_or (has_member q) o false
channel_rows None rows is q =
    folds_of rows q ∙ ap (λ es. list_any (same_fold q) (map (λ e. e.0) es)) is
channel_rows (Some channel) rows is q = table_rows channel.members rows is q

-- ---- the users under these names

-- what is known of what is found, where memory did not run out
pub members_chosen : (users : Table User) → AreNamed users
    → (o : Option Channel) (es : List (List ℕ × Flags)) → es ≡ members_in o → users_under users es
    ≡ users_who users (λ viewer. option_map_or (has_member (key viewer)) o false)
members_chosen users named None es is =
    ap (users_under users) is
    ∙ entries_choose {V = Flags} users [] refl (λ user. false) tt (λ fold user at none. refl)
members_chosen users named (Some channel) es is =
    ap (users_under users) is
    ∙ table_chooses users channel.members (λ user. has_member (key user.nick) channel)
    (λ fold user at. ap (λ f. has_member f channel) (sym (named fold user at)))

pub names_chosen : (users : Table User) → AreNamed users
    → (names : Table Flags) (rows : List (Row Flags)) (may : List ℕ → Bool)
    → map row_entry rows ≡ entries names → ((q : List ℕ) → is_some (row names q) ≡ may q)
    → users_under users (map row_entry rows) ≡ users_who users (λ viewer. may (key viewer))
names_chosen users named names rows may is tells =
    ap (users_under users) is
    ∙ table_chooses users names (λ user. may (key user.nick))
    (λ fold user at. tells fold ∙ ap may (sym (named fold user at)))

none_at_first : (start : Table Flags) → start ≡ empty → (q : List ℕ) → is_some (row start q) ≡ false
none_at_first start is q = ap (λ t. is_some (row t q)) is ∙ ap is_some (get-empty fold_cmp q)

pub joiner_among : (start middle names : Table Flags) → start ≡ empty → (nick : List ℕ)
    (o : Option Channel) (rows : List (Row Flags)) → map row_entry rows ≡ members_in o
    → (name : List ℕ) → name ≡ nick → Gains start middle (stands_in rows)
    → Gains middle names (λ q. same_fold q (key name)) → (q : List ℕ) → is_some (row names q)
    ≡ (pointwise nat_eq (key nick) q || option_map_or (has_member q) o false)
joiner_among start middle names none nick o rows same name is first second q =
    second q
    ∙ (λ i. (first q ∙ ap (λ b. b || stands_in rows q) (none_at_first start none q) ∙ channel_rows o
    rows same q) i || (ap (λ n. same_fold q (key n)) is ∙ fold_of nick q) i)
    ∙ or_comm (option_map_or (has_member q) o false) (pointwise nat_eq (key nick) q)

-- of those who share a channel with a user
pub sharers_among : (start names : Table Flags) → start ≡ empty
    → (nick : List ℕ) (channels : Table Channel)
    → Gains start names (λ q. list_any (joins_both (key nick) q) (values channels)) → (q : List ℕ)
    → is_some (row names q) ≡ list_any (joins_both (key nick) q) (values channels)
sharers_among start names none nick channels gained q =
    gained q ∙ ap (λ b. b || list_any (joins_both (key nick) q) (values channels))
    (none_at_first start none q)

-- the user is one more of them, or none of them
pub also_one : (middle names : Table Flags) (nick name : List ℕ) → name ≡ nick
    → (may : List ℕ → Bool) → ((q : List ℕ) → is_some (row middle q) ≡ may q)
    → Gains middle names (λ q. same_fold q (key name)) → (q : List ℕ)
    → is_some (row names q) ≡ (pointwise nat_eq (key nick) q || may q)
also_one middle names nick name is may tells gained q =
    gained q ∙ (λ i. tells q i || (ap (λ n. same_fold q (key n)) is ∙ fold_of nick q) i)
    ∙ or_comm (may q) (pointwise nat_eq (key nick) q)

none_or_there : (b : Bool) (o : Option Flags) → is_some (cond b None o) ≡ (not b && is_some o)
none_or_there true o = refl
none_or_there false o = refl

pub all_but_one : (middle names : Table Flags) (nick name : List ℕ) → name ≡ nick
    → (may : List ℕ → Bool) → ((q : List ℕ) → is_some (row middle q) ≡ may q)
    → names ≡ alter (key name) (λ _. None) middle → (q : List ℕ)
    → is_some (row names q) ≡ (not (pointwise nat_eq (key nick) q) && may q)
all_but_one middle names nick name is may tells taken q =
    ap (λ t. is_some (row t q)) taken
    ∙ ap is_some (row-alter (key name) (λ _. None) middle q)
    ∙ none_or_there (same_fold q (key name)) (row middle q)
    ∙ (λ i. not ((ap (λ n. same_fold q (key n)) is ∙ fold_of nick q) i) && tells q i)

pub nobody_chosen : (users : Table User) (test : List ℕ → Bool)
    → ((viewer : List ℕ) → test viewer ≡ false) → [] ≡ users_who users test
nobody_chosen users test fails = all_out (values users)
  where
    all_out : (all : List User) → [] ≡ filter (λ (user : User). test user.nick) all
    all_out [] = refl
    all_out (user ∷ all) =
        all_out all ∙ sym (ap (λ b. cond b (user ∷ filter (λ (user : User). test user.nick) all)
        (filter (λ (user : User). test user.nick) all)) (fails user.nick))

-- a test of what is borrowed
pub chosen_now : (p : User → Bool) (users : List (Bor User))
    → map (λ (user : Bor User). user.now) (filter (λ (user : Bor User). p user.now) users)
    ≡ filter p (map (λ (user : Bor User). user.now) users)
chosen_now p [] = refl
chosen_now p (user ∷ users) = by_test (chosen_now p users) (p user.now)
  where
    by_test : map (λ (user : Bor User). user.now) (filter (λ (user : Bor User). p user.now) users)
        ≡ filter p (map (λ (user : Bor User). user.now) users) → (b : Bool)
        → map (λ (user : Bor User). user.now) (cond b (user ∷ filter (λ (user : Bor User).
        p user.now) users) (filter (λ (user : Bor User). p user.now) users))
        ≡ cond b (user.now ∷ filter p (map (λ (user : Bor User). user.now) users))
        (filter p (map (λ (user : Bor User). user.now) users))
    by_test rest true = ap (λ xs. user.now ∷ xs) rest
    by_test rest false = rest

-- two tests, one after the other
twice : (b c : Bool) (user : User) (rest : List User)
    → cond c (cond b (user ∷ rest) rest) rest ≡ cond (b && c) (user ∷ rest) rest
twice true true user rest = refl
twice true false user rest = refl
twice false true user rest = refl
twice false false user rest = refl

pub chosen_twice : (p q : User → Bool) (users : List User)
    → filter p (filter q users) ≡ filter (λ user. p user && q user) users
chosen_twice p q [] = refl
chosen_twice p q (user ∷ users) = by_test (chosen_twice p q users) (q user) refl
  where
    by_test : filter p (filter q users) ≡ filter (λ user. p user && q user) users
        → (b : Bool) → q user ≡ b
        → filter p (filter q (user ∷ users)) ≡ filter (λ user. p user && q user) (user ∷ users)
    by_test rest true is =
        ap (λ b. filter p (cond b (user ∷ filter q users) (filter q users))) is
        ∙ ap (λ xs. cond (p user) (user ∷ xs) xs) rest
        ∙ twice (p user) true user (filter (λ user. p user && q user) users)
        ∙ ap (λ b. cond (p user && b) (user ∷ filter (λ user. p user && q user) users)
        (filter (λ user. p user && q user) users)) (sym is)
    by_test rest false is =
        ap (λ b. filter p (cond b (user ∷ filter q users) (filter q users))) is
        ∙ rest
        ∙ twice (p user) false user (filter (λ user. p user && q user) users)
        ∙ ap (λ b. cond (p user && b) (user ∷ filter (λ user. p user && q user) users)
        (filter (λ user. p user && q user) users)) (sym is)
