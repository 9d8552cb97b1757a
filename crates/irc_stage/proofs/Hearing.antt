-- Whom the lists of those that listen give: the connections of the users that see an effect.
use Rattle.std.proofs.Common.{◌≡◌, ℕ, Bool, true, false, cond, not, ◌&&◌, ◌||◌, if◌then◌else◌}
use Rattle.std.proofs.Common.{Option, Some, None, List, [], ◌∷◌, refl, sym, ◌∙◌, ap, is_some, map}
use Rattle.std.proofs.Common.{T, ◌++◌, filter, option_to_list, append-nil, arith, ◌==◌, ◌≤◌, ◌<◌}
use Rattle.std.proofs.Common.{length}
use Rattle.std.proofs.Common.{slice_index_or}
use Rattle.std.proofs.lemmas.Bool.Decides.{nat_tests}
use Rattle.std.specs.List.{list_any}
use Rattle.std.specs.Option.{option_map_or}
use Rattle.std.specs.FinMap.{find, is_sorted, values}
use Rattle.std.proofs.Math.Bool.{or-false, or_assoc}
use Rattle.irc_names.specs.Fold.{key}
use Rattle.irc_names.specs.Tables.{Table, fold_cmp, row}
use Rattle.irc_names.specs.TableLaws.{same_fold, same_fold-refl}
use Rattle.irc_batch.specs.Batches.{Batch, batch_of, is_number, put_out_all, to_others}
use Rattle.irc_tables.specs.declared.table.Row.{Row}
use Rattle.irc_users.specs.declared.user.User.{User}
use Rattle.irc_users.specs.declared.user_change.UserChange.{UserChange}
use Rattle.irc_users.specs.UserTable.{is_shown}
use Rattle.irc_channels.specs.declared.channel.Channel.{Channel}
use Rattle.irc_channels.specs.Channels.{has_member}
use Rattle.irc_room.specs.effect.Effect.{Effect}
use Rattle.irc_room.specs.effect.Effect.TheVariants.{AddUser, Rename, Quit, Join, ChangeUser}
use Rattle.irc_room.specs.After.{after}
use Rattle.irc_room.specs.Effects.{has_user}
use Rattle.irc_room.specs.Readers.{names_of}
use Rattle.irc_room.specs.Room.{Room, IsWellFormed}
use Rattle.irc_stage.specs.RoomMachine.{Clients}
use Rattle.irc_stage.specs.Loops.Hearing.{conns_if, conns_who, hearers, is_beside, is_nick_of}
use Rattle.irc_stage.specs.Loops.Hearing.{others_of, to_each, told_to, IsUnseen}
use Rattle.irc_stage.specs.Loops.Hearing.{SendsTo}
use Rattle.irc_stage.specs.Loops.Listening.{Lists, conn_as, conns_at, conns_in}
use Rattle.irc_stage.specs.Loops.Listening.{conns_of, is_in, is_named, AreSo}
use Rattle.irc_stage.specs.Loops.Merging.{Entry, merged, with_lists}
use Rattle.irc_stage.specs.Loops.Parts.{IsIndex}
use Rattle.irc_stage.proofs.Conns.{but_one, conns_alike, in_list, in_order}
use Rattle.irc_stage.proofs.Conns.{nick_as_fold, nick_is, OnlyUsers}
use Rattle.irc_stage.proofs.ListsKept.{named_in}
use Rattle.irc_stage.proofs.Memberships.{joins}
use Rattle.irc_stage.proofs.MergedLists.{either, found_lists, sorted_lists, sorted_with}

-- ---- what is sent

all_others : (conns : List ℕ) → filter (λ conn. true) conns ≡ conns
all_others [] = refl
all_others (conn ∷ conns) = ap (λ l. conn ∷ l) (all_others conns)

-- to all of some connections, which are others by another word
pub sent_to : (line : List ℕ) (old new : Batch) (conns others : List ℕ) → conns ≡ others
    → SendsTo line (others_of None conns) old new → SendsTo line others old new
sent_to line old new conns others are is =
    is ∙ ap (λ cs. told_to line cs old) (all_others conns ∙ are)

-- what is put out then
pub told_outs : (line : List ℕ) (conns : List ℕ) (out : Batch)
    → (told_to line conns out).outs ≡ out.outs ++ to_each line conns
told_outs line [] out = sym (append-nil out.outs)
told_outs line (conn ∷ conns) out = refl

-- those of which a test holds, where it holds of none, and where it holds of some
pub told_none : (line : List ℕ) (test : ℕ → Bool) (conns : List ℕ) (out : Batch)
    → list_any test conns ≡ false → out ≡ told_to line (filter test conns) out
told_none line test [] out none = refl
told_none line test (conn ∷ conns) out none =
    by_test (test conn) none (told_none line test conns out)
  where
    by_test : (b : Bool) → (b || list_any test conns) ≡ false
        → (list_any test conns ≡ false → out ≡ told_to line (filter test conns) out)
        → out ≡ told_to line (cond b (conn ∷ filter test conns) (filter test conns)) out
    by_test true none rest = cc none
    by_test false none rest = rest none

told_some : (line : List ℕ) (test : ℕ → Bool) (conns : List ℕ) (out : Batch)
    → list_any test conns ≡ true
    → batch_of (out.outs ++ to_each line (filter test conns)) line
    ≡ told_to line (filter test conns) out
told_some line test [] out some = cc some
told_some line test (conn ∷ conns) out some =
    by_test (test conn) some (told_some line test conns out)
  where
    by_test : (b : Bool) → (b || list_any test conns) ≡ true
        → (list_any test conns ≡ true
        → batch_of (out.outs ++ to_each line (filter test conns)) line
        ≡ told_to line (filter test conns) out)
        → batch_of (out.outs ++
        to_each line (cond b (conn ∷ filter test conns) (filter test conns))) line
        ≡ told_to line (cond b (conn ∷ filter test conns) (filter test conns)) out
    by_test true some rest = refl
    by_test false some rest = rest some

-- to all others than one, where there are some, once the line is at hand
pub told_by : (line at_hand : List ℕ) (one : Option ℕ) (conns : List ℕ) (out held new : Batch)
    → held ≡ record out { held = at_hand } → at_hand ≡ line
    → list_any (λ conn. not (is_number one conn)) conns ≡ true
    → new ≡ put_out_all (to_others held.held one conns) held
    → SendsTo line (others_of one conns) out new
told_by line at_hand one conns out held new held_is line_is some is =
    is
    ∙ ap (λ (b : Batch). put_out_all (to_others b.held one conns) b) held_is
    ∙ ap (λ l. batch_of (out.outs ++ to_each l (others_of one conns)) l) line_is
    ∙ told_some line (λ conn. not (is_number one conn)) conns out some

-- a test of connections, as they stand in rows
pub any_mapped : {X : Type 0} (test : ℕ → Bool) (conn_of : X → ℕ) (xs : List X)
    → list_any (λ x. test (conn_of x)) xs ≡ list_any test (map conn_of xs)
any_mapped test conn_of [] = refl
any_mapped test conn_of (x ∷ xs) = ap (λ b. test (conn_of x) || b) (any_mapped test conn_of xs)

-- ---- how many names there are

pub one_row : (rows : List (Row (Unit {0}))) (row : Row (Unit {0})) → 1 ≤ length rows
    → length rows < 2 → row ≡ slice_index_or rows 0 row → rows ≡ row ∷ []
one_row [] row some few is = absurd (omega (arith, some))
one_row (r ∷ []) row some few is = ap (λ r. r ∷ []) (sym is)
one_row (r ∷ s ∷ rows) row some few is = absurd (omega (arith, few))

not_none : {V : Type 0} (row : Row V) (rows : List (Row V)) → (length (row ∷ rows) == 0) ≡ false
not_none row rows = grind (arith, nat_tests)

pub no_rows : {V : Type 0} (rows : List (Row V)) (b : Bool) → b ≡ (length rows == 0) → b ≡ true
    → rows ≡ []
no_rows [] b is none = refl
no_rows (row ∷ rows) b is none = let some = not_none row rows in cc

-- ---- of whom a test holds is a user

module _ (room : Room) (well : IsWellFormed room) where
  pub users_in : (c : List ℕ) → OnlyUsers room (λ q. is_in room q c)
  users_in c q there = known (row room.channels c) refl there
    where
      known : (o : Option Channel) → row room.channels c ≡ o
          → option_map_or (has_member q) o false ≡ true → is_some (row room.users q) ≡ true
      known None at there = cc there
      known (Some channel) at there = (well.channels_sound c channel at).members_known q there

  users_in_any : (cs : List (List ℕ)) (q : List ℕ) → list_any (is_in room q) cs ≡ true
      → is_some (row room.users q) ≡ true
  users_in_any [] q there = cc there
  users_in_any (c ∷ cs) q there = by_test (is_in room q c) refl there (users_in_any cs q)
    where
      by_test : (b : Bool) → is_in room q c ≡ b → (b || list_any (is_in room q) cs) ≡ true
          → (list_any (is_in room q) cs ≡ true → is_some (row room.users q) ≡ true)
          → is_some (row room.users q) ≡ true
      by_test true here either behind = users_in c q here
      by_test false out either behind = behind either

  pub users_beside : (nick : List ℕ) → OnlyUsers room (is_beside room nick)
  users_beside nick q there = users_in_any (names_of room nick) q there

  user_named : (nick : List ℕ) → has_user room nick ≡ true → OnlyUsers room (is_nick_of nick)
  user_named nick there q is =
      ap (λ f. is_some (row room.users f)) (sym (nick_is nick q is)) ∙ there

  users_joined : (nick c : List ℕ) → has_user room nick ≡ true
      → OnlyUsers room (λ q. is_nick_of nick q || is_in room q c)
  users_joined nick c there q either = by_test (is_nick_of nick q) refl either
    where
      by_test : (b : Bool) → is_nick_of nick q ≡ b → (b || is_in room q c) ≡ true
          → is_some (row room.users q) ≡ true
      by_test true is either = user_named nick there q is
      by_test false two either = users_in c q either

  -- ---- one user

  module _ (by_nick : Table ℕ) (nick : List ℕ) (there : has_user room nick ≡ true) where
    pub one_heard : conn_as by_nick nick ≡ conns_who room by_nick (is_nick_of nick)
    one_heard = by_conn (row by_nick (key nick)) refl
      where
        found_some : (q : List ℕ) (conn : ℕ) (b : Bool) → row by_nick (key nick) ≡ Some conn
            → is_nick_of nick q ≡ b → cond b (Some conn) None ≡ (if b then row by_nick q else None)
        found_some q conn true at is = sym at ∙ ap (row by_nick) (nick_is nick q is)
        found_some q conn false at is = refl

        found_none : (q : List ℕ) (b : Bool) → row by_nick (key nick) ≡ None → is_nick_of nick q ≡ b
            → None ≡ (if b then row by_nick q else None)
        found_none q true at is = sym at ∙ ap (row by_nick) (nick_is nick q is)
        found_none q false at is = refl

        by_conn : (o : Option ℕ) → row by_nick (key nick) ≡ o
            → option_to_list (row by_nick (key nick)) ≡ conns_who room by_nick (is_nick_of nick)
        by_conn None at =
            ap option_to_list at
            ∙ in_order room by_nick (is_nick_of nick) well (user_named nick there) [] tt
            (λ q. found_none q (is_nick_of nick q) at refl)
        by_conn (Some conn) at =
            ap option_to_list at
            ∙ in_order room by_nick (is_nick_of nick) well (user_named nick there)
            ((key nick, conn) ∷ []) tt (λ q.
            ap (λ b. cond b (Some conn) None) (nick_as_fold nick q)
            ∙ found_some q conn (is_nick_of nick q) at refl)

  -- ---- one channel

  module _ (by_nick : Table ℕ) (lists : Lists) (so : AreSo lists room by_nick) where
    pub channel_heard : (channel : List ℕ)
        → conns_at lists (key channel) ≡ conns_who room by_nick (λ q. is_in room q (key channel))
    channel_heard channel =
        in_list room by_nick (λ q. is_in room q (key channel)) well (users_in (key channel))
        (row lists (key channel)) (λ q. so.at (key channel) q)

    pub told_in : (name channel : List ℕ) → name ≡ channel → (effect : Effect)
        → conns_who room by_nick (λ q. is_in room q (key channel)) ≡ hearers room by_nick effect
        → (line : List ℕ) (old new : Batch)
        → SendsTo line (others_of None (conns_at lists (key name))) old new
        → SendsTo line (hearers room by_nick effect) old new
    told_in name channel name_is effect hears line old new is =
        sent_to line old new (conns_at lists (key name)) (hearers room by_nick effect)
        (ap (λ n. conns_at lists (key n)) name_is ∙ channel_heard channel ∙ hears)
        is

    -- ---- several

    pub beside_one : (nick c : List ℕ) → names_of room nick ≡ c ∷ []
        → conns_at lists c ≡ conns_who room by_nick (is_beside room nick)
    beside_one nick c is =
        in_list room by_nick (is_beside room nick) well (users_beside nick) (row lists c) (λ q.
        so.at c q ∙ ap (λ b. if b then row by_nick q else None)
        (sym (or-false (is_in room q c)) ∙ ap (list_any (is_in room q)) (sym is)))

    found_beside : (q : List ℕ) (cs : List (List ℕ)) (found : List Entry) (t : Bool)
        → T (is_sorted fold_cmp found)
        → find fold_cmp q found ≡ (if t then row by_nick q else None)
        → find fold_cmp q (with_lists lists cs found)
        ≡ (if t || list_any (is_in room q) cs then row by_nick q else None)
    found_beside q [] found t rise is =
        is ∙ ap (λ b. if b then row by_nick q else None) (sym (or-false t))
    found_beside q (c ∷ cs) found t rise is =
        found_beside q cs (merged (conns_in (row lists c)) found) (t || is_in room q c)
        (sorted_with lists c found rise)
        (found_lists lists c q found rise
        ∙ ap (λ o. either o (find fold_cmp q found)) (so.at c q)
        ∙ ap (either (if is_in room q c then row by_nick q else None)) is
        ∙ by_tests (is_in room q c) t (row by_nick q))
        ∙ ap (λ b. if b then row by_nick q else None)
        (or_assoc t (is_in room q c) (list_any (is_in room q) cs))
      where
        by_tests : (m t : Bool) (o : Option ℕ) → either (if m then o else None)
            (if t then o else None) ≡ (if t || m then o else None)
        by_tests true true None = refl
        by_tests true false None = refl
        by_tests true true (Some conn) = refl
        by_tests true false (Some conn) = refl
        by_tests false true o = refl
        by_tests false false o = refl

    pub beside_all : (nick : List ℕ) → map (λ (e : Entry). e.1)
        (with_lists lists (names_of room nick) []) ≡ conns_who room by_nick (is_beside room nick)
    beside_all nick =
        in_order room by_nick (is_beside room nick) well (users_beside nick)
        (with_lists lists (names_of room nick) []) (sorted_lists lists (names_of room nick) [] tt)
        (λ q. found_beside q (names_of room nick) [] false tt refl)

  -- ---- a user with another nickname

  module _ (by_nick : Table ℕ) (nick new : List ℕ) where
    pub renamed_alone : has_user room nick ≡ true → names_of room nick ≡ []
        → conn_as by_nick nick ≡ hearers room by_nick (Rename nick new)
    renamed_alone there none =
        one_heard by_nick nick there
        ∙ conns_alike room by_nick (is_nick_of nick)
        (λ q. is_nick_of nick q || is_beside room nick q)
        (λ q. sym (or-false (is_nick_of nick q))
        ∙ ap (λ cs. is_nick_of nick q || list_any (is_in room q) cs) (sym none))

    own_beside : (c : List ℕ) (cs : List (List ℕ)) → names_of room nick ≡ c ∷ cs
        → is_beside room nick (key nick) ≡ true
    own_beside c cs is =
        ap (list_any (is_in room (key nick))) is
        ∙ ap (λ b. b || list_any (is_in room (key nick)) cs)
        (sym (named_in room nick c)
        ∙ ap (λ names. is_named names c) is
        ∙ ap (λ b. b || is_named cs c) (same_fold-refl c))

    pub renamed_beside : (c : List ℕ) (cs : List (List ℕ)) → names_of room nick ≡ c ∷ cs
        → conns_who room by_nick (is_beside room nick) ≡ hearers room by_nick (Rename nick new)
    renamed_beside c cs is =
        conns_alike room by_nick (is_beside room nick) (λ q. is_nick_of nick q
        || is_beside room nick q) (λ q. by_test q (is_nick_of nick q) refl)
      where
        by_test : (q : List ℕ) (b : Bool) → is_nick_of nick q ≡ b
            → is_beside room nick q ≡ (b || is_beside room nick q)
        by_test q true one =
            ap (is_beside room nick) (sym (nick_is nick q one)) ∙ own_beside c cs is
        by_test q false two = refl

    pub renamed_some : (rows : List (Row (Unit {0}))) (b : Bool) → b ≡ (length rows == 0)
        → b ≡ false → map (λ row. key row.name.items) rows ≡ names_of room nick
        → conns_who room by_nick (is_beside room nick) ≡ hearers room by_nick (Rename nick new)
    renamed_some [] b is some names =
        let none : (length {A = Row (Unit {0})} [] == 0) ≡ true = grind (arith, nat_tests) in cc
    renamed_some (row ∷ rows) b is some names =
        renamed_beside (key row.name.items) (map (λ row. key row.name.items) rows) (sym names)

-- ---- nobody sees that a user comes

nobody : (users : List User) → filter (λ (user : User). false) users ≡ []
nobody [] = refl
nobody (user ∷ users) = nobody users

-- and a user alone what it changes of itself, where that is shown
pub itself_heard : (room : Room) → IsWellFormed room → (by_nick : Table ℕ) (nick : List ℕ)
    (change : UserChange) → has_user room nick ≡ true
    → conns_if (is_shown change) (conn_as by_nick nick)
    ≡ hearers room by_nick (ChangeUser nick change)
itself_heard room well by_nick nick change there = by (is_shown change)
  where
    by : (shown : Bool) → conns_if shown (conn_as by_nick nick)
        ≡ conns_who room by_nick (λ q. shown && is_nick_of nick q)
    by true = one_heard room well by_nick nick there
    by false = ap (λ users. conns_of by_nick (map (λ (user : User). user.nick) users))
        (sym (nobody (values room.users)))

pub unseen : (room : Room) (by_nick : Table ℕ) (effect : Effect) → IsUnseen effect
    → (line : List ℕ) (out : Batch) → SendsTo line (hearers room by_nick effect) out out
unseen room by_nick (AddUser user) none line out =
    ap (λ users. told_to line (conns_of by_nick (map (λ (user : User). user.nick) users)) out)
    (sym (nobody (values room.users)))
unseen room by_nick other none line out = absurd none

-- ---- who quits is not told of it

pub quit_heard : (room : Room) (clients : Clients) (by_nick : Table ℕ) → IsIndex clients by_nick
    → (nick text line : List ℕ) → (old new : Batch) (one : Option ℕ) → one ≡ row by_nick (key nick)
    → SendsTo line (others_of one (conns_who room by_nick (is_beside room nick))) old new
    → SendsTo line (hearers room by_nick (Quit nick text)) old new
quit_heard room clients by_nick index nick text line old new one one_is is =
    is
    ∙ ap (λ o. told_to line (others_of o (conns_who room by_nick (is_beside room nick))) old) one_is
    ∙ ap (λ conns. told_to line conns old)
    (but_one clients by_nick index nick (is_beside room nick) room)

-- ---- who joins is among those that listen then

pub join_heard : (room : Room) → IsWellFormed room
    → (by_nick : Table ℕ) (lists : Lists) (nick channel : List ℕ) (op : Bool)
    → has_user room nick ≡ true → AreSo lists (after room (Join nick channel op)) by_nick
    → conns_at lists (key channel) ≡ hearers room by_nick (Join nick channel op)
join_heard room well by_nick lists nick channel op there so =
    in_list room by_nick (λ q. is_nick_of nick q || is_in room q (key channel)) well
    (users_joined room well nick (key channel) there) (row lists (key channel)) (λ q.
    so.at (key channel) q
    ∙ ap (λ b. if b then row by_nick q else None)
    (joins room nick channel op q (key channel)
    ∙ ap (λ b. (b && same_fold q (key nick)) || is_in room q (key channel))
    (same_fold-refl (key channel))
    ∙ ap (λ b. b || is_in room q (key channel)) (nick_as_fold nick q)))
