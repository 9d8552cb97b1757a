-- Connections that answer by a test of folds are those of the users of whose folds it holds.
use Rattle.std.proofs.Common.{◌≡◌, ℕ, Bool, true, false, cond, not, ◌&&◌, T, if◌then◌else◌, Option}
use Rattle.std.proofs.Common.{Some, None, List, [], ◌∷◌, ◌++◌, refl, sym, ◌∙◌, ap, is_some, map}
use Rattle.std.proofs.Common.{filter, option_to_list}
use Rattle.std.proofs.lemmas.Bool.{eq-eqb, eqb-true}
use Rattle.std.specs.List.{AllByRecursion}
use Rattle.std.specs.Option.{option_and_then, option_map_or}
use Rattle.std.specs.Ordering.{is_lt}
use Rattle.std.specs.Cmp.Lexicographic.{bytes_decides, nat_list_cmp_total}
use Rattle.std.specs.FinMap.{empty, get, get-empty, entries, entries_sorted, find, is_sorted}
use Rattle.std.specs.FinMap.{values, get-entries, slice_cmp-IsAntisymmetric}
use Rattle.std.specs.FinMap.{nat_cmp-IsAntisymmetric}
use Rattle.std.specs.FinMap.Entries.{below_all, same_entries}
use Rattle.std.proofs.Math.Facts.{yes_and}
use Rattle.std.proofs.Math.Facts.{and_yes}
use Rattle.irc_batch.specs.Batches.{is_number}
use Rattle.irc_names.specs.Fold.{key, same}
use Rattle.irc_names.specs.Tables.{Table, fold_cmp, row}
use Rattle.irc_names.specs.TableLaws.{same_fold, same_fold-refl, one_fold}
use Rattle.irc_tables.specs.declared.table.Row.{Row}
use Rattle.irc_tables.specs.RowViews.{row_entry}
use Rattle.irc_users.specs.declared.user.User.{User}
use Rattle.irc_channels.specs.declared.channel.Channel.{Channel}
use Rattle.irc_channels.specs.Channels.{has_member}
use Rattle.irc_room.specs.Room.{Room, IsWellFormed}
use Rattle.irc_room.specs.Laws.{no_room}
use Rattle.irc_stage.specs.declared.clients.Client.TheVariants.{Registered}
use Rattle.irc_stage.specs.RoomMachine.{Clients}
use Rattle.irc_stage.specs.Lemmas.Matching.{named_is}
use Rattle.irc_stage.specs.Loops.Hearing.{conns_who, is_nick_of}
use Rattle.irc_stage.specs.Loops.Listening.{Conns, Lists, conn_in, conns_in, conns_of, kept_at}
use Rattle.irc_stage.specs.Loops.Listening.{AreSo}
use Rattle.irc_stage.specs.Loops.Parts.{IsIndex}
use Rattle.irc_stage.proofs.ListsKept.{none_behind}

-- what holds of each row holds of each entry
pub each_entry : {V : Type 0} (P : List ℕ → V → Type 0) (es : List (List ℕ × V))
    → T (is_sorted fold_cmp es) → ((q : List ℕ) (v : V) → find fold_cmp q es ≡ Some v → P q v)
    → AllByRecursion (λ (e : List ℕ × V). P e.0 e.1) es
each_entry P [] rise holds = tt
each_entry {V} P (e ∷ es) rise holds =
    let parts = and_yes _ _ rise in (
      holds e.0 e.1 (ap (λ b. cond b (Some e.1) (find fold_cmp e.0 es)) (same_fold-refl e.0)),
      each_entry P es parts.1 (λ q v is. holds q v (later q v parts.0 is (same_fold q e.0) refl)),
    )
  where
    later : (q : List ℕ) (v : V) → T (below_all fold_cmp e.0 es)
        → find fold_cmp q es ≡ Some v → (b : Bool) → same_fold q e.0 ≡ b
        → cond (same_fold q e.0) (Some e.1) (find fold_cmp q es) ≡ Some v
    later q v below is true one = let none = none_behind e.0 es below in let folds =
        ap (λ f. find fold_cmp f es) (one_fold q e.0 one) in cc
    later q v below is false two = ap (λ b. cond b (Some e.1) (find fold_cmp q es)) two ∙ is

-- an entry more, if there is a connection for it
abbrev with_it : List ℕ → Option ℕ → List (List ℕ × ℕ) → List (List ℕ × ℕ)
with_it q None rest = rest
with_it q (Some conn) rest = (q, conn) ∷ rest

-- of some entries those for which something is wanted under their keys, with that
module _ {X : Type 0} (want : List ℕ → Option ℕ) where
  abbrev wanted : List (List ℕ × X) → List (List ℕ × ℕ)
  wanted [] = []
  wanted (e ∷ es) = with_it e.0 (want e.0) (wanted es)

  below_wanted : (q : List ℕ) (es : List (List ℕ × X)) → T (below_all fold_cmp q es)
      → T (below_all fold_cmp q (wanted es))
  below_wanted q [] below = tt
  below_wanted q (e ∷ es) below =
      let parts = and_yes _ _ below in by_want (want e.0) parts.0 (below_wanted q es parts.1)
    where
      by_want : (o : Option ℕ) → T (is_lt (fold_cmp q e.0)) → T (below_all fold_cmp q (wanted es))
          → T (below_all fold_cmp q (with_it e.0 o (wanted es)))
      by_want None first rest = rest
      by_want (Some conn) first rest = yes_and _ _ first rest

  sorted_wanted : (es : List (List ℕ × X)) → T (is_sorted fold_cmp es)
      → T (is_sorted fold_cmp (wanted es))
  sorted_wanted [] rise = tt
  sorted_wanted (e ∷ es) rise = let parts = and_yes _ _ rise in
      by_want (want e.0) (below_wanted e.0 es parts.0) (sorted_wanted es parts.1)
    where
      by_want : (o : Option ℕ) → T (below_all fold_cmp e.0 (wanted es))
          → T (is_sorted fold_cmp (wanted es)) → T (is_sorted fold_cmp (with_it e.0 o (wanted es)))
      by_want None first rest = rest
      by_want (Some conn) first rest = yes_and _ _ first rest

  find_wanted : (q : List ℕ) (es : List (List ℕ × X)) → T (is_sorted fold_cmp es)
      → find fold_cmp q (wanted es) ≡ option_and_then (λ (x : X). want q) (find fold_cmp q es)
  find_wanted q [] rise = refl
  find_wanted q (e ∷ es) rise =
      let parts = and_yes _ _ rise in
      by_want (want e.0) (same_fold q e.0) refl refl parts.0 (find_wanted q es parts.1)
    where
      by_want : (o : Option ℕ) (one : Bool) → want e.0 ≡ o
          → same_fold q e.0 ≡ one → T (below_all fold_cmp e.0 es)
          → find fold_cmp q (wanted es) ≡ option_and_then (λ (x : X). want q) (find fold_cmp q es)
          → find fold_cmp q (with_it e.0 (want e.0) (wanted es)) ≡ option_and_then
          (λ (x : X). want q) (cond (same_fold q e.0) (Some e.1) (find fold_cmp q es))
      by_want None true is one below rest =
          ap (λ w. find fold_cmp q (with_it e.0 w (wanted es))) is
          ∙ rest
          ∙ ap (option_and_then (λ (x : X). want q))
          (ap (λ f. find fold_cmp f es) (one_fold q e.0 one) ∙ none_behind e.0 es below)
          ∙ sym (ap (λ b. option_and_then (λ (x : X). want q)
          (cond b (Some e.1) (find fold_cmp q es))) one ∙ ap want (one_fold q e.0 one) ∙ is)
      by_want None false is one below rest =
          ap (λ w. find fold_cmp q (with_it e.0 w (wanted es))) is
          ∙ rest
          ∙ sym (ap (λ b. option_and_then (λ (x : X). want q)
          (cond b (Some e.1) (find fold_cmp q es))) one)
      by_want (Some conn) true is one below rest =
          ap (λ w. find fold_cmp q (with_it e.0 w (wanted es))) is
          ∙ ap (λ b. cond b (Some conn) (find fold_cmp q (wanted es))) one
          ∙ sym (ap (λ b. option_and_then (λ (x : X). want q)
          (cond b (Some e.1) (find fold_cmp q es))) one ∙ ap want (one_fold q e.0 one) ∙ is)
      by_want (Some conn) false is one below rest =
          ap (λ w. find fold_cmp q (with_it e.0 w (wanted es))) is
          ∙ ap (λ b. cond b (Some conn) (find fold_cmp q (wanted es))) one
          ∙ rest
          ∙ sym (ap (λ b. option_and_then (λ (x : X). want q)
          (cond b (Some e.1) (find fold_cmp q es))) one)

-- a test holds of folds of users alone
abbrev pub OnlyUsers : Room → (List ℕ → Bool) → Type 0
OnlyUsers room test = (q : List ℕ) → test q ≡ true → is_some (row room.users q) ≡ true

-- what stands under a fold of which it holds
abbrev pub heard_if : Table ℕ → (List ℕ → Bool) → List ℕ → Option ℕ
heard_if by_nick test q = if test q then row by_nick q else None

module _ (room : Room) (by_nick : Table ℕ) (test : List ℕ → Bool) where
  abbrev heard : List ℕ → Option ℕ
  heard q = heard_if by_nick test q

  abbrev passing : List User → List User
  passing users = filter (λ (user : User). test (key user.nick)) users

  abbrev nicks : List User → List (List ℕ)
  nicks users = map (λ (user : User). user.nick) users

  values_heard : (es : List (List ℕ × User))
      → AllByRecursion (λ (e : List ℕ × User). key e.1.nick ≡ e.0) es
      → map (λ e. e.1) (wanted heard es) ≡ conns_of by_nick (nicks (passing (map (λ e. e.1) es)))
  values_heard [] named = refl
  values_heard (e ∷ es) named =
      ap (λ q. map (λ e. e.1) (with_it e.0 (heard q) (wanted heard es))) (sym named.0)
      ∙ by_tests (test (key e.1.nick)) (row by_nick (key e.1.nick)) refl (values_heard es named.1)
    where
      by_tests : (t : Bool) (o : Option ℕ) → row by_nick (key e.1.nick) ≡ o → map (λ e. e.1)
          (wanted heard es) ≡ conns_of by_nick (nicks (passing (map (λ e. e.1) es))) → map (λ e.
          e.1) (with_it e.0 (if t then row by_nick (key e.1.nick) else None) (wanted heard es))
          ≡ conns_of by_nick
          (nicks (cond t (e.1 ∷ passing (map (λ e. e.1) es)) (passing (map (λ e. e.1) es))))
      by_tests true None is rest =
          ap (λ o. map (λ e. e.1) (with_it e.0 o (wanted heard es))) is
          ∙ rest
          ∙ sym (ap (λ o. option_to_list o
          ++ conns_of by_nick (nicks (passing (map (λ e. e.1) es)))) is)
      by_tests true (Some conn) is rest =
          ap (λ o. map (λ e. e.1) (with_it e.0 o (wanted heard es))) is
          ∙ ap (λ l. conn ∷ l) rest
          ∙ sym (ap (λ o. option_to_list o
          ++ conns_of by_nick (nicks (passing (map (λ e. e.1) es)))) is)
      by_tests false o is rest = rest

  -- nobody is heard who is no user
  no_user : OnlyUsers room test → (q : List ℕ) → row room.users q ≡ None → heard q ≡ None
  no_user only q none = by_test (test q) refl
    where
      by_test : (b : Bool) → test q ≡ b → heard q ≡ None
      by_test true holds = let there = only q holds in let is_none = ap is_some none in cc
      by_test false fails = ap (λ b. if b then row by_nick q else None) fails

  -- connections in folded order
  pub in_order : IsWellFormed room → OnlyUsers room test → (es : List (List ℕ × ℕ))
      → T (is_sorted fold_cmp es) → ((q : List ℕ) → find fold_cmp q es ≡ heard q)
      → map (λ e. e.1) es ≡ conns_who room by_nick test
  in_order well only es rise found =
      ap (map (λ (e : List ℕ × ℕ). e.1))
      (same_entries fold_cmp nat_list_cmp_total (slice_cmp-IsAntisymmetric nat_cmp-IsAntisymmetric)
      es (wanted heard (entries room.users))
      rise (sorted_wanted heard (entries room.users) (entries_sorted room.users))
      (λ q.
      found q
      ∙ by_user q (row room.users q) refl
      ∙ ap (option_and_then (λ (user : User). heard q)) (get-entries room.users q)
      ∙ sym (find_wanted heard q (entries room.users) (entries_sorted room.users))))
      ∙ values_heard (entries room.users)
      (each_entry (λ q (user : User). key user.nick ≡ q) (entries room.users)
      (entries_sorted room.users)
      (λ q user is. well.users_named q user (get-entries room.users q ∙ is)))
    where
      by_user : (q : List ℕ) (o : Option User) → row room.users q ≡ o
          → heard q ≡ option_and_then (λ (user : User). heard q) (row room.users q)
      by_user q None none =
          no_user only q none ∙ sym (ap (option_and_then (λ (user : User). heard q)) none)
      by_user q (Some user) there = sym (ap (option_and_then (λ (user : User). heard q)) there)

  pub in_table : IsWellFormed room → OnlyUsers room test → (table : Table ℕ)
      → ((q : List ℕ) → row table q ≡ heard q) → values table ≡ conns_who room by_nick test
  in_table well only table answers =
      in_order well only (entries table) (entries_sorted table)
      (λ q. sym (get-entries table q) ∙ answers q)

  pub in_list : IsWellFormed room → OnlyUsers room test → (o : Option Conns) → ((q : List ℕ)
      → conn_in o q ≡ heard q) → map (λ e. e.1) (conns_in o) ≡ conns_who room by_nick test
  in_list well only None answers = in_order well only [] tt answers
  in_list well only (Some conns) answers = in_table well only conns answers

-- tests that agree
pub conns_alike : (room : Room) (by_nick : Table ℕ) (one other : List ℕ → Bool)
    → ((q : List ℕ) → one q ≡ other q) → conns_who room by_nick one ≡ conns_who room by_nick other
conns_alike room by_nick one other alike = λ i. conns_who room by_nick (λ q. alike q i)

-- whether a fold is that of a nickname
pub nick_is : (nick q : List ℕ) → is_nick_of nick q ≡ true → key nick ≡ q
nick_is nick q is = (bytes_decides (key nick) q).0 is

pub is_nick : (nick q : List ℕ) → key nick ≡ q → is_nick_of nick q ≡ true
is_nick nick q is = (bytes_decides (key nick) q).1 is

pub nick_as_fold : (nick q : List ℕ) → same_fold q (key nick) ≡ is_nick_of nick q
nick_as_fold nick q = by_test (same_fold q (key nick)) refl
  where
    apart : (b : Bool) → is_nick_of nick q ≡ b → same_fold q (key nick) ≡ false → b ≡ false
    apart true is two = let one = ap (λ f. same_fold f (key nick)) (nick_is nick q is) in
        let refls = same_fold-refl (key nick) in cc
    apart false is two = refl

    by_test : (b : Bool) → same_fold q (key nick) ≡ b → b ≡ is_nick_of nick q
    by_test true one = sym (is_nick nick q (sym (one_fold q (key nick) one)))
    by_test false two = sym (apart (is_nick_of nick q) refl two)

-- ---- all but one

number_is : (one : Option ℕ) (conn : ℕ) → is_number one conn ≡ true → one ≡ Some conn
number_is None conn is = cc is
number_is (Some n) conn is = ap Some (eqb-true n conn is)

is_its_own : (conn : ℕ) → is_number (Some conn) conn ≡ true
is_its_own conn = eq-eqb conn conn refl

module _ (clients : Clients) (by_nick : Table ℕ) (index : IsIndex clients by_nick)
    (nick : List ℕ) where
  abbrev one : Option ℕ
  one = row by_nick (key nick)

  abbrev others : List ℕ → List ℕ
  others conns = filter (λ conn. not (is_number one conn)) conns

  -- two users are not one client
  one_client : (name : List ℕ) (conn : ℕ) → row by_nick (key name) ≡ Some conn
      → is_number one conn ≡ is_nick_of nick (key name)
  one_client name conn is = by_test (is_nick_of nick (key name)) refl
    where
      same_keys : (a b : List ℕ) → Some (Registered a) ≡ Some (Registered b) → key a ≡ key b
      same_keys a b is = cc is

      apart : (b : Bool) → is_number one conn ≡ b → is_nick_of nick (key name) ≡ false → b ≡ false
      apart false other two = refl
      apart true own two =
          named_is (key name) (get clients conn) (index.there (key name) conn is)
          (λ mine client one_key.
          named_is (key nick) (get clients conn)
          (index.there (key nick) conn (number_is one conn own)) (λ first client_too by_key.
          let clients_are : Some (Registered first) ≡ Some (Registered mine) = sym client_too
          ∙ client in
          let keys : key nick ≡ key name = sym by_key ∙ same_keys first mine clients_are
          ∙ one_key in
          let same_too = is_nick nick (key name) keys in cc))

      by_test : (b : Bool) → is_nick_of nick (key name) ≡ b → is_number one conn ≡ b
      by_test true same = ap (λ o. is_number o conn)
          (ap (row by_nick) (nick_is nick (key name) same) ∙ is) ∙ is_its_own conn
      by_test false two = apart (is_number one conn) refl two

  module _ (test : List ℕ → Bool) where
    abbrev nicked : List User → List ℕ
    nicked users = conns_of by_nick (map (λ (user : User). user.nick) users)

    abbrev more : User → Bool → List User → List User
    more user b rest = cond b (user ∷ rest) rest

    abbrev tested : List User → List User
    tested users = filter (λ (user : User). test (key user.nick)) users

    abbrev all_but_one : List User → List User
    all_but_one users = filter (λ (user : User). not (is_nick_of nick (key user.nick))
        && test (key user.nick)) users

    passed_over : (users : List User) → others (nicked (tested users)) ≡ nicked (all_but_one users)
    passed_over [] = refl
    passed_over (user ∷ users) = by_case (test (key user.nick)) (is_nick_of nick (key user.nick))
        (row by_nick (key user.nick)) refl refl (passed_over users)
      where
        by_case : (t b : Bool) (o : Option ℕ) → is_nick_of nick (key user.nick) ≡ b
            → row by_nick (key user.nick) ≡ o → others (nicked (tested users))
            ≡ nicked (all_but_one users) → others (nicked (more user t (tested users)))
            ≡ nicked (more user (not b && t) (all_but_one users))
        by_case false true o is at rest = rest
        by_case false false o is at rest = rest
        by_case true true None is at rest =
            ap (λ o. others (option_to_list o ++ nicked (tested users))) at ∙ rest
        by_case true false None is at rest =
            ap (λ o. others (option_to_list o ++ nicked (tested users))) at ∙ rest
            ∙ sym (ap (λ o. option_to_list o ++ nicked (all_but_one users)) at)
        by_case true true (Some conn) is at rest =
            ap (λ o. others (option_to_list o ++ nicked (tested users))) at
            ∙ ap (λ b. cond (not b) (conn ∷ others (nicked (tested users)))
            (others (nicked (tested users)))) (one_client user.nick conn at ∙ is)
            ∙ rest
        by_case true false (Some conn) is at rest =
            ap (λ o. others (option_to_list o ++ nicked (tested users))) at
            ∙ ap (λ b. cond (not b) (conn ∷ others (nicked (tested users)))
            (others (nicked (tested users)))) (one_client user.nick conn at ∙ is)
            ∙ ap (λ l. conn ∷ l) rest
            ∙ sym (ap (λ o. option_to_list o ++ nicked (all_but_one users)) at)

    -- of those of whom a test holds all but one
    pub but_one : (room : Room) → others (conns_who room by_nick test) ≡ conns_who room by_nick
        (λ q. not (is_nick_of nick q) && test q)
    but_one room = passed_over (values room.users)

-- the connections of some rows, as of their entries
pub values_of : (rows : List (Row ℕ))
    → map (λ row. row.value) rows ≡ map (λ e. e.1) (map row_entry rows)
values_of [] = refl
values_of (row ∷ rows) = ap (λ l. row.value ∷ l) (values_of rows)

-- nobody is in a room without channels
pub nobody_heard : (lists : Lists) (by_nick : Table ℕ) → lists ≡ empty → AreSo lists no_room by_nick
nobody_heard lists by_nick none = record {
  at = λ c n.
      ap (λ l. kept_at l c n) none
      ∙ ap (λ o. conn_in o n) (get-empty {X = Conns} fold_cmp c)
      ∙ sym (ap (λ o. if option_map_or (has_member n) o false then row by_nick n else None)
      (get-empty {X = Channel} fold_cmp c));
  used = λ c conns is. let no_list =
      ap (λ (l : Lists). row l c) none ∙ get-empty {X = Conns} fold_cmp c in cc;
}
