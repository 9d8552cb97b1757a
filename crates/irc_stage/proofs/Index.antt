-- The index by nickname follows the clients.
use Rattle.std.proofs.Common.{◌≡◌, ℕ, Bool, true, false, cond, Option, Some, None, List, refl, sym}
use Rattle.std.proofs.Common.{◌∙◌, ap, subst, option_map, if◌then◌else◌}
use Rattle.std.specs.FinMap.{empty, get, insert, remove, get-empty}
use Rattle.std.specs.Ordering.{nat_cmp}
use Rattle.std.proofs.lemmas.Option.{same_Some}
use Rattle.irc_names.specs.Fold.{key, same}
use Rattle.irc_names.specs.Tables.{Table, row, alter, moved, put_row, fold_cmp}
use Rattle.irc_names.specs.TableLaws.{same_fold, same_fold-refl, one_fold, row-alter, row-moved}
use Rattle.irc_names.specs.TableLaws.{row-moved_none, same_table}
use Rattle.irc_stage.specs.declared.clients.Client.{Client}
use Rattle.irc_stage.specs.declared.clients.Client.TheVariants.{Registering, Registered}
use Rattle.irc_stage.specs.RoomMachine.{Clients, each_client}
use Rattle.irc_stage.specs.Handle.{renamed_in}
use Rattle.irc_stage.specs.Loops.Parts.{entered, departed, IsIndex, IsRegisteredAs, IsNoUser}
use Rattle.irc_stage.specs.Loops.Parts.{IsFreeFor, IsFreeOf}
use Rattle.irc_stage.specs.Lemmas.Numbers.{same_number, one_number, same_number-refl, same_clients}
use Rattle.irc_stage.specs.Lemmas.Numbers.{get-with, get-without, get-each}
use Rattle.irc_stage.specs.Lemmas.Matching.{named_is, nick_in, never_registered, same_by_key}
use Rattle.irc_stage.specs.Lemmas.Matching.{key_by_same, left_client, new_client}

pub at_it : (clients : Clients) (conn q : ℕ) (client : Client) → q ≡ conn
    → get (insert clients conn client) q ≡ Some client
at_it clients conn q client is =
    get-with clients conn client q ∙ ap (λ b. cond b (Some client) (get clients q))
    (ap (same_number q) (sym is) ∙ same_number-refl q)

pub at_other : (clients : Clients) (conn q : ℕ) (client : Client) → same_number q conn ≡ false
    → get (insert clients conn client) q ≡ get clients q
at_other clients conn q client two =
    get-with clients conn client q ∙ ap (λ b. cond b (Some client) (get clients q)) two

pub past_it : (clients : Clients) (conn q : ℕ) → same_number q conn ≡ false
    → get (remove clients conn) q ≡ get clients q
past_it clients conn q two = get-without clients conn q ∙ ap (λ b. cond b None (get clients q)) two

never_named : {A : Type 0} (fold : List ℕ) (client : Option Client) → IsRegisteredAs fold client
    → IsNoUser client → A
never_named fold None named none = absurd named
never_named fold (Some (Registering pending)) named none = absurd named
never_named fold (Some (Registered nick)) named none = absurd none

-- another number than that of one who is no user
apart_from : {A : Type 0} (clients : Clients) (conn q : ℕ) (fold : List ℕ) → IsRegisteredAs fold
    (get clients q) → IsNoUser (get clients conn) → (same_number q conn ≡ false → A) → A
apart_from {A} clients conn q fold named none so = by (same_number q conn) refl
  where
    by : (b : Bool) → same_number q conn ≡ b → A
    by true one = never_named fold (get clients q) named
        (subst (λ n. IsNoUser (get clients n)) (sym (one_number q conn one)) none)
    by false two = so two

pub nobody_indexed : IsIndex empty empty
nobody_indexed = record {
  found = λ conn nick is. let none = get-empty {X = Client} nat_cmp conn in cc;
  there = λ fold conn is. let none = get-empty {X = ℕ} fold_cmp fold in cc;
}

module _ (clients : Clients) (by_nick : Table ℕ) (index : IsIndex clients by_nick) (conn : ℕ)
    (none : IsNoUser (get clients conn)) where
  pub pending_indexed : (client : Client) → IsNoUser (Some client)
      → IsIndex (insert clients conn client) by_nick
  pending_indexed client pending = record {
    found = λ q name is. new_client clients conn q client (Registered name) is
        (λ at now. never_registered (Some client) name pending (ap Some now))
        (λ two was. index.found q name was);
    there = λ fold q is. apart_from clients conn q fold (index.there fold q is) none
        (λ two. subst (IsRegisteredAs fold) (sym (at_other clients conn q client two))
        (index.there fold q is));
  }

  pub user_indexed : (nick : List ℕ) → IsFreeOf (Registered nick) clients
      → IsIndex (insert clients conn (Registered nick)) (alter (key nick) (λ _. Some conn) by_nick)
  user_indexed nick free = record {
    found = λ q name is. new_client clients conn q (Registered nick) (Registered name) is
        (λ at now. row-alter (key nick) (λ _. Some conn) by_nick (key name)
        ∙ ap (λ b. cond b (Some conn) (row by_nick (key name))) (ap (λ n. same_fold (key n)
        (key nick)) (sym (nick_in nick name (ap Some now))) ∙ same_fold-refl (key nick))
        ∙ ap Some (sym at))
        (λ two was. row-alter (key nick) (λ _. Some conn) by_nick (key name)
        ∙ kept q name was (same_fold (key name) (key nick)) refl);
    there = λ fold q is. by fold q (same_fold fold (key nick)) refl
        (sym (row-alter (key nick) (λ _. Some conn) by_nick fold) ∙ is);
  }
    where
      kept : (q : ℕ) (name : List ℕ) → get clients q ≡ Some (Registered name)
          → (b : Bool) → same_fold (key name) (key nick) ≡ b
          → cond b (Some conn) (row by_nick (key name)) ≡ Some q
      kept q name was true one = absurd (free q name was (one_fold (key name) (key nick) one))
      kept q name was false two = index.found q name was

      by : (fold : List ℕ) (q : ℕ) (b : Bool) → same_fold fold (key nick) ≡ b
          → cond b (Some conn) (row by_nick fold) ≡ Some q
          → IsRegisteredAs fold (get (insert clients conn (Registered nick)) q)
      by fold q true one is =
          subst (IsRegisteredAs fold) (sym (at_it clients conn q (Registered nick)
          (sym (same_Some conn q is)))) (sym (one_fold fold (key nick) one))
      by fold q false two is = apart_from clients conn q fold (index.there fold q is) none
          (λ apart. subst (IsRegisteredAs fold)
          (sym (at_other clients conn q (Registered nick) apart)) (index.there fold q is))

  pub nobody_left : IsIndex (remove clients conn) by_nick
  nobody_left = record {
    found = λ q name is. index.found q name (left_client clients conn q (Registered name) is).1;
    there = λ fold q is. apart_from clients conn q fold (index.there fold q is) none
        (λ two. subst (IsRegisteredAs fold) (sym (past_it clients conn q two))
        (index.there fold q is));
  }

-- the number of one name
same_conn : (clients : Clients) (by_nick : Table ℕ) → IsIndex clients by_nick
    → (conn q : ℕ) (nick name : List ℕ) → get clients conn ≡ Some (Registered nick)
    → get clients q ≡ Some (Registered name) → key name ≡ key nick → q ≡ conn
same_conn clients by_nick index conn q nick name mine was one =
    same_Some q conn (sym (index.found q name was) ∙ ap (row by_nick) one
    ∙ index.found conn nick mine)

apart_names : {A : Type 0} (clients : Clients) (by_nick : Table ℕ) → IsIndex clients by_nick
    → (conn q : ℕ) (nick name : List ℕ) → get clients conn ≡ Some (Registered nick)
    → get clients q ≡ Some (Registered name) → same_number q conn ≡ false → key name ≡ key nick → A
apart_names clients by_nick index conn q nick name mine was two one =
    let number =
    ap (same_number q) (sym (same_conn clients by_nick index conn q nick name mine was one))
    ∙ same_number-refl q in cc

pub user_left : (clients : Clients) (by_nick : Table ℕ) → IsIndex clients by_nick
    → (conn : ℕ) (nick : List ℕ) → get clients conn ≡ Some (Registered nick)
    → IsIndex (remove clients conn) (alter (key nick) (λ _. None) by_nick)
user_left clients by_nick index conn nick mine = record {
  found = λ q name is.
      let left = left_client clients conn q (Registered name) is in
      row-alter (key nick) (λ _. None) by_nick (key name)
      ∙ kept q name left.0 left.1 (same_fold (key name) (key nick)) refl;
  there = λ fold q is. by fold q (same_fold fold (key nick)) refl
      (sym (row-alter (key nick) (λ _. None) by_nick fold) ∙ is);
}
  where
    kept : (q : ℕ) (name : List ℕ) → same_number q conn ≡ false
        → get clients q ≡ Some (Registered name) → (b : Bool) → same_fold (key name) (key nick) ≡ b
        → cond b None (row by_nick (key name)) ≡ Some q
    kept q name two was true one = apart_names clients by_nick index conn q nick name mine was two
        (one_fold (key name) (key nick) one)
    kept q name two was false other = index.found q name was

    moved_on : (fold : List ℕ) (q : ℕ) → same_fold fold (key nick) ≡ false
        → IsRegisteredAs fold (get clients q) → (b : Bool) → same_number q conn ≡ b
        → IsRegisteredAs fold (get (remove clients conn) q)
    moved_on fold q other named true one =
        let mine_too : get clients q ≡ Some (Registered nick) =
        ap (get clients) (one_number q conn one) ∙ mine in
        let named_so : key nick ≡ fold = subst (IsRegisteredAs fold) mine_too named in
        let folds =
        ap (λ f. same_fold f (key nick)) (sym named_so) ∙ same_fold-refl (key nick) in cc
    moved_on fold q other named false two =
        subst (IsRegisteredAs fold) (sym (past_it clients conn q two)) named

    by : (fold : List ℕ) (q : ℕ) (b : Bool) → same_fold fold (key nick) ≡ b → cond b None
        (row by_nick fold) ≡ Some q → IsRegisteredAs fold (get (remove clients conn) q)
    by fold q true one is = cc is
    by fold q false other is =
        moved_on fold q other (index.there fold q is) (same_number q conn) refl

-- a user takes another nickname

-- a client that is not the user of a nickname stays as it is
not_renamed : (old new : List ℕ) (o : Option Client) → ((name : List ℕ) → o ≡ Some (Registered name)
    → same name old ≡ false) → option_map (renamed_in old new) o ≡ o
not_renamed old new None other = refl
not_renamed old new (Some (Registering pending)) other = refl
not_renamed old new (Some (Registered name)) other =
    ap (λ b. Some (if b then Registered new else Registered name)) (other name refl)

pub differs : (a b : List ℕ) → (key a ≡ key b → ⊥) → same a b ≡ false
differs a b apart = by (same a b) refl
  where
    by : (t : Bool) → same a b ≡ t → t ≡ false
    by true one = absurd (apart (key_by_same a b one))
    by false two = refl

-- nobody here has the nickname
pub nobody_renamed : (clients : Clients) (by_nick : Table ℕ)
    → IsIndex clients by_nick → (old new : List ℕ) → row by_nick (key old) ≡ None
    → clients ≡ each_client (renamed_in old new) clients
nobody_renamed clients by_nick index old new none = same_clients _ _ (λ q.
    sym (get-each (renamed_in old new) clients q
    ∙ not_renamed old new (get clients q) (λ name is. differs name old
    (λ one. let found = index.found q name is in let folds = ap (row by_nick) one in cc))))

module _ (clients : Clients) (by_nick : Table ℕ) (index : IsIndex clients by_nick)
    (old new : List ℕ) (conn : ℕ) (is_conn : row by_nick (key old) ≡ Some conn) where
  pub one_renamed : insert clients conn (Registered new) ≡ each_client (renamed_in old new) clients
  one_renamed = same_clients _ _ (λ q. get-with clients conn (Registered new) q
      ∙ by q (same_number q conn) refl ∙ sym (get-each (renamed_in old new) clients q))
    where
      it : (q : ℕ) (o : Option Client) → IsRegisteredAs (key old) o
          → Some (Registered new) ≡ option_map (renamed_in old new) o
      it q None named = absurd named
      it q (Some (Registering pending)) named = absurd named
      it q (Some (Registered name)) named = ap (λ b.
          Some (if b then Registered new else Registered name)) (sym (same_by_key name old named))

      by : (q : ℕ) (b : Bool) → same_number q conn ≡ b → cond b (Some (Registered new))
          (get clients q) ≡ option_map (renamed_in old new) (get clients q)
      by q true one = it q (get clients q) (subst (λ n. IsRegisteredAs (key old) (get clients n))
          (sym (one_number q conn one)) (index.there (key old) conn is_conn))
      by q false two = sym (not_renamed old new (get clients q) (λ name is. differs name old (λ one.
          let number : q ≡ conn =
          same_Some q conn (sym (index.found q name is) ∙ ap (row by_nick) one ∙ is_conn) in
          let same_too = ap (same_number q) (sym number) ∙ same_number-refl q in cc)))

  elsewhere : {A : Type 0} (q : ℕ) (name : List ℕ) → get clients q ≡ Some (Registered name)
      → same_number q conn ≡ false → key name ≡ key old → A
  elsewhere q name was two one =
      let number : q ≡ conn =
      same_Some q conn (sym (index.found q name was) ∙ ap (row by_nick) one ∙ is_conn) in
      let same_too = ap (same_number q) (sym number) ∙ same_number-refl q in cc

  pub renamed_indexed : IsFreeFor old new clients → IsIndex (insert clients conn (Registered new))
      (moved (key old) (key new) (λ value. value) by_nick)
  renamed_indexed free = record {
    found = λ q name is. new_client clients conn q (Registered new) (Registered name) is
        (λ at now. answers (key name)
        ∙ ap (λ b. cond b (Some conn)
        (cond (same_fold (key name) (key old)) None (row by_nick (key name))))
        (ap (λ n. same_fold (key n) (key new)) (sym (nick_in new name (ap Some now)))
        ∙ same_fold-refl (key new))
        ∙ ap Some (sym at))
        (λ two was. answers (key name) ∙ kept q name two was (same_fold (key name) (key new))
        (same_fold (key name) (key old)) refl refl);
    there = λ fold q is. by fold q (same_fold fold (key new)) (same_fold fold (key old)) refl refl
        (sym (answers fold) ∙ is);
  }
    where
      answers : (q : List ℕ) → row (moved (key old) (key new) (λ value. value) by_nick) q
          ≡ cond (same_fold q (key new)) (Some conn)
          (cond (same_fold q (key old)) None (row by_nick q))
      answers q = row-moved (key old) (key new) (λ value. value) by_nick conn is_conn q

      kept : (q : ℕ) (name : List ℕ) → same_number q conn ≡ false
          → get clients q ≡ Some (Registered name) → (b c : Bool)
          → same_fold (key name) (key new) ≡ b → same_fold (key name) (key old) ≡ c
          → cond b (Some conn) (cond c None (row by_nick (key name))) ≡ Some q
      kept q name two was true c is_new is_old =
          elsewhere q name was two (free q name was (one_fold (key name) (key new) is_new))
      kept q name two was false true is_new is_old =
          elsewhere q name was two (one_fold (key name) (key old) is_old)
      kept q name two was false false is_new is_old = index.found q name was

      stays : (fold : List ℕ) (q : ℕ) → same_fold fold (key old) ≡ false
          → IsRegisteredAs fold (get clients q) → (b : Bool) → same_number q conn ≡ b
          → IsRegisteredAs fold (get (insert clients conn (Registered new)) q)
      stays fold q other named true one =
          named_is fold (get clients q) named (λ name is named_so.
          named_is (key old) (get clients conn) (index.there (key old) conn is_conn)
          (λ mine mine_is mine_named.
          let one_name : name ≡ mine =
          nick_in name mine (sym is ∙ ap (get clients) (one_number q conn one) ∙ mine_is) in
          let folds = ap (λ f. same_fold f (key old)) (sym named_so ∙ ap key one_name ∙ mine_named)
          ∙ same_fold-refl (key old) in cc))
      stays fold q other named false two =
          subst (IsRegisteredAs fold) (sym (at_other clients conn q (Registered new) two)) named

      by : (fold : List ℕ) (q : ℕ) (b c : Bool) → same_fold fold (key new) ≡ b
          → same_fold fold (key old) ≡ c → cond b (Some conn) (cond c None (row by_nick fold))
          ≡ Some q → IsRegisteredAs fold (get (insert clients conn (Registered new)) q)
      by fold q true c is_new is_old is =
          subst (IsRegisteredAs fold) (sym (at_it clients conn q (Registered new)
          (sym (same_Some conn q is)))) (sym (one_fold fold (key new) is_new))
      by fold q false true is_new is_old is = cc is
      by fold q false false is_new is_old is =
          stays fold q is_old (index.there fold q is) (same_number q conn) refl

-- what the code does

pub seated_indexed : (clients : Clients) (by_nick : Table ℕ) → IsIndex clients by_nick
    → (conn : ℕ) → IsNoUser (get clients conn) → (client : Client) → IsFreeOf client clients
    → (now : Clients) (table : Table ℕ) → now ≡ insert clients conn client
    → table ≡ entered conn client by_nick → IsIndex now table
seated_indexed clients by_nick index conn none
    (Registering pending) free now table now_is table_is =
    subst (IsIndex now) (sym table_is) (subst (λ cs. IsIndex cs by_nick) (sym now_is)
    (pending_indexed clients by_nick index conn none (Registering pending) tt))
seated_indexed clients by_nick index conn none (Registered nick) free now table now_is table_is =
    subst (IsIndex now) (sym table_is)
    (subst (λ cs. IsIndex cs (alter (key nick) (λ _. Some conn) by_nick)) (sym now_is)
    (user_indexed clients by_nick index conn none nick free))

pub left_indexed : (clients : Clients) (by_nick : Table ℕ) → IsIndex clients by_nick → (conn : ℕ)
    (client : Option Client) → get clients conn ≡ client → (now : Clients) (table : Table ℕ)
    → now ≡ remove clients conn → table ≡ departed client by_nick → IsIndex now table
left_indexed clients by_nick index conn None is now table now_is table_is =
    subst (IsIndex now) (sym table_is) (subst (λ cs. IsIndex cs by_nick) (sym now_is)
    (nobody_left clients by_nick index conn (subst IsNoUser (sym is) tt)))
left_indexed clients by_nick index conn (Some (Registering pending)) is now table now_is table_is =
    subst (IsIndex now) (sym table_is) (subst (λ cs. IsIndex cs by_nick) (sym now_is)
    (nobody_left clients by_nick index conn (subst IsNoUser (sym is) tt)))
left_indexed clients by_nick index conn (Some (Registered nick)) is now table now_is table_is =
    subst (IsIndex now) (sym table_is)
    (subst (λ cs. IsIndex cs (alter (key nick) (λ _. None) by_nick)) (sym now_is)
    (user_left clients by_nick index conn nick is))

-- taken out at one fold and put at another is moved
pub as_moved : (old new : List ℕ) (conn : ℕ) (table : Table ℕ) → row table old ≡ Some conn
    → alter new (λ _. Some conn) (alter old (λ _. None) table) ≡ moved old new
    (λ value. value) table
unfolding moved
as_moved old new conn table at =
    sym (ap (λ o. put_row o new (λ value. value) (alter old (λ _. None) table)) at)

-- where there is nothing at the first, nothing is
pub not_moved : (old new : List ℕ) (table : Table ℕ) → row table old ≡ None
    → table ≡ moved old new (λ value. value) table
not_moved old new table none =
    sym (same_table (moved old new (λ value. value) table) table
    (row-moved_none old new (λ value. value) table none))

pub rename_indexed : (clients : Clients) (by_nick : Table ℕ) → IsIndex clients by_nick
    → (old new : List ℕ) (conn : ℕ) → row by_nick (key old) ≡ Some conn
    → IsFreeFor old new clients → (name : List ℕ) (now : Clients) (table : Table ℕ) → name ≡ new
    → now ≡ insert clients conn (Registered name) → table ≡ alter (key new) (λ _. Some conn)
    (alter (key old) (λ _. None) by_nick) → IsIndex now table
rename_indexed clients by_nick index old new conn is_conn free name now table name_is now_is
    table_is =
    subst (IsIndex now)
    (sym (table_is ∙ as_moved (key old) (key new) conn by_nick is_conn))
    (subst (λ cs. IsIndex cs (moved (key old) (key new) (λ value. value) by_nick))
    (sym (now_is ∙ ap (λ n. insert clients conn (Registered n)) name_is))
    (renamed_indexed clients by_nick index old new conn is_conn free))
