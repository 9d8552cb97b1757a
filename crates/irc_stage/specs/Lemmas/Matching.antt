-- Clients and users stay matched, whatever happens.
use Rattle.std.proofs.Common.{◌≡◌, ℕ, Bool, true, false, cond, not, ◌||◌, T, Option, Some}
use Rattle.std.proofs.Common.{None, List, [], ◌∷◌, refl, sym, ◌∙◌, ap, option_map, is_some}
use Rattle.std.proofs.Common.{if◌then◌else◌}
use Rattle.std.specs.List.{list_any}
use Rattle.std.specs.Option.{option_map_or}
use Rattle.std.specs.Cmp.Lexicographic.{bytes_decides}
use Rattle.std.specs.Ordering.{nat_cmp}
use Rattle.std.specs.FinMap.{get, insert, remove, entries, entries_sorted, find, is_sorted}
use Rattle.std.specs.FinMap.{get-entries}
use Rattle.std.specs.Cmp.{first_so}
use Rattle.std.proofs.lemmas.Bool.{or_right, or_parts}
use Rattle.std.proofs.Math.Facts.{and_yes}
use Rattle.std.proofs.lemmas.Option.{same_Some}
use Rattle.irc_names.specs.Lemmas.PlainFacts.{implied}
use Rattle.irc_names.specs.Fold.{key, same}
use Rattle.irc_names.specs.Tables.{row, alter}
use Rattle.irc_names.specs.TableLaws.{same_fold, same_fold-refl, one_fold, row-alter, row-moved}
use Rattle.irc_users.specs.declared.user.User.{User}
use Rattle.irc_users.specs.declared.user_change.UserChange.{UserChange}
use Rattle.irc_users.specs.UserTable.{is_home, with_nick, with_change}
use Rattle.irc_room.specs.effect.Effect.{Effect}
use Rattle.irc_room.specs.effect.Effect.TheVariants.{AddUser, Rename, Quit}
use Rattle.irc_room.specs.effect.Effect.TheVariants.{ChangeUser}
use Rattle.irc_room.specs.Effects.{IsPossible, has_user}
use Rattle.irc_room.specs.After.{after}
use Rattle.irc_acts.specs.declared.act.Act.{Act}
use Rattle.irc_acts.specs.declared.act.Act.TheVariants.{Answer, Raw, Do}
use Rattle.irc_acts.specs.Possible.{ArePossible}
use Rattle.irc_commands.specs.Comings.{adds_or_ends, is_effect}
use Rattle.irc_stage.specs.declared.clients.Client.{Client}
use Rattle.irc_stage.specs.declared.clients.Client.TheVariants.{Registering, Registered}
use Rattle.irc_stage.specs.RoomMachine.{Clients, RoomMachine, client_of, with_client}
use Rattle.irc_stage.specs.RoomMachine.{without_client}
use Rattle.irc_stage.specs.Handle.{Handled, renamed_in, machine_after, clients_after, stepped}
use Rattle.irc_stage.specs.Handle.{all_stepped}
use Rattle.irc_stage.specs.Matched.{has_client, is_user_here, is_user_of, IsMatched}
use Rattle.irc_stage.specs.Loops.Parts.{IsFit, AreFit, AreInTurn, LeavesApart, IsFreeFor, IsFreeOf}
use Rattle.irc_stage.specs.Loops.Parts.{IsRegisteredAs, IsNoUser}
use Rattle.irc_stage.specs.Lemmas.Numbers.{here, later, same_number, one_number, same_number-refl}
use Rattle.irc_stage.specs.Lemmas.Numbers.{same_number-is, get-with, get-without, get-each}

-- a nickname in a client
pub nick_in : (nick name : List ℕ) → Some (Registered nick) ≡ Some (Registered name) → nick ≡ name
nick_in nick name is = cc

pub never_registered : {A : Type 0} (client : Option Client) (name : List ℕ) → IsNoUser client
    → client ≡ Some (Registered name) → A
never_registered None name none is = cc is
never_registered (Some (Registering pending)) name none is = cc is
never_registered (Some (Registered nick)) name none is = absurd none

-- who is named is registered
pub named_is : {A : Type 0} (fold : List ℕ) (client : Option Client) → IsRegisteredAs fold client
    → ((nick : List ℕ) → client ≡ Some (Registered nick) → key nick ≡ fold → A) → A
named_is fold None named so = absurd named
named_is fold (Some (Registering pending)) named so = absurd named
named_is fold (Some (Registered nick)) named so = so nick refl named

-- whether two names are the same, by their folds
pub same_by_key : (a b : List ℕ) → key a ≡ key b → same a b ≡ true
same_by_key a b is = (bytes_decides (key a) (key b)).1 is

pub key_by_same : (a b : List ℕ) → same a b ≡ true → key a ≡ key b
key_by_same a b is = (bytes_decides (key a) (key b)).0 is

-- a client after another has come, and after one has gone

pub left_client : (clients : Clients) (conn q : ℕ) (client : Client) → get (remove clients conn) q
    ≡ Some client → (same_number q conn ≡ false) × (get clients q ≡ Some client)
left_client clients conn q client is =
    by (same_number q conn) refl (sym (get-without clients conn q) ∙ is)
  where
    by : (b : Bool) → same_number q conn ≡ b → cond b None (get clients q) ≡ Some client
        → (same_number q conn ≡ false) × (get clients q ≡ Some client)
    by true one left = cc left
    by false two left = (two, left)

pub new_client : {A : Type 0} (clients : Clients) (conn q : ℕ) (client other : Client)
    → get (insert clients conn client) q ≡ Some other → (q ≡ conn → client ≡ other → A)
    → (same_number q conn ≡ false → get clients q ≡ Some other → A) → A
new_client {A = A} clients conn q client other is mine others =
    by (same_number q conn) refl (sym (get-with clients conn client q) ∙ is)
  where
    by : (b : Bool) → same_number q conn ≡ b → cond b (Some client) (get clients q) ≡ Some other → A
    by true one left = mine (one_number q conn one) (same_Some client other left)
    by false two left = others two left

-- some client has a nickname

-- some entry passes a test
any_found : (p : Client → Bool) (es : List (ℕ × Client)) (q : ℕ) (c : Client)
    → find nat_cmp q es ≡ Some c → p c ≡ true → list_any (λ (e : ℕ × Client). p e.1) es ≡ true
any_found p [] q c is passes = cc is
any_found p (e ∷ es) q c is passes = by (same_number q e.0) refl (any_found p es q c) is
  where
    by : (b : Bool) → same_number q e.0 ≡ b
        → (find nat_cmp q es ≡ Some c → p c ≡ true → list_any (λ (x : ℕ × Client). p x.1) es ≡ true)
        → cond b (Some e.1) (find nat_cmp q es) ≡ Some c
        → (p e.1 || list_any (λ (x : ℕ × Client). p x.1) es) ≡ true
    by true one rest found = ap (λ b. b || list_any (λ (x : ℕ × Client). p x.1) es)
        (ap p (same_Some e.1 c found) ∙ passes)
    by false two rest found =
        or_right (p e.1) (list_any (λ (x : ℕ × Client). p x.1) es) (rest found passes)

-- and is found under its number
any_gives : {A : Type 0} (p : Client → Bool) (es : List (ℕ × Client))
    → T (is_sorted nat_cmp es) → list_any (λ (e : ℕ × Client). p e.1) es ≡ true
    → ((q : ℕ) (c : Client) → find nat_cmp q es ≡ Some c → p c ≡ true → A) → A
any_gives p [] rise some gives = cc some
any_gives {A = A} p (e ∷ es) rise some gives =
    by (p e.1) refl some (λ rest. any_gives p es (and_yes _ _ rise).1 rest
    (λ q c is passes. gives q c (later e es q c (and_yes _ _ rise).0 is) passes))
  where
    by : (b : Bool) → p e.1 ≡ b → (b || list_any (λ (x : ℕ × Client). p x.1) es) ≡ true
        → (list_any (λ (x : ℕ × Client). p x.1) es ≡ true → A) → A
    by true passes some rest = gives e.0 e.1 (here e es) passes
    by false fails some rest = rest some

pub has_from : (clients : Clients) (conn : ℕ) (nick fold : List ℕ)
    → get clients conn ≡ Some (Registered nick) → key nick ≡ fold → has_client clients fold ≡ true
has_from clients conn nick fold is named =
    any_found (is_user_of fold) (entries clients) conn (Registered nick)
    (sym (get-entries clients conn) ∙ is) ((bytes_decides (key nick) fold).1 named)

pub has_to : {A : Type 0} (clients : Clients) (fold : List ℕ) → has_client clients fold ≡ true
    → ((conn : ℕ) (nick : List ℕ) → get clients conn ≡ Some (Registered nick) → key nick ≡ fold → A)
    → A
has_to {A = A} clients fold has gives = any_gives (is_user_of fold) (entries clients)
    (entries_sorted clients) has (λ q c is. by q c (get-entries clients q ∙ is))
  where
    by : (q : ℕ) (c : Client) → get clients q ≡ Some c → is_user_of fold c ≡ true → A
    by q (Registering pending) is passes = cc passes
    by q (Registered nick) is passes = gives q nick is ((bytes_decides (key nick) fold).0 passes)

-- a user that is here

here_row : (machine : RoomMachine) (nick : List ℕ) → is_user_here machine nick ≡ true
    → is_some (row machine.room.users (key nick)) ≡ true
here_row machine nick known = by (row machine.room.users (key nick)) known
  where
    by : (o : Option User) → option_map_or (is_home machine.place.name) o false ≡ true
        → is_some o ≡ true
    by None known = cc known
    by (Some user) known = refl

pub live : (machine : RoomMachine) → IsMatched machine
    → (conn : ℕ) (nick : List ℕ) (user : User) → client_of machine conn ≡ Some (Registered nick)
    → row machine.room.users (key nick) ≡ Some user → user.home ≡ machine.place.name
live machine matched conn nick user is there =
    (bytes_decides user.home machine.place.name).0
    (ap (λ o. option_map_or (is_home machine.place.name) o false) (sym there)
    ∙ matched.registered_is_user conn nick is)

-- the user of a client is known by its nickname, spelled so
pub spelled_row : (machine : RoomMachine) → IsMatched machine
    → (conn : ℕ) (nick : List ℕ) → client_of machine conn ≡ Some (Registered nick)
    → option_map (λ (user : User). user.nick) (row machine.room.users (key nick)) ≡ Some nick
spelled_row machine matched conn nick is = by (row machine.room.users (key nick)) refl
  where
    by : (o : Option User) → row machine.room.users (key nick) ≡ o
        → option_map (λ (user : User). user.nick) o ≡ Some nick
    by None there =
        let here = matched.registered_is_user conn nick is in
        let nobody = ap (λ o. option_map_or (is_home machine.place.name) o false) there in absurd cc
    by (Some user) there = ap Some (matched.spelled conn nick user is there)

-- Any possible effect is fit where clients and users are matched.

free_new : (machine : RoomMachine) (nick new : List ℕ) → IsMatched machine
    → IsPossible machine.room (Rename nick new) → IsFreeFor nick new machine.clients
free_new machine nick new matched possible conn name is same_new =
    same_new ∙ sym (key_by_same nick new
    (implied (has_user machine.room new) (same nick new) possible.nick_free
    (ap (λ q. is_some (row machine.room.users q)) (sym same_new)
    ∙ here_row machine name (matched.registered_is_user conn name is))))

apart_by : (machine : RoomMachine) (effect : Effect) → IsMatched machine
    → IsPossible machine.room effect → LeavesApart effect machine.clients
apart_by machine (Rename nick new) matched possible = free_new machine nick new matched possible
apart_by machine other matched possible = tt

pub fit_by : (machine : RoomMachine) (effect : Effect) → IsMatched machine
    → IsPossible machine.room effect → IsFit machine effect
fit_by machine effect matched possible = record {
  possible = possible;
  at_home = live machine matched;
  apart = apart_by machine effect matched possible;
}

-- A user that takes another nickname.

-- a client is registered after a rename: its user took the new nickname, or it is another
pub renamed_client : {A : Type 0} (clients : Clients) (nick new : List ℕ) (conn : ℕ) (name : List ℕ)
    → get (clients_after (Rename nick new) clients) conn ≡ Some (Registered name) → ((old : List ℕ)
    → get clients conn ≡ Some (Registered old) → key old ≡ key nick → new ≡ name → A)
    → (get clients conn ≡ Some (Registered name) → same name nick ≡ false → A) → A
renamed_client {A} clients nick new conn name is took stayed =
    by_client (get clients conn) refl (sym (get-each (renamed_in nick new) clients conn) ∙ is)
  where
    by_same : (old : List ℕ) (b : Bool) → same old nick ≡ b
        → get clients conn ≡ Some (Registered old)
        → Some (if b then Registered new else Registered old) ≡ Some (Registered name) → A
    by_same old true one was now = took old was (key_by_same old nick one) (nick_in new name now)
    by_same old false two was now = let name_is = nick_in old name now in
        stayed (was ∙ ap (λ n. Some (Registered n)) name_is)
        (ap (λ n. same n nick) (sym name_is) ∙ two)

    by_client : (o : Option Client) → get clients conn ≡ o
        → option_map (renamed_in nick new) o ≡ Some (Registered name) → A
    by_client None was now = cc now
    by_client (Some (Registering pending)) was now = cc now
    by_client (Some (Registered old)) was now = by_same old (same old nick) refl was now

module _ (machine : RoomMachine) (nick new : List ℕ) (matched : IsMatched machine)
    (possible : IsPossible machine.room (Rename nick new)) where
  abbrev renamed_machine : RoomMachine
  renamed_machine = machine_after machine (Rename nick new)

  apart_from : {A : Type 0} (conn : ℕ) (name : List ℕ) → get machine.clients conn
      ≡ Some (Registered name) → same name nick ≡ false → key name ≡ key new → A
  apart_from conn name is two one = let both =
      same_by_key name nick (free_new machine nick new matched possible conn name is one) in cc

  here_after : (x : User) → row machine.room.users (key nick) ≡ Some x → (conn : ℕ) (name : List ℕ)
      → get (clients_after (Rename nick new) machine.clients) conn ≡ Some (Registered name)
      → is_user_here renamed_machine name ≡ true
  unfolding after
  here_after x there conn name is = renamed_client machine.clients nick new conn name is took stayed
    where
      answers : (q : List ℕ) → row (after machine.room (Rename nick new)).users q
          ≡ cond (same_fold q (key new)) (Some (with_nick new x))
          (cond (same_fold q (key nick)) None (row machine.room.users q))
      answers q = row-moved (key nick) (key new) (with_nick new) machine.room.users x there q

      took : (old : List ℕ) → get machine.clients conn ≡ Some (Registered old) → key old ≡ key nick
          → new ≡ name → is_user_here renamed_machine name ≡ true
      took old was same_old new_is =
          ap (λ n. option_map_or (is_home machine.place.name)
          (row (after machine.room (Rename nick new)).users (key n)) false) (sym new_is)
          ∙ ap (λ o. option_map_or (is_home machine.place.name) o false)
          (answers (key new) ∙ ap (λ b. cond b (Some (with_nick new x))
          (cond (same_fold (key new) (key nick)) None (row machine.room.users (key new))))
          (same_fold-refl (key new)))
          ∙ ap (λ o. option_map_or (is_home machine.place.name) o false)
          (sym there ∙ ap (row machine.room.users) (sym same_old))
          ∙ matched.registered_is_user conn old was

      other : get machine.clients conn ≡ Some (Registered name) → same name nick ≡ false
          → (b c : Bool) → same_fold (key name) (key new) ≡ b → same_fold (key name) (key nick) ≡ c
          → cond b (Some (with_nick new x)) (cond c None (row machine.room.users (key name)))
          ≡ row machine.room.users (key name)
      other was two true c is_new is_old =
          apart_from conn name was two (one_fold (key name) (key new) is_new)
      other was two false true is_new is_old =
          let one = same_by_key name nick (one_fold (key name) (key nick) is_old) in cc
      other was two false false is_new is_old = refl

      stayed : get machine.clients conn ≡ Some (Registered name) → same name nick ≡ false
          → is_user_here renamed_machine name ≡ true
      stayed was two =
          ap (λ o. option_map_or (is_home machine.place.name) o false)
          (answers (key name) ∙ other was two (same_fold (key name) (key new))
          (same_fold (key name) (key nick)) refl refl)
          ∙ matched.registered_is_user conn name was

  one_after : (conn other : ℕ) (name second : List ℕ)
      → get (clients_after (Rename nick new) machine.clients) conn ≡ Some (Registered name)
      → get (clients_after (Rename nick new) machine.clients) other ≡ Some (Registered second)
      → key second ≡ key name → other ≡ conn
  one_after conn other name second is is_other same_names =
      renamed_client machine.clients nick new conn name is
      (λ old was same_old new_is. renamed_client machine.clients nick new other second is_other
      (λ older was_other same_older also_new.
      matched.user_has_one conn other old older was was_other (same_older ∙ sym same_old))
      (λ was_other two. apart_from other second was_other two (same_names ∙ ap key (sym new_is))))
      (λ was two. renamed_client machine.clients nick new other second is_other
      (λ older was_other same_older new_is. apart_from conn name was two
      (sym same_names ∙ ap key (sym new_is)))
      (λ was_other two_other. matched.user_has_one conn other name second was was_other same_names))

  has_after : (x : User) → row machine.room.users (key nick) ≡ Some x → (fold : List ℕ)
      (user : User) → row (after machine.room (Rename nick new)).users fold ≡ Some user
      → user.home ≡ machine.place.name
      → has_client (clients_after (Rename nick new) machine.clients) fold ≡ true
  unfolding after
  has_after x there fold user is home =
      by (same_fold fold (key new)) (same_fold fold (key nick)) refl refl (sym
      (row-moved (key nick) (key new) (with_nick new) machine.room.users x there fold) ∙ is)
    where
      its_client : (conn : ℕ) (name : List ℕ)
          → get machine.clients conn ≡ Some (Registered name) → key name ≡ key nick
          → get (clients_after (Rename nick new) machine.clients) conn ≡ Some (Registered new)
      its_client conn name was one =
          get-each (renamed_in nick new) machine.clients conn
          ∙ ap (option_map (renamed_in nick new)) was
          ∙ ap (λ b. Some (if b then Registered new else Registered name))
          (same_by_key name nick one)

      other_client : (conn : ℕ) (name : List ℕ)
          → get machine.clients conn ≡ Some (Registered name) → same name nick ≡ false
          → get (clients_after (Rename nick new) machine.clients) conn ≡ Some (Registered name)
      other_client conn name was two =
          get-each (renamed_in nick new) machine.clients conn
          ∙ ap (option_map (renamed_in nick new)) was
          ∙ ap (λ b. Some (if b then Registered new else Registered name)) two

      apart_name : (name : List ℕ) → key name ≡ fold → same_fold fold (key nick) ≡ false
          → (b : Bool) → same name nick ≡ b → b ≡ false
      apart_name name named two true one =
          let folds = ap (same_fold fold) (sym (key_by_same name nick one) ∙ named)
          ∙ same_fold-refl fold in cc
      apart_name name named two false other = refl

      by : (b c : Bool) → same_fold fold (key new) ≡ b → same_fold fold (key nick) ≡ c
          → cond b (Some (with_nick new x)) (cond c None (row machine.room.users fold)) ≡ Some user
          → has_client (clients_after (Rename nick new) machine.clients) fold ≡ true
      by true c is_new is_old found =
          has_to machine.clients (key nick) (matched.user_has_client (key nick) x there
          (ap (λ (u : User). u.home) (same_Some (with_nick new x) user found) ∙ home))
          (λ conn name was one. has_from (clients_after (Rename nick new) machine.clients) conn new
          fold (its_client conn name was one) (sym (one_fold fold (key new) is_new)))
      by false true is_new is_old found = cc found
      by false false is_new is_old found =
          has_to machine.clients fold (matched.user_has_client fold user found home)
          (λ conn name was named.
          has_from (clients_after (Rename nick new) machine.clients) conn name fold
          (other_client conn name was (apart_name name named is_old (same name nick) refl)) named)

  spelled_after : (x : User) → row machine.room.users (key nick) ≡ Some x
      → (conn : ℕ) (name : List ℕ) (user : User)
      → get (clients_after (Rename nick new) machine.clients) conn ≡ Some (Registered name)
      → row (after machine.room (Rename nick new)).users (key name) ≡ Some user → user.nick ≡ name
  unfolding after
  spelled_after x there conn name user is found =
      renamed_client machine.clients nick new conn name is
      (λ old was same_old new_is. took new_is (same_fold (key name) (key new))
      (same_fold (key name) (key nick)) refl moved)
      (λ was two. stayed was two (same_fold (key name) (key new))
      (same_fold (key name) (key nick)) refl moved)
    where
      moved : cond (same_fold (key name) (key new)) (Some (with_nick new x)) (cond
          (same_fold (key name) (key nick)) None (row machine.room.users (key name))) ≡ Some user
      moved = sym (row-moved (key nick) (key new) (with_nick new) machine.room.users x there
          (key name)) ∙ found

      took : new ≡ name → (b c : Bool) → same_fold (key name) (key new) ≡ b
          → cond b (Some (with_nick new x)) (cond c None (row machine.room.users (key name)))
          ≡ Some user → user.nick ≡ name
      took new_is true c one is =
          ap (λ (u : User). u.nick) (sym (same_Some (with_nick new x) user is)) ∙ new_is
      took new_is false c two is = let one = ap (λ n. same_fold (key n) (key new)) (sym new_is)
          ∙ same_fold-refl (key new) in absurd cc

      stayed : get machine.clients conn ≡ Some (Registered name) → same name nick ≡ false
          → (b c : Bool) → same_fold (key name) (key new) ≡ b → cond b (Some (with_nick new x))
          (cond c None (row machine.room.users (key name))) ≡ Some user → user.nick ≡ name
      stayed was two true c one is =
          apart_from conn name was two (one_fold (key name) (key new) one)
      stayed was two false true other is = cc is
      stayed was two false false other is = matched.spelled conn name user was is

  there_is : (o : Option User) → row machine.room.users (key nick) ≡ o → is_some o ≡ true
      → IsMatched renamed_machine
  there_is None none some = absurd (cc some)
  there_is (Some x) there some =
      record {
        registered_is_user = here_after x there;
        user_has_one = one_after;
        spelled = spelled_after x there;
        user_has_client = has_after x there;
      }

  pub renamed_matched : IsMatched renamed_machine
  renamed_matched = there_is (row machine.room.users (key nick)) refl
      (first_so (is_some (row machine.room.users (key nick))) true possible.users_there)

-- A user whose mode changes.

mode_here : (home : List ℕ) (change : UserChange) (o : Option User) → option_map_or (is_home home)
    (option_map (with_change change) o) false ≡ option_map_or (is_home home) o false
mode_here home change None = refl
mode_here home change (Some user) = refl

mode_matched : (machine : RoomMachine) (nick : List ℕ) (change : UserChange) → IsMatched machine
    → IsMatched (machine_after machine (ChangeUser nick change))
unfolding after
mode_matched machine nick change matched = record {
  registered_is_user = λ conn name is. by conn name is (same_fold (key name) (key nick)) refl;
  user_has_one = matched.user_has_one;
  spelled = λ conn name user is there.
      still_spelled conn name user is (same_fold (key name) (key nick)) refl
      (sym (row-alter (key nick) (option_map (with_change change)) machine.room.users
      (key name)) ∙ there);
  user_has_client = λ fold user is home.
      had fold user home (same_fold fold (key nick)) refl (sym (row-alter (key nick)
      (option_map (with_change change)) machine.room.users fold) ∙ is);
}
  where
    same_nick : (name : List ℕ) (user : User) (o : Option User) → ((x : User) → o ≡ Some x
        → x.nick ≡ name) → option_map (with_change change) o ≡ Some user → user.nick ≡ name
    same_nick name user None was is = cc is
    same_nick name user (Some x) was is = ap (λ (u : User). u.nick)
        (sym (same_Some (with_change change x) user is)) ∙ was x refl

    still_spelled : (conn : ℕ) (name : List ℕ) (user : User) → get machine.clients conn
        ≡ Some (Registered name) → (b : Bool) → same_fold (key name) (key nick) ≡ b
        → cond b (option_map (with_change change) (row machine.room.users (key nick)))
        (row machine.room.users (key name)) ≡ Some user → user.nick ≡ name
    still_spelled conn name user was true one is =
        same_nick name user (row machine.room.users (key nick))
        (λ x found. matched.spelled conn name x was
        (ap (row machine.room.users) (one_fold (key name) (key nick) one) ∙ found)) is
    still_spelled conn name user was false two is = matched.spelled conn name user was is

    was_there : (user : User) → user.home ≡ machine.place.name → (o : Option User)
        → row machine.room.users (key nick) ≡ o → option_map (with_change change) o
        ≡ Some user → has_client machine.clients (key nick) ≡ true
    was_there user home None there is = cc is
    was_there user home (Some x) there is =
        matched.user_has_client (key nick) x there
        (ap (λ (u : User). u.home) (same_Some (with_change change x) user is) ∙ home)

    had : (fold : List ℕ) (user : User) → user.home ≡ machine.place.name
        → (b : Bool) → same_fold fold (key nick) ≡ b
        → cond b (option_map (with_change change) (row machine.room.users (key nick)))
        (row machine.room.users fold) ≡ Some user → has_client machine.clients fold ≡ true
    had fold user home true one is =
        ap (has_client machine.clients) (one_fold fold (key nick) one)
        ∙ was_there user home (row machine.room.users (key nick)) refl is
    had fold user home false two is = matched.user_has_client fold user is home

    by : (conn : ℕ) (name : List ℕ) → get machine.clients conn ≡ Some (Registered name) → (b : Bool)
        → same_fold (key name) (key nick) ≡ b → option_map_or (is_home machine.place.name)
        (row (alter (key nick) (option_map (with_change change)) machine.room.users)
        (key name)) false ≡ true
    by conn name is true one =
        ap (λ o. option_map_or (is_home machine.place.name) o false)
        (row-alter (key nick) (option_map (with_change change)) machine.room.users (key name)
        ∙ ap (λ b. cond b (option_map (with_change change)
        (row machine.room.users (key nick))) (row machine.room.users (key name))) one)
        ∙ mode_here machine.place.name change (row machine.room.users (key nick))
        ∙ ap (λ q. option_map_or (is_home machine.place.name) (row machine.room.users q) false)
        (sym (one_fold (key name) (key nick) one))
        ∙ matched.registered_is_user conn name is
    by conn name is false two =
        ap (λ o. option_map_or (is_home machine.place.name) o false)
        (row-alter (key nick) (option_map (with_change change)) machine.room.users (key name)
        ∙ ap (λ b. cond b (option_map (with_change change)
        (row machine.room.users (key nick))) (row machine.room.users (key name))) two)
        ∙ matched.registered_is_user conn name is

-- who neither comes nor goes
pub quiet_matched : (machine : RoomMachine) (effect : Effect) → IsMatched machine
    → IsPossible machine.room effect → adds_or_ends (Do effect) ≡ false
    → IsMatched (machine_after machine effect)
unfolding after
quiet_matched machine (AddUser user) matched possible quiet = absurd (cc quiet)
quiet_matched machine (Rename nick new) matched possible quiet =
    renamed_matched machine nick new matched possible
quiet_matched machine (Quit nick text) matched possible quiet = absurd (cc quiet)
quiet_matched machine (ChangeUser nick change) matched possible quiet =
    mode_matched machine nick change matched
quiet_matched machine other matched possible quiet =
    record {
      registered_is_user = matched.registered_is_user;
      user_has_one = matched.user_has_one;
      spelled = matched.spelled;
      user_has_client = matched.user_has_client;
    }

-- steps by which nobody comes and nobody goes

pub quiet_fit : (machine : RoomMachine) (acts : List Act) → IsMatched machine
    → ArePossible machine.room acts → list_any adds_or_ends acts ≡ false → AreFit machine acts
quiet_fit machine [] matched possible quiet = tt
quiet_fit machine (Answer reply ∷ acts) matched possible quiet =
    quiet_fit machine acts matched possible quiet
quiet_fit machine (Raw line ∷ acts) matched possible quiet =
    quiet_fit machine acts matched possible quiet
quiet_fit machine (Do effect ∷ acts) matched possible quiet =
    let parts = or_parts (adds_or_ends (Do effect)) (list_any adds_or_ends acts) quiet in
    record {
      now = fit_by machine effect matched possible.now;
      later = quiet_fit (machine_after machine effect) acts
          (quiet_matched machine effect matched possible.now parts.0) possible.later parts.1;
    }

pub quiet_steps : (conn : ℕ) (name : Option (List ℕ)) (acts : List Act) (h : Handled)
    → IsMatched h.state → ArePossible h.state.room acts → list_any adds_or_ends acts ≡ false
    → IsMatched (all_stepped conn name acts h).state
quiet_steps conn name [] h matched possible quiet = matched
quiet_steps conn name (Answer reply ∷ acts) h matched possible quiet =
    quiet_steps conn name acts (stepped conn name (Answer reply) h) matched possible quiet
quiet_steps conn name (Raw line ∷ acts) h matched possible quiet =
    quiet_steps conn name acts (stepped conn name (Raw line) h) matched possible quiet
quiet_steps conn name (Do effect ∷ acts) h matched possible quiet =
    let parts = or_parts (adds_or_ends (Do effect)) (list_any adds_or_ends acts) quiet in
    quiet_steps conn name acts (stepped conn name (Do effect) h)
    (quiet_matched h.state effect matched possible.now parts.0) possible.later parts.1

-- steps that change nothing
pub still_so : (IsSo : RoomMachine → Effect → Type 0) (machine : RoomMachine) (acts : List Act)
    → list_any is_effect acts ≡ false → AreInTurn IsSo machine acts
still_so IsSo machine [] still = tt
still_so IsSo machine (Answer reply ∷ acts) still = still_so IsSo machine acts still
still_so IsSo machine (Raw line ∷ acts) still = still_so IsSo machine acts still
still_so IsSo machine (Do effect ∷ acts) still = absurd (cc still)

pub still_steps : (conn : ℕ) (name : Option (List ℕ)) (acts : List Act) (h : Handled)
    → list_any is_effect acts ≡ false → (all_stepped conn name acts h).state ≡ h.state
still_steps conn name [] h still = refl
still_steps conn name (Answer reply ∷ acts) h still =
    still_steps conn name acts (stepped conn name (Answer reply) h) still
still_steps conn name (Raw line ∷ acts) h still =
    still_steps conn name acts (stepped conn name (Raw line) h) still
still_steps conn name (Do effect ∷ acts) h still = absurd (cc still)

-- Who comes and who goes.

-- a client under another number stays
other_number : (clients : Clients) (conn q : ℕ) (name : List ℕ) → IsNoUser (get clients conn)
    → get clients q ≡ Some (Registered name) → same_number q conn ≡ false
other_number clients conn q name none was = by (same_number q conn) refl
  where
    by : (b : Bool) → same_number q conn ≡ b → b ≡ false
    by true one = never_registered (get clients conn) name none
        (ap (get clients) (sym (one_number q conn one)) ∙ was)
    by false two = refl

still_left : (clients : Clients) (conn q : ℕ) (name : List ℕ) → same_number q conn ≡ false
    → get clients q ≡ Some (Registered name) → get (remove clients conn) q ≡ Some (Registered name)
still_left clients conn q name two was =
    get-without clients conn q ∙ ap (λ b. cond b None (get clients q)) two ∙ was

still_there : (clients : Clients) (conn q : ℕ) (client : Client) (name : List ℕ)
    → IsNoUser (get clients conn) → get clients q ≡ Some (Registered name)
    → get (insert clients conn client) q ≡ Some (Registered name)
still_there clients conn q client name none was =
    get-with clients conn client q ∙ ap (λ b. cond b (Some client) (get clients q))
    (other_number clients conn q name none was) ∙ was

-- one that is no user is seated, or is there no more
pub pending_matched : (machine : RoomMachine) (conn : ℕ) (client : Client)
    → IsNoUser (Some client) → IsNoUser (client_of machine conn) → IsMatched machine
    → IsMatched (with_client machine conn client)
pending_matched machine conn client none was_none matched = record {
  registered_is_user = λ q name is. new_client machine.clients conn q client (Registered name) is
      (λ at now. absurd (never now)) (λ two was. matched.registered_is_user q name was);
  user_has_one = λ q other nick name is is_other same_names.
      new_client machine.clients conn q client (Registered nick) is (λ at now. absurd (never now))
      (λ two was. new_client machine.clients conn other client (Registered name) is_other
      (λ at now. absurd (never now))
      (λ two_other was_other. matched.user_has_one q other nick name was was_other same_names));
  spelled = λ q name user is there.
      new_client machine.clients conn q client (Registered name) is (λ at now. absurd (never now))
      (λ two was. matched.spelled q name user was there);
  user_has_client = λ fold user is home.
      has_to machine.clients fold (matched.user_has_client fold user is home)
      (λ q name was named. has_from (insert machine.clients conn client) q name fold
      (still_there machine.clients conn q client name was_none was) named);
}
  where
    never : {name : List ℕ} → client ≡ Registered name → ⊥
    never {name} now = never_registered (Some client) name none (ap Some now)

pub left_matched : (machine : RoomMachine) (conn : ℕ) → IsNoUser (client_of machine conn)
    → IsMatched machine → IsMatched (without_client machine conn)
left_matched machine conn was_none matched = record {
  registered_is_user = λ q name is. matched.registered_is_user q name
      (left_client machine.clients conn q (Registered name) is).1;
  user_has_one = λ q other nick name is is_other same_names.
      matched.user_has_one q other nick name (left_client machine.clients conn q (Registered nick)
      is).1 (left_client machine.clients conn other (Registered name) is_other).1 same_names;
  spelled = λ q name user is there. matched.spelled q name user
      (left_client machine.clients conn q (Registered name) is).1 there;
  user_has_client = λ fold user is home.
      has_to machine.clients fold (matched.user_has_client fold user is home)
      (λ q name was named. has_from (remove machine.clients conn) q name fold
      (still_left machine.clients conn q name
      (other_number machine.clients conn q name was_none was) was) named);
}

-- a user is added, and its connection is registered
module _ (machine : RoomMachine) (conn : ℕ) (user : User)
    (matched : IsMatched machine) (possible : IsPossible machine.room (AddUser user))
    (home : user.home ≡ machine.place.name) where
  abbrev seated : RoomMachine
  seated = with_client machine conn (Registered (user.nick))

  nobody : {A : Type 0} (name : List ℕ) → is_some (row machine.room.users (key name)) ≡ true
      → key name ≡ key user.nick → A
  nobody {A} name there one = by (has_user machine.room user.nick) refl possible.nick_free
    where
      by : (b : Bool) → has_user machine.room user.nick ≡ b → not b ≡ true → A
      by true known free = cc free
      by false known free = let there_too = ap (λ q. is_some (row machine.room.users q)) one in cc

  taken_by : {A : Type 0} (q : ℕ) (name : List ℕ) → get machine.clients q ≡ Some (Registered name)
      → key name ≡ key user.nick → A
  taken_by q name was one =
      nobody name (here_row machine name (matched.registered_is_user q name was)) one

  pub free_of : IsFreeOf (Registered (user.nick)) machine.clients
  free_of q name was one = taken_by q name was one

  pub added_fit : IsFit seated (AddUser user)
  added_fit = record {
    possible = possible;
    at_home = λ q name other is there.
        new_client machine.clients conn q (Registered (user.nick)) (Registered name) is
        (λ at now. nobody name (ap is_some there)
        (ap key (sym (nick_in user.nick name (ap Some now)))))
        (λ two was. live machine matched q name other was there);
    apart = tt;
  }

  pub added_matched : IsNoUser (client_of machine conn)
      → IsMatched (machine_after seated (AddUser user))
  unfolding after
  added_matched was_none = record {
    registered_is_user = λ q name is.
        new_client machine.clients conn q (Registered (user.nick)) (Registered name) is
        (λ at now. new_here name (nick_in user.nick name (ap Some now)))
        (λ two was. old_here q name was (same_fold (key name) (key user.nick)) refl);
    user_has_one = λ q other nick name is is_other same_names.
        new_client machine.clients conn q (Registered (user.nick)) (Registered nick) is
        (λ at now. new_client machine.clients conn other (Registered (user.nick))
        (Registered name) is_other
        (λ at_other now_other. at_other ∙ sym at)
        (λ two_other was_other. taken_by other name was_other
        (same_names ∙ ap key (sym (nick_in user.nick nick (ap Some now))))))
        (λ two was. new_client machine.clients conn other (Registered (user.nick))
        (Registered name) is_other
        (λ at_other now_other. taken_by q nick was
        (sym same_names ∙ ap key (sym (nick_in user.nick name (ap Some now_other)))))
        (λ two_other was_other. matched.user_has_one q other nick name was was_other same_names));
    spelled = λ q name other is there.
        let found = sym (row-alter (key user.nick) (λ _. Some user) machine.room.users (key name))
        ∙ there in
        new_client machine.clients conn q (Registered (user.nick)) (Registered name) is
        (λ at now. new_spelled name other (nick_in user.nick name (ap Some now))
        (same_fold (key name) (key user.nick)) refl found)
        (λ two was. old_spelled q name other was (same_fold (key name) (key user.nick)) refl found);
    user_has_client = λ fold other is home_is.
        had was_none fold other home_is (same_fold fold (key user.nick)) refl
        (sym (row-alter (key user.nick) (λ _. Some user) machine.room.users fold) ∙ is);
  }
    where
      had : IsNoUser (client_of machine conn) → (fold : List ℕ) (other : User)
          → other.home ≡ machine.place.name → (b : Bool) → same_fold fold (key user.nick) ≡ b
          → cond b (Some user) (row machine.room.users fold) ≡ Some other
          → has_client (insert machine.clients conn (Registered (user.nick))) fold ≡ true
      had none fold other home_is true one is =
          has_from (insert machine.clients conn (Registered (user.nick))) conn user.nick fold
          (get-with machine.clients conn (Registered (user.nick)) conn ∙ ap (λ b. cond b (Some
          (Registered (user.nick))) (get machine.clients conn)) (same_number-refl conn))
          (sym (one_fold fold (key user.nick) one))
      had none fold other home_is false two is =
          has_to machine.clients fold (matched.user_has_client fold other is home_is)
          (λ q name was named.
          has_from (insert machine.clients conn (Registered (user.nick))) q name fold
          (still_there machine.clients conn q (Registered (user.nick)) name none was) named)

      new_spelled : (name : List ℕ) (other : User) → user.nick ≡ name
          → (b : Bool) → same_fold (key name) (key user.nick) ≡ b
          → cond b (Some user) (row machine.room.users (key name)) ≡ Some other → other.nick ≡ name
      new_spelled name other is true one found =
          ap (λ (u : User). u.nick) (sym (same_Some user other found)) ∙ is
      new_spelled name other is false two found =
          let one = ap (λ n. same_fold (key n) (key user.nick)) (sym is)
          ∙ same_fold-refl (key user.nick) in absurd cc

      old_spelled : (q : ℕ) (name : List ℕ) (other : User) → get machine.clients q
          ≡ Some (Registered name) → (b : Bool) → same_fold (key name) (key user.nick) ≡ b
          → cond b (Some user) (row machine.room.users (key name)) ≡ Some other → other.nick ≡ name
      old_spelled q name other was true one found =
          taken_by q name was (one_fold (key name) (key user.nick) one)
      old_spelled q name other was false two found = matched.spelled q name other was found

      new_here : (name : List ℕ) → user.nick ≡ name → option_map_or (is_home machine.place.name)
          (row (alter (key user.nick) (λ _. Some user) machine.room.users) (key name)) false ≡ true
      new_here name is =
          ap (λ o. option_map_or (is_home machine.place.name) o false)
          (row-alter (key user.nick) (λ _. Some user) machine.room.users (key name)
          ∙ ap (λ b. cond b (Some user) (row machine.room.users (key name))) (ap
          (λ n. same_fold (key n) (key user.nick)) (sym is) ∙ same_fold-refl (key user.nick)))
          ∙ (bytes_decides user.home machine.place.name).1 home

      old_here : (q : ℕ) (name : List ℕ) → get machine.clients q ≡ Some (Registered name)
          → (b : Bool) → same_fold (key name) (key user.nick) ≡ b
          → option_map_or (is_home machine.place.name)
          (row (alter (key user.nick) (λ _. Some user) machine.room.users) (key name)) false ≡ true
      old_here q name was true one = taken_by q name was (one_fold (key name) (key user.nick) one)
      old_here q name was false two =
          ap (λ o. option_map_or (is_home machine.place.name) o false)
          (row-alter (key user.nick) (λ _. Some user) machine.room.users (key name)
          ∙ ap (λ b. cond b (Some user) (row machine.room.users (key name))) two)
          ∙ matched.registered_is_user q name was

-- a client goes, and its user quits
pub quit_matched : (machine : RoomMachine) (conn : ℕ) (nick who text : List ℕ)
    → IsMatched machine → get machine.clients conn ≡ Some (Registered nick) → key who ≡ key nick
    → IsMatched (machine_after (without_client machine conn) (Quit who text))
unfolding after
quit_matched machine conn nick who text matched mine who_is = record {
  registered_is_user = λ q name is.
      let left = left_client machine.clients conn q (Registered name) is in
      still_here q name left.0 left.1 (same_fold (key name) (key who)) refl;
  user_has_one = λ q other first name is is_other same_names.
      matched.user_has_one q other first name (left_client machine.clients conn q (Registered first)
      is).1 (left_client machine.clients conn other (Registered name) is_other).1 same_names;
  spelled = λ q name user is there.
      left_spelled q name user (left_client machine.clients conn q (Registered name) is).1
      (same_fold (key name) (key who))
      (sym (row-alter (key who) (λ _. None) machine.room.users (key name)) ∙ there);
  user_has_client = λ fold user is home. had fold user home (same_fold fold (key who)) refl
      (sym (row-alter (key who) (λ _. None) machine.room.users fold)
      ∙ is);
}
  where
    left_spelled : (q : ℕ) (name : List ℕ) (user : User)
        → get machine.clients q ≡ Some (Registered name) → (b : Bool)
        → cond b None (row machine.room.users (key name)) ≡ Some user → user.nick ≡ name
    left_spelled q name user was true found = cc found
    left_spelled q name user was false found = matched.spelled q name user was found

    another : (q : ℕ) (name fold : List ℕ) → get machine.clients q ≡ Some (Registered name)
        → key name ≡ fold → same_fold fold (key who) ≡ false → (b : Bool) → same_number q conn ≡ b
        → b ≡ false
    another q name fold was named two true one =
        let one_name : name ≡ nick =
        nick_in name nick (sym was ∙ ap (get machine.clients) (one_number q conn one) ∙ mine) in
        let folds =
        ap (same_fold fold) (who_is ∙ ap key (sym one_name) ∙ named) ∙ same_fold-refl fold in cc
    another q name fold was named two false other = refl

    had : (fold : List ℕ) (user : User) → user.home ≡ machine.place.name → (b : Bool)
        → same_fold fold (key who) ≡ b → cond b None (row machine.room.users fold) ≡ Some user
        → has_client (remove machine.clients conn) fold ≡ true
    had fold user home true one is = cc is
    had fold user home false two is =
        has_to machine.clients fold (matched.user_has_client fold user is home)
        (λ q name was named. has_from (remove machine.clients conn) q name fold
        (still_left machine.clients conn q name
        (another q name fold was named two (same_number q conn) refl) was) named)

    still_here : (q : ℕ) (name : List ℕ) → same_number q conn ≡ false
        → get machine.clients q ≡ Some (Registered name) → (b : Bool)
        → same_fold (key name) (key who) ≡ b → option_map_or (is_home machine.place.name)
        (row (alter (key who) (λ _. None) machine.room.users) (key name)) false ≡ true
    still_here q name two was true one =
        let same_conn = same_number-is q conn (matched.user_has_one conn q nick name mine was
        (one_fold (key name) (key who) one ∙ who_is)) in cc
    still_here q name two was false other =
        ap (λ o. option_map_or (is_home machine.place.name) o false)
        (row-alter (key who) (λ _. None) machine.room.users (key name)
        ∙ ap (λ b. cond b None (row machine.room.users (key name))) other)
        ∙ matched.registered_is_user q name was

pub quit_fit : (machine : RoomMachine) (conn : ℕ) (who text : List ℕ) → IsMatched machine
    → IsPossible machine.room (Quit who text) → IsFit (without_client machine conn) (Quit who text)
quit_fit machine conn who text matched possible = record {
  possible = possible;
  at_home = λ q name user is there. live machine matched q name user
      (left_client machine.clients conn q (Registered name) is).1 there;
  apart = tt;
}
