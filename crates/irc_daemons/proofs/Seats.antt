-- Who has which number once a client has come.
use Rattle.std.proofs.Common.{◌≡◌, ℕ, suc, Bool, true, false, nat_eq, is_some, Option, Some, None}
use Rattle.std.proofs.Common.{refl, sym, ◌∙◌, ap, if◌then◌else◌}
use Rattle.std.proofs.lemmas.Bool.{eq-eqb, eqb-true}
use Rattle.std.specs.FinMap.{get}
use Rattle.std.specs.Option.{option_and_then}
use Rattle.std.proofs.lemmas.Option.{same_Some}
use Rattle.irc_names.specs.Lemmas.PlainFacts.{none_if_not_some}
use Rattle.irc_routes.specs.declared.server_row.ServerRow.{ServerRow}
use Rattle.irc_routes.specs.Known.{row_of}
use Rattle.irc_stage.specs.View.{View}
use Rattle.irc_daemons.specs.Alike.{AreServersAlike, AreRowsAlike, Numbers}
use Rattle.irc_daemons.specs.Daemons.{AreJoined, AreLinksOpen, Daemons}
use Rattle.irc_daemons.specs.Steps.{seat_after, unless_taken}

module _ {W : Type 0} (old : Daemons W) (place conn : ℕ) where
  -- a seat is an old one, or the newcomer's
  pub data SeatThen (x client q : ℕ) : Type 0 where
    is_old : old.seats x client ≡ Some q → (x ≡ place → nat_eq q conn ≡ false) → SeatThen x client q
    is_new : x ≡ place → client ≡ suc old.came → q ≡ conn → SeatThen x client q

  pub seat_then : (x client q : ℕ) → seat_after old place conn x client ≡ Some q
      → SeatThen x client q
  seat_then x client q is = by (nat_eq x place) (nat_eq client (suc old.came)) refl refl is
    where
      kept : (o : Option ℕ) → old.seats x client ≡ o → unless_taken conn o ≡ Some q
          → SeatThen x client q
      kept None at none = cc none
      kept (Some seat) at some = by_seat (nat_eq seat conn) refl some
        where
          by_seat : (b : Bool) → nat_eq seat conn ≡ b → (if b then None else Some seat) ≡ Some q
              → SeatThen x client q
          by_seat true same none = cc none
          by_seat false two found =
              is_old (at ∙ found)
              (λ here. ap (λ n. nat_eq n conn) (sym (same_Some seat q found)) ∙ two)

      by : (a b : Bool) → nat_eq x place ≡ a → nat_eq client (suc old.came) ≡ b
          → (if a then (if b then Some conn else unless_taken conn (old.seats x client))
          else old.seats x client) ≡ Some q → SeatThen x client q
      by true true here next found = is_new (eqb-true x place here)
          (eqb-true client (suc old.came) next) (sym (same_Some conn q found))
      by true false here next found = kept (old.seats x client) refl found
      by false b there next found = is_old found (λ here. cc (sym (eq-eqb x place here) ∙ there))

  -- it is so of the newcomer, and of all others
  pub seat_of_new : seat_after old place conn place (suc old.came) ≡ Some conn
  seat_of_new =
      ap
      (λ b. if b then (if nat_eq (suc old.came) (suc old.came) then Some conn
      else unless_taken conn (old.seats place (suc old.came)))
      else old.seats place (suc old.came)) (eq-eqb place place refl)
      ∙ ap (λ b. if b then Some conn else unless_taken conn (old.seats place (suc old.came)))
      (eq-eqb (suc old.came) (suc old.came) refl)

  pub seat_elsewhere : (x client : ℕ) → nat_eq x place ≡ false
      → seat_after old place conn x client ≡ old.seats x client
  seat_elsewhere x client two =
      ap (λ b. if b then (if nat_eq client (suc old.came) then Some conn
      else unless_taken conn (old.seats x client)) else old.seats x client) two

  seat_of_other : (client : ℕ) → nat_eq client (suc old.came) ≡ false
      → seat_after old place conn place client ≡ unless_taken conn (old.seats place client)
  seat_of_other client two =
      ap (λ b. if b then (if nat_eq client (suc old.came) then Some conn
      else unless_taken conn (old.seats place client)) else old.seats place client)
      (eq-eqb place place refl)
      ∙ ap (λ b. if b then Some conn else unless_taken conn (old.seats place client)) two

  -- ---- joined by links

  pub joined_then : (new : Daemons W) → AreJoined old → new.ends ≡ old.ends
      → new.ways ≡ old.ways → new.seats ≡ seat_after old place conn → AreLinksOpen new
      → ((y : ℕ) → old.ends place y ≡ Some conn → ⊥) → AreJoined new
  joined_then new joined ends ways seats links free = record {
    both_ways = λ x y. ways_are x y ∙ joined.both_ways x y ∙ sym (ways_are y x);
    not_itself = λ x. ends_are x x ∙ joined.not_itself x;
    are_open = links;
    apart = λ x y z q is other. joined.apart x y z q (sym (ends_are x y) ∙ is)
        (sym (ends_are x z) ∙ other);
    no_client = λ x y client q is seat. no_client_is x y client q (sym (ends_are x y) ∙ is)
        (seat_then x client q (sym (seats_are x client) ∙ seat));
    one_seat = λ x client other q is seat.
        one_is x client other q (seat_then x client q (sym (seats_are x client) ∙ is))
        (seat_then x other q (sym (seats_are x other) ∙ seat));
  }
    where
      ends_are : (x y : ℕ) → new.ends x y ≡ old.ends x y
      ends_are x y = ap (λ (f : ℕ → ℕ → Option ℕ). f x y) ends

      ways_are : (x y : ℕ) → new.ways x y ≡ old.ways x y
      ways_are x y = ap (λ (f : ℕ → ℕ → Bool). f x y) ways

      seats_are : (x client : ℕ) → new.seats x client ≡ seat_after old place conn x client
      seats_are x client = ap (λ (f : ℕ → ℕ → Option ℕ). f x client) seats

      no_client_is : (x y client q : ℕ) → old.ends x y ≡ Some q → SeatThen x client q → ⊥
      no_client_is x y client q is (is_old seat two) = joined.no_client x y client q is seat
      no_client_is x y client q is (is_new here next same) =
          free y (ap (λ n. old.ends n y) (sym here) ∙ is ∙ ap Some same)

      one_is : (x client other q : ℕ) → SeatThen x client q → SeatThen x other q → client ≡ other
      one_is x client other q (is_old seat two) (is_old seat' two') =
          joined.one_seat x client other q seat seat'
      one_is x client other q (is_old seat two) (is_new here next same) =
          cc (sym (two here) ∙ eq-eqb q conn same)
      one_is x client other q (is_new here next same) (is_old seat two) =
          cc (sym (two here) ∙ eq-eqb q conn same)
      one_is x client other q (is_new here next same) (is_new here' next' same') = next ∙ sym next'

  -- ---- alike

  abbrev pub numbers_then : Numbers
  numbers_then = record { link = old.ends place; client = seat_after old place conn place }

  pub alike_then : (own other : View)
      → AreServersAlike (record { link = old.ends place; client = old.seats place }) own other
      → is_some (get own.clients conn) ≡ false → old.seats place (suc old.came) ≡ None
      → AreServersAlike numbers_then own other
  alike_then own other alike free next = record {
    alike = record {
      name = alike.alike.name;
      about = alike.alike.about;
      rows = λ name. rows_are (row_of own.routes name) (row_of other.routes name)
          (alike.alike.rows name);
      peers = alike.alike.peers;
      ends = alike.alike.ends;
      no_other_end = λ q is. let among =
          alike.alike.no_other_end q is in record { number = among.number; is = among.is };
      clients = λ client. alike.alike.clients client
          ∙ clients_are client (nat_eq client (suc old.came)) refl;
      no_other_client = λ q is.
          let among = alike.alike.no_other_client q is in
          record { number = among.number; is = among_is q among.number is among.is };
      room = alike.alike.room;
    };
    ends_count = alike.ends_count;
  }
    where
      rows_are : (mine theirs : Option ServerRow)
          → AreRowsAlike (record { link = old.ends place; client = old.seats place }) mine theirs
          → AreRowsAlike numbers_then mine theirs
      rows_are None None is = is
      rows_are None (Some theirs) is = absurd is
      rows_are (Some mine) None is = absurd is
      rows_are (Some mine) (Some theirs) is = is

      nobody : get own.clients conn ≡ None
      nobody = none_if_not_some (get own.clients conn) free

      not_taken : (o : Option ℕ) → option_and_then (get own.clients) o
          ≡ option_and_then (get own.clients) (unless_taken conn o)
      not_taken None = refl
      not_taken (Some seat) = by (nat_eq seat conn) refl
        where
          by : (b : Bool) → nat_eq seat conn ≡ b → get own.clients seat
              ≡ option_and_then (get own.clients) (if b then None else Some seat)
          by true same = ap (get own.clients) (eqb-true seat conn same) ∙ nobody
          by false two = refl

      clients_are : (client : ℕ) (b : Bool) → nat_eq client (suc old.came) ≡ b
          → option_and_then (get own.clients) (old.seats place client)
          ≡ option_and_then (get own.clients) (seat_after old place conn place client)
      clients_are client true is =
          let same = eqb-true client (suc old.came) is in
          ap (λ n. option_and_then (get own.clients) (old.seats place n)) same
          ∙ ap (option_and_then (get own.clients)) next ∙ sym nobody
          ∙ sym (ap (option_and_then (get own.clients)) seat_of_new)
          ∙ ap (λ n. option_and_then (get own.clients) (seat_after old place conn place n))
          (sym same)
      clients_are client false two =
          not_taken (old.seats place client)
          ∙ ap (option_and_then (get own.clients)) (sym (seat_of_other client two))

      other_client : (number q : ℕ) → old.seats place number ≡ Some q → (b : Bool)
          → nat_eq number (suc old.came) ≡ b → b ≡ false
      other_client number q seat true is =
          cc (sym next ∙ ap (old.seats place) (sym (eqb-true number (suc old.came) is)) ∙ seat)
      other_client number q seat false is = refl

      not_conn : (q : ℕ) → is_some (get own.clients q) ≡ true → (b : Bool) → nat_eq q conn ≡ b
          → b ≡ false
      not_conn q there true same =
          cc (sym free ∙ ap (λ n. is_some (get own.clients n)) (sym (eqb-true q conn same)) ∙ there)
      not_conn q there false two = refl

      among_is : (q number : ℕ) → is_some (get own.clients q) ≡ true
          → old.seats place number ≡ Some q → seat_after old place conn place number ≡ Some q
      among_is q number there seat =
          seat_of_other number (other_client number q seat (nat_eq number (suc old.came)) refl)
          ∙ ap (unless_taken conn) seat
          ∙ ap (λ b. if b then None else Some q) (not_conn q there (nat_eq q conn) refl)
