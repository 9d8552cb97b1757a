-- Who is linked once a server was told of a link, and under which numbers servers are alike then.
use Rattle.std.proofs.Common.{◌≡◌, ℕ, Bool, true, false, ◌&&◌, ◌||◌, nat_eq, is_some, Option, Some}
use Rattle.std.proofs.Common.{None, refl, sym, ◌∙◌, ap, option_map, if◌then◌else◌}
use Rattle.std.proofs.lemmas.Bool.{eq-eqb, eqb-true}
use Rattle.std.specs.FinMap.{get}
use Rattle.std.specs.Option.{option_and_then}
use Rattle.std.proofs.lemmas.Option.{same_Some}
use Rattle.irc_names.specs.Lemmas.PlainFacts.{none_if_not_some}
use Rattle.irc_relay.specs.Links.{Name}
use Rattle.irc_routes.specs.declared.server_row.ServerRow.{ServerRow}
use Rattle.irc_routes.specs.Known.{row_of}
use Rattle.irc_stage.specs.Ways.{IsMetEnd}
use Rattle.irc_stage.specs.View.{End, View}
use Rattle.irc_daemons.specs.Alike.{AreServersAlike, AreRowsAlike, Numbers}
use Rattle.irc_daemons.specs.Daemons.{AreJoined, AreLinksOpen, Daemons}
use Rattle.irc_daemons.specs.Steps.{unless_taken}
use Rattle.irc_daemons.specs.Tellings.{LinkTidings, end_by, end_set, is_lost, is_up, is_way_by}
use Rattle.irc_daemons.specs.Tellings.{seats_by, way_set}

-- ---- ends and ways

module _ {W : Type 0} (old : Daemons W) (place other : ℕ) where
  -- an end is the one that was told of, or an old one
  pub data EndThen (end : Option ℕ) (x y q : ℕ) : Type 0 where
    is_told : x ≡ place → y ≡ other → end ≡ Some q → EndThen end x y q
    is_old : (x ≡ place → nat_eq y other ≡ false) → old.ends x y ≡ Some q → EndThen end x y q

  pub end_then : (end : Option ℕ) (x y q : ℕ) → end_set old place other end x y ≡ Some q
      → EndThen end x y q
  end_then end x y q is = by (nat_eq x place) (nat_eq y other) refl refl is
    where
      by : (a b : Bool) → nat_eq x place ≡ a → nat_eq y other ≡ b
          → (if a && b then end else old.ends x y) ≡ Some q → EndThen end x y q
      by true true here there found = is_told (eqb-true x place here) (eqb-true y other there) found
      by true false here two found = is_old (λ one. two) found
      by false b two there found = is_old (λ one. cc (sym (eq-eqb x place one) ∙ two)) found

  pub end_told : (end : Option ℕ) → end_set old place other end place other ≡ end
  end_told end =
      ap (λ b. if b && nat_eq other other then end else old.ends place other)
      (eq-eqb place place refl)
      ∙ ap (λ b. if b then end else old.ends place other) (eq-eqb other other refl)

  pub end_to_others : (end : Option ℕ) (y : ℕ) → nat_eq y other ≡ false
      → end_set old place other end place y ≡ old.ends place y
  end_to_others end y two =
      ap (λ b. if nat_eq place place && b then end else old.ends place y) two
      ∙ ap (λ b. if b && false then end else old.ends place y) (eq-eqb place place refl)

  pub end_elsewhere : (end : Option ℕ) (x y : ℕ) → nat_eq x place ≡ false
      → end_set old place other end x y ≡ old.ends x y
  end_elsewhere end x y two = ap (λ b. if b && nat_eq y other then end else old.ends x y) two

  pub both_ways_then : (is : Bool) → ((x y : ℕ) → old.ways x y ≡ old.ways y x) → (x y : ℕ)
      → way_set old place other is x y ≡ way_set old place other is y x
  both_ways_then is both x y =
      ap (λ b. if b then is else old.ways x y)
      (swapped (nat_eq x place) (nat_eq y other) (nat_eq x other) (nat_eq y place))
      ∙ ap (λ w. if (nat_eq y place && nat_eq x other) || (nat_eq y other && nat_eq x place)
      then is else w) (both x y)
    where
      swapped : (a b c d : Bool) → ((a && b) || (c && d)) ≡ ((d && c) || (b && a))
      swapped true true true true = refl
      swapped true true true false = refl
      swapped true true false true = refl
      swapped true true false false = refl
      swapped true false true true = refl
      swapped true false true false = refl
      swapped true false false true = refl
      swapped true false false false = refl
      swapped false true true true = refl
      swapped false true true false = refl
      swapped false true false true = refl
      swapped false true false false = refl
      swapped false false true true = refl
      swapped false false true false = refl
      swapped false false false true = refl
      swapped false false false false = refl

  -- ---- seats

  -- who has a seat then had it before, under a number that the link has not taken
  pub record SeatBefore (tidings : LinkTidings) (conn x client q : ℕ) : Type 0 where
    pub was : old.seats x client ≡ Some q
    pub free : x ≡ place → is_way_by tidings ≡ true → nat_eq q conn ≡ false

  pub seat_before : (tidings : LinkTidings) (conn x client q : ℕ)
      → seats_by tidings place conn old x client ≡ Some q → SeatBefore tidings conn x client q
  seat_before is_lost conn x client q is = record { was = is; free = λ one up. cc up }
  seat_before (is_up called) conn x client q is =
      by (nat_eq x place) (old.seats x client) refl refl is
    where
      kept : (seat : ℕ) → old.seats x client ≡ Some seat → (b : Bool) → nat_eq seat conn ≡ b
          → (if b then None else Some seat) ≡ Some q → SeatBefore (is_up called) conn x client q
      kept seat at true same none = cc none
      kept seat at false two found = record {
        was = at ∙ found;
        free = λ one up. ap (λ n. nat_eq n conn) (sym (same_Some seat q found)) ∙ two;
      }

      by : (b : Bool) (o : Option ℕ) → nat_eq x place ≡ b → old.seats x client ≡ o → (if b
          then unless_taken conn o else o) ≡ Some q → SeatBefore (is_up called) conn x client q
      by true None here at none = cc none
      by true (Some seat) here at found = kept seat at (nat_eq seat conn) refl found
      by false o two at found =
          record { was = at ∙ found; free = λ one up. cc (sym (eq-eqb x place one) ∙ two) }

  pub seat_elsewhere : (tidings : LinkTidings) (conn x client : ℕ) → nat_eq x place ≡ false
      → seats_by tidings place conn old x client ≡ old.seats x client
  seat_elsewhere is_lost conn x client two = refl
  seat_elsewhere (is_up called) conn x client two =
      ap (λ b. if b then unless_taken conn (old.seats x client) else old.seats x client) two

-- ---- joined by links

module _ {W : Type 0} (old : Daemons W) (place other conn : ℕ) (two : nat_eq place other ≡ false)
    (joined : AreJoined old) where
  -- no link of this server has the number of one that is made
  abbrev pub IsFree : LinkTidings → Type 0
  IsFree tidings = (y q : ℕ) → is_way_by tidings ≡ true → old.ends place y ≡ Some q
      → nat_eq q conn ≡ false

  pub joined_by : (tidings : LinkTidings) (new : Daemons W) → IsFree tidings
      → new.ends ≡ end_set old place other (end_by tidings conn)
      → new.ways ≡ way_set old place other (is_way_by tidings)
      → new.seats ≡ seats_by tidings place conn old → AreLinksOpen new → AreJoined new
  joined_by tidings new free ends ways seats opened = record {
    both_ways = λ x y.
        ways_are x y ∙ both_ways_then old place other (is_way_by tidings) joined.both_ways x y
        ∙ sym (ways_are y x);
    not_itself = λ x. not_itself_then x (new.ends x x) refl;
    are_open = opened;
    apart = λ x y z q one is. apart_by x y z q (end_of x y q one) (end_of x z q is);
    no_client = λ x y client q is seat. no_client_by x y client q (end_of x y q is)
        (seat_of x client q seat);
    one_seat = λ x client another q is seat. joined.one_seat x client another q
        (seat_of x client q is).was (seat_of x another q seat).was;
  }
    where
      ends_are : (x y : ℕ) → new.ends x y ≡ end_set old place other (end_by tidings conn) x y
      ends_are x y = ap (λ (f : ℕ → ℕ → Option ℕ). f x y) ends

      ways_are : (x y : ℕ) → new.ways x y ≡ way_set old place other (is_way_by tidings) x y
      ways_are x y = ap (λ (f : ℕ → ℕ → Bool). f x y) ways

      end_of : (x y q : ℕ) → new.ends x y ≡ Some q
          → EndThen old place other (end_by tidings conn) x y q
      end_of x y q is =
          end_then old place other (end_by tidings conn) x y q (sym (ends_are x y) ∙ is)

      seat_of : (x client q : ℕ) → new.seats x client ≡ Some q
          → SeatBefore old place other tidings conn x client q
      seat_of x client q is =
          seat_before old place other tidings conn x client q
          (ap (λ (f : ℕ → ℕ → Option ℕ). f x client) (sym seats) ∙ is)

      -- only a link that is made has an end here
      made : (t : LinkTidings) (q : ℕ) → end_by t conn ≡ Some q → (is_way_by t ≡ true) × (q ≡ conn)
      made (is_up called) q is = (refl, sym (same_Some conn q is))
      made is_lost q is = cc is

      not_itself_then : (x : ℕ) (o : Option ℕ) → new.ends x x ≡ o → o ≡ None
      not_itself_then x None is = refl
      not_itself_then x (Some q) is = by (end_of x x q is)
        where
          by : EndThen old place other (end_by tidings conn) x x q → Some q ≡ None
          by (is_told here there end) = cc (sym two ∙ eq-eqb place other (sym here ∙ there))
          by (is_old apart was) = cc (sym (joined.not_itself x) ∙ was)

      apart_by : (x y z q : ℕ) → EndThen old place other (end_by tidings conn) x y q
          → EndThen old place other (end_by tidings conn) x z q → y ≡ z
      apart_by x y z q (is_told here there end) (is_told here' there' end') = there ∙ sym there'
      apart_by x y z q (is_old apart was) (is_old apart' was') = joined.apart x y z q was was'
      apart_by x y z q (is_told here there end) (is_old apart was) =
          let it = made tidings q end in
          cc (sym (free z q it.0 (ap (λ n. old.ends n z) (sym here) ∙ was)) ∙ eq-eqb q conn it.1)
      apart_by x y z q (is_old apart was) (is_told here there end) =
          let it = made tidings q end in
          cc (sym (free y q it.0 (ap (λ n. old.ends n y) (sym here) ∙ was)) ∙ eq-eqb q conn it.1)

      no_client_by : (x y client q : ℕ) → EndThen old place other (end_by tidings conn) x y q
          → SeatBefore old place other tidings conn x client q → ⊥
      no_client_by x y client q (is_old apart was) seat = joined.no_client x y client q was seat.was
      no_client_by x y client q (is_told here there end) seat =
          let it = made tidings q end in cc (sym (seat.free here it.0) ∙ eq-eqb q conn it.1)

-- ---- alike

-- a row for each, and not the other link
rows_by : (before numbers : Numbers) (mine theirs : Option ServerRow)
    → AreRowsAlike before mine theirs → ((row found : ServerRow) → mine ≡ Some row
    → before.link found.link ≡ Some row.link → numbers.link found.link ≡ Some row.link)
    → AreRowsAlike numbers mine theirs
rows_by before numbers None None is links = is
rows_by before numbers None (Some theirs) is links = absurd is
rows_by before numbers (Some mine) None is links = absurd is
rows_by before numbers (Some mine) (Some theirs) is links = (is.0, links mine theirs refl is.1)

module _ {W : Type 0} (old : Daemons W) (place other conn : ℕ) (own theirs : View) where
  abbrev before : Numbers
  before = record { link = old.ends place; client = old.seats place }

  abbrev pub numbers_by : LinkTidings → Numbers
  numbers_by tidings = record {
    link = end_set old place other (end_by tidings conn) place;
    client = seats_by tidings place conn old place;
  }

  -- ---- a link is made

  module _ (called : Option Name) (was : old.ends place other ≡ None)
      (no_end : is_some (get own.ends conn) ≡ false)
      (no_client : is_some (get own.clients conn) ≡ false)
    where
      up_link : (y q : ℕ) → old.ends place y ≡ Some q
          → end_set old place other (Some conn) place y ≡ Some q
      up_link y q is = end_to_others old place other (Some conn) y (by (nat_eq y other) refl) ∙ is
        where
          by : (b : Bool) → nat_eq y other ≡ b → b ≡ false
          by true same = cc (sym (ap (old.ends place) (eqb-true y other same) ∙ was) ∙ is)
          by false two = refl

      up_ends : (y : ℕ) (b : Bool) → nat_eq y other ≡ b
          → option_and_then (get own.ends) (old.ends place y)
          ≡ option_and_then (get own.ends) (end_set old place other (Some conn) place y)
      up_ends y true same =
          ap (λ n. option_and_then (get own.ends) (old.ends place n)) (eqb-true y other same)
          ∙ ap (option_and_then (get own.ends)) was
          ∙ sym (none_if_not_some (get own.ends conn) no_end)
          ∙ ap (option_and_then (get own.ends)) (sym (end_told old place other (Some conn)))
          ∙ ap (λ n. option_and_then (get own.ends) (end_set old place other (Some conn) place n))
          (sym (eqb-true y other same))
      up_ends y false two = ap (option_and_then (get own.ends))
          (sym (end_to_others old place other (Some conn) y two))

      up_seat : (client : ℕ) → seats_by (is_up called) place conn old place client
          ≡ unless_taken conn (old.seats place client)
      up_seat client = ap (λ b. if b then unless_taken conn (old.seats place client)
          else old.seats place client) (eq-eqb place place refl)

      up_clients : (o : Option ℕ) → option_and_then (get own.clients) o
          ≡ option_and_then (get own.clients) (unless_taken conn o)
      up_clients None = refl
      up_clients (Some seat) = by (nat_eq seat conn) refl
        where
          by : (b : Bool) → nat_eq seat conn ≡ b → get own.clients seat
              ≡ option_and_then (get own.clients) (if b then None else Some seat)
          by true same = ap (get own.clients) (eqb-true seat conn same)
              ∙ none_if_not_some (get own.clients conn) no_client
          by false two = refl

      up_among : (q number : ℕ) → is_some (get own.clients q) ≡ true → old.seats place number
          ≡ Some q → seats_by (is_up called) place conn old place number ≡ Some q
      up_among q number there seat =
          up_seat number ∙ ap (unless_taken conn) seat ∙ by (nat_eq q conn) refl
        where
          by : (b : Bool) → nat_eq q conn ≡ b → (if b then None else Some q) ≡ Some q
          by true same = cc (sym (ap (λ n. is_some (get own.clients n)) (eqb-true q conn same)
              ∙ no_client) ∙ there)
          by false two = refl

      pub alike_up : AreServersAlike before own theirs
          → AreServersAlike (numbers_by (is_up called)) own theirs
      alike_up alike = record {
        alike = record {
          name = alike.alike.name;
          about = alike.alike.about;
          rows = λ name.
              rows_by before (numbers_by (is_up called)) (row_of own.routes name)
              (row_of theirs.routes name) (alike.alike.rows name)
              (λ row found is link. up_link found.link row.link link);
          peers = alike.alike.peers;
          ends = λ y. alike.alike.ends y ∙ up_ends y (nat_eq y other) refl;
          no_other_end = λ q is. let among = alike.alike.no_other_end q is in
              record { number = among.number; is = up_link among.number q among.is };
          clients = λ client.
              alike.alike.clients client ∙ up_clients (old.seats place client)
              ∙ ap (option_and_then (get own.clients)) (sym (up_seat client));
          no_other_client = λ q is.
              let among = alike.alike.no_other_client q is in
              record { number = among.number; is = up_among q among.number is among.is };
          room = alike.alike.room;
        };
        ends_count = alike.ends_count;
      }

  -- ---- a link is lost

  module _ (was : old.ends place other ≡ Some conn)
      (no_end : is_some (get own.ends conn) ≡ false) where
    not_met : (o : Option End) → IsMetEnd o → is_some o ≡ true
    not_met None met = absurd met
    not_met (Some end) met = refl

    lost_link : (y q : ℕ) → is_some (get own.ends q) ≡ true → old.ends place y ≡ Some q
        → end_set old place other None place y ≡ Some q
    lost_link y q there is = end_to_others old place other None y (by (nat_eq y other) refl) ∙ is
      where
        by : (b : Bool) → nat_eq y other ≡ b → b ≡ false
        by true same =
            let it : q ≡ conn =
            same_Some q conn (sym is ∙ ap (old.ends place) (eqb-true y other same) ∙ was) in
            cc (sym (ap (λ n. is_some (get own.ends n)) it ∙ no_end) ∙ there)
        by false two = refl

    lost_ends : (y : ℕ) (b : Bool) → nat_eq y other ≡ b
        → option_and_then (get own.ends) (old.ends place y)
        ≡ option_and_then (get own.ends) (end_set old place other None place y)
    lost_ends y true same =
        ap (λ n. option_and_then (get own.ends) (old.ends place n)) (eqb-true y other same)
        ∙ ap (option_and_then (get own.ends)) was
        ∙ none_if_not_some (get own.ends conn) no_end
        ∙ ap (option_and_then (get own.ends)) (sym (end_told old place other None))
        ∙ ap (λ n. option_and_then (get own.ends) (end_set old place other None place n))
        (sym (eqb-true y other same))
    lost_ends y false two =
        ap (option_and_then (get own.ends)) (sym (end_to_others old place other None y two))

    pub alike_lost : AreServersAlike before own theirs
        → AreServersAlike (numbers_by is_lost) own theirs
    alike_lost alike = record {
      alike = record {
        name = alike.alike.name;
        about = alike.alike.about;
        rows = λ name.
            rows_by before (numbers_by is_lost) (row_of own.routes name) (row_of theirs.routes name)
            (alike.alike.rows name)
            (λ row found is link.
            lost_link found.link row.link
            (not_met (get own.ends row.link) (alike.ends_count name row.link
            (ap (option_map (λ (r : ServerRow). r.link)) is))) link);
        peers = alike.alike.peers;
        ends = λ y. alike.alike.ends y ∙ lost_ends y (nat_eq y other) refl;
        no_other_end = λ q is. let among = alike.alike.no_other_end q is in
            record { number = among.number; is = lost_link among.number q is among.is };
        clients = alike.alike.clients;
        no_other_client = λ q is. let among =
            alike.alike.no_other_client q is in record { number = among.number; is = among.is };
        room = alike.alike.room;
      };
      ends_count = alike.ends_count;
    }
