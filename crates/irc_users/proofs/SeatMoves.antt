-- What each change of a seat and of the heads makes of the two tables.
use Rattle.std.proofs.Common.{◌≡◌, ℕ, Bool, true, false, not, ◌&&◌, cond, List, set, refl, sym, ◌∙◌}
use Rattle.std.proofs.Common.{ap, subst, Option, Some, None, is_some, is_none, option_map, Result}
use Rattle.std.proofs.Common.{Ok, Err, OnErr}
use Rattle.std.specs.Global.{Box}
use Rattle.irc_names.specs.Lemmas.PlainFacts.{none_if_not_some}
use Rattle.slab.specs.Slab.{Slab, get, Updates, with_value as seat_with}
use Rattle.slab.proofs.SlabLemmas.{Updates-with_value, Updates-set, ContainsKey-within}
use Rattle.irc_names.specs.Fold.{key, same}
use Rattle.irc_names.specs.FoldLaws.{same-tells}
use Rattle.irc_names.specs.Tables.{Table, row, alter, moved, put_row}
use Rattle.irc_names.specs.TableLaws.{same_fold, one_fold, same_table, row-alter, row-alter_same}
use Rattle.irc_tables.specs.Lemmas.RowsAsTable.{alter_alike, alter-absent}
use Rattle.irc_users.specs.declared.user.User.{User}
use Rattle.irc_users.specs.declared.user_change.UserChange.{UserChange}
use Rattle.irc_users.specs.declared.users.Head.{Head}
use Rattle.irc_users.specs.UserTable.{OthersKeep, with_change, with_nick, has_nick, is_taken}
use Rattle.irc_users.specs.UserTable.{rename_fault}
use Rattle.irc_users.specs.declared.fault.RenameFault.TheVariants.{Taken, NoSuchUser}
use Rattle.irc_users.specs.Rosters.{boxed, head, users_by, numbers_by, users_in, numbers_in}
use Rattle.irc_users.specs.Rosters.{sitting, IsSeating, IsRoster}
use Rattle.irc_users.proofs.NumberedRows.{user_row, number_row, known}
use Rattle.irc_users.proofs.Heads.{seat_full}
use Rattle.irc_users.proofs.Seatings.{SeatChanges, GoTogether, users_changed, numbers_changed}
use Rattle.irc_users.proofs.Seatings.{seating_changed, free_together, his_together}

-- ---- changes of a table

-- a row that is put where it stands
alter-idle : {X : Type 0} (table : Table X) (fold : List ℕ) (o : Option X) → row table fold ≡ o
    → alter fold (λ _. o) table ≡ table
alter-idle {X} table fold o is =
    same_table _ _ (λ q. row-alter fold (λ _. o) table q ∙ by_fold q (same_fold q fold) refl)
  where
    by_fold : (q : List ℕ) (b : Bool) → same_fold q fold ≡ b → cond b o (row table q) ≡ row table q
    by_fold q true one = sym (ap (row table) (one_fold q fold one) ∙ is)
    by_fold q false other = refl

-- what is put at one fold leaves the numbers of the others
pub others_keep : (nick : List ℕ) (o : Option ℕ) (before after : Table ℕ)
    → after ≡ alter (key nick) (λ _. o) before → OthersKeep nick before after
others_keep nick o before after is fold differs =
    ap (λ t. row t fold) is ∙ row-alter (key nick) (λ _. o) before fold
    ∙ by_fold (same_fold fold (key nick)) refl
  where
    by_fold : (b : Bool) → same_fold fold (key nick) ≡ b
        → cond b o (row before fold) ≡ row before fold
    by_fold true one = absurd (differs (one_fold fold (key nick) one))
    by_fold false other = refl

-- where there is no user, there is nothing to set
pub set_absent : (table : Table User) (fold : List ℕ) (change : UserChange)
    → row table fold ≡ None → table ≡ alter fold (option_map (with_change change)) table
set_absent table fold change none =
    sym (alter-absent table fold none) ∙ alter_alike table fold (λ _. None)
    (option_map (with_change change)) (ap (option_map (with_change change)) (sym none))

moved_in_steps : {X : Type 0} (table rest after : Table X) (old new : List ℕ)
    (change : X → X) (x : X) → row table old ≡ Some x → rest ≡ alter old (λ _. None) table
    → after ≡ alter new (λ _. Some (change x)) rest → after ≡ moved old new change table
unfolding moved
moved_in_steps table rest after old new change x there taken_out put_in =
    put_in ∙ ap (alter new (λ _. Some (change x))) taken_out
    ∙ ap (λ o. put_row o new change (alter old (λ _. None) table)) (sym there)

-- where there is no row, none is moved
pub moved_not : {X : Type 0} (table : Table X) (old new : List ℕ) (change : X → X)
    → row table old ≡ None → table ≡ moved old new change table
unfolding moved
moved_not table old new change none =
    sym (alter-absent table old none)
    ∙ ap (λ o. put_row o new change (alter old (λ _. None) table)) (sym none)

-- where no other row has the new name, it is free once the row is out
pub free_then : {X : Type 0} (table : Table X) (nick new : List ℕ)
    → (not (same nick new) && is_some (row table (key new))) ≡ false
    → row (alter (key nick) (λ _. None) table) (key new) ≡ None
free_then {X} table nick new free = by_name (same nick new) refl
  where
    either : (b : Bool) (o : Option X) → o ≡ None → cond b None o ≡ None
    either true o none = refl
    either false o none = none

    by_name : (b : Bool) → same nick new ≡ b
        → row (alter (key nick) (λ _. None) table) (key new) ≡ None
    by_name true one = ap (row (alter (key nick) (λ _. None) table))
        (sym ((same-tells nick new).0 one)) ∙ row-alter_same (key nick) (λ _. None) table
    by_name false two =
        row-alter (key nick) (λ _. None) table (key new)
        ∙ either (same_fold (key new) (key nick)) (row table (key new))
        (none_if_not_some (row table (key new))
        (ap (λ b. not b && is_some (row table (key new))) (sym two)
        ∙ free))

-- what holds anyway holds of an error
pub on_err : {A B X : Type 0} (result : Result A B) → X → OnErr result X
on_err (Ok a) fact = tt
on_err (Err b) fact = fact

-- ---- a row that is put under another name before the old one is taken out

module _ {X : Type 0} (table : Table X) (nick new : List ℕ) (x : X) where
  after_both : (q : List ℕ)
      → row (alter (key new) (λ _. Some x) (alter (key nick) (λ _. None) table)) q
      ≡ cond (same_fold q (key new)) (Some x) (cond (same_fold q (key nick)) None (row table q))
  after_both q =
      row-alter (key new) (λ _. Some x) (alter (key nick) (λ _. None) table) q
      ∙ ap (cond (same_fold q (key new)) (Some x)) (row-alter (key nick) (λ _. None) table q)

  pub put_first : same nick new ≡ false → alter (key nick) (λ _. None) (alter (key new)
      (λ _. Some x) table) ≡ alter (key new) (λ _. Some x) (alter (key nick) (λ _. None) table)
  put_first apart = same_table _ _ (λ q.
      row-alter (key nick) (λ _. None) (alter (key new) (λ _. Some x) table) q
      ∙ ap (cond (same_fold q (key nick)) None) (row-alter (key new) (λ _. Some x) table q)
      ∙ by q (same_fold q (key nick)) (same_fold q (key new)) refl refl ∙ sym (after_both q))
    where
      by : (q : List ℕ) (a b : Bool) → same_fold q (key nick) ≡ a
          → same_fold q (key new) ≡ b → cond a None (cond b (Some x) (row table q))
          ≡ cond b (Some x) (cond a None (row table q))
      by q true true one other =
          absurd (let e : true ≡ false = sym ((same-tells nick new).1
          (sym (one_fold q (key nick) one) ∙ one_fold q (key new) other)) ∙ apart in cc)
      by q true false one other = refl
      by q false true one other = refl
      by q false false one other = refl

  pub put_over : same nick new ≡ true → alter (key new) (λ _. Some x) table
      ≡ alter (key new) (λ _. Some x) (alter (key nick) (λ _. None) table)
  put_over one = same_table _ _ (λ q.
      row-alter (key new) (λ _. Some x) table q ∙ by q (same_fold q (key new)) (same_fold q
      (key nick)) (ap (same_fold q) ((same-tells nick new).0 one)) ∙ sym (after_both q))
    where
      by : (q : List ℕ) (a b : Bool) → b ≡ a
          → cond a (Some x) (row table q) ≡ cond a (Some x) (cond b None (row table q))
      by q true b same = refl
      by q false true same = cc same
      by q false false same = refl

-- ---- one seat, and the head with it

pub seat_changes : (seats after : Slab (Box User)) (n : ℕ)
    (slot : Option (Box User)) → Updates seats after n slot
    → SeatChanges (sitting seats) (sitting after) n (option_map boxed slot)
seat_changes seats after n slot updates = record {
  others = λ m other. ap (option_map boxed) (updates.others m other);
  here = ap (option_map boxed) updates.changed;
}

module _ (before after : ℕ → Option User) (heads later : Table Head) (n : ℕ) (fold : List ℕ)
    (now : Option User) (seating : IsSeating before heads)
    (changes : SeatChanges before after n now) (together : GoTogether before heads n fold now)
    (put : later ≡ alter fold (λ _. option_map (head n) now) heads) where
  pub users_put : users_by after later ≡ alter fold (λ _. now) (users_by before heads)
  users_put =
      ap (users_by after) put ∙ users_changed before after heads n fold now seating changes together

  pub numbers_put : numbers_by later ≡ alter fold (λ _. option_map (λ _. n) now) (numbers_by heads)
  numbers_put =
      ap numbers_by put ∙ numbers_changed before after heads n fold now seating changes together

  pub seating_put : IsSeating after later
  seating_put = subst (λ t. IsSeating after t) (sym put)
      (seating_changed before after heads n fold now seating changes together)

-- ---- somebody comes

module _ (seats after : Slab (Box User)) (heads later : Table Head) (n : ℕ) (box : Box User)
    (roster : IsRoster seats heads) (vacant : get seats n ≡ None)
    (free : row heads (key box.value.nick) ≡ None) (updates : Updates seats after n (Some box))
    (put : later ≡ alter (key box.value.nick) (λ _. Some (head n box.value)) heads) where
  come : GoTogether (sitting seats) heads n (key box.value.nick) (Some box.value)
  come = free_together (sitting seats) heads roster n (key box.value.nick) box.value
      (ap (option_map boxed) vacant) free refl

  pub users_come : users_in after later ≡ alter (key box.value.nick) (λ _. Some box.value)
      (users_in seats heads)
  users_come =
      users_put (sitting seats) (sitting after) heads later n (key box.value.nick)
      (Some box.value) roster (seat_changes seats after n (Some box) updates) come put

  numbers_so : numbers_in later ≡ alter (key box.value.nick) (λ _. Some n) (numbers_in heads)
  numbers_so =
      numbers_put (sitting seats) (sitting after) heads later n (key box.value.nick)
      (Some box.value) roster (seat_changes seats after n (Some box) updates) come put

  pub numbers_come : OthersKeep box.value.nick (numbers_in heads) (numbers_in later)
  numbers_come =
      others_keep box.value.nick (Some n) (numbers_in heads) (numbers_in later) numbers_so

  pub roster_come : IsRoster after later
  roster_come =
      seating_put (sitting seats) (sitting after) heads later n (key box.value.nick)
      (Some box.value) roster (seat_changes seats after n (Some box) updates) come put

-- ---- somebody who is there

no_one : (fold : List ℕ) (user : User) → ◌≡◌ {A = Option User} None (Some user)
    → key user.nick ≡ fold
no_one fold user e = absurd (cc)

module _ (seats : Slab (Box User)) (heads : Table Head) (fold : List ℕ) (h : Head)
    (roster : IsRoster seats heads) (there : row heads fold ≡ Some h) where
  pub named_so : key h.nick ≡ fold
  named_so = roster.named fold h there

  pub seat_of : is_some (get seats h.number) ≡ true
  seat_of = seat_full seats heads roster fold h there

  -- he is there
  pub there_so : is_some (row (users_in seats heads) fold) ≡ true
  there_so = known (sitting seats) heads roster fold ∙ ap is_some there

  gone : GoTogether (sitting seats) heads h.number fold None
  gone = his_together (sitting seats) heads roster fold h None there (no_one fold)

  -- he goes
  module _ (after : Slab (Box User)) (later : Table Head)
      (updates : Updates seats after h.number None)
      (out : later ≡ alter fold (λ _. None) heads) where
    pub users_gone : users_in after later ≡ alter fold (λ _. None) (users_in seats heads)
    users_gone = users_put (sitting seats) (sitting after) heads later h.number fold None roster
        (seat_changes seats after h.number None updates) gone out

    pub numbers_gone : numbers_in later ≡ alter fold (λ _. None) (numbers_in heads)
    numbers_gone = numbers_put (sitting seats) (sitting after) heads later h.number fold None roster
        (seat_changes seats after h.number None updates) gone out

    pub roster_gone : IsRoster after later
    roster_gone = seating_put (sitting seats) (sitting after) heads later h.number fold None roster
        (seat_changes seats after h.number None updates) gone out

  -- he stays, changed
  module _ (box now : Box User) (sits : get seats h.number ≡ Some box) where
    pub head_is : head h.number box.value ≡ h
    head_is =
        let e : Some (head h.number box.value) ≡ Some h =
        ap (λ o. option_map (head h.number) (option_map boxed o)) (sym sits)
        ∙ roster.seated fold h there in cc

    abbrev seats_now : Slab (Box User)
    seats_now = seat_with seats h.number now

    changed_seat : Updates seats seats_now h.number (Some now)
    changed_seat = Updates-with_value seats h.number now seat_of

    his_row : row (users_in seats heads) fold ≡ Some box.value
    his_row = user_row (sitting seats) heads fold h there ∙ ap (option_map boxed) sits

    -- by a change of his own, which leaves him his nickname
    module _ (change : UserChange) (done : now.value ≡ with_change change box.value) where
      still_named : key now.value.nick ≡ fold
      still_named =
          ap (λ (u : User). key u.nick) done ∙ ap (λ (k : Head). key k.nick) head_is ∙ named_so

      pub head_there : (k : Head) → k ≡ head h.number now.value
          → is_some (row heads (key k.nick)) ≡ true
      head_there k is =
          ap (λ (j : Head). is_some (row heads (key j.nick))) is
          ∙ ap (λ f. is_some (row heads f)) still_named ∙ ap is_some there

    module _ (change : UserChange) (later : Table Head)
        (done : now.value ≡ with_change change box.value)
        (put : later ≡ alter (key now.value.nick) (λ _. Some (head h.number now.value)) heads) where
      fits_so : (user : User) → Some now.value ≡ Some user → key user.nick ≡ fold
      fits_so user e =
          let one : user ≡ now.value = cc in
          ap (λ (u : User). key u.nick) one ∙ still_named change done

      stays : GoTogether (sitting seats) heads h.number fold (Some now.value)
      stays = his_together (sitting seats) heads roster fold h (Some now.value) there fits_so

      set_put : later ≡ alter fold (λ _. Some (head h.number now.value)) heads
      set_put =
          put ∙ ap (λ at. alter at (λ _. Some (head h.number now.value)) heads)
          (still_named change done)

      pub set_users : users_in seats_now later ≡ alter fold (option_map (with_change change))
          (users_in seats heads)
      set_users =
          users_put (sitting seats) (sitting seats_now) heads later h.number fold
          (Some now.value) roster
          (seat_changes seats seats_now h.number (Some now) changed_seat) stays set_put
          ∙ alter_alike (users_in seats heads) fold
          (λ _. Some now.value) (option_map (with_change change))
          (ap Some done ∙ ap (option_map (with_change change)) (sym his_row))

      pub set_numbers : numbers_in later ≡ numbers_in heads
      set_numbers =
          numbers_put (sitting seats) (sitting seats_now) heads later h.number fold
          (Some now.value) roster
          (seat_changes seats seats_now h.number (Some now) changed_seat) stays set_put
          ∙ alter-idle (numbers_in heads) fold (Some h.number) (number_row heads fold h there)

      pub set_roster : IsRoster seats_now later
      set_roster =
          seating_put (sitting seats) (sitting seats_now) heads later h.number fold
          (Some now.value) roster
          (seat_changes seats seats_now h.number (Some now) changed_seat) stays set_put

    -- under another nickname: as if he went, and came back into the same seat
    module _ (new : List ℕ) (later : Table Head) (k : Head)
        (done : now.value ≡ with_nick new box.value)
        (spelled : k ≡ record { nick = new; number = h.number; invisible = h.invisible })
        (free : row (alter fold (λ _. None) heads) (key new) ≡ None)
        (put : later ≡ alter (key k.nick) (λ _. Some k) (alter fold (λ _. None) heads)) where
      abbrev seats_without : Slab (Box User)
      seats_without = record seats { slots = set seats.slots h.number None }

      abbrev heads_without : Table Head
      heads_without = alter fold (λ _. None) heads

      went : Updates seats seats_without h.number None
      went = Updates-set seats seats_without h.number None
          (ContainsKey-within seats h.number seat_of) refl

      came : Updates seats_without seats_now h.number (Some now)
      came = record {
        changed = changed_seat.changed;
        others = λ m other. changed_seat.others m other ∙ sym (went.others m other);
      }

      roster_without : IsRoster seats_without heads_without
      roster_without = roster_gone seats_without heads_without went refl

      nick_now : now.value.nick ≡ new
      nick_now = ap (λ (u : User). u.nick) done

      head_then : k ≡ head h.number now.value
      head_then =
          spelled ∙ ap (λ (x : Head). record {
            nick = new;
            number = h.number;
            invisible = x.invisible;
          }) (sym head_is) ∙ ap (head h.number) (sym done)

      put_so : later ≡ alter (key now.value.nick)
          (λ _. Some (head h.number now.value)) heads_without
      put_so = put ∙ ap (λ (x : Head). alter (key x.nick) (λ _. Some x) heads_without) head_then

      free_so : row heads_without (key now.value.nick) ≡ None
      free_so = ap (λ nick. row heads_without (key nick)) nick_now ∙ free

      pub nick_users : users_in seats_now later ≡ moved fold (key new) (with_nick new)
          (users_in seats heads)
      nick_users =
          moved_in_steps (users_in seats heads) (users_in seats_without heads_without)
          (users_in seats_now later) fold (key new) (with_nick new) box.value his_row
          (users_gone seats_without heads_without went refl)
          (users_come seats_without seats_now heads_without later h.number now roster_without
          went.changed free_so came put_so
          ∙ ap (λ (u : User). alter (key u.nick) (λ _. Some u)
          (users_in seats_without heads_without)) done)

      pub nick_numbers : numbers_in later ≡ moved fold (key new) (λ n. n) (numbers_in heads)
      nick_numbers =
          moved_in_steps (numbers_in heads) (numbers_in heads_without) (numbers_in later) fold
          (key new) (λ n. n) h.number
          (number_row heads fold h there)
          (numbers_gone seats_without heads_without went refl)
          (numbers_so seats_without seats_now heads_without later h.number now roster_without
          went.changed free_so came put_so
          ∙ ap (λ nick. alter (key nick) (λ _. Some h.number) (numbers_in heads_without)) nick_now)

      pub nick_roster : IsRoster seats_now later
      nick_roster = roster_come seats_without seats_now heads_without later h.number now
          roster_without went.changed free_so came put_so

-- where no other user has the new nickname, it is free once the head is out
pub free_out : (seats : Slab (Box User)) (heads : Table Head) (nick new : List ℕ)
    → IsRoster seats heads → is_taken (users_in seats heads) nick new ≡ false
    → row (alter (key nick) (λ _. None) heads) (key new) ≡ None
free_out seats heads nick new roster free =
    free_then heads nick new (ap (λ b. not (same nick new) && b)
    (sym (known (sitting seats) heads roster (key new))) ∙ free)

-- ---- whether a nickname is taken

pub taken_so : (seats : Slab (Box User)) (heads : Table Head)
    → IsRoster seats heads → (nick new : List ℕ) (taken : Bool)
    → taken ≡ (not (same nick new) && is_some (row heads (key new)))
    → taken ≡ is_taken (users_in seats heads) nick new
taken_so seats heads roster nick new taken is =
    is ∙ ap (λ b. not (same nick new) && b) (sym (known (sitting seats) heads roster (key new)))

none_by : {X : Type 0} (o : Option X) (b : Bool) → b ≡ is_some o → is_none o ≡ not b
none_by None b is = ap not (sym is)
none_by (Some x) b is = ap not (sym is)

-- why a user whose new nickname is free does not take it, if it does not
pub fault_so : (table : Table User) (nick new : List ℕ) (b : Bool) → is_taken table nick new ≡ false
    → b ≡ has_nick table nick → rename_fault table nick new ≡ cond (not b) (Some NoSuchUser) None
fault_so table nick new b free has =
    ap (λ taken. cond taken (Some Taken)
    (cond (is_none (row table (key nick))) (Some NoSuchUser) None)) free
    ∙ ap (λ none. cond none (Some NoSuchUser) None) (none_by (row table (key nick)) b has)
