-- Servers that are alike are so by other numbers that are the same for all that is there.
use Rattle.std.proofs.Common.{◌≡◌, ℕ, true, ◌||◌, ◌↔◌, is_some, Option, Some, None, List, refl, sym}
use Rattle.std.proofs.Common.{◌∙◌, ap, option_map}
use Rattle.std.specs.FinMap.{FinMap, get}
use Rattle.std.specs.Option.{option_and_then}
use Rattle.std.specs.Ordering.{nat_cmp}
use Rattle.irc_stage.specs.Ends.{End}
use Rattle.irc_stage.specs.Ways.{AreEnds, IsMetEnd}
use Rattle.irc_routes.specs.declared.server_row.ServerRow.{ServerRow}
use Rattle.irc_routes.specs.Known.{row_of}
use Rattle.irc_stage.specs.View.{View}
use Rattle.irc_numbers.specs.Alike.{AreAlike, AreRowsAlike, IsAmong, Numbers}
use Rattle.irc_numbers.specs.InUse.{AgreeInUse, NumbersInUseCount}

module _ {V : Type 0} (old new : ℕ → Option ℕ) (own other : FinMap nat_cmp V)
    (alike : (p : ℕ) → get other p ≡ option_and_then (get own) (old p))
    (known : (k : ℕ) → is_some (get own k) ≡ true → IsAmong old k)
    (agree : (p k : ℕ) → (is_some (get own k) || is_some (get other p)) ≡ true
    → (old p ≡ Some k) ↔ (new p ≡ Some k)) where
  -- one that is there in either has the number that it had
  at_number : (p k : ℕ) → new p ≡ Some k → (mine theirs : Option V) → get own k ≡ mine
      → get other p ≡ theirs → get other p ≡ get own k
  at_number p k is None None mine_is theirs_is = theirs_is ∙ sym mine_is
  at_number p k is None (Some it) mine_is theirs_is =
      alike p ∙ ap (option_and_then (get own))
      ((agree p k (λ i. is_some (mine_is i) || is_some (theirs_is i))).1 is)
  at_number p k is (Some it) theirs mine_is theirs_is =
      alike p ∙ ap (option_and_then (get own))
      ((agree p k (ap (λ (o : Option V). is_some o || is_some (get other p)) mine_is)).1 is)

  -- one that has no number now is not there
  had_number : (p k : ℕ) → new p ≡ None → old p ≡ Some k → (mine : Option V) → get own k ≡ mine
      → get other p ≡ None
  had_number p k none was None mine_is = alike p ∙ ap (option_and_then (get own)) was ∙ mine_is
  had_number p k none was (Some it) mine_is =
      cc (sym none
      ∙ (agree p k (ap (λ (o : Option V). is_some o || is_some (get other p)) mine_is)).0 was)

  no_number : (p : ℕ) → new p ≡ None → (was : Option ℕ) → old p ≡ was → get other p ≡ None
  no_number p none None was_is = alike p ∙ ap (option_and_then (get own)) was_is
  no_number p none (Some k) was_is = had_number p k none was_is (get own k) refl

  by_number : (p : ℕ) (number : Option ℕ) → new p ≡ number
      → get other p ≡ option_and_then (get own) number
  by_number p None is = no_number p is (old p) refl
  by_number p (Some k) is = at_number p k is (get own k) (get other p) refl refl

  pub in_use : (p : ℕ) → get other p ≡ option_and_then (get own) (new p)
  in_use p = by_number p (new p) refl

  pub still_among : (k : ℕ) → is_some (get own k) ≡ true → IsAmong new k
  still_among k there =
      let one = known k there in
      record {
        number = one.number;
        is =
            (agree one.number k (ap (λ b. b || is_some (get other one.number)) there)).0 one.is;
      }

there_if_met : (o : Option End) → IsMetEnd o → is_some o ≡ true
there_if_met None met = absurd met
there_if_met (Some end) met = refl

module _ (old new : Numbers) (own other : View) (alike : AreAlike old own other)
    (met : AreEnds own.ends own.routes) (agree : AgreeInUse old new own other) where
  row_in_use : (name : List ℕ) (mine theirs : Option ServerRow) → row_of own.routes name ≡ mine
      → AreRowsAlike old mine theirs → AreRowsAlike new mine theirs
  row_in_use name None None is rows = tt
  row_in_use name None (Some theirs) is rows = absurd rows
  row_in_use name (Some mine) None is rows = absurd rows
  row_in_use name (Some mine) (Some theirs) is rows =
      let there = there_if_met (get own.ends mine.link)
      (met name mine.link (ap (option_map (λ (r : ServerRow). r.link)) is)) in (
        rows.0,
        (agree.links theirs.link mine.link
            (ap (λ b. b || is_some (get other.ends theirs.link)) there)).0 rows.1,
      )

  by_new : AreAlike new own other
  by_new = record {
    name = alike.name;
    about = alike.about;
    rows = λ name. row_in_use name (row_of own.routes name) (row_of other.routes name) refl
        (alike.rows name);
    peers = alike.peers;
    ends = in_use old.link new.link own.ends other.ends alike.ends alike.no_other_end agree.links;
    no_other_end =
        still_among old.link new.link own.ends other.ends alike.ends alike.no_other_end agree.links;
    clients = in_use old.client new.client own.clients other.clients alike.clients
        alike.no_other_client agree.clients;
    no_other_client = still_among old.client new.client own.clients other.clients alike.clients
        alike.no_other_client agree.clients;
    room = alike.room;
  }

pub numbers_in_use_count : NumbersInUseCount
numbers_in_use_count old new own other alike met agree = by_new old new own other alike met agree
