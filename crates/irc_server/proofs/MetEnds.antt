-- Each known server stays behind a link that counts, as ends and rows come and go.
use Rattle.std.proofs.Common.{◌≡◌, ℕ, Bool, true, false, cond, nat_eq, is_some, Option, Some, None}
use Rattle.std.proofs.Common.{List, refl, sym, ◌∙◌, ap, subst, option_map, if◌then◌else◌}
use Rattle.std.proofs.lemmas.Bool.{eq-eqb}
use Rattle.std.specs.FinMap.{get, insert, remove}
use Rattle.std.specs.Option.{option_and_then}
use Rattle.std.proofs.lemmas.Option.{same_Some}
use Rattle.irc_names.specs.Tables.{row}
use Rattle.irc_names.specs.TableLaws.{same_fold, row-alter, row-each}
use Rattle.irc_stage.specs.Ends.{End, Ends, is_met}
use Rattle.irc_stage.specs.Ways.{AreEnds, IsMetEnd}
use Rattle.irc_routes.specs.declared.server_row.ServerRow.{ServerRow}
use Rattle.irc_routes.specs.Known.{Known, added, smallest_free, unless_behind, without_link}
use Rattle.irc_routes.specs.Known.{without_server}
use Rattle.irc_stage.specs.Lemmas.Numbers.{get-with, get-without, one_number, same_number}

abbrev link_of : ServerRow → ℕ
link_of r = r.link

pub there : (o : Option End) → IsMetEnd o → is_some o ≡ true
there None met = absurd met
there (Some end) met = refl

-- an end is put in: it counts where one counted
pub put_met : (ends : Ends) (known : Known) (link : ℕ) (end : End) → AreEnds ends known
    → (IsMetEnd (get ends link) → is_met end ≡ true) → AreEnds (insert ends link end) known
put_met ends known link end met counts name number is =
    subst IsMetEnd (sym (get-with ends link end number)) (by (same_number number link) refl)
  where
    by : (b : Bool) → same_number number link ≡ b → IsMetEnd (cond b (Some end) (get ends number))
    by true one = counts
        (subst (λ n. IsMetEnd (get ends n)) (one_number number link one) (met name number is))
    by false two = met name number is

pub left_no_more : (ends : Ends) (link number : ℕ) → is_some (get (remove ends link) number) ≡ true
    → is_some (get ends number) ≡ true
left_no_more ends link number is =
    by (same_number number link) (sym (ap is_some (get-without ends link number)) ∙ is)
  where
    by : (b : Bool) → is_some (cond b None (get ends number)) ≡ true
        → is_some (get ends number) ≡ true
    by true still = absurd (cc still)
    by false still = still

-- a server more, behind a link that counts
abbrev new_row : ℕ → List ℕ → List ℕ → ℕ → ℕ → List ℕ → Known → ServerRow
new_row link uplink name distance token info known =
    record {
      link = link;
      uplink = uplink;
      name = name;
      distance = distance;
      token = token;
      ours = smallest_free known;
      info = info;
    }

pub added_met : (ends : Ends) (known : Known) (link : ℕ) (uplink name : List ℕ)
    (distance token : ℕ) (info : List ℕ) → AreEnds ends known → IsMetEnd (get ends link)
    → AreEnds ends (added link uplink name distance token info known)
added_met ends known link uplink name distance token info met here q number is =
    by (same_fold q name) (sym (ap (option_map link_of) (row-alter name
    (λ _. Some (new_row link uplink name distance token info known)) known.rows q)) ∙ is)
  where
    by : (b : Bool) → option_map link_of
        (cond b (Some (new_row link uplink name distance token info known)) (row known.rows q))
        ≡ Some number → IsMetEnd (get ends number)
    by true one = subst (λ n. IsMetEnd (get ends n)) (same_Some link number one) here
    by false other = met q number other

-- a server less
pub left_met : (ends : Ends) (known : Known) (name : List ℕ) → AreEnds ends known
    → AreEnds ends (without_server name known)
left_met ends known name met q number is =
    by (same_fold q name)
    (sym (ap (option_map link_of) (row-alter name (λ _. None) known.rows q)) ∙ is)
  where
    by : (b : Bool) → option_map link_of (cond b None (row known.rows q)) ≡ Some number
        → IsMetEnd (get ends number)
    by true none = cc none
    by false other = met q number other

-- a link less, and nobody behind it
pub unlinked_met : (ends : Ends) (known : Known) (link : ℕ) → AreEnds ends known
    → AreEnds (remove ends link) (without_link link known)
unlinked_met ends known link met q number is =
    by_row (row known.rows q) refl
    (sym (ap (option_map link_of) (row-each (unless_behind link) known.rows q)) ∙ is)
  where
    not_it : (a : ℕ) → nat_eq a link ≡ false → same_number a link ≡ false
    not_it a two = by_number (same_number a link) refl
      where
        by_number : (b : Bool) → same_number a link ≡ b → b ≡ false
        by_number false other = refl
        by_number true one = absurd (cc (sym (eq-eqb a link (one_number a link one)) ∙ two))

    still : (r : ServerRow) → row known.rows q ≡ Some r → (b : Bool) → nat_eq r.link link ≡ b
        → option_map link_of (if b then None else Some r) ≡ Some number
        → IsMetEnd (get (remove ends link) number)
    still r is_there true one none = cc none
    still r is_there false two left =
        let number_is = same_Some r.link number left in
        subst IsMetEnd
        (sym (get-without ends link number ∙ ap (λ b. cond b None (get ends number))
        (ap (λ n. same_number n link) (sym number_is) ∙ not_it r.link two)))
        (met q number (ap (option_map link_of) is_there ∙ left))

    by_row : (o : Option ServerRow) → row known.rows q ≡ o
        → option_map link_of (option_and_then (unless_behind link) o) ≡ Some number
        → IsMetEnd (get (remove ends link) number)
    by_row None is_there none = cc none
    by_row (Some r) is_there left = still r is_there (nat_eq r.link link) refl left
