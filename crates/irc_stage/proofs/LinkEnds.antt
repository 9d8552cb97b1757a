-- The ends of links, as their map changes: each known server stays behind a link that counts.
use Rattle.std.proofs.Common.{◌≡◌, ℕ, Bool, true, false, cond, nat_eq, map, Option, Some, None}
use Rattle.std.proofs.Common.{List, [], ◌∷◌, refl, sym, ◌∙◌, ap, subst, if◌then◌else◌}
use Rattle.std.proofs.lemmas.Bool.{eq-eqb}
use Rattle.std.specs.BTreeMap.{BTreeMap, get as number_in}
use Rattle.std.specs.FinMap.{entries, find, get, get-entries, insert, remove}
use Rattle.std.specs.Option.{option_and_then, option_map, option_map_or}
use Rattle.std.specs.Ordering.{nat_cmp}
use Rattle.std.proofs.lemmas.Option.{same_Some}
use Rattle.irc_names.specs.Tables.{Table, fold_cmp, row}
use Rattle.irc_names.specs.TableLaws.{same_fold, row-alter, row-each}
use Rattle.irc_stage.specs.Ends.{End, Ends, is_met}
use Rattle.irc_stage.specs.Ways.{AreEnds, IsMetEnd}
use Rattle.irc_stage.specs.Loops.Branching.{IsRightIn, KnowsNothing}
use Rattle.irc_stage.specs.declared.ways.Ways.{Ways}
use Rattle.irc_routes.specs.declared.server_row.ServerRow.{ServerRow}
use Rattle.irc_routes.specs.Known.{Known, added, others, smallest_free, unless_behind, without_link}
use Rattle.irc_routes.specs.Known.{without_server}
use Rattle.irc_stage.specs.declared.parts.ServerParts.{ServerParts}
use Rattle.irc_stage.specs.Linked.{with_far, with_password}
use Rattle.irc_stage.specs.View.{View}
use Rattle.irc_stage.specs.Lemmas.Numbers.{get-numbered, get-with, get-without, one_number}
use Rattle.irc_stage.specs.Lemmas.Numbers.{same_number}
use Rattle.irc_stage.specs.Loops.Parts.{numbered, IsServing}

-- an end is put in: it counts where one counted
pub put_met : (ends : Ends) (known : Known) (link : ℕ) (end : End) → AreEnds ends known
    → (IsMetEnd (get ends link) → is_met end ≡ true) → AreEnds (insert ends link end) known
put_met ends known link end met counts name number is =
    subst IsMetEnd (sym (get-with ends link end number)) (by (same_number number link) refl)
  where
    by : (b : Bool) → same_number number link ≡ b → IsMetEnd (cond b (Some end) (get ends number))
    by true one = counts
        (subst (λ n. IsMetEnd (get ends n)) (one_number number link one) (met name number is))
    by false two = met name number is

-- a server more, behind a link that counts
abbrev new_row : ℕ → List ℕ → List ℕ → ℕ → ℕ → List ℕ → Known → ServerRow
new_row link uplink name distance token info known =
    record {
      link = link;
      uplink = uplink;
      name = name;
      distance = distance;
      token = token;
      ours = smallest_free known;
      info = info;
    }

pub added_met : (ends : Ends) (known : Known) (link : ℕ) (uplink name : List ℕ)
    (distance token : ℕ) (info : List ℕ) → AreEnds ends known → IsMetEnd (get ends link)
    → AreEnds ends (added link uplink name distance token info known)
added_met ends known link uplink name distance token info met there q number is =
    by (same_fold q name) (sym (ap (option_map (λ (r : ServerRow). r.link)) (row-alter name
    (λ _. Some (new_row link uplink name distance token info known)) known.rows q)) ∙ is)
  where
    by : (b : Bool) → option_map (λ (r : ServerRow). r.link)
        (cond b (Some (new_row link uplink name distance token info known)) (row known.rows q))
        ≡ Some number → IsMetEnd (get ends number)
    by true one = subst (λ n. IsMetEnd (get ends n)) (same_Some link number one) there
    by false other = met q number other

-- a server less
pub left_met : (ends : Ends) (known : Known) (name : List ℕ) → AreEnds ends known
    → AreEnds ends (without_server name known)
left_met ends known name met q number is =
    by (same_fold q name) (sym (ap (option_map (λ (r : ServerRow). r.link))
    (row-alter name (λ _. None) known.rows q)) ∙ is)
  where
    by : (b : Bool) → option_map (λ (r : ServerRow). r.link) (cond b None (row known.rows q))
        ≡ Some number → IsMetEnd (get ends number)
    by true none = cc none
    by false other = met q number other

-- a link less, and nobody behind it
pub unlinked_met : (ends : Ends) (known : Known) (link : ℕ) → AreEnds ends known
    → AreEnds (remove ends link) (without_link link known)
unlinked_met ends known link met q number is =
    by_row (row known.rows q) refl (sym (ap (option_map (λ (r : ServerRow). r.link))
    (row-each (unless_behind link) known.rows q)) ∙ is)
  where
    not_it : (a : ℕ) → nat_eq a link ≡ false → same_number a link ≡ false
    not_it a two = by_number (same_number a link) refl
      where
        by_number : (b : Bool) → same_number a link ≡ b → b ≡ false
        by_number false other = refl
        by_number true one = absurd (cc (sym (eq-eqb a link (one_number a link one)) ∙ two))

    still : (r : ServerRow) → row known.rows q ≡ Some r → (b : Bool) → nat_eq r.link link ≡ b
        → option_map (λ (r : ServerRow). r.link) (if b then None else Some r) ≡ Some number
        → IsMetEnd (get (remove ends link) number)
    still r there true one none = cc none
    still r there false two left =
        let number_is = same_Some r.link number left in
        subst IsMetEnd
        (sym (get-without ends link number ∙ ap (λ b. cond b None (get ends number))
        (ap (λ n. same_number n link) (sym number_is) ∙ not_it r.link two)))
        (met q number (ap (option_map (λ (r : ServerRow). r.link)) there ∙ left))

    by_row : (o : Option ServerRow) → row known.rows q ≡ o → option_map
        (λ (r : ServerRow). r.link) (option_and_then (unless_behind link) o) ≡ Some number
        → IsMetEnd (get (remove ends link) number)
    by_row None there none = cc none
    by_row (Some r) there left = still r there (nat_eq r.link link) refl left

-- no server is known, so each is behind a link that counts
pub none_met : (ends : Ends) (known : Known) → others known ≡ [] → AreEnds ends known
none_met ends known none name number is =
    absurd (by (row known.rows name) (get-entries known.rows name
    ∙ ap (find fold_cmp name) (no_entries (entries known.rows) none)) is)
  where
    no_entries : (es : List (List ℕ × ServerRow)) → map (λ e. e.1) es ≡ [] → es ≡ []
    no_entries [] is = refl
    no_entries (e ∷ es) is = cc is

    by : (o : Option ServerRow) → o ≡ None
        → option_map (λ (r : ServerRow). r.link) o ≡ Some number → ⊥
    by None none is = cc is
    by (Some r) none is = cc none

-- ---- an end is changed, if it is there

pub end_there : (ends : BTreeMap ℕ End) (link : ℕ) (end : End)
    → number_in nat_cmp ends link ≡ Some end → get (numbered ends) link ≡ Some end
end_there ends link end is = get-numbered ends link ∙ is

pub end_missing : (ends : BTreeMap ℕ End) (link : ℕ) → number_in nat_cmp ends link ≡ None
    → get (numbered ends) link ≡ None
end_missing ends link is = get-numbered ends link ∙ is

module _ (view : View) (link : ℕ) (name : List ℕ) where
  pub far_put : (end : End) (ends : Ends) → get view.ends link ≡ Some end
      → ends ≡ insert view.ends link (record end { far = Some name })
      → record view { ends = ends } ≡ with_far link name view
  far_put end ends there is =
      ap (λ (es : Ends). record view { ends = es }) is
      ∙ ap (λ o. option_map_or (λ (e : End). record view {
        ends = insert view.ends link
            (record e { far = Some name });
      }) o view) (sym there)

  pub no_far : get view.ends link ≡ None → view ≡ with_far link name view
  no_far none = ap (λ o. option_map_or (λ (e : End). record view {
    ends = insert view.ends link
        (record e { far = Some name });
  }) o view) (sym none)

  pub password_put : (end : End) (ends : Ends) → get view.ends link ≡ Some end
      → ends ≡ insert view.ends link (record end { password = Some name })
      → record view { ends = ends } ≡ with_password link name view
  password_put end ends there is =
      ap (λ (es : Ends). record view { ends = es }) is
      ∙ ap (λ o. option_map_or (λ (e : End). record view {
        ends = insert view.ends link
            (record e { password = Some name });
      }) o view) (sym there)

  pub no_password : get view.ends link ≡ None → view ≡ with_password link name view
  no_password none = ap (λ o. option_map_or (λ (e : End). record view {
    ends = insert view.ends link
        (record e { password = Some name });
  }) o view) (sym none)

-- ---- a server that serves goes on to

module _ (stage : ServerParts) (serving : IsServing stage) where
  pub serves_with_ends : (ends : BTreeMap ℕ End) → AreEnds (numbered ends) stage.routes
      → IsServing (record stage { ends = ends })
  serves_with_ends ends met = record {
    ready = record {
      own_is = serving.ready.own_is;
      sound = serving.ready.sound;
      indexed = serving.ready.indexed;
      heard = serving.ready.heard;
      branches = serving.ready.branches;
      met = met;
    };
    matched = serving.matched;
  }

  known_nowhere : (ways : Ways) (known : Known) → KnowsNothing ways
      → IsRightIn ways stage.room.room known
  known_nowhere ways known none channel is = cc (sym none ∙ is)

  -- its name stays, whatever servers come and go
  pub serves_with_routes : (rows : Table ServerRow)
      (ways : Ways) (ends : BTreeMap ℕ End) → KnowsNothing ways
      → AreEnds (numbered ends) (record stage.routes { rows = rows }) → IsServing
      (record stage { routes = record stage.routes { rows = rows }; ways = ways; ends = ends })
  serves_with_routes rows ways ends none met = record {
    ready = record {
      own_is = serving.ready.own_is;
      sound = serving.ready.sound;
      indexed = serving.ready.indexed;
      heard = serving.ready.heard;
      branches = known_nowhere ways (record stage.routes { rows = rows }) none;
      met = met;
    };
    matched = record {
      registered_is_user = serving.matched.registered_is_user;
      user_has_one = serving.matched.user_has_one;
      spelled = serving.matched.spelled;
      user_has_client = serving.matched.user_has_client;
    };
  }
