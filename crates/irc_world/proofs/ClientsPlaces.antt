-- Where clients are, and what a server that is alone has to tell.
use Rattle.std.proofs.Common.{◌≡◌, ℕ, zero, suc, true, false, cond, ◌&&◌, arith, ◌+◌, ◌*◌, ◌-◌, ◌≤◌}
use Rattle.std.proofs.Common.{Option, Some, None, List, [], ◌∷◌, length, refl, sym, ◌∙◌, ap}
use Rattle.std.proofs.Common.{is_some, if◌then◌else◌}
use Rattle.std.proofs.Math.Nat.{mul-zero}
use Rattle.std.proofs.lemmas.List.{length-map}
use Rattle.std.proofs.lemmas.Option.{slice_get_within}
use Rattle.std.specs.Cmp.Lexicographic.{nat_list_cmp_total}
use Rattle.std.specs.FinMap.{empty, keys, entries, len, insert, get-empty, len-empty, len-entries}
use Rattle.std.specs.FinMap.{len-insert}
use Rattle.std.proofs.lemmas.Option.{same_Some}
use Rattle.irc_line.specs.Reading.{read_of}
use Rattle.irc_names.specs.Tables.{fold_cmp, put}
use Rattle.irc_relay.specs.Links.{Name, part}
use Rattle.irc_relay.specs.Links.{linked as are_linked}
use Rattle.irc_relay.specs.Lemmas.TellingNames.{same_when}
use Rattle.irc_room.specs.Invitations.{HomeIsWellFormed}
use Rattle.irc_stage.specs.Handle.{ClientEvent, says, goes}
use Rattle.irc_world.specs.World.{Setting, World, is_server, home_in, home_of, machine_at}
use Rattle.irc_world.specs.Stepping.{connect, line, gone, link, cut}
use Rattle.irc_world.specs.Refused.{refused, no_such_server, not_linked}
use Rattle.irc_world.specs.Sound.{IsSound}
use Rattle.irc_world.specs.Parts.{ViewIsWellFormed, ClientsAreNumberedOnce}
use Rattle.irc_world.specs.Bounds.{part_size, effects_at, most_of_client, most}
use Rattle.irc_world.specs.Bounds.{OneServerTellsNobody}
use Rattle.irc_world.proofs.StaysSound.{if_taken, link_taken}
use Rattle.irc_world.proofs.ServedAlone.{one_name, one_server_has_no_link}

pub view_is_well_formed : HomeIsWellFormed → ViewIsWellFormed
view_is_well_formed well settings world server sound =
    well server (world.hall server).room (sound.well_formed server)

-- ---- numbers

within : (homes : List Name) (client : ℕ) (home : Name) → home_in homes client ≡ Some home
    → (1 ≤ client) × (client ≤ length homes)
within homes zero home is = absurd (cc is)
within homes (suc earlier) home is = let less = slice_get_within homes earlier home is in
    (omega arith, omega arith)

pub clients_are_numbered_once : ClientsAreNumberedOnce
clients_are_numbered_once settings world server client sound there =
    let at_home = sound.clients_home server client there in
    let given = within world.homes client at_home.home at_home.is_home in
    record {
      first = given.0;
      last = given.1;
      nowhere_else = λ other elsewhere.
          let other_home = sound.clients_home other client elsewhere in
          let one =
          same_Some at_home.home other_home.home (sym at_home.is_home ∙ other_home.is_home) in
          sym at_home.joined ∙ (ap (part world.links) one ∙ other_home.joined);
    }

-- ---- one server

one_key : (name : Name)
    → length (keys (insert (empty {X = Unit {0}} {R = fold_cmp}) name (tt {0}))) ≡ 1
one_key name =
    let table = empty {X = Unit {0}} {R = fold_cmp} in
    length-map (entries (insert table name (tt {0}))) (λ e. e.0)
    ∙ sym (len-entries (insert table name (tt {0})))
    ∙ len-insert nat_list_cmp_total table name (tt {0})
    ∙ ap (λ o. cond (is_some o) (len table) (len table + 1)) (get-empty fold_cmp name)
    ∙ ap (λ n. n + 1) (len-empty fold_cmp (Unit {0}))

one_in_part : (setting : Setting) → part_size (setting ∷ []) [] setting.name ≡ 1
one_in_part setting =
    ap (λ b. length (keys (put (empty {X = Unit {0}} {R = fold_cmp}) setting.name
    (if b then Some (tt {0}) else None))))
    (same_when (part [] setting.name) (part [] setting.name) refl)
    ∙ one_key setting.name

module _ (setting : Setting) (world : World) (sound : IsSound (setting ∷ []) world) where
  no_links : world.links ≡ []
  no_links = one_server_has_no_link setting world sound

  nobody_told : (client : ℕ) (client_event : ClientEvent)
      → most_of_client (setting ∷ []) world (home_of world client) client_event ≡ 0
  nobody_told client client_event = by (home_of world client) refl
    where
      by : (o : Option Name) → home_of world client ≡ o
          → most_of_client (setting ∷ []) world o client_event ≡ 0
      by None is = refl
      by (Some home) is =
          let effects = length (effects_at (machine_at (setting ∷ []) world home) client_event) in
          let here = sym (one_name setting home (sound.homes_known client home is)) in
          let alone = ap (λ links. part_size (setting ∷ []) links home) no_links
          ∙ ap (part_size (setting ∷ []) []) here ∙ one_in_part setting in
          ap (λ n. effects * (n - 1)) alone ∙ mul-zero effects

  no_link : (near far : Name) → refused (setting ∷ []) world (link near far) ≡ None → ⊥
  no_link near far taken =
      let may = link_taken (setting ∷ []) world near far taken in
      let one = sym (one_name setting near may.near_known) ∙ one_name setting far may.far_known in
      let whole =
      same_when (part world.links near) (part world.links far) (ap (part world.links) one) in
      let none : true ≡ false = sym whole ∙ may.apart in
      cc none

  no_cut : (near far : Name) → refused (setting ∷ []) world (cut near far) ≡ None → ⊥
  unfolding refused
  no_cut near far taken =
      let there =
      if_taken (is_server (setting ∷ []) near && is_server (setting ∷ []) far) no_such_server
      (if are_linked world.links near far then None else Some not_linked) taken in
      let linked_so = (if_taken (are_linked world.links near far) not_linked None there.1).0 in
      let none : false ≡ true =
      ap (λ links. are_linked links near far) (sym no_links) ∙ linked_so in
      cc none

pub one_server_tells_nobody : OneServerTellsNobody
unfolding most
one_server_tells_nobody setting world (connect server host) sound taken = refl
one_server_tells_nobody setting world (line client bytes) sound taken =
    nobody_told setting world sound client (says client (read_of bytes))
one_server_tells_nobody setting world (gone client) sound taken =
    nobody_told setting world sound client (goes client)
one_server_tells_nobody setting world (link near far) sound taken =
    absurd (no_link setting world sound near far taken)
one_server_tells_nobody setting world (cut near far) sound taken =
    absurd (no_cut setting world sound near far taken)
