-- A server's place lists the servers of its part as the world does.
use Rattle.std.proofs.Common.{◌≡◌, ◌≢◌, Bool, true, false, cond, is_some, Option, Some, None, List}
use Rattle.std.proofs.Common.{[], ◌∷◌, map, refl, sym, ◌∙◌, ap, option_map}
use Rattle.std.specs.FinMap.{values, get-entries}
use Rattle.std.specs.FinMap as map_of
use Rattle.std.specs.List.{list_any}
use Rattle.std.specs.Option.{option_map_or}
use Rattle.irc_names.specs.Tables.{row, tabulate, fold_cmp}
use Rattle.irc_names.specs.TableLaws.{row-tabulate, same_fold, same_fold-refl, same_table}
use Rattle.irc_tables.specs.Lemmas.RowsAsTable.{row-table_of}
use Rattle.irc_relay.specs.Distances.{EndsAreAmong, IsAmong}
use Rattle.irc_relay.specs.Links.{Name, Link, joined, distance, IsForest}
use Rattle.irc_relay.specs.Lemmas.TellingNames.{Telling, alike, unlike, tell}
use Rattle.irc_relay.specs.Lemmas.NextHops.{distance_self}
use Rattle.irc_routes.specs.declared.server_row.ServerRow.{ServerRow}
use Rattle.irc_routes.specs.About.{About, says_nothing}
use Rattle.irc_routes.specs.Known.{Known, by_name, itself, known_server, others, row_of}
use Rattle.irc_routes.specs.Known.{server_table}
use Rattle.irc_routes.specs.Place.{KnownServer}
use Rattle.irc_routes.specs.Lemmas.RouteLaws.{entries_named, mapped_found}
use Rattle.irc_world.specs.World.{Setting, is_server, known_from, setting_of}
use Rattle.irc_follow.specs.Tree.{Shape}
use Rattle.irc_follow.specs.SideState.{ItemSetting, about_in, IsItemSetting}
use Rattle.irc_follow.specs.AtRest.{AreRight}
use Rattle.irc_follow.specs.Lemmas.SideAtRest.{joined_among, joined_so}
use Rattle.irc_follow.specs.Lemmas.BehindLinks.{joined_test, row_is_there, row_says}
use Rattle.irc_follow.specs.Lemmas.NamedRows.{apart_fold, listed, names_of}

-- a server that there is, as it is configured
pub record HasSetting (settings : List Setting) (server : Name) : Type 0 where
  pub own : Setting
  pub is : setting_of settings server ≡ Some own
  pub named : own.name ≡ server

pub found_setting : (settings : List Setting) (server : Name) → is_server settings server ≡ true
    → HasSetting settings server
found_setting [] server there = cc there
found_setting (first ∷ settings) server there =
    by (tell first.name server) (found_setting settings server)
  where
    by : Telling first.name server → (is_server settings server ≡ true → HasSetting settings server)
        → HasSetting (first ∷ settings) server
    by (alike is e) later = record {
      own = first;
      is = ap (λ b. cond b (Some first) (setting_of settings server)) is;
      named = e;
    }
    by (unlike is two) later =
        let rest =
        later (sym (ap (λ b. is_some (cond b (Some first) (setting_of settings server))) is)
        ∙ there) in
        record {
          own = rest.own;
          is = ap (λ b. cond b (Some first) (setting_of settings server)) is
              ∙ rest.is;
          named = rest.named;
        }

abbrev as_known : List Link → Name → Name → Setting → KnownServer
as_known links own server other =
    record { name = other.name; info = other.about.info; distance = distance links own server }

module _ (s : ItemSetting) (links : List Link) (routes : Name → Known) (t : Name)
    (fixed : IsItemSetting s)
    (forest : IsForest links) (ends : EndsAreAmong s.names links)
    (right : AreRight s links routes) (among : IsAmong s.names t) where
  abbrev known : Known
  known = routes t

  -- what is listed of a server
  seen : (q : Name) → row (server_table known) q ≡ cond (same_fold q known.name)
      (Some (itself known)) (option_map known_server (row_of known q))
  seen q =
      row-table_of by_name (itself known ∷ map known_server (others known)) q
      ∙ ap (λ o. cond (same_fold q known.name) (Some (itself known)) o)
      (mapped_found q (others known)
      ∙ ap (λ es. option_map known_server (map_of.find fold_cmp q es))
      (entries_named (λ (r : ServerRow). r.name) known.rows
      (λ p r there. ((right.numbered t among).rows p r there).named))
      ∙ ap (option_map known_server) (sym (get-entries known.rows q)))

  own_setting : (q : Name) → IsAmong s.names q → HasSetting s.settings q
  own_setting q there = found_setting s.settings q (fixed.listed q ∙ there)

  -- what a configured server says of itself
  about_is : (q : Name) (own : Setting) → setting_of s.settings q ≡ Some own
      → about_in s.settings q ≡ own.about
  about_is q own is = ap (λ o. option_map_or (λ (x : Setting). x.about) o says_nothing) is

  as_configured : (q : Name) (own : Setting) → setting_of s.settings q ≡ Some own → joined links t q
      ≡ true → row (tabulate (names_of s.settings) (known_from s.settings links t)) q
      ≡ Some (as_known links t q own)
  as_configured q own is together =
      row-tabulate (names_of s.settings) (known_from s.settings links t) q
      ∙ ap (λ b. cond b (known_from s.settings links t q) None)
      (listed s.settings q ∙ ap is_some is)
      ∙ ap (λ b. cond b (option_map (as_known links t q) (setting_of s.settings q)) None) together
      ∙ ap (option_map (as_known links t q)) is

  not_joined : (q : Name) → joined links t q ≡ false
      → row (tabulate (names_of s.settings) (known_from s.settings links t)) q ≡ None
  not_joined q apart =
      row-tabulate (names_of s.settings) (known_from s.settings links t) q
      ∙ ap (λ b. cond (list_any (same_fold q) (names_of s.settings))
      (cond b (option_map (as_known links t q) (setting_of s.settings q)) None) None) apart
      ∙ none (list_any (same_fold q) (names_of s.settings))
    where
      none : (b : Bool) → ◌≡◌ {A = Option KnownServer} (cond b None None) None
      none true = refl
      none false = refl

  at_itself : (q : Name) → q ≡ t → row (server_table known) q
      ≡ row (tabulate (names_of s.settings) (known_from s.settings links t)) q
  at_itself q e =
      let setting = own_setting t among in
      ap (row (server_table known)) e
      ∙ seen t
      ∙ ap (λ b. cond b (Some (itself known)) (option_map known_server (row_of known t)))
      (ap (same_fold t) (right.named t among) ∙ same_fold-refl t)
      ∙ (λ i. Some (record {
        name = (right.named t among ∙ sym setting.named) i;
        info = (ap (λ (a : About). a.info)
            (right.about t among ∙ about_is t setting.own setting.is)) i;
        distance = sym (distance_self links t) i;
      }))
      ∙ sym (as_configured t setting.own setting.is (joined_test links t t refl))
      ∙ ap (row (tabulate (names_of s.settings) (known_from s.settings links t))) (sym e)

  at_another : (q : Name) → q ≢ t → row (server_table known) q
      ≡ row (tabulate (names_of s.settings) (known_from s.settings links t)) q
  at_another q two =
      seen q
      ∙ ap (λ b. cond b (Some (itself known)) (option_map known_server (row_of known q)))
      (ap (same_fold q) (right.named t among) ∙ apart_fold q t (λ e. two (sym e)))
      ∙ by (joined links t q) refl
    where
      nobody : (o : Option ServerRow) → row_of known q ≡ o → joined links t q ≡ false
          → option_map known_server (row_of known q) ≡ None
      nobody None is apart = ap (option_map known_server) is
      nobody (Some r) is apart =
          absurd (let says = row_says s links routes t right among q r is in
          let clash = sym apart ∙ joined_test links t q (sym says.joined) in cc clash)

      by : (b : Bool) → joined links t q ≡ b → option_map known_server (row_of known q)
          ≡ row (tabulate (names_of s.settings) (known_from s.settings links t)) q
      by false apart = nobody (row_of known q) refl apart ∙ sym (not_joined q apart)
      by true together =
          let there = sym (joined_so links t q together) in
          let found = row_is_there s links routes t right among q there two in
          let setting = own_setting q (joined_among s.names links q t forest ends among there) in
          ap (option_map known_server) found.is
          ∙ (λ i. Some (record {
            name = (ap (λ (x : Shape). x.name) found.shape ∙ sym setting.named) i;
            info = (ap (λ (x : Shape). x.info) found.shape
                ∙ ap (λ (a : About). a.info) (about_is q setting.own setting.is)) i;
            distance = ap (λ (x : Shape). x.distance) found.shape i;
          }))
          ∙ sym (as_configured q setting.own setting.is together)

  one_row : (q : Name) → Telling q t → row (server_table known) q
      ≡ row (tabulate (names_of s.settings) (known_from s.settings links t)) q
  one_row q (alike _ e) = at_itself q e
  one_row q (unlike _ two) = at_another q two

  pub servers_listed : values (server_table known)
      ≡ values (tabulate (names_of s.settings) (known_from s.settings links t))
  servers_listed = ap values (same_table (server_table known) (tabulate (names_of s.settings)
      (known_from s.settings links t)) (λ q. one_row q (tell q t)))
