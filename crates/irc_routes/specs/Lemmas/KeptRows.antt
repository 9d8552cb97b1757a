-- What the code's rows keep, and what they are seen as, after each change.
use Rattle.std.proofs.Common.{◌≡◌, ℕ, suc, zero, not, ◌&&◌, List, [], ◌∷◌, map, filter, take}
use Rattle.std.proofs.Common.{drop, refl, sym, ◌∙◌, ap, subst, Some, None, Result, Ok, Err}
use Rattle.std.proofs.Common.{arith}
use Rattle.std.proofs.lemmas.List.{length-map}
use Rattle.std.specs.Prelude.{OnOk, OnErr}
use Rattle.std.specs.List.{list_all, insert}
use Rattle.std.specs.Ordering.{is_lt}
use Rattle.std.specs.FinMap.{values, is_sorted}
use Rattle.std.specs.FinMap.Entries.{below_all}
use Rattle.irc_names.specs.Names.{IsServer}
use Rattle.irc_names.specs.Tables.{alter, fold_cmp}
use Rattle.irc_tables.specs.FoldedRows.{table_of, IsInFoldedOrder, BelongsAt, is_before, is_after}
use Rattle.irc_tables.specs.Lemmas.RowsAsTable.{nothing-sorted, nothing-table, added-sorted}
use Rattle.irc_tables.specs.Lemmas.RowsAsTable.{added-table}
use Rattle.irc_routes.specs.About.{About, IsAbout}
use Rattle.irc_routes.specs.Adding.{added_fault}
use Rattle.irc_routes.specs.Info.{IsInfo}
use Rattle.irc_routes.specs.Place.{KnownServer}
use Rattle.irc_routes.specs.Known.{Known, ServerRow, others, alone_known, token_in, is_behind}
use Rattle.irc_routes.specs.Known.{unless_behind, added, without_server, without_link, known_server}
use Rattle.irc_routes.specs.Known.{itself, by_name, server_table, smallest_free, IsNumbered}
use Rattle.irc_routes.specs.Loops.Rows.{entry, known_by, IsKept}
use Rattle.irc_routes.specs.Lemmas.NumberedRows.{numbered_alone, numbered_added, admitted}
use Rattle.irc_routes.specs.Lemmas.NumberedRows.{numbered_without_server, numbered_without_link}
use Rattle.irc_routes.specs.Lemmas.NumberedRows.{stays_elsewhere}
use Rattle.irc_routes.specs.Lemmas.TableRows.{values-table_of, filtered-sorted, filtered-table}
use Rattle.irc_routes.specs.Lemmas.TableRows.{map_insert}

-- ---- no rows

abbrev pub made_row : ℕ → List ℕ → List ℕ → ℕ → ℕ → ℕ → List ℕ → ServerRow
made_row link uplink name distance token ours info = record {
  link = link;
  uplink = uplink;
  name = name;
  distance = distance;
  token = token;
  ours = ours;
  info = info;
}

abbrev pub new_row : Known → ℕ → List ℕ → List ℕ → ℕ → ℕ → List ℕ → ServerRow
new_row known link uplink name distance token info =
    made_row link uplink name distance token (smallest_free known) info

pub alone_is : (name : List ℕ) (about : About) (rows : List ServerRow) → rows ≡ []
    → known_by name about rows ≡ alone_known name about
alone_is name about rows none = ap (λ t. record { name = name; about = about; rows = t })
    (ap (table_of entry) none ∙ nothing-table entry)

pub alone_kept : (name : List ℕ) (about : About) (rows : List ServerRow) → rows ≡ []
    → IsServer name → IsAbout about → IsKept name about rows
alone_kept name about rows none rule limits = record {
  ordered = subst (λ rs. IsInFoldedOrder entry rs) (sym none) (nothing-sorted entry);
  numbered = subst IsNumbered (sym (alone_is name about rows none))
      (numbered_alone name about rule limits);
}

module _ (name : List ℕ) (about : About) (rows : List ServerRow)
    (kept : IsKept name about rows) where
  abbrev before : Known
  before = known_by name about rows

  -- the servers that are known are the rows
  pub others_are : others before ≡ rows
  others_are = values-table_of (λ (r : ServerRow). r.name) rows kept.ordered

  -- ---- the servers behind a link are lost

  module _ (link : ℕ) (left : List ServerRow)
      (is : left ≡ filter (λ r. not (is_behind link r)) rows) where
    pub lost_is : known_by name about left ≡ without_link link before
    lost_is =
        ap (known_by name about) is
        ∙ ap (λ t. record before { rows = t })
        (filtered-table entry (λ r. not (is_behind link r)) (unless_behind link)
        (stays_elsewhere link) rows kept.ordered)

    pub lost_kept : IsKept name about left
    lost_kept = record {
      ordered = subst (λ rs. IsInFoldedOrder entry rs) (sym is)
          (filtered-sorted entry (λ r. not (is_behind link r)) (unless_behind link)
          (stays_elsewhere link) rows kept.ordered);
      numbered = subst IsNumbered (sym lost_is) (numbered_without_link before link kept.numbered);
    }

  -- ---- a server is forgotten

  module _ (gone : List ℕ) (left : List ServerRow)
      (is : table_of entry left ≡ alter gone (λ _. None) (table_of entry rows))
      (ordered : IsInFoldedOrder entry left) where
    pub forgotten_is : known_by name about left ≡ without_server gone before
    forgotten_is = ap (λ t. record before { rows = t }) is

    pub forgotten_kept : IsKept name about left
    forgotten_kept = record {
      ordered = ordered;
      numbered = subst IsNumbered (sym forgotten_is)
          (numbered_without_server before gone kept.numbered);
    }

  -- ---- the names of all servers

  below_servers : (x : List ℕ) (rs : List ServerRow) → below_all fold_cmp x
      (map by_name (map known_server rs)) ≡ below_all fold_cmp x (map entry rs)
  below_servers x [] = refl
  below_servers x (r ∷ rs) = ap (λ b. is_lt (fold_cmp x r.name) && b) (below_servers x rs)

  pub sorted_servers : (rs : List ServerRow)
      → is_sorted fold_cmp (map by_name (map known_server rs)) ≡ is_sorted fold_cmp (map entry rs)
  sorted_servers [] = refl
  sorted_servers (r ∷ rs) =
      ap (λ b. b && is_sorted fold_cmp (map by_name (map known_server rs)))
      (below_servers r.name rs)
      ∙ ap (λ b. below_all fold_cmp r.name (map entry rs) && b) (sorted_servers rs)

  all_before : (own : List ℕ) (i : ℕ) (rs : List ServerRow)
      → list_all (is_before by_name own) (take i (map known_server rs))
      ≡ list_all (is_before entry own) (take i rs)
  all_before own zero rs = refl
  all_before own (suc i) [] = refl
  all_before own (suc i) (r ∷ rs) = ap (λ b. is_before entry own r && b) (all_before own i rs)

  all_after : (own : List ℕ) (i : ℕ) (rs : List ServerRow)
      → list_all (is_after by_name own) (drop i (map known_server rs))
      ≡ list_all (is_after entry own) (drop i rs)
  all_after own zero [] = refl
  all_after own zero (r ∷ rs) = ap (λ b. is_after entry own r && b) (all_after own zero rs)
  all_after own (suc i) [] = refl
  all_after own (suc i) (r ∷ rs) = all_after own i rs

  module _ (i : ℕ) (gap : BelongsAt entry rows name i) where
    abbrev known_servers : List KnownServer
    known_servers = map known_server rows

    gap_among : BelongsAt by_name known_servers name i
    gap_among = record {
      within = let long = length-map rows known_server in let within = gap.within in omega arith;
      before = all_before name i rows ∙ gap.before;
      after = all_after name i rows ∙ gap.after;
    }

    in_order : IsInFoldedOrder by_name known_servers
    unfolding IsInFoldedOrder
    in_order = sorted_servers rows ∙ kept.ordered

    with_itself : table_of by_name (itself before ∷ known_servers) ≡ table_of by_name
        (insert known_servers i (itself before))
    unfolding table_of alter
    with_itself = sym
        (added-table by_name known_servers name i gap_among (itself before) (itself before) refl)

    pub names_listed : insert (map (λ (r : ServerRow). r.name) rows) i name
        ≡ map (λ (s : KnownServer). s.name) (values (server_table before))
    names_listed =
        ap (λ ns. insert ns i name) (names_of rows)
        ∙ sym (map_insert (λ (s : KnownServer). s.name) known_servers i (itself before))
        ∙ ap (map (λ (s : KnownServer). s.name)) (
        sym (values-table_of (λ (s : KnownServer). s.name) (insert known_servers i (itself before))
        (added-sorted by_name known_servers name i gap_among
        (itself before) (itself before) refl in_order))
        ∙ ap values (sym with_itself
        ∙ ap (λ rs. table_of by_name (itself before ∷ map known_server rs)) (sym others_are)))
      where
        names_of : (rs : List ServerRow) → map (λ (r : ServerRow). r.name) rs
            ≡ map (λ (s : KnownServer). s.name) (map known_server rs)
        names_of [] = refl
        names_of (r ∷ rs) = ap (λ ns. r.name ∷ ns) (names_of rs)

  -- ---- a server is added

  module _ (link : ℕ) (uplink new : List ℕ) (distance token : ℕ) (text : List ℕ)
      (admits : added_fault before new ≡ None) (unused : token_in before link token ≡ None)
      (uplink_rule : IsServer uplink) (limits : IsInfo text) (row : ServerRow)
      (made : row ≡ new_row before link uplink new distance token text)
      (more : List ServerRow)
      (is : table_of entry more ≡ alter row.name (λ _. Some row) (table_of entry rows)) where
    pub added_is : known_by name about more
        ≡ added link uplink new distance token text before
    added_is = ap (λ t. record before { rows = t })
        (is ∙ ap (λ (r : ServerRow). alter r.name (λ _. Some r) (table_of entry rows)) made)

    pub added_kept : IsInFoldedOrder entry more → IsKept name about more
    added_kept ordered = record {
      ordered = ordered;
      numbered = subst IsNumbered (sym added_is) (numbered_added before link uplink new distance
          token text kept.numbered uplink_rule limits
          (admitted before new admits) unused);
    }

-- a row that is made of what is the same
pub row_made : (link distance token : ℕ) (u v n m : List ℕ) (o p : ℕ) (i j : List ℕ) → u ≡ v
    → n ≡ m → o ≡ p → i ≡ j → record {
      link = link;
      uplink = u;
      name = n;
      distance = distance;
      token = token;
      ours = o;
      info = i;
    } ≡ made_row link v m distance token p j
row_made link distance token u v n m o p i j same_u same_n same_o same_i =
    ap (λ u. made_row link u n distance token o i) same_u
    ∙ ap (λ n. made_row link v n distance token o i) same_n
    ∙ ap (λ o. made_row link v m distance token o i) same_o
    ∙ ap (λ i. made_row link v m distance token p i) same_i

-- what holds of a result that is known
pub ok_told : {A E P : Type 0} (result : Result A E) (a : A) → OnOk result P → result ≡ Ok a → P
ok_told (Ok b) a told is = told
ok_told (Err e) a told is = cc

pub err_told : {A E P : Type 0} (result : Result A E) (e : E) → OnErr result P → result ≡ Err e → P
err_told (Ok b) e told is = cc
err_told (Err f) e told is = told
