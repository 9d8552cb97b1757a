-- Lines to viewers: to the one client that is the viewer, where there is one.
use Rattle.std.proofs.Common.{◌≡◌, ℕ, Bool, true, false, cond, not, T, Option, Some, None, List, []}
use Rattle.std.proofs.Common.{◌∷◌, refl, sym, ◌∙◌, ap, filter_map, if◌then◌else◌}
use Rattle.std.specs.List.{cons_option}
use Rattle.std.specs.Ordering.{nat_cmp}
use Rattle.std.specs.Option.{option_map_or}
use Rattle.std.specs.FinMap.{get, remove, retain_keys, entries, entries_sorted, find, is_sorted}
use Rattle.std.specs.FinMap.{get-entries}
use Rattle.std.specs.FinMap.Entries.{below_all}
use Rattle.std.proofs.Math.Facts.{and_yes}
use Rattle.std.proofs.lemmas.Option.{same_Some}
use Rattle.irc_names.specs.Fold.{key, same}
use Rattle.irc_names.specs.Tables.{Table, row}
use Rattle.irc_room.specs.Seen.{Showing}
use Rattle.irc_stage.specs.declared.clients.Client.{Client}
use Rattle.irc_stage.specs.declared.clients.Client.TheVariants.{Registering, Registered}
use Rattle.irc_batch.specs.Batches.{Sent, end_of, line_to}
use Rattle.irc_stage.specs.RoomMachine.{Clients}
use Rattle.irc_stage.specs.Handle.{is_client, to_viewer}
use Rattle.irc_stage.specs.Loops.Parts.{IsIndex}
use Rattle.irc_stage.specs.EffectTold.{ends_of, is_another}
use Rattle.irc_stage.specs.Lemmas.Counting.{get-kept}
use Rattle.irc_stage.specs.Lemmas.Numbers.{get-without, here, later, none_behind, one_number}
use Rattle.irc_stage.specs.Lemmas.Numbers.{same_clients, same_number, same_number-is}
use Rattle.irc_stage.specs.Lemmas.Matching.{same_by_key, key_by_same, named_is}
use Rattle.irc_stage.proofs.Index.{differs}

abbrev Entry : Type 0
Entry = ℕ × Client

module _ (test : Client → Bool) (line : ℕ → Sent) where
  abbrev chosen : Entry → Option Sent
  chosen e = if test e.1 then Some (line e.0) else None

  none_chosen : (es : List Entry) → T (is_sorted nat_cmp es) → ((q : ℕ) (c : Client)
      → find nat_cmp q es ≡ Some c → test c ≡ false) → filter_map chosen es ≡ []
  none_chosen [] rise fails = refl
  none_chosen (e ∷ es) rise fails =
      let parts = and_yes _ _ rise in
      ap (λ b. cons_option (if b then Some (line e.0) else None) (filter_map chosen es))
      (fails e.0 e.1 (here e es))
      ∙ none_chosen es parts.1 (λ q c is. fails q c (later e es q c parts.0 is))

  one_chosen : (es : List Entry) → T (is_sorted nat_cmp es)
      → (conn : ℕ) (mine : Client) → find nat_cmp conn es ≡ Some mine → test mine ≡ true
      → ((q : ℕ) (c : Client) → find nat_cmp q es ≡ Some c → test c ≡ true → q ≡ conn)
      → filter_map chosen es ≡ line conn ∷ []
  one_chosen [] rise conn mine found passes only = cc found
  one_chosen (e ∷ es) rise conn mine found passes only =
      by (test e.1) refl (λ behind. one_chosen es (and_yes _ _ rise).1 conn mine behind passes
      (λ q c is. only q c (later e es q c (and_yes _ _ rise).0 is)))
    where
      low : T (below_all nat_cmp e.0 es)
      low = (and_yes _ _ rise).0

      others_fail : e.0 ≡ conn → (q : ℕ) (c : Client) → find nat_cmp q es ≡ Some c → (b : Bool)
          → test c ≡ b → test c ≡ false
      others_fail at q c is true one =
          let number : q ≡ e.0 = only q c (later e es q c low is) one ∙ sym at in
          let none = none_behind e es low in
          let moved = ap (λ n. find nat_cmp n es) number in cc
      others_fail at q c is false two = two

      behind_it : (b : Bool) → same_number conn e.0 ≡ b → test e.1 ≡ false
          → find nat_cmp conn es ≡ Some mine
      behind_it true one fails =
          let first : e.1 ≡ mine = same_Some e.1 mine
          (sym (ap (λ b. cond b (Some e.1) (find nat_cmp conn es)) one) ∙ found) in cc
      behind_it false two fails =
          sym (ap (λ b. cond b (Some e.1) (find nat_cmp conn es)) two) ∙ found

      by : (b : Bool) → test e.1 ≡ b → (find nat_cmp conn es ≡ Some mine
          → filter_map chosen es ≡ line conn ∷ []) → filter_map chosen (e ∷ es) ≡ line conn ∷ []
      by true one rest =
          let at : e.0 ≡ conn = only e.0 e.1 (here e es) one in
          ap (λ t. cons_option (if t then Some (line e.0) else None) (filter_map chosen es)) one
          ∙ ap (λ l. line e.0 ∷ l) (none_chosen es (and_yes _ _ rise).1
          (λ q c is. others_fail at q c is (test c) refl))
          ∙ ap (λ n. line n ∷ []) at
      by false two rest =
          ap (λ t. cons_option (if t then Some (line e.0) else None) (filter_map chosen es)) two
          ∙ rest (behind_it (same_number conn e.0) refl two)

abbrev line_out : Showing → ℕ → Sent
line_out showing conn = line_to conn showing.line

-- no client is the viewer
pub shown_to_none : (clients : Clients) (showing : Showing) → ((conn : ℕ) (name : List ℕ)
    → get clients conn ≡ Some (Registered name) → same name showing.viewer ≡ false)
    → to_viewer clients showing ≡ []
shown_to_none clients showing nobody =
    none_chosen (is_client showing.viewer) (line_out showing) (entries clients)
    (entries_sorted clients) (λ q c is. by q c (get-entries clients q ∙ is))
  where
    by : (q : ℕ) (c : Client) → get clients q ≡ Some c → is_client showing.viewer c ≡ false
    by q (Registering pending) is = refl
    by q (Registered name) is = nobody q name is

module _ (clients : Clients) (by_nick : Table ℕ) (index : IsIndex clients by_nick)
    (showing : Showing) where
  pub not_indexed : row by_nick (key showing.viewer) ≡ None → to_viewer clients showing ≡ []
  not_indexed none = shown_to_none clients showing (λ conn name is. differs name showing.viewer
      (λ one. let found = index.found conn name is in let folds = ap (row by_nick) one in cc))

  pub indexed : (conn : ℕ) → row by_nick (key showing.viewer) ≡ Some conn
      → to_viewer clients showing ≡ line_to conn showing.line ∷ []
  indexed conn is_conn =
      named_is (key showing.viewer) (get clients conn)
      (index.there (key showing.viewer) conn is_conn) (λ mine mine_is named.
      one_chosen (is_client showing.viewer) (line_out showing) (entries clients)
      (entries_sorted clients) conn (Registered mine)
      (sym (get-entries clients conn) ∙ mine_is) (same_by_key mine showing.viewer named)
      (λ q c is passes. by q c (get-entries clients q ∙ is) passes))
    where
      by : (q : ℕ) (c : Client) → get clients q ≡ Some c → is_client showing.viewer c ≡ true
          → q ≡ conn
      by q (Registering pending) is passes = cc passes
      by q (Registered name) is passes =
          same_Some q conn (sym (index.found q name is)
          ∙ ap (row by_nick) (key_by_same name showing.viewer passes) ∙ is_conn)

-- the ends of those who are this user
module _ (clients : Clients) (by_nick : Table ℕ) (index : IsIndex clients by_nick)
    (nick : List ℕ) where
  pub no_ends : row by_nick (key nick) ≡ None → ends_of nick clients ≡ []
  no_ends none = none_chosen (is_client nick) end_of (entries clients) (entries_sorted clients)
      (λ q c is. by q c (get-entries clients q ∙ is))
    where
      by : (q : ℕ) (c : Client) → get clients q ≡ Some c → is_client nick c ≡ false
      by q (Registering pending) is = refl
      by q (Registered name) is = differs name nick (λ one. let found = index.found q name is in
          let folds = ap (row by_nick) one in cc)

  pub one_end : (conn : ℕ) → row by_nick (key nick) ≡ Some conn
      → ends_of nick clients ≡ end_of conn ∷ []
  one_end conn is_conn =
      named_is (key nick) (get clients conn) (index.there (key nick) conn is_conn)
      (λ mine mine_is named.
      one_chosen (is_client nick) end_of (entries clients) (entries_sorted clients) conn
      (Registered mine)
      (sym (get-entries clients conn) ∙ mine_is) (same_by_key mine nick named)
      (λ q c is passes. is_its q c (get-entries clients q ∙ is) passes))
    where
      is_its : (q : ℕ) (c : Client) → get clients q ≡ Some c → is_client nick c ≡ true → q ≡ conn
      is_its q (Registering pending) is passes = cc passes
      is_its q (Registered name) is passes =
          same_Some q conn (sym (index.found q name is)
          ∙ ap (row by_nick) (key_by_same name nick passes) ∙ is_conn)

  -- all clients but those
  pub all_kept : row by_nick (key nick) ≡ None
      → retain_keys clients (is_another clients nick) ≡ clients
  all_kept none = same_clients (retain_keys clients (is_another clients nick)) clients
      (λ q. get-kept clients (is_another clients nick) q ∙ by q (get clients q) refl)
    where
      by : (q : ℕ) (o : Option Client) → get clients q ≡ o
          → cond (option_map_or (λ client. not (is_client nick client)) o true) o None ≡ o
      by q None is = refl
      by q (Some (Registering pending)) is = refl
      by q (Some (Registered name)) is =
          ap (λ b. cond (not b) (Some (Registered name)) None)
          (differs name nick (λ one. let found = index.found q name is in
          let folds = ap (row by_nick) one in cc))

  pub one_left : (conn : ℕ) → row by_nick (key nick) ≡ Some conn
      → remove clients conn ≡ retain_keys clients (is_another clients nick)
  one_left conn is_conn =
      same_clients (remove clients conn) (retain_keys clients (is_another clients nick))
      (λ q. get-without clients conn q ∙ by q (same_number q conn) refl
      ∙ sym (get-kept clients (is_another clients nick) q))
    where
      is_mine : (q : ℕ) (name : List ℕ) → get clients q ≡ Some (Registered name)
          → same name nick ≡ true → q ≡ conn
      is_mine q name is passes = same_Some q conn (sym (index.found q name is)
          ∙ ap (row by_nick) (key_by_same name nick passes) ∙ is_conn)

      others : (q : ℕ) (o : Option Client) → get clients q ≡ o → same_number q conn ≡ false
          → o ≡ cond (option_map_or (λ client. not (is_client nick client)) o true) o None
      others q None is two = refl
      others q (Some (Registering pending)) is two = refl
      others q (Some (Registered name)) is two = by_name (same name nick) refl
        where
          by_name : (b : Bool) → same name nick ≡ b
              → Some (Registered name) ≡ cond (not b) (Some (Registered name)) None
          by_name true one = let number = same_number-is q conn (is_mine q name is one) in
              absurd (cc (sym number ∙ two))
          by_name false other = refl

      by : (q : ℕ) (b : Bool) → same_number q conn ≡ b → cond b None (get clients q)
          ≡ cond (option_map_or (λ client. not (is_client nick client)) (get clients q) true)
          (get clients q) None
      by q true one =
          named_is (key nick) (get clients conn) (index.there (key nick) conn is_conn)
          (λ mine mine_is named.
          sym (ap (λ o. cond (option_map_or (λ client. not (is_client nick client)) o true) o None)
          (ap (get clients) (one_number q conn one) ∙ mine_is)
          ∙ ap (λ b. cond (not b) (Some (Registered mine)) None) (same_by_key mine nick named)))
      by q false two = others q (get clients q) refl two

-- one showing after another
