-- What goes on one link: of a line on some links one, where the link is among them.
use Rattle.std.proofs.Common.{◌≡◌, ℕ, ◌-◌, suc, Bool, true, false, cond, not, ◌||◌, T, Option, Some}
use Rattle.std.proofs.Common.{None, List, [], ◌∷◌, ◌++◌, length, map, filter, take, nat_eq, refl}
use Rattle.std.proofs.Common.{sym, ◌∙◌, ap, arith, if◌then◌else◌}
use Rattle.std.proofs.lemmas.Bool.{eqb-true, eq-eqb}
use Rattle.std.proofs.lemmas.List.Elements.{filter_map-append}
use Rattle.std.specs.Cmp.{nat_cmp_total}
use Rattle.std.specs.FinMap.{entries, entries_sorted, find, from_entries, get, get-entries}
use Rattle.std.specs.FinMap.{get-from_entries, is_sorted, keys}
use Rattle.std.specs.FinMap.Entries.{below_all}
use Rattle.std.specs.List.{cons_option, flat_map, list_any}
use Rattle.std.specs.Option.{option_map_or}
use Rattle.std.specs.Ordering.{nat_cmp}
use Rattle.std.proofs.Math.Seq.{take-append_seam}
use Rattle.std.proofs.Math.Facts.{and_yes}
use Rattle.irc_names.specs.Lemmas.PlainFacts.{is_true}
use Rattle.irc_batch.specs.Batches.{Sent}
use Rattle.irc_line.specs.Messages.{Written, line_text, text}
use Rattle.irc_room.specs.effect.Effect.{Effect}
use Rattle.irc_room.specs.Seen.{Showing}
use Rattle.irc_tables.specs.Lemmas.OrderedEntries.{above-is, find-above}
use Rattle.irc_stage.specs.Ends.{Ends, is_met}
use Rattle.irc_stage.specs.Ways.{but, met_links}
use Rattle.irc_routes.specs.Known.{link_key}
use Rattle.irc_stage.specs.EffectTold.{Served, all_changed, ends_of, changed, changed_if, counts}
use Rattle.irc_stage.specs.EffectTold.{on_links, shown_at}
use Rattle.irc_stage.specs.Handle.{to_viewer}
use Rattle.irc_stage.specs.RoomMachine.{Clients}
use Rattle.irc_stage.specs.View.{View}
use Rattle.irc_stage.specs.Lemmas.Numbers.{one_number, same_number, same_number-is}
use Rattle.irc_follow.specs.Says.{body, line_on_link, lines_on}
use Rattle.irc_follow.specs.Lemmas.ToldClients as told_to

none_behind : {X : Type 0} (e : ℕ × X) (es : List (ℕ × X)) → T (below_all nat_cmp e.0 es)
    → find nat_cmp e.0 es ≡ None
none_behind e es below =
    find-above nat_cmp_total e.0 es (sym (above-is nat_cmp_total e.0 es) ∙ is_true _ below)

-- a line on a link, without its CR LF
pub bare : (parts : Written) → body (text parts) ≡ line_text parts
bare parts = by (line_text parts)
  where
    less : (xs : List ℕ) → length (xs ++ 13 ∷ 10 ∷ []) - 2 ≡ length xs
    less [] = refl
    less (x ∷ xs) = let rest = less xs in let more =
        two (length (xs ++ 13 ∷ 10 ∷ [])) (length xs) rest (at_least xs) in more
      where
        at_least : (xs : List ℕ) → (n : ℕ) × (length (xs ++ 13 ∷ 10 ∷ []) ≡ suc (suc n))
        at_least [] = (0, refl)
        at_least (x ∷ xs) = let r = at_least xs in (suc r.0, ap suc r.1)

        two : (m n : ℕ) → m - 2 ≡ n → ((k : ℕ) × (m ≡ suc (suc k))) → suc m - 2 ≡ suc n
        two m n is big = let r = big.1 in omega arith

    by : (xs : List ℕ) → take (length (xs ++ 13 ∷ 10 ∷ []) - 2) (xs ++ 13 ∷ 10 ∷ []) ≡ xs
    by xs = ap (λ n. take n (xs ++ 13 ∷ 10 ∷ [])) (less xs) ∙ take-append_seam xs (13 ∷ 10 ∷ [])

ends_by_one : (effect : Effect) (s : Served) → (changed_if effect s).state.ends ≡ s.state.ends
ends_by_one effect s = by (counts s.state effect)
  where
    by : (b : Bool) → (if b then changed effect s else s).state.ends ≡ s.state.ends
    by true = refl
    by false = refl

pub ends_by_all : (effects : List Effect) (s : Served)
    → (all_changed effects s).state.ends ≡ s.state.ends
ends_by_all [] s = refl
ends_by_all (effect ∷ effects) s = ends_by_all effects (changed_if effect s) ∙ ends_by_one effect s

module _ (k : ℕ) where
  abbrev is_it : ℕ → Bool
  is_it n = nat_eq n k

  pub lines_behind : (one other : List Sent)
      → lines_on k (one ++ other) ≡ lines_on k one ++ lines_on k other
  lines_behind one other = filter_map-append (line_on_link k) one other

  -- a line on some links
  pub on_these : (links : List ℕ) (parts : Written)
      → lines_on k (on_links links parts) ≡ map (λ _. line_text parts) (filter is_it links)
  on_these [] parts = refl
  on_these (link ∷ links) parts = by (nat_eq link k) (on_these links parts)
    where
      by : (b : Bool) → lines_on k (on_links links parts) ≡ map (λ _. line_text parts)
          (filter is_it links) → cons_option (if b then Some (body (text parts)) else None)
          (lines_on k (on_links links parts))
          ≡ map (λ _. line_text parts) (cond b (link ∷ filter is_it links) (filter is_it links))
      by true rest = ap (λ l. l ∷ lines_on k (on_links links parts)) (bare parts)
          ∙ ap (λ l. line_text parts ∷ l) rest
      by false rest = rest

  -- what clients are shown goes on no link
  pub none_to_viewers : (clients : Clients) (showings : List Showing)
      → lines_on k (flat_map (to_viewer clients) showings) ≡ []
  none_to_viewers = told_to.none_to_viewers (line_on_link k) (λ conn line. refl)

  pub none_by_effect : (view : View) (effect : Effect) → lines_on k (shown_at view effect) ≡ []
  none_by_effect = told_to.none_by_effect (line_on_link k) (λ conn line. refl)

  pub none_by_all : (effects : List Effect) (s : Served)
      → lines_on k (all_changed effects s).out ≡ lines_on k s.out
  none_by_all = told_to.none_by_all (line_on_link k) (λ conn line. refl)

  pub none_to_killed : (clients : Clients) (nick line : List ℕ) → lines_on k
      (to_viewer clients (record { viewer = nick; line = line }) ++ ends_of nick clients) ≡ []
  none_to_killed = told_to.none_to_killed (line_on_link k) (λ conn line. refl) (λ conn. refl)

  -- ---- a number among those of a map

  one_test : (n : ℕ) → same_number k n ≡ nat_eq n k
  one_test n = by (same_number k n) (nat_eq n k) refl refl
    where
      by : (a b : Bool) → same_number k n ≡ a → nat_eq n k ≡ b → a ≡ b
      by true true e f = refl
      by false false e f = refl
      by true false e f = cc (sym (eq-eqb n k (sym (one_number k n e))) ∙ f)
      by false true e f = cc (sym e ∙ same_number-is k n (sym (eqb-true n k f)))

  module _ {X : Type 0} (test : X → Bool) where
    abbrev passing : List (ℕ × X) → List ℕ
    passing es = map (λ (e : ℕ × X). e.0) (filter (λ (e : ℕ × X). test e.1) es)

    pub chosen_number : (es : List (ℕ × X)) → T (is_sorted nat_cmp es) → filter is_it (passing es)
        ≡ (if option_map_or test (find nat_cmp k es) false then k ∷ [] else [])
    chosen_number [] rise = refl
    chosen_number (e ∷ es) rise =
        by (test e.1) refl (same_number k e.0) refl (chosen_number es (and_yes _ _ rise).1)
      where
        answer : Option X → List ℕ
        answer o = if option_map_or test o false then k ∷ [] else []

        by : (c : Bool) → test e.1 ≡ c → (b : Bool) → same_number k e.0 ≡ b → filter is_it
            (passing es) ≡ (if option_map_or test (find nat_cmp k es) false then k ∷ [] else [])
            → filter is_it (map (λ (x : ℕ × X). x.0) (cond c
            (e ∷ filter (λ (x : ℕ × X). test x.1) es) (filter (λ (x : ℕ × X). test x.1) es)))
            ≡ (if option_map_or test (cond b (Some e.1) (find nat_cmp k es)) false
            then k ∷ [] else [])
        by true passes true one rest =
            let is = one_number k e.0 one in
            ap (λ b. cond b (e.0 ∷ filter is_it (passing es)) (filter is_it (passing es)))
            (sym (one_test e.0) ∙ one)
            ∙ ap (λ l. e.0 ∷ l) (rest ∙ ap (λ o. if option_map_or test o false then k ∷ [] else [])
            (ap (λ n. find nat_cmp n es) is ∙ none_behind e es (and_yes _ _ rise).0))
            ∙ ap (λ n. n ∷ []) (sym is)
            ∙ sym (ap (λ b. if b then k ∷ [] else []) passes)
        by true passes false two rest =
            ap (λ b. cond b (e.0 ∷ filter is_it (passing es)) (filter is_it (passing es)))
            (sym (one_test e.0) ∙ two) ∙ rest
        by false fails true one rest =
            rest
            ∙ ap (λ o. if option_map_or test o false then k ∷ [] else [])
            (ap (λ n. find nat_cmp n es) (one_number k e.0 one)
            ∙ none_behind e es (and_yes _ _ rise).0)
            ∙ sym (ap (λ b. if b then k ∷ [] else []) fails)
        by false fails false two rest = rest

  pub among_met : (ends : Ends) → filter is_it (met_links ends)
      ≡ (if option_map_or is_met (get ends k) false then k ∷ [] else [])
  among_met ends =
      chosen_number is_met (entries ends) (entries_sorted ends)
      ∙ ap (λ o. if option_map_or is_met o false then k ∷ [] else []) (sym (get-entries ends k))

  all_of : {X : Type 0} (es : List (ℕ × X)) → filter (λ (e : ℕ × X). true) es ≡ es
  all_of [] = refl
  all_of (e ∷ es) = ap (λ l. e ∷ l) (all_of es)

  found_key : (numbers : List ℕ) → option_map_or (λ (u : Unit {0}). true)
      (find nat_cmp k (map link_key numbers)) false ≡ list_any is_it numbers
  found_key [] = refl
  found_key (n ∷ numbers) =
      ap (λ b. option_map_or (λ (u : Unit {0}). true)
      (cond b (Some tt) (find nat_cmp k (map link_key numbers))) false) (one_test n)
      ∙ by (nat_eq n k) (found_key numbers)
    where
      by : (b : Bool) → option_map_or (λ (u : Unit {0}). true)
          (find nat_cmp k (map link_key numbers)) false ≡ list_any is_it numbers → option_map_or
          (λ (u : Unit {0}). true) (cond b (Some tt) (find nat_cmp k (map link_key numbers))) false
          ≡ (b || list_any is_it numbers)
      by true rest = refl
      by false rest = rest

  pub among_keys : (numbers : List ℕ)
      → filter is_it (keys (from_entries {R = nat_cmp} (map link_key numbers)))
      ≡ (if list_any is_it numbers then k ∷ [] else [])
  among_keys numbers =
      let table = from_entries {R = nat_cmp} (map link_key numbers) in
      ap (λ es. filter is_it (map (λ (e : ℕ × Unit {0}). e.0) es)) (sym (all_of (entries table)))
      ∙ chosen_number (λ (u : Unit {0}). true) (entries table) (entries_sorted table)
      ∙ ap (λ o. if option_map_or (λ (u : Unit {0}). true) o false then k ∷ [] else [])
      (sym (get-entries table k) ∙ get-from_entries nat_cmp_total (map link_key numbers) k)
      ∙ ap (λ b. if b then k ∷ [] else []) (found_key numbers)

  -- the link by which a line came is another
  pub but_another : (arrival : ℕ) → nat_eq arrival k ≡ false → (links : List ℕ)
      → filter is_it (but (Some arrival) links) ≡ filter is_it links
  but_another arrival apart [] = refl
  but_another arrival apart (link ∷ links) =
      by (nat_eq arrival link) refl (nat_eq link k) refl (but_another arrival apart links)
    where
      by : (b : Bool) → nat_eq arrival link ≡ b → (c : Bool) → nat_eq link k ≡ c
          → filter is_it (but (Some arrival) links) ≡ filter is_it links
          → filter is_it (cond (not b) (link ∷ but (Some arrival) links) (but (Some arrival) links))
          ≡ cond (nat_eq link k) (link ∷ filter is_it links) (filter is_it links)
      by true back true it rest =
          cc (sym apart ∙ ap (λ n. nat_eq n k) (eqb-true arrival link back) ∙ it)
      by true back false other rest =
          rest ∙ sym (ap (λ c. cond c (link ∷ filter is_it links) (filter is_it links)) other)
      by false on c is rest = ap (λ l. cond (nat_eq link k) (link ∷ l) l) rest
