-- What is put out to one number: of two lists one behind the other, of one thing for each client
-- that passes a test, and of a line on several links.
use Rattle.std.proofs.Common.{◌≡◌, ℕ, Bool, true, false, cond, not, ◌&&◌, T, Option, Some, None}
use Rattle.std.proofs.Common.{Result, Ok, List, [], ◌∷◌, ◌++◌, append-nil, refl, sym, ◌∙◌, ap}
use Rattle.std.proofs.Common.{nat_eq, filter, filter_map, map, if◌then◌else◌}
use Rattle.std.proofs.lemmas.Bool.{eq-eqb, eqb-true}
use Rattle.std.proofs.lemmas.Grind.{flat_map-append}
use Rattle.std.specs.Cmp.{nat_cmp_total, unsigned_tied}
use Rattle.std.specs.FinMap.{FinMap, entries, entries_sorted, find, from_entries, get, get-entries}
use Rattle.std.specs.FinMap.{get-from_entries, keys}
use Rattle.std.specs.FinMap.Entries.{below_all, is_sorted}
use Rattle.std.specs.List.{cons_option, flat_map}
use Rattle.std.specs.Option.{option_map_or}
use Rattle.std.specs.Ordering.{nat_cmp}
use Rattle.irc_names.specs.Lemmas.PlainFacts.{nat_eq-turned}
use Rattle.irc_line.specs.Messages.{Written, text}
use Rattle.irc_tables.specs.Lemmas.OrderedEntries.{above-is, find-above}
use Rattle.irc_batch.specs.declared.close_reason.CloseReason.{CloseReason}
use Rattle.irc_batch.specs.Batches.{Sent, is_number}
use Rattle.irc_stage.specs.Ends.{End, Ends, is_met}
use Rattle.irc_stage.specs.Ways.{but, met_links}
use Rattle.irc_routes.specs.Known.{link_key}
use Rattle.irc_stage.specs.declared.clients.Client.{Client}
use Rattle.irc_stage.specs.EffectTold.{on_links}
use Rattle.irc_stage.specs.RoomMachine.{Clients}
use Rattle.irc_numbers.specs.ServedAlike.{by_link, client_part, link_part, to_client}

-- ---- one list behind another

pub client_part-append : (conn : ℕ) (one other : List Sent)
    → client_part conn (one ++ other) ≡ client_part conn one ++ client_part conn other
client_part-append conn one other = flat_map-append (to_client conn) one other

pub link_part-append : (conn : ℕ) (one other : List Sent)
    → link_part conn (one ++ other) ≡ link_part conn one ++ link_part conn other
link_part-append conn one other = flat_map-append (by_link conn) one other

-- ---- one entry of a map

none_behind : {V : Type 0} (e : ℕ × V) (es : List (ℕ × V)) → T (is_sorted nat_cmp (e ∷ es))
    → find nat_cmp e.0 es ≡ None
none_behind e es rise =
    find-above nat_cmp_total e.0 es (sym (above-is nat_cmp_total e.0 es)
    ∙ first (below_all nat_cmp e.0 es) (is_sorted nat_cmp es) rise)
  where
    first : (a b : Bool) → T (a && b) → a ≡ true
    first true b h = refl
    first false b h = absurd h

rises : {V : Type 0} (e : ℕ × V) (es : List (ℕ × V)) → T (is_sorted nat_cmp (e ∷ es))
    → T (is_sorted nat_cmp es)
rises e es rise = second (below_all nat_cmp e.0 es) (is_sorted nat_cmp es) rise
  where
    second : (a b : Bool) → T (a && b) → T b
    second true b h = h
    second false b h = absurd h

-- what each entry tells, and only the one under a number tells something: then it is what is told
-- under this number
module _ {V B : Type 0} (tells : ℕ → V → List B) (conn : ℕ) (elsewhere : (number : ℕ) (value : V)
    → nat_eq number conn ≡ false → tells number value ≡ []) where
  one_tells : (es : List (ℕ × V)) → T (is_sorted nat_cmp es) → flat_map
      (λ (e : ℕ × V). tells e.0 e.1) es ≡ option_map_or (tells conn) (find nat_cmp conn es) []
  one_tells [] rise = refl
  one_tells (e ∷ es) rise =
      by (nat_eq e.0 conn) refl (one_tells es (rises e es rise))
      ∙ sym (ap (λ b. option_map_or (tells conn) (cond b (Some e.1) (find nat_cmp conn es)) [])
      (unsigned_tied conn e.0 ∙ nat_eq-turned conn e.0))
    where
      by : (b : Bool) → nat_eq e.0 conn ≡ b → flat_map (λ (e : ℕ × V). tells e.0 e.1) es
          ≡ option_map_or (tells conn) (find nat_cmp conn es) []
          → tells e.0 e.1 ++ flat_map (λ (e : ℕ × V). tells e.0 e.1) es ≡ option_map_or (tells conn)
          (cond b (Some e.1) (find nat_cmp conn es)) []
      by true one rest =
          ap (λ more. tells e.0 e.1 ++ more) rest
          ∙ ap (λ n. tells e.0 e.1 ++ option_map_or (tells conn) (find nat_cmp n es) [])
          (sym (eqb-true e.0 conn one))
          ∙ ap (λ o. tells e.0 e.1 ++ option_map_or (tells conn) o []) (none_behind e es rise)
          ∙ append-nil (tells e.0 e.1)
          ∙ ap (λ n. tells n e.1) (eqb-true e.0 conn one)
      by false two rest =
          ap (λ xs. xs ++ flat_map (λ (e : ℕ × V). tells e.0 e.1) es) (elsewhere e.0 e.1 two) ∙ rest

  pub one_told : (m : FinMap nat_cmp V) → flat_map (λ (e : ℕ × V). tells e.0 e.1) (entries m)
      ≡ option_map_or (tells conn) (get m conn) []
  one_told m = one_tells (entries m) (entries_sorted m)
      ∙ sym (ap (λ o. option_map_or (tells conn) o []) (get-entries m conn))

-- ---- to each client that passes a test

abbrev Part : Type 0
Part = List (Option (List ℕ))

-- something is put out to each of them, which to one of them is this part
module _ (test : Client → Bool) (sends : ℕ → Sent) (part : Part)
    (sent : (number conn : ℕ)
    → to_client conn (sends number) ≡ (if nat_eq number conn then part else [])) where
  abbrev chosen : ℕ × Client → Option Sent
  chosen e = if test e.1 then Some (sends e.0) else None

  abbrev tells_one : ℕ → ℕ → Client → Part
  tells_one conn number client = if test client then to_client conn (sends number) else []

  each_tells : (conn : ℕ) (es : List (ℕ × Client)) → client_part conn (filter_map chosen es)
      ≡ flat_map (λ (e : ℕ × Client). tells_one conn e.0 e.1) es
  each_tells conn [] = refl
  each_tells conn (e ∷ es) = by (test e.1) (each_tells conn es)
    where
      by : (b : Bool) → client_part conn (filter_map chosen es)
          ≡ flat_map (λ (e : ℕ × Client). tells_one conn e.0 e.1) es → client_part conn
          (cons_option (if b then Some (sends e.0) else None) (filter_map chosen es))
          ≡ (if b then to_client conn (sends e.0) else [])
          ++ flat_map (λ (e : ℕ × Client). tells_one conn e.0 e.1) es
      by true rest = ap (λ more. to_client conn (sends e.0) ++ more) rest
      by false rest = rest

  elsewhere : (conn number : ℕ) (client : Client) → nat_eq number conn ≡ false
      → tells_one conn number client ≡ []
  elsewhere conn number client two = by (test client)
    where
      by : (b : Bool) → (if b then to_client conn (sends number) else []) ≡ []
      by true = sent number conn ∙ ap (λ b. if b then part else []) two
      by false = refl

  pub chosen_part : (conn : ℕ) (clients : Clients)
      → client_part conn (filter_map chosen (entries clients)) ≡ option_map_or
      (λ (client : Client). if test client then part else []) (get clients conn) []
  chosen_part conn clients =
      each_tells conn (entries clients) ∙ one_told (tells_one conn) conn (elsewhere conn) clients
      ∙ ap (λ (p : Part). option_map_or (λ (client : Client). if test client then p else [])
      (get clients conn) [])
      (sent conn conn ∙ ap (λ b. if b then part else []) (eq-eqb conn conn refl))

-- nothing of it goes on a link
pub no_link : (test : Client → Bool) (sends : ℕ → Sent) → ((number link : ℕ)
    → by_link link (sends number) ≡ []) → (link : ℕ) (es : List (ℕ × Client)) → link_part link
    (filter_map (λ (e : ℕ × Client). if test e.1 then Some (sends e.0) else None) es) ≡ []
no_link test sends none link [] = refl
no_link test sends none link (e ∷ es) =
    by (test e.1) (filter_map (λ (e : ℕ × Client). if test e.1 then Some (sends e.0) else None) es)
    (no_link test sends none link es)
  where
    by : (b : Bool) (more : List Sent) → link_part link more ≡ []
        → link_part link (cons_option (if b then Some (sends e.0) else None) more) ≡ []
    by true more rest = ap (λ xs. xs ++ link_part link more) (none e.0 link) ∙ rest
    by false more rest = rest

-- ---- a line on several links

abbrev LinkPart : Type 0
LinkPart = List (Result (List ℕ) CloseReason)

-- no client is told
pub to_no_client : (conn : ℕ) (parts : Written) (links : List ℕ)
    → client_part conn (on_links links parts) ≡ []
to_no_client conn parts [] = refl
to_no_client conn parts (link ∷ links) = to_no_client conn parts links

module _ (arrival : Option ℕ) (parts : Written) (place : ℕ) where
  -- what one link is told
  abbrev tells_link : ℕ → LinkPart
  tells_link link = if not (is_number arrival link)
      then (if nat_eq link place then Ok (text parts) ∷ [] else []) else []

  links_tell : (links : List ℕ)
      → link_part place (on_links (but arrival links) parts) ≡ flat_map tells_link links
  links_tell [] = refl
  links_tell (link ∷ links) = by (not (is_number arrival link)) (links_tell links)
    where
      by : (b : Bool)
          → link_part place (on_links (but arrival links) parts) ≡ flat_map tells_link links
          → link_part place (on_links (cond b (link ∷ but arrival links) (but arrival links)) parts)
          ≡ (if b then (if nat_eq link place then Ok (text parts) ∷ [] else []) else [])
          ++ flat_map tells_link links
      by true rest =
          ap (λ more. (if nat_eq link place then Ok (text parts) ∷ [] else []) ++ more) rest
      by false rest = rest

  not_there : (link : ℕ) → nat_eq link place ≡ false → tells_link link ≡ []
  not_there link two = by (not (is_number arrival link))
    where
      by : (b : Bool) → ◌≡◌ {A = LinkPart}
          (if b then (if nat_eq link place then Ok (text parts) ∷ [] else []) else []) []
      by true = ap (λ b. if b then Ok (text parts) ∷ [] else []) two
      by false = refl

  -- on those that count
  met_tell : (es : List (ℕ × End))
      → flat_map tells_link (map (λ (e : ℕ × End). e.0) (filter (λ (e : ℕ × End). is_met e.1) es))
      ≡ flat_map (λ (e : ℕ × End). if is_met e.1 then tells_link e.0 else []) es
  met_tell [] = refl
  met_tell (e ∷ es) = by (is_met e.1) (filter (λ (e : ℕ × End). is_met e.1) es) (met_tell es)
    where
      by : (b : Bool) (met : List (ℕ × End)) → flat_map tells_link (map (λ (e : ℕ × End). e.0) met)
          ≡ flat_map (λ (e : ℕ × End). if is_met e.1 then tells_link e.0 else []) es
          → flat_map tells_link (map (λ (e : ℕ × End). e.0) (cond b (e ∷ met) met))
          ≡ (if b then tells_link e.0 else [])
          ++ flat_map (λ (e : ℕ × End). if is_met e.1 then tells_link e.0 else []) es
      by true met rest = ap (λ more. tells_link e.0 ++ more) rest
      by false met rest = rest

  met_elsewhere : (link : ℕ) (end : End) → nat_eq link place ≡ false
      → (if is_met end then tells_link link else []) ≡ []
  met_elsewhere link end two = by (is_met end)
    where
      by : (b : Bool) → (if b then tells_link link else []) ≡ []
      by true = not_there link two
      by false = refl

  abbrev here : LinkPart
  here = if not (is_number arrival place) then Ok (text parts) ∷ [] else []

  tells_here : tells_link place ≡ here
  tells_here = ap (λ b. if not (is_number arrival place)
      then (if b then Ok (text parts) ∷ [] else []) else []) (eq-eqb place place refl)

  pub met_part : (ends : Ends) → link_part place (on_links (but arrival (met_links ends)) parts)
      ≡ option_map_or (λ (end : End). if is_met end then here else []) (get ends place) []
  met_part ends =
      links_tell (met_links ends) ∙ met_tell (entries ends) ∙ one_told
      (λ link (end : End). if is_met end then tells_link link else []) place met_elsewhere ends
      ∙ ap (λ (p : LinkPart). option_map_or (λ (end : End). if is_met end then p else [])
      (get ends place) []) tells_here

  -- on those of a list, each once
  keys_tell : (es : List (ℕ × Unit {0})) → flat_map tells_link (map (λ (e : ℕ × Unit {0}). e.0) es)
      ≡ flat_map (λ (e : ℕ × Unit {0}). tells_link e.0) es
  keys_tell [] = refl
  keys_tell (e ∷ es) = ap (λ more. tells_link e.0 ++ more) (keys_tell es)

  pub each_once_part : (links : List ℕ) → link_part place
      (on_links (but arrival (keys (from_entries {R = nat_cmp} (map link_key links)))) parts)
      ≡ option_map_or (λ (u : Unit {0}). here) (find nat_cmp place (map link_key links)) []
  each_once_part links =
      let m : FinMap nat_cmp (Unit {0}) = from_entries (map link_key links) in
      links_tell (keys m) ∙ keys_tell (entries m) ∙ one_told (λ link (u : Unit {0}).
      tells_link link) place (λ link (u : Unit {0}) two. not_there link two) m
      ∙ ap (λ (p : LinkPart). option_map_or (λ (u : Unit {0}). p) (get m place) []) tells_here
      ∙ ap (λ o. option_map_or (λ (u : Unit {0}). here) o [])
      (get-from_entries nat_cmp_total (map link_key links) place)
