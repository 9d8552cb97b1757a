-- Just those are connected who were, or come, and neither go nor are closed.
use Rattle.std.proofs.Common.{◌≡◌, ℕ, Bool, true, false, cond, not, T, ◌&&◌, ◌||◌, nat_eq, is_some}
use Rattle.std.proofs.Common.{Option, Some, None, Result, List, [], ◌∷◌, ◌++◌, refl, sym, ◌∙◌, ap}
use Rattle.std.proofs.Common.{filter_map, if◌then◌else◌}
use Rattle.std.proofs.lemmas.Bool.{eq-eqb, eqb-true}
use Rattle.std.proofs.lemmas.List.Folds.{list_any-append}
use Rattle.std.specs.FinMap.{FinMap, entries, entries_sorted, find, get, get-entries, insert}
use Rattle.std.specs.FinMap.{is_sorted, remove, retain_keys}
use Rattle.std.specs.List.{cons_option, list_all, list_any}
use Rattle.std.specs.Option.{option_map_or}
use Rattle.std.specs.Ordering.{nat_cmp}
use Rattle.std.specs.Cmp.{first_so}
use Rattle.std.proofs.Math.Facts.{and_yes}
use Rattle.irc_names.specs.Lemmas.PlainFacts.{and_neither, and_not}
use Rattle.irc_batch.specs.Batches.{Sent, end_of, end_of_link, line_on, line_to}
use Rattle.irc_batch.specs.declared.close_reason.CloseReason.{CloseReason}
use Rattle.irc_line.specs.declared.reading.LineFault.{LineFault}
use Rattle.irc_line.specs.Messages.{Parsed, Written, text}
use Rattle.irc_commands.specs.Closing.{error_line}
use Rattle.irc_room.specs.effect.Effect.{Effect}
use Rattle.irc_room.specs.effect.Effect.TheVariants.{Quit}
use Rattle.irc_link_writer.specs.Written.{wire}
use Rattle.irc_stage.specs.Ends.{fresh_end}
use Rattle.irc_stage.specs.Ways.{but, met_links}
use Rattle.irc_stage.specs.declared.clients.Client.{Client}
use Rattle.irc_stage.specs.RoomMachine.{Clients}
use Rattle.irc_stage.specs.View.{View}
use Rattle.irc_stage.specs.Handle.{fresh, is_client, says, to_viewer}
use Rattle.irc_stage.specs.EffectTold.{Served, changed, client_ended, effect_told, ends_of}
use Rattle.irc_stage.specs.EffectTold.{in_silence, is_another, on_links, shown_at, ways_at}
use Rattle.irc_stage.specs.EffectTold.{with_sent}
use Rattle.irc_stage.specs.Linked.{unlinked}
use Rattle.irc_stage.specs.ClientTold.{closed_told, unseated}
use Rattle.irc_stage.specs.Lemmas.Counting.{get-kept}
use Rattle.irc_stage.specs.Lemmas.Numbers.{get-with, get-without, none_behind, one_number}
use Rattle.irc_stage.specs.Lemmas.Numbers.{same_number, same_number-is}
use Rattle.irc_server.specs.LinkServed.{on_link}
use Rattle.irc_server.specs.Served.{ReadEvent, of_client, link_says}
use Rattle.irc_server.specs.Own.{IsNewLink}
use Rattle.irc_server.specs.Connected.{WhoIsConnected, WhoIsConnectedBehind, client_comes}
use Rattle.irc_server.specs.Connected.{client_goes, ends_client, has_client, has_link}
use Rattle.irc_server.specs.Connected.{is_client_ended, is_link_ended, is_there_after, link_comes}
use Rattle.irc_server.specs.Connected.{link_goes}
use Rattle.irc_server.specs.Closings.{link_closings}
use Rattle.irc_server.specs.Moves.{Mover, Move, answers, does, comes, shows, takes_out, tells_on}
use Rattle.irc_server.specs.Moves.{Moves, OfClient, OfLinks, Closings, IsServed, seats, ignores}
use Rattle.irc_server.specs.Moves.{speaks, leaves, opens_link, refuses_link, ignores_link, listens}
use Rattle.irc_server.specs.Moves.{closes_link, loses_link}
use Rattle.irc_server.specs.Lemmas.ServedByMoves.{ends_stay, kept, same_clients, served_by_moves}
use Rattle.irc_server.specs.Lemmas.ServedByMoves.{set_by_moves}
use Rattle.irc_server.proofs.OwnClosings.{served_closes}
use Rattle.irc_server.proofs.AllOf.{all-each}
use Rattle.irc_server.proofs.PutOut.{shown_pass, viewers_pass}

-- ---- numbers, and lists of what is put out

same_as : (q conn : ℕ) → same_number q conn ≡ nat_eq conn q
same_as q conn = by (same_number q conn) refl (nat_eq conn q) refl
  where
    by : (s : Bool) → same_number q conn ≡ s → (t : Bool) → nat_eq conn q ≡ t → s ≡ t
    by true e true f = refl
    by false e false f = refl
    by true e false f = sym (eq-eqb conn q (sym (one_number q conn e))) ∙ f
    by false e true f = sym e ∙ same_number-is q conn (sym (eqb-true conn q f))

-- whether it closes nobody, as a test
abbrev is_no_end : Sent → Bool
is_no_end (end_of conn) = false
is_no_end (end_of_link link why) = false
is_no_end line = true

no_client_ends : (q : ℕ) (outs : List Sent) → list_all is_no_end outs ≡ true
    → is_client_ended q outs ≡ false
no_client_ends q [] all = refl
no_client_ends q (line_to conn line ∷ outs) all = no_client_ends q outs all
no_client_ends q (line_on link line ∷ outs) all = no_client_ends q outs all
no_client_ends q (end_of conn ∷ outs) all = cc all
no_client_ends q (end_of_link link why ∷ outs) all = cc all

ended-append : (q : ℕ) (a b : List Sent)
    → is_client_ended q (a ++ b) ≡ (is_client_ended q a || is_client_ended q b)
ended-append q a b = list_any-append (ends_client q) a b

or_false : (a b : Bool) → b ≡ false → (a || b) ≡ a
or_false true b is = refl
or_false false b is = is

or_true : (a b : Bool) → b ≡ true → (a || b) ≡ true
or_true true b is = refl
or_true false b is = is

lines_end_none : (number : ℕ) (lines : List Written)
    → list_all is_no_end (on_link number lines) ≡ true
lines_end_none number lines =
    all-each is_no_end (λ parts. line_on number (text parts)) (λ parts. refl) lines

links_end_none : (links : List ℕ) (parts : Written)
    → list_all is_no_end (on_links links parts) ≡ true
links_end_none links parts =
    all-each is_no_end (λ number. line_on number (text parts)) (λ number. refl) links

-- ---- maps by number

some_more : {X : Type 0} (m : FinMap nat_cmp X) (number : ℕ) (x : X) (q : ℕ)
    → is_some (get (insert m number x) q) ≡ (is_some (get m q) || nat_eq number q)
some_more {X} m number x q =
    ap is_some (get-with m number x q)
    ∙ ap (λ b. is_some (cond b (Some x) (get m q))) (same_as q number)
    ∙ either (nat_eq number q) (get m q)
  where
    either : (b : Bool) (o : Option X) → is_some (cond b (Some x) o) ≡ (is_some o || b)
    either true None = refl
    either true (Some y) = refl
    either false None = refl
    either false (Some y) = refl

some_fewer : {X : Type 0} (m : FinMap nat_cmp X) (number q : ℕ)
    → is_some (get (remove m number) q) ≡ (is_some (get m q) && not (nat_eq number q))
some_fewer {X} m number q =
    ap is_some (get-without m number q) ∙ ap (λ b. is_some (cond b None (get m q)))
    (same_as q number) ∙ either (nat_eq number q) (get m q)
  where
    either : (b : Bool) (o : Option X) → is_some (cond b None o) ≡ (is_some o && not b)
    either true None = refl
    either true (Some y) = refl
    either false None = refl
    either false (Some y) = refl

-- ---- one user is taken out

ended_among : (nick : List ℕ) (q : ℕ) (es : List (ℕ × Client))
    → T (is_sorted nat_cmp es) → is_client_ended q
    (filter_map (λ (c : ℕ × Client). if is_client nick c.1 then Some (end_of c.0) else None) es)
    ≡ option_map_or (is_client nick) (find nat_cmp q es) false
ended_among nick q [] rise = refl
ended_among nick q (e ∷ es) rise =
    by (same_number q e.0) refl (is_client nick e.1) refl
    (ended_among nick q es (and_yes _ _ rise).1)
  where
    rest : List Sent
    rest =
        filter_map (λ (c : ℕ × Client). if is_client nick c.1 then Some (end_of c.0) else None) es

    none : q ≡ e.0 → find nat_cmp q es ≡ None
    none is = ap (λ n. find nat_cmp n es) is ∙ none_behind e es (and_yes _ _ rise).0

    by : (s : Bool) → same_number q e.0 ≡ s → (t : Bool) → is_client nick e.1 ≡ t
        → is_client_ended q rest ≡ option_map_or (is_client nick) (find nat_cmp q es) false
        → is_client_ended q (cons_option (if t then Some (end_of e.0) else None) rest)
        ≡ option_map_or (is_client nick) (cond s (Some e.1) (find nat_cmp q es)) false
    by true here true is later = ap (λ b. b || is_client_ended q rest) (sym (same_as q e.0) ∙ here)
        ∙ sym is
    by true here false is later =
        later ∙ ap (λ o. option_map_or (is_client nick) o false) (none (one_number q e.0 here))
        ∙ sym is
    by false two true is later =
        ap (λ b. b || is_client_ended q rest) (sym (same_as q e.0) ∙ two) ∙ later
    by false two false is later = later

ended_is : (clients : Clients) (nick : List ℕ) (q : ℕ) → is_client_ended q (ends_of nick clients)
    ≡ option_map_or (is_client nick) (get clients q) false
ended_is clients nick q =
    ended_among nick q (entries clients) (entries_sorted clients)
    ∙ ap (λ o. option_map_or (is_client nick) o false) (sym (get-entries clients q))

kept_is : (clients : Clients) (nick : List ℕ) (q : ℕ) (o : Option Client)
    → get clients q ≡ o → is_some (get (retain_keys clients (is_another clients nick)) q)
    ≡ (is_some o && not (option_map_or (is_client nick) o false))
kept_is clients nick q o is =
    ap is_some (get-kept clients (is_another clients nick) q)
    ∙ ap (λ p. is_some (cond (option_map_or (λ client. not (is_client nick client)) p true) p None))
    is ∙ by o
  where
    some_if : (b : Bool) (c : Client) → is_some (cond (not b) (Some c) None) ≡ (true && not b)
    some_if true c = refl
    some_if false c = refl

    by : (o : Option Client)
        → is_some (cond (option_map_or (λ client. not (is_client nick client)) o true) o None)
        ≡ (is_some o && not (option_map_or (is_client nick) o false))
    by None = refl
    by (Some c) = some_if (is_client nick c) c

-- ---- moves

-- Of these clients just those are there whom nothing that was put out closed, and nobody else was
-- closed.
record Counted (clients : ℕ → Bool) (s : Served) : Type 0 where
  there : (q : ℕ) → has_client s.state q ≡ (clients q && not (is_client_ended q s.out))
  were : (q : ℕ) → is_client_ended q s.out ≡ true → clients q ≡ true

-- where what was put out closes nobody
none_counts : (clients : ℕ → Bool) (s : Served) → list_all is_no_end s.out ≡ true
    → ((q : ℕ) → has_client s.state q ≡ clients q) → Counted clients s
none_counts clients s all same = record {
  there = λ q. same q
      ∙ and_not (clients q) (is_client_ended q s.out) (no_client_ends q s.out all);
  were = λ q is. absurd (cc (sym (no_client_ends q s.out all) ∙ is));
}

module _ (clients : ℕ → Bool) where
  -- all stays counted
  abbrev Stays : (Served → Served) → Type 0
  Stays serve = (s : Served) → Counted clients s → Counted clients (serve s)

  -- nobody comes, goes or is closed by lines that are put out, where the same are there
  same_counts : (s : Served) (view : View) (sent : List Sent) → list_all is_no_end sent ≡ true
      → ((q : ℕ) → has_client view q ≡ has_client s.state q) → Counted clients s
      → Counted clients (record { state = view; out = s.out ++ sent })
  same_counts s view sent all same so = record {
    there = λ q. same q ∙ so.there q ∙ ap (λ b. clients q && not b) (sym (still q));
    were = λ q is. so.were q (sym (still q) ∙ is);
  }
    where
      still : (q : ℕ) → is_client_ended q (s.out ++ sent) ≡ is_client_ended q s.out
      still q = ended-append q s.out sent
          ∙ or_false (is_client_ended q s.out) (is_client_ended q sent) (no_client_ends q sent all)

  changed_counts : (effect : Effect) → Stays (changed effect)
  changed_counts effect s so =
      same_counts s (changed effect s).state (shown_at s.state effect)
      (shown_pass is_no_end s.state (λ conn line is. refl) effect)
      (same_clients effect s.state.clients) so

  on_links_counts : (links : List ℕ) (parts : Written) → Stays (with_sent (on_links links parts))
  on_links_counts links parts s so =
      same_counts s s.state (on_links links parts) (links_end_none links parts) (λ q. refl) so

  effect_counts : (arrival : Option ℕ) (effect : Effect) → Stays (effect_told arrival effect)
  effect_counts arrival effect s so =
      on_links_counts (ways_at s.state arrival effect) (wire s.state.room s.state.routes effect)
      (changed effect s) (changed_counts effect s so)

  client_ended_counts : (nick words : List ℕ) → Stays (client_ended nick words)
  client_ended_counts nick words s so = record {
    there = λ q. kept_is s.state.clients nick q (get s.state.clients q) refl
        ∙ ap (λ b. b && not (here q)) (so.there q)
        ∙ and_neither (clients q) (is_client_ended q s.out) (here q)
        ∙ ap (λ b. clients q && not b) (sym (ended_all q));
    were = λ q is. by q (is_client_ended q s.out) refl (here q) refl (sym (ended_all q) ∙ is);
  }
    where
      told : List Sent
      told = to_viewer s.state.clients (record { viewer = nick; line = error_line words })

      here : ℕ → Bool
      here q = option_map_or (is_client nick) (get s.state.clients q) false

      ended_all : (q : ℕ) → is_client_ended q (client_ended nick words s).out
          ≡ (is_client_ended q s.out || here q)
      ended_all q =
          ended-append q s.out (told ++ ends_of nick s.state.clients)
          ∙ ap (λ b. is_client_ended q s.out || b)
          (ended-append q told (ends_of nick s.state.clients)
          ∙ ap (λ b. b || is_client_ended q (ends_of nick s.state.clients))
          (no_client_ends q told (viewers_pass is_no_end s.state (λ conn line is. refl)
          (record { viewer = nick; line = error_line words })))
          ∙ ended_is s.state.clients nick q)

      some_here : (o : Option Client) → option_map_or (is_client nick) o false ≡ true
          → is_some o ≡ true
      some_here None is = cc is
      some_here (Some c) is = refl

      by : (q : ℕ) (b : Bool) → is_client_ended q s.out ≡ b → (c : Bool) → here q ≡ c
          → (b || here q) ≡ true → clients q ≡ true
      by q true before c now is = so.were q before
      by q false before true now is =
          first_so (clients q) (not (is_client_ended q s.out))
          (sym (so.there q) ∙ some_here (get s.state.clients q) now)
      by q false before false now is = absurd (cc (sym now ∙ is))

  move_counts : {By : Mover → Type 0} (s t : Served) → Move By s t → Counted clients s
      → Counted clients t
  move_counts s t (answers conn line by here) so =
      same_counts s s.state (line_to conn line ∷ []) refl (λ q. refl) so
  move_counts s t (does conn effect by) so = effect_counts None effect s so
  move_counts s t (comes arrival effect by is) so = effect_counts arrival effect s so
  move_counts s t (shows arrival effect by is) so = changed_counts effect s so
  move_counts s t (takes_out arrival nick words true by is) so =
      client_ended_counts nick words (changed (Quit nick words) s)
      (changed_counts (Quit nick words) s so)
  move_counts s t (takes_out arrival nick words false by is) so =
      client_ended_counts nick words s so
  move_counts s t (tells_on arrival parts by) so =
      on_links_counts (but arrival (met_links s.state.ends)) parts s so
  move_counts s t other so = record { there = so.there; were = so.were }

  moves_count : (By : Mover → Type 0) {s t : Served} → Moves By s t → Counted clients s
      → Counted clients t
  moves_count By moves so = kept By (Counted clients) move_counts moves so

  -- a client that was there is closed, or is not
  closed_counts : (close : Bool) (conn : ℕ) → clients conn ≡ true → Stays (closed_told close conn)
  closed_counts false conn here s so = so
  closed_counts true conn here s so = record {
    there = λ q. some_fewer s.state.clients conn q
        ∙ ap (λ b. b && not (nat_eq conn q)) (so.there q)
        ∙ and_neither (clients q) (is_client_ended q s.out) (nat_eq conn q)
        ∙ ap (λ b. clients q && not b) (sym (now_ended q));
    were = λ q is. either q (is_client_ended q s.out) refl (nat_eq conn q) refl
        (sym (now_ended q) ∙ is);
  }
    where
      now_ended : (q : ℕ) → is_client_ended q (s.out ++ end_of conn ∷ [])
          ≡ (is_client_ended q s.out || nat_eq conn q)
      now_ended q = ended-append q s.out (end_of conn ∷ [])
          ∙ ap (λ b. is_client_ended q s.out || b) (or_false (nat_eq conn q) false refl)

      either : (q : ℕ) (b : Bool) → is_client_ended q s.out ≡ b → (c : Bool) → nat_eq conn q ≡ c
          → (b || c) ≡ true → clients q ≡ true
      either q true before c now is = so.were q before
      either q false before true now is = ap clients (sym (eqb-true conn q now)) ∙ here
      either q false before false now is = absurd (cc is)

-- ---- links that are closed

abbrev closed_as : ℕ → ℕ × CloseReason → Bool
closed_as link closing = nat_eq closing.0 link

-- the links whose end is put out are those that are closed
link_ended_is : (q : ℕ) (outs : List Sent)
    → is_link_ended q outs ≡ list_any (closed_as q) (link_closings outs)
link_ended_is q [] = refl
link_ended_is q (line_to conn line ∷ outs) = link_ended_is q outs
link_ended_is q (end_of conn ∷ outs) = link_ended_is q outs
link_ended_is q (line_on link line ∷ outs) = link_ended_is q outs
link_ended_is q (end_of_link link why ∷ outs) = ap (λ b. nat_eq link q || b) (link_ended_is q outs)

-- ---- events

as_before : (was ended : Bool) → (was && not ended) ≡ is_there_after was false false ended
as_before true ended = refl
as_before false ended = refl

as_gone : (was left ended : Bool)
    → ((was && not left) && not ended) ≡ is_there_after was false left ended
as_gone true true ended = refl
as_gone true false ended = refl
as_gone false left ended = refl

as_come : (was came : Bool) → (was || came) ≡ is_there_after was came false false
as_come true came = refl
as_come false true = refl
as_come false false = refl

as_stay : (was ended : Bool) → ended ≡ false → was ≡ is_there_after was false false ended
as_stay true ended none = ap not (sym none)
as_stay false ended none = refl

as_left : (was left ended : Bool) → ended ≡ false
    → (was && not left) ≡ is_there_after was false left ended
as_left true true ended none = refl
as_left true false ended none = ap not (sym none)
as_left false left ended none = refl

as_closed : (was closed ended : Bool) → ended ≡ closed
    → (was && not closed) ≡ is_there_after was false false ended
as_closed true closed ended is = ap not (sym is)
as_closed false closed ended is = refl

-- as the law has it, of what was served
record AreCounted (view : View) (read_event : ReadEvent) (s : Served) : Type 0 where
  clients : (q : ℕ) → has_client s.state q ≡ is_there_after (has_client view q)
      (client_comes q read_event) (client_goes q read_event) (is_client_ended q s.out)
  links : (q : ℕ) → has_link s.state q ≡ is_there_after (has_link view q)
      (link_comes q read_event) (link_goes q read_event) (is_link_ended q s.out)
  clients_were : (q : ℕ) → is_client_ended q s.out ≡ true → has_client view q ≡ true
  links_were : (q : ℕ) → is_link_ended q s.out ≡ true
      → (has_link view q || link_comes q read_event) ≡ true

module _ (view : View) where
  start_counts : Counted (has_client view) (in_silence view)
  start_counts = none_counts (has_client view) (in_silence view) refl (λ q. refl)

  -- the links are there that were
  same_links : (By : Mover → Type 0) {s t : Served} → Moves By s t
      → ((q : ℕ) → has_link s.state q ≡ has_link view q) → (q : ℕ)
      → has_link t.state q ≡ has_link view q
  same_links By moves same q = ap (λ ends. is_some (get ends q)) (ends_stay moves) ∙ same q

  lost_links : (By : Mover → Type 0) {s t : Served} → Moves By s t
      → ((q : ℕ) → has_link s.state q ≡ has_link view q) → (number q : ℕ)
      → has_link (unlinked number t.state) q ≡ (has_link view q && not (nat_eq number q))
  lost_links By {s} {t} moves same number q =
      some_fewer t.state.ends number q
      ∙ ap (λ b. b && not (nat_eq number q)) (same_links By moves same q)

  -- where no link is closed, and the links are those that were
  of_client_counts : (conn : ℕ) (read : Result Parsed LineFault) (s : Served)
      → Counted (has_client view) s → ((q : ℕ) → has_link s.state q ≡ has_link view q)
      → ((q : ℕ) → is_link_ended q s.out ≡ false)
      → AreCounted view (of_client (says conn read)) s
  of_client_counts conn read s so same none = record {
    clients = λ q. so.there q ∙ as_before (has_client view q) (is_client_ended q s.out);
    links = λ q. same q ∙ as_stay (has_link view q) (is_link_ended q s.out) (none q);
    clients_were = so.were;
    links_were = λ q is. absurd (cc (sym (none q) ∙ is));
  }

  of_link_counts : (number : ℕ) (read : Result Parsed LineFault) (s : Served)
      → Counted (has_client view) s → ((q : ℕ) → has_link s.state q ≡ has_link view q)
      → ((q : ℕ) → is_link_ended q s.out ≡ false) → AreCounted view (link_says number read) s
  of_link_counts number read s so same none = record {
    clients = λ q. so.there q ∙ as_before (has_client view q) (is_client_ended q s.out);
    links = λ q. same q ∙ as_stay (has_link view q) (is_link_ended q s.out) (none q);
    clients_were = so.were;
    links_were = λ q is. absurd (cc (sym (none q) ∙ is));
  }

  -- a link is opened to nobody known, and closed
  refused : (number q : ℕ) → get view.ends number ≡ None
      → has_link view q ≡ is_there_after (has_link view q) (nat_eq number q) false
      (nat_eq number q || false)
  refused number q new = either (nat_eq number q) refl
    where
      none : (was : Bool) → false ≡ is_there_after was true false true
      none true = refl
      none false = refl

      either : (b : Bool) → nat_eq number q ≡ b
          → has_link view q ≡ is_there_after (has_link view q) b false (b || false)
      either true one = ap (has_link view) (sym (eqb-true number q one)) ∙ ap is_some new
          ∙ none (has_link view q)
      either false two = as_stay (has_link view q) false refl

  served_counts : {event : ReadEvent} {closed : Closings} {s : Served} → IsNewLink view event
      → IsServed view event closed s
      → ((q : ℕ) → is_link_ended q s.out ≡ list_any (closed_as q) closed)
      → AreCounted view event s
  served_counts new (seats conn host) ended = record {
    clients = λ q. some_more view.clients conn (fresh host) q
        ∙ as_come (has_client view q) (nat_eq conn q);
    links = λ q. as_stay (has_link view q) false refl;
    clients_were = λ q is. cc is;
    links_were = λ q is. cc is;
  }
  served_counts new (ignores conn read) ended =
      of_client_counts conn read (in_silence view) start_counts (λ q. refl) ended
  served_counts new (speaks {s} conn read close clients here same moves) ended =
      of_client_counts conn read (closed_told close conn s)
      (closed_counts (has_client view) close conn here s
      (moves_count (has_client view) (OfClient conn) moves (none_counts (has_client view)
      (in_silence (record view { clients = clients })) refl same)))
      (λ q. either close q ∙ same_links (OfClient conn) moves (λ q. refl) q) ended
    where
      either : (close : Bool) (q : ℕ)
          → has_link (closed_told close conn s).state q ≡ has_link s.state q
      either true q = refl
      either false q = refl
  served_counts new (leaves {s} conn moves) ended =
      let so = moves_count rest (OfClient conn) moves (none_counts rest
      (in_silence (unseated conn view)) refl (some_fewer view.clients conn)) in record {
        clients = λ q. so.there q
            ∙ as_gone (has_client view q) (nat_eq conn q) (is_client_ended q s.out);
        links = λ q. same_links (OfClient conn) moves (λ q. refl) q
            ∙ as_stay (has_link view q) (is_link_ended q s.out) (ended q);
        clients_were = λ q is. first_so (has_client view q) (not (nat_eq conn q)) (so.were q is);
        links_were = λ q is. absurd (cc (sym (ended q) ∙ is));
      }
    where
      rest : ℕ → Bool
      rest q = has_client view q && not (nat_eq conn q)
  served_counts new (opens_link number starts lines) ended = record {
    clients = λ q. as_stay (has_client view q) (is_client_ended q (on_link number lines)) (none q);
    links = λ q. some_more view.ends number (fresh_end starts) q
        ∙ as_come (has_link view q) (nat_eq number q)
        ∙ ap (is_there_after (has_link view q) (nat_eq number q) false) (sym (ended q));
    clients_were = λ q is. absurd (cc (sym (none q) ∙ is));
    links_were = λ q is. absurd (cc (sym (ended q) ∙ is));
  }
    where
      none : (q : ℕ) → is_client_ended q (on_link number lines) ≡ false
      none q = no_client_ends q (on_link number lines) (lines_end_none number lines)
  served_counts new (refuses_link number starts why) ended = record {
    clients = λ q. as_stay (has_client view q) false refl;
    links = λ q. refused number q new;
    clients_were = λ q is. cc is;
    links_were = λ q is. or_true (has_link view q) (nat_eq number q)
        (sym (or_false (nat_eq number q) false refl) ∙ is);
  }
  served_counts new (ignores_link number read) ended =
      of_link_counts number read (in_silence view) start_counts (λ q. refl) ended
  served_counts new (listens {s} number read ends lines here still moves) ended =
      of_link_counts number read s
      (moves_count (has_client view) OfLinks moves (none_counts (has_client view)
      (with_sent (on_link number lines) (in_silence (record view { ends = ends })))
      (lines_end_none number lines) (λ q. refl)))
      (same_links OfLinks moves still.there) ended
  served_counts new (closes_link {s} number read why here moves) ended =
      let so = moves_count (has_client view) OfLinks moves
      (record { there = start_counts.there; were = λ q is. cc is }) in
      let is_it = λ (q : ℕ). ended q ∙ or_false (nat_eq number q) false refl in record {
        clients = λ q. so.there q ∙ as_before (has_client view q) (is_client_ended q s.out);
        links = λ q. lost_links OfLinks moves (λ q. refl) number q
            ∙ as_closed (has_link view q) (nat_eq number q) (is_link_ended q s.out) (is_it q);
        clients_were = so.were;
        links_were = λ q is. or_false (has_link view q) false refl
            ∙ ap (has_link view) (sym (eqb-true number q (sym (is_it q) ∙ is))) ∙ here;
      }
  served_counts new (loses_link {s} number moves) ended =
      let so = moves_count (has_client view) OfLinks moves start_counts in record {
        clients = λ q. so.there q ∙ as_before (has_client view q) (is_client_ended q s.out);
        links = λ q. lost_links OfLinks moves (λ q. refl) number q
            ∙ as_left (has_link view q) (nat_eq number q) (is_link_ended q s.out) (ended q);
        clients_were = so.were;
        links_were = λ q is. absurd (cc (sym (ended q) ∙ is));
      }

  counted : {event : ReadEvent} {closed : Closings} {s : Served} → IsNewLink view event
      → IsServed view event closed s → AreCounted view event s
  counted {closed = closed} {s = s} new what = served_counts new what
      (λ q. link_ended_is q s.out ∙ ap (list_any (closed_as q)) (served_closes what))

pub who_is_connected : WhoIsConnected
who_is_connected view read_event new =
    let so = counted view new (served_by_moves view read_event) in record {
      clients = so.clients;
      links = so.links;
      clients_were_there = so.clients_were;
      links_were_there = so.links_were;
    }

-- by a line by which a server sets
pub who_is_connected_behind : WhoIsConnectedBehind
who_is_connected_behind view link read =
    let so = counted view tt (set_by_moves view link read (get view.ends link) refl) in record {
      clients = so.clients;
      links = so.links;
      clients_were_there = so.clients_were;
      links_were_there = so.links_were;
    }
