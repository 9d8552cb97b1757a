-- Which part of what is put out goes to clients.
use Rattle.std.proofs.Common.{◌≡◌, ℕ, Bool, true, false, cond, Some, None, List, [], ◌∷◌}
use Rattle.std.proofs.Common.{◌++◌, refl, ◌∙◌, ap, map, filter_map}
use Rattle.std.proofs.Common.{if◌then◌else◌}
use Rattle.std.specs.FinMap.{entries}
use Rattle.std.specs.List.{cons_option, flat_map}
use Rattle.std.proofs.lemmas.List.Elements.{filter-append}
use Rattle.irc_line.specs.Messages.{Written, text}
use Rattle.irc_batch.specs.Batches.{Sent, line_to, end_of, line_on, end_of_link}
use Rattle.irc_room.specs.Seen.{Showing}
use Rattle.irc_stage.specs.declared.clients.Client.{Client}
use Rattle.irc_stage.specs.RoomMachine.{Clients}
use Rattle.irc_stage.specs.Handle.{is_client, to_viewer}
use Rattle.irc_stage.specs.EffectTold.{ends_of, on_links}
use Rattle.irc_server.specs.LinkServed.{on_link}
use Rattle.irc_server.specs.Owed.{line_to_conn, lines_to}
use Rattle.irc_own_order.specs.Doings.{is_to_client, to_clients}

pub to_clients-append : (a b : List Sent) → to_clients (a ++ b) ≡ to_clients a ++ to_clients b
to_clients-append a b = filter-append is_to_client a b

-- ---- what goes on links

none_of : {X : Type 0} (put : X → Sent) → ((x : X) → is_to_client (put x) ≡ false) → (xs : List X)
    → to_clients (map put xs) ≡ []
none_of put none [] = refl
none_of put none (x ∷ xs) =
    ap (λ b. cond b (put x ∷ to_clients (map put xs)) (to_clients (map put xs))) (none x)
    ∙ none_of put none xs

pub none_on_links : (links : List ℕ) (parts : Written) → to_clients (on_links links parts) ≡ []
none_on_links links parts = none_of (λ link. line_on link (text parts)) (λ link. refl) links

pub none_on_link : (link : ℕ) (lines : List Written) → to_clients (on_link link lines) ≡ []
none_on_link link lines = none_of (λ parts. line_on link (text parts)) (λ parts. refl) lines

-- ---- what goes to clients

-- each is something to a client
abbrev AreToClients : List Sent → Type 0
AreToClients sent = to_clients sent ≡ sent

both : (a b : List Sent) → AreToClients a → AreToClients b → AreToClients (a ++ b)
both a b one other =
    to_clients-append a b ∙ ap (λ l. l ++ to_clients b) one ∙ ap (λ l. a ++ l) other

picked : {X : Type 0} (test : X → Bool) (put : X → Sent)
    → ((x : X) → is_to_client (put x) ≡ true) → (xs : List X)
    → AreToClients (filter_map (λ (x : X). if test x then Some (put x) else None) xs)
picked test put is [] = refl
picked {X} test put is (x ∷ xs) = by (test x) (picked test put is xs)
  where
    left : List Sent
    left = filter_map (λ (y : X). if test y then Some (put y) else None) xs

    by : (b : Bool) → AreToClients left
        → AreToClients (cons_option (if b then Some (put x) else None) left)
    by true later =
        ap (λ b. cond b (put x ∷ to_clients left) (to_clients left)) (is x)
        ∙ ap (λ l. put x ∷ l) later
    by false later = later

pub viewer_is : (clients : Clients) (showing : Showing)
    → to_clients (to_viewer clients showing) ≡ to_viewer clients showing
viewer_is clients showing = picked (λ (c : ℕ × Client). is_client showing.viewer c.1)
    (λ (c : ℕ × Client). line_to c.0 showing.line) (λ c. refl) (entries clients)

ends_are : (nick : List ℕ) (clients : Clients) → AreToClients (ends_of nick clients)
ends_are nick clients = picked (λ (c : ℕ × Client). is_client nick c.1)
    (λ (c : ℕ × Client). end_of c.0) (λ c. refl) (entries clients)

pub viewers_are : (clients : Clients) (showings : List Showing)
    → to_clients (flat_map (to_viewer clients) showings) ≡ flat_map (to_viewer clients) showings
viewers_are clients [] = refl
viewers_are clients (showing ∷ showings) =
    both (to_viewer clients showing) (flat_map (to_viewer clients) showings)
    (viewer_is clients showing) (viewers_are clients showings)

pub ending_is : (clients : Clients) (showing : Showing) (nick : List ℕ)
    → to_clients (to_viewer clients showing ++ ends_of nick clients)
    ≡ to_viewer clients showing ++ ends_of nick clients
ending_is clients showing nick =
    both (to_viewer clients showing) (ends_of nick clients) (viewer_is clients showing)
    (ends_are nick clients)

-- ---- lines to one client

pub lines_are : (conn : ℕ) (out : List Sent) → lines_to conn out ≡ lines_to conn (to_clients out)
lines_are conn [] = refl
lines_are conn (line_to to line ∷ out) =
    ap (cons_option (line_to_conn conn (line_to to line))) (lines_are conn out)
lines_are conn (end_of to ∷ out) = lines_are conn out
lines_are conn (line_on link line ∷ out) = lines_are conn out
lines_are conn (end_of_link link reason ∷ out) = lines_are conn out
