-- Who is no client of a server gets nothing of what it puts out.
use Rattle.std.proofs.Common.{◌≡◌, ℕ, Bool, true, false, ◌||◌, is_some, nat_eq, Option, Some, None}
use Rattle.std.proofs.Common.{List, [], ◌∷◌, ◌++◌, refl, sym, ◌∙◌, ap, subst, option_map}
use Rattle.std.proofs.Common.{if◌then◌else◌}
use Rattle.std.proofs.lemmas.Bool.{and_parts, eqb-true, or_left, or_from}
use Rattle.std.specs.FinMap.{get}
use Rattle.std.specs.List.{list_all, list_any}
use Rattle.std.specs.Option.{option_and_then}
use Rattle.std.proofs.lemmas.Option.{same_Some}
use Rattle.irc_names.specs.Lemmas.PlainFacts.{nat_eq-turned, or_first, nat_eq-unlike}
use Rattle.irc_batch.specs.Batches.{Sent, end_of, end_of_link, line_on, line_to}
use Rattle.irc_stage.specs.Ways.{AreEnds, IsMetEnd}
use Rattle.irc_routes.specs.declared.server_row.ServerRow.{ServerRow}
use Rattle.irc_routes.specs.Known.{row_of}
use Rattle.irc_stage.specs.View.{View}
use Rattle.irc_stage.specs.Handle.{connects, goes, says}
use Rattle.irc_server.specs.Served.{ReadEvent, link_down, link_says, link_up, of_client, served}
use Rattle.irc_server.specs.Own.{ServedGoesToItsOwn, is_its_own, is_on_new}
use Rattle.irc_network.specs.Node.{Served, reply, serves_read_event}
use Rattle.irc_engine.specs.Carrying.{answers, is_closed_by}
use Rattle.irc_daemons.specs.Alike.{AreServersAlike, AreRowsAlike, Numbers, client_bytes}
use Rattle.irc_server.specs.Connected.{client_comes, client_goes, ends_client, link_comes}
use Rattle.irc_batch.specs.declared.close_reason.CloseReason.{CloseReason}
use Rattle.irc_daemons.specs.Clients.{ClientsStay}
use Rattle.irc_daemons.specs.Items.{is_on_link}

-- ---- ends that are alike

-- the other server's known servers are behind links that count as well
pub other_ends : (numbers : Numbers) (own other : View) → AreServersAlike numbers own other
    → AreEnds other.ends other.routes
other_ends numbers own other alike name link is =
    by (row_of own.routes name) (row_of other.routes name) refl refl (alike.alike.rows name)
  where
    by : (mine theirs : Option ServerRow) → row_of own.routes name ≡ mine → row_of other.routes name
        ≡ theirs → AreRowsAlike numbers mine theirs → IsMetEnd (get other.ends link)
    by None None one two rows = cc (sym (ap (option_map (λ (r : ServerRow). r.link)) two) ∙ is)
    by None (Some theirs) one two rows = absurd rows
    by (Some mine) None one two rows = absurd rows
    by (Some mine) (Some theirs) one two rows =
        let here : theirs.link ≡ link =
        same_Some theirs.link link (sym (ap (option_map (λ (r : ServerRow). r.link)) two) ∙ is) in
        subst IsMetEnd
        (sym (ap (get other.ends) (sym here) ∙ alike.alike.ends theirs.link
        ∙ ap (option_and_then (get own.ends)) rows.1))
        (alike.ends_count name mine.link (ap (option_map (λ (r : ServerRow). r.link)) one))

-- ---- nothing for others

-- nothing for a client goes on a link that is being opened
no_new_client : (read_event : ReadEvent) (conn : ℕ) (text : List ℕ)
    → is_on_new read_event (line_to conn text) ≡ false
no_new_client (link_up link starts) conn text = refl
no_new_client (of_client client_event) conn text = refl
no_new_client (link_says link read) conn text = refl
no_new_client (link_down link) conn text = refl

no_new_end : (read_event : ReadEvent) (conn : ℕ) → is_on_new read_event (end_of conn) ≡ false
no_new_end (link_up link starts) conn = refl
no_new_end (of_client client_event) conn = refl
no_new_end (link_says link read) conn = refl
no_new_end (link_down link) conn = refl

-- the link that is being opened is one that comes
new_line : (read_event : ReadEvent) (number : ℕ) (text : List ℕ)
    → is_on_new read_event (line_on number text) ≡ link_comes number read_event
new_line (link_up link starts) number text = nat_eq-turned number link
new_line (of_client client_event) number text = refl
new_line (link_says link read) number text = refl
new_line (link_down link) number text = refl

new_end : (read_event : ReadEvent) (number : ℕ) (reason : CloseReason)
    → is_on_new read_event (end_of_link number reason) ≡ link_comes number read_event
new_end (link_up link starts) number reason = nat_eq-turned number link
new_end (of_client client_event) number reason = refl
new_end (link_says link read) number reason = refl
new_end (link_down link) number reason = refl

-- a client that is there does not go by what is refused
not_going : (view : View) (read_event : ReadEvent) (q : ℕ) → serves_read_event view read_event
    ≡ false → is_some (get view.clients q) ≡ true → client_goes q read_event ≡ false
not_going view (of_client (connects which host)) q refused there = refl
not_going view (of_client (says which read)) q refused there = refl
not_going view (of_client (goes which)) q refused there = by (nat_eq which q) refl
  where
    by : (b : Bool) → nat_eq which q ≡ b → b ≡ false
    by true same =
        cc (sym refused ∙ ap (λ n. is_some (get view.clients n)) (eqb-true which q same) ∙ there)
    by false two = refl
not_going view (link_up link starts) q refused there = refl
not_going view (link_says link read) q refused there = refl
not_going view (link_down link) q refused there = refl

module _ (own_law : ServedGoesToItsOwn) (view : View) (read_event : ReadEvent)
    (ends : AreEnds view.ends view.routes) where
  abbrev IsOwn : List Sent → Type 0
  IsOwn outs = list_all (λ sent. is_its_own view sent || is_on_new read_event sent) outs ≡ true

  abbrev first_own : (sent : Sent) (outs : List Sent) → IsOwn (sent ∷ outs)
      → (is_its_own view sent || is_on_new read_event sent) ≡ true
  first_own sent outs own =
      (and_parts (is_its_own view sent || is_on_new read_event sent)
      (list_all (λ s. is_its_own view s || is_on_new read_event s) outs) own).0

  rest_own : (sent : Sent) (outs : List Sent) → IsOwn (sent ∷ outs) → IsOwn outs
  rest_own sent outs own =
      (and_parts (is_its_own view sent || is_on_new read_event sent)
      (list_all (λ s. is_its_own view s || is_on_new read_event s) outs) own).1

  abbrev has_client : ℕ → Bool
  has_client q = is_some (get view.clients q)

  abbrev has_end : ℕ → Bool
  has_end q = is_some (get view.ends q)

  -- what goes to a client goes to one that is there
  client_there : (conn : ℕ) (text : List ℕ) (outs : List Sent) → IsOwn (line_to conn text ∷ outs)
      → has_client conn ≡ true
  client_there conn text outs own =
      or_first (has_client conn) (is_on_new read_event (line_to conn text))
      (no_new_client read_event conn text) (first_own (line_to conn text) outs own)

  client_ends : (conn : ℕ) (outs : List Sent) → IsOwn (end_of conn ∷ outs) → has_client conn ≡ true
  client_ends conn outs own =
      or_first (has_client conn) (is_on_new read_event (end_of conn)) (no_new_end read_event conn)
      (first_own (end_of conn) outs own)

  -- what goes on a link goes on one that is there or comes
  abbrev has_link : ℕ → Bool
  has_link q = has_end q || link_comes q read_event

  link_there : (link : ℕ) (text : List ℕ) (outs : List Sent) → IsOwn (line_on link text ∷ outs)
      → has_link link ≡ true
  link_there link text outs own = ap (λ b. has_end link || b) (sym (new_line read_event link text))
      ∙ first_own (line_on link text) outs own

  link_ends : (link : ℕ) (reason : CloseReason) (outs : List Sent)
      → IsOwn (end_of_link link reason ∷ outs) → has_link link ≡ true
  link_ends link reason outs own =
      ap (λ b. has_end link || b) (sym (new_end read_event link reason))
      ∙ first_own (end_of_link link reason) outs own

  none_for : (client : ℕ) (outs : List Sent) → has_client client ≡ false → IsOwn outs
      → client_bytes client outs ≡ []
  none_for client [] none own = refl
  none_for client (line_to conn text ∷ outs) none own =
      ap (λ b. (if b then text else []) ++ client_bytes client outs)
      (nat_eq-unlike has_client client conn none (client_there conn text outs own))
      ∙ none_for client outs none (rest_own (line_to conn text) outs own)
  none_for client (end_of conn ∷ outs) none own =
      none_for client outs none (rest_own (end_of conn) outs own)
  none_for client (line_on link text ∷ outs) none own =
      none_for client outs none (rest_own (line_on link text) outs own)
  none_for client (end_of_link link reason ∷ outs) none own =
      none_for client outs none (rest_own (end_of_link link reason) outs own)

  none_answered : (q : ℕ) (outs : List Sent) → has_client q ≡ false → has_link q ≡ false
      → IsOwn outs → answers q outs ≡ []
  none_answered q [] none no_end own = refl
  none_answered q (line_to conn text ∷ outs) none no_end own =
      ap (λ b. (if b then text else []) ++ answers q outs)
      (nat_eq-unlike has_client q conn none (client_there conn text outs own))
      ∙ none_answered q outs none no_end (rest_own (line_to conn text) outs own)
  none_answered q (end_of conn ∷ outs) none no_end own =
      ap (λ b. if b then [] else answers q outs)
      (nat_eq-unlike has_client q conn none (client_ends conn outs own))
      ∙ none_answered q outs none no_end (rest_own (end_of conn) outs own)
  none_answered q (line_on link text ∷ outs) none no_end own =
      ap (λ b. (if b then text else []) ++ answers q outs)
      (nat_eq-unlike has_link q link no_end (link_there link text outs own))
      ∙ none_answered q outs none no_end (rest_own (line_on link text) outs own)
  none_answered q (end_of_link link reason ∷ outs) none no_end own =
      ap (λ b. if b then [] else answers q outs)
      (nat_eq-unlike has_link q link no_end (link_ends link reason outs own))
      ∙ none_answered q outs none no_end (rest_own (end_of_link link reason) outs own)

  -- who has no link's number is closed by its own end alone
  none_closed : (q : ℕ) (outs : List Sent) → has_link q ≡ false
      → list_any (ends_client q) outs ≡ false → IsOwn outs → is_closed_by q outs ≡ false
  none_closed q [] no_end none own = refl
  none_closed q (line_to conn text ∷ outs) no_end none own =
      none_closed q outs no_end none (rest_own (line_to conn text) outs own)
  none_closed q (line_on link text ∷ outs) no_end none own =
      none_closed q outs no_end none (rest_own (line_on link text) outs own)
  none_closed q (end_of conn ∷ outs) no_end none own =
      by (nat_eq conn q) none (λ is. none_closed q outs no_end is (rest_own (end_of conn) outs own))
    where
      by : (b : Bool) → (b || list_any (ends_client q) outs) ≡ false
          → (list_any (ends_client q) outs ≡ false → is_closed_by q outs ≡ false)
          → (b || is_closed_by q outs) ≡ false
      by true is rest = cc is
      by false is rest = rest is
  none_closed q (end_of_link link reason ∷ outs) no_end none own =
      ap (λ b. b || is_closed_by q outs)
      (nat_eq-unlike has_link q link no_end (link_ends link reason outs own))
      ∙ none_closed q outs no_end none (rest_own (end_of_link link reason) outs own)

  -- a link gets nothing where nothing goes on any
  none_linked : (q : ℕ) (outs : List Sent) → has_client q ≡ false → list_any is_on_link outs ≡ false
      → IsOwn outs → answers q outs ≡ []
  none_linked q [] no_client none own = refl
  none_linked q (line_to conn text ∷ outs) no_client none own =
      ap (λ b. (if b then text else []) ++ answers q outs)
      (nat_eq-unlike has_client q conn no_client (client_there conn text outs own))
      ∙ none_linked q outs no_client none (rest_own (line_to conn text) outs own)
  none_linked q (end_of conn ∷ outs) no_client none own =
      ap (λ b. if b then [] else answers q outs)
      (nat_eq-unlike has_client q conn no_client (client_ends conn outs own))
      ∙ none_linked q outs no_client none (rest_own (end_of conn) outs own)
  none_linked q (line_on link text ∷ outs) no_client none own = cc none
  none_linked q (end_of_link link reason ∷ outs) no_client none own =
      by (nat_eq link q)
      (none_linked q outs no_client none (rest_own (end_of_link link reason) outs own))
    where
      by : (b : Bool) → answers q outs ≡ [] → (if b then [] else answers q outs) ≡ []
      by true rest = refl
      by false rest = rest

  -- ---- of what a server replies

  abbrev replied : Bool → Served
  replied b =
      if b
      then record { state = (served view read_event).state; out = (served view read_event).out }
      else record { state = view; out = [] }

  pub nobody_gets : (client : ℕ) → is_some (get view.clients client) ≡ false
      → client_bytes client (reply view read_event).out ≡ []
  nobody_gets client none = by (serves_read_event view read_event)
    where
      by : (b : Bool) → client_bytes client (replied b).out ≡ []
      by true = none_for client (served view read_event).out none (own_law view read_event ends)
      by false = refl

  pub nothing_answered : (q : ℕ) → link_comes q read_event ≡ false → is_some (get view.clients q)
      ≡ false → is_some (get view.ends q) ≡ false → answers q (reply view read_event).out ≡ []
  nothing_answered q not_new none no_end = by (serves_read_event view read_event)
    where
      by : (b : Bool) → answers q (replied b).out ≡ []
      by true = none_answered q (served view read_event).out none (or_from (has_end q)
          (link_comes q read_event) no_end not_new) (own_law view read_event ends)
      by false = refl

  pub never_closed : (q : ℕ) → link_comes q read_event ≡ false → is_some (get view.ends q) ≡ false
      → list_any (ends_client q) (served view read_event).out ≡ false
      → is_closed_by q (reply view read_event).out ≡ false
  never_closed q not_new no_end none = by (serves_read_event view read_event)
    where
      by : (b : Bool) → is_closed_by q (replied b).out ≡ false
      by true = none_closed q (served view read_event).out (or_from (has_end q)
          (link_comes q read_event) no_end not_new) none (own_law view read_event ends)
      by false = refl

  pub nothing_linked : (q : ℕ) → is_some (get view.clients q) ≡ false → list_any is_on_link
      (reply view read_event).out ≡ false → answers q (reply view read_event).out ≡ []
  nothing_linked q none no_line = by (serves_read_event view read_event) no_line
    where
      by : (b : Bool) → list_any is_on_link (replied b).out ≡ false → answers q (replied b).out ≡ []
      by true is = none_linked q (served view read_event).out none is (own_law view read_event ends)
      by false is = refl

  -- ---- who is a client still

  -- a client was one before, or connects; it was not closed, and is not gone
  pub record StillThere (q : ℕ) : Type 0 where
    pub was : (is_some (get view.clients q) || client_comes q read_event) ≡ true
    pub not_closed : is_closed_by q (reply view read_event).out ≡ false
    pub not_gone : client_goes q read_event ≡ false

  pub still_there : ClientsStay → (q : ℕ)
      → link_comes q read_event ≡ false → is_some (get view.ends q) ≡ false
      → is_some (get (reply view read_event).state.clients q) ≡ true → StillThere q
  still_there stay q not_new no_end there = by (serves_read_event view read_event) refl there
    where
      by : (b : Bool) → serves_read_event view read_event ≡ b
          → is_some (get (replied b).state.clients q) ≡ true → StillThere q
      by true is has =
          let known = stay view read_event q is has in
          record {
            was = known.was;
            not_closed = never_closed q not_new no_end known.not_ended;
            not_gone = known.not_gone;
          }
      by false is has = record {
        was = or_left (is_some (get view.clients q)) (client_comes q read_event) has;
        not_closed = ap (λ b. is_closed_by q (replied b).out) is;
        not_gone = not_going view read_event q is has;
      }
