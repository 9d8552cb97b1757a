-- What is put out alike to each client and on each link is, in bytes, said alike; and so whatever
-- happens is served alike.
use Rattle.std.proofs.Common.{◌≡◌, ℕ, Bool, true, false, ◌||◌, is_none, is_some, nat_eq, Option}
use Rattle.std.proofs.Common.{Some, None, Result, Ok, Err, List, [], ◌∷◌, ◌++◌, refl, sym, ◌∙◌, ap}
use Rattle.std.proofs.Common.{subst, if◌then◌else◌}
use Rattle.std.specs.FinMap.{get}
use Rattle.std.specs.Option.{option_and_then}
use Rattle.irc_line.specs.Reading.{read_of}
use Rattle.irc_batch.specs.declared.close_reason.CloseReason.{CloseReason}
use Rattle.irc_batch.specs.Batches.{Sent, end_of, end_of_link, line_on, line_to}
use Rattle.irc_stage.specs.Handle.{connects, goes, says}
use Rattle.irc_stage.specs.Ways.{AreEnds}
use Rattle.irc_stage.specs.View.{View}
use Rattle.irc_server.specs.Served.{ReadEvent, link_down, link_says, link_up, of_client, served}
use Rattle.irc_server.specs.Own.{ServedKeepsEnds}
use Rattle.irc_network.specs.Node.{Served, reply, serves_read_event}
use Rattle.irc_engine.specs.Carrying.{answers, is_closed_by}
use Rattle.irc_numbers.specs.EndsLast.{NothingIsBehindAnEnd, ends_last}
use Rattle.irc_numbers.specs.ServedAlike.{ArePutOutAlike, NumbersAreNothing, client_part, link_part}
use Rattle.irc_daemons.specs.Alike.{AreAlike, AreApart, LinesAreServedAlike, Numbers, SayAlike}
use Rattle.irc_daemons.specs.Alike.{ServedAlike, client_bytes, happens_at, link_bytes, renumbered}
use Rattle.irc_daemons.proofs.WhoStays.{is_new}

-- ---- to a client

abbrev ClientPart : Type 0
ClientPart = List (Option (List ℕ))

abbrev its_end : ClientPart
its_end = None ∷ []

abbrev all_lines : ClientPart → List ℕ
all_lines [] = []
all_lines (Some line ∷ part) = line ++ all_lines part
all_lines (None ∷ part) = all_lines part

abbrev lines_before_end : ClientPart → List ℕ
lines_before_end [] = []
lines_before_end (Some line ∷ part) = line ++ lines_before_end part
lines_before_end (None ∷ part) = []

before_last : (part : ClientPart) → ends_last part ≡ true → lines_before_end part ≡ all_lines part
before_last [] is = refl
before_last (Some line ∷ part) is = ap (λ bytes. line ++ bytes) (before_last part is)
before_last (None ∷ []) is = refl
before_last (None ∷ (next ∷ part)) is = cc is

client_bytes_are : (client : ℕ) (outs : List Sent)
    → client_bytes client outs ≡ all_lines (client_part client outs)
client_bytes_are client [] = refl
client_bytes_are client (line_to conn text ∷ outs) =
    by (nat_eq conn client) (client_bytes_are client outs)
  where
    by : (b : Bool) → client_bytes client outs ≡ all_lines (client_part client outs)
        → (if b then text else []) ++ client_bytes client outs
        ≡ all_lines ((if b then Some text ∷ [] else []) ++ client_part client outs)
    by true rest = ap (λ bytes. text ++ bytes) rest
    by false rest = rest
client_bytes_are client (end_of conn ∷ outs) =
    by (nat_eq conn client) (client_bytes_are client outs)
  where
    by : (b : Bool) → client_bytes client outs ≡ all_lines (client_part client outs) → client_bytes
        client outs ≡ all_lines ((if b then its_end else []) ++ client_part client outs)
    by true rest = rest
    by false rest = rest
client_bytes_are client (line_on link text ∷ outs) = client_bytes_are client outs
client_bytes_are client (end_of_link link why ∷ outs) = client_bytes_are client outs

-- nothing is put out on a link of its number
answers_to : (conn : ℕ) (outs : List Sent) → link_part conn outs ≡ []
    → answers conn outs ≡ lines_before_end (client_part conn outs)
answers_to conn [] none = refl
answers_to conn (line_to number text ∷ outs) none =
    by (nat_eq number conn) (answers_to conn outs none)
  where
    by : (b : Bool) → answers conn outs ≡ lines_before_end (client_part conn outs)
        → (if b then text else []) ++ answers conn outs ≡ lines_before_end
        ((if b then Some text ∷ [] else []) ++ client_part conn outs)
    by true rest = ap (λ bytes. text ++ bytes) rest
    by false rest = rest
answers_to conn (end_of number ∷ outs) none = by (nat_eq number conn) (answers_to conn outs none)
  where
    by : (b : Bool) → answers conn outs ≡ lines_before_end (client_part conn outs)
        → (if b then [] else answers conn outs) ≡ lines_before_end
        ((if b then its_end else []) ++ client_part conn outs)
    by true rest = refl
    by false rest = rest
answers_to conn (line_on link text ∷ outs) none = by (nat_eq link conn) (answers_to conn outs) none
  where
    by : (b : Bool) → (link_part conn outs ≡ [] → answers conn outs ≡ lines_before_end
        (client_part conn outs)) → (if b then Ok text ∷ [] else []) ++ link_part conn outs ≡ []
        → (if b then text else []) ++ answers conn outs ≡ lines_before_end (client_part conn outs)
    by true later some = cc some
    by false later rest = later rest
answers_to conn (end_of_link link why ∷ outs) none =
    by (nat_eq link conn) (answers_to conn outs) none
  where
    by : (b : Bool) → (link_part conn outs ≡ [] → answers conn outs ≡ lines_before_end
        (client_part conn outs)) → (if b then Err why ∷ [] else []) ++ link_part conn outs ≡ []
        → (if b then [] else answers conn outs) ≡ lines_before_end (client_part conn outs)
    by true later some = cc some
    by false later rest = later rest

-- ---- on a link

abbrev LinkPart : Type 0
LinkPart = List (Result (List ℕ) CloseReason)

abbrev all_texts : LinkPart → List ℕ
all_texts [] = []
all_texts (Ok text ∷ part) = text ++ all_texts part
all_texts (Err why ∷ part) = all_texts part

link_bytes_are : (link : ℕ) (outs : List Sent)
    → link_bytes link outs ≡ all_texts (link_part link outs)
link_bytes_are link [] = refl
link_bytes_are link (line_on number text ∷ outs) =
    by (nat_eq number link) (link_bytes_are link outs)
  where
    by : (b : Bool) → link_bytes link outs ≡ all_texts (link_part link outs)
        → (if b then text else []) ++ link_bytes link outs ≡ all_texts
        ((if b then Ok text ∷ [] else []) ++ link_part link outs)
    by true rest = ap (λ bytes. text ++ bytes) rest
    by false rest = rest
link_bytes_are link (end_of_link number why ∷ outs) =
    by (nat_eq number link) (link_bytes_are link outs)
  where
    by : (b : Bool) → link_bytes link outs ≡ all_texts (link_part link outs)
        → link_bytes link outs ≡ all_texts ((if b then Err why ∷ [] else []) ++ link_part link outs)
    by true rest = rest
    by false rest = rest
link_bytes_are link (line_to conn text ∷ outs) = link_bytes_are link outs
link_bytes_are link (end_of conn ∷ outs) = link_bytes_are link outs

-- nothing is put out to a client of its number, and it is not closed
answers_on : (conn : ℕ) (outs : List Sent) → client_part conn outs ≡ []
    → is_closed_by conn outs ≡ false → answers conn outs ≡ all_texts (link_part conn outs)
answers_on conn [] none stays = refl
answers_on conn (line_on link text ∷ outs) none stays =
    by (nat_eq link conn) (answers_on conn outs none stays)
  where
    by : (b : Bool) → answers conn outs ≡ all_texts (link_part conn outs) → (if b then text else [])
        ++ answers conn outs ≡ all_texts ((if b then Ok text ∷ [] else []) ++ link_part conn outs)
    by true rest = ap (λ bytes. text ++ bytes) rest
    by false rest = rest
answers_on conn (end_of_link link why ∷ outs) none stays =
    by (nat_eq link conn) (answers_on conn outs none) stays
  where
    by : (b : Bool)
        → (is_closed_by conn outs ≡ false → answers conn outs ≡ all_texts (link_part conn outs))
        → (b || is_closed_by conn outs) ≡ false → (if b then [] else answers conn outs)
        ≡ all_texts ((if b then Err why ∷ [] else []) ++ link_part conn outs)
    by true later closed = cc closed
    by false later still = later still
answers_on conn (line_to number text ∷ outs) none stays =
    by (nat_eq number conn) (λ rest. answers_on conn outs rest stays) none
  where
    by : (b : Bool) → (client_part conn outs ≡ [] → answers conn outs ≡ all_texts
        (link_part conn outs)) → (if b then Some text ∷ [] else []) ++ client_part conn outs ≡ []
        → (if b then text else []) ++ answers conn outs ≡ all_texts (link_part conn outs)
    by true later some = cc some
    by false later rest = later rest
answers_on conn (end_of number ∷ outs) none stays =
    by (nat_eq number conn) (answers_on conn outs) none stays
  where
    by : (b : Bool) → (client_part conn outs ≡ [] → is_closed_by conn outs ≡ false
        → answers conn outs ≡ all_texts (link_part conn outs)) → (if b then its_end else [])
        ++ client_part conn outs ≡ [] → (b || is_closed_by conn outs) ≡ false
        → (if b then [] else answers conn outs) ≡ all_texts (link_part conn outs)
    by true later some closed = cc some
    by false later rest still = later rest still

-- ---- said alike

say_alike : (numbers : Numbers) (own other : List Sent) → AreApart numbers
    → ((conn : ℕ) → ends_last (client_part conn own) ≡ true) → ArePutOutAlike numbers own other
    → SayAlike numbers own other
say_alike numbers own other apart last put = record {
  on_links = λ place conn at stays.
      answers_on conn own
      (put.to_no_other conn (λ among. apart.kinds place among.number conn at among.is)) stays
      ∙ ap all_texts (put.on_links place conn at) ∙ sym (link_bytes_are place other);
  to_clients = λ client conn at.
      answers_to conn own
      (put.on_no_other conn (λ among. apart.kinds among.number client conn among.is at))
      ∙ before_last (client_part conn own) (last conn)
      ∙ ap all_lines (put.to_clients client conn at) ∙ sym (client_bytes_are client other);
}

-- ---- whatever happens

abbrev answered : Bool → View → ReadEvent → Served
answered b view read_event =
    if b then record { state = (served view read_event).state; out = (served view read_event).out }
    else record { state = view; out = [] }

module _ (nothing : NumbersAreNothing) (behind : NothingIsBehindAnEnd)
    (keeps : ServedKeepsEnds) where
  module _ (numbers : Numbers) (own other : View) (conn : ℕ) (apart : AreApart numbers)
      (alike : AreAlike numbers own other) where
    client_same : (client : ℕ) → numbers.client client ≡ Some conn
        → get other.clients client ≡ get own.clients conn
    client_same client at = alike.clients client ∙ ap (option_and_then (get own.clients)) at

    end_same : (place : ℕ) → numbers.link place ≡ Some conn
        → get other.ends place ≡ get own.ends conn
    end_same place at = alike.ends place ∙ ap (option_and_then (get own.ends)) at

    -- it is refused by both, or by neither
    serves_same : (read_event : ReadEvent) → happens_at numbers read_event ≡ Some conn
        → serves_read_event other read_event ≡ serves_read_event own (renumbered conn read_event)
    serves_same (of_client (connects client host)) at = ap is_none (client_same client at)
    serves_same (of_client (says client read)) at = ap is_some (client_same client at)
    serves_same (of_client (goes client)) at = ap is_some (client_same client at)
    serves_same (link_up place starts) at = ap is_none (end_same place at)
    serves_same (link_says place read) at = ap is_some (end_same place at)
    serves_same (link_down place) at = ap is_some (end_same place at)

    abbrev AreReplies : Served → Served → Type 0
    AreReplies one two = AreAlike numbers one.state two.state × SayAlike numbers one.out two.out

    both_reply : (read_event : ReadEvent) → happens_at numbers read_event ≡ Some conn → (b : Bool)
        → AreReplies (answered b own (renumbered conn read_event)) (answered b other read_event)
    both_reply read_event at true =
        let done = nothing numbers own other read_event conn apart alike at in (
          done.views,
          say_alike numbers (served own (renumbered conn read_event)).out
              (served other read_event).out apart
              (λ k. behind own (renumbered conn read_event) k) done.outs,
        )
    both_reply read_event at false =
        (alike, record { on_links = λ place k is stays. refl; to_clients = λ client k is. refl })

    replies_alike : (read_event : ReadEvent) → happens_at numbers read_event ≡ Some conn
        → AreReplies (reply own (renumbered conn read_event)) (reply other read_event)
    replies_alike read_event at =
        let mine = renumbered conn read_event in
        subst (λ b. AreReplies (reply own mine) (answered b other read_event))
        (sym (serves_same read_event at))
        (both_reply read_event at (serves_read_event own mine))

  -- each server that it knows stays behind a link that counts
  ends_stay : (own : View) (read_event : ReadEvent) → AreEnds own.ends own.routes
      → AreEnds (reply own read_event).state.ends (reply own read_event).state.routes
  ends_stay own read_event ends = by (serves_read_event own read_event) refl
    where
      by : (b : Bool) → serves_read_event own read_event ≡ b
          → AreEnds (answered b own read_event).state.ends (answered b own read_event).state.routes
      by true serves = keeps own read_event ends (is_new own read_event serves)
      by false serves = ends

  pub served_alike : ServedAlike
  served_alike numbers own other read_event conn apart alike at =
      let two = replies_alike numbers own other conn apart alike.alike read_event at in record {
        views = record {
          alike = two.0;
          ends_count = ends_stay own (renumbered conn read_event) alike.ends_count;
        };
        say = two.1;
      }

  pub lines_are_served_alike : LinesAreServedAlike
  lines_are_served_alike numbers place conn line apart at own other alike =
      served_alike numbers own other (link_says place (read_of line)) conn apart alike at
