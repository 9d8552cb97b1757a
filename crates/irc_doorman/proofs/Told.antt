-- What a doorman says: who is connected by it, and why it refuses an event.
use Rattle.std.proofs.Common.{◌≡◌, ℕ, Bool, true, false, not, ◌&&◌, ◌||◌, nat_eq, Option}
use Rattle.std.proofs.Common.{List, [], ◌∷◌, ◌++◌, refl, sym, ◌∙◌, ap, append_assoc}
use Rattle.std.proofs.lemmas.Bool.{eqb-true}
use Rattle.std.proofs.lemmas.List.Folds.{list_any-append}
use Rattle.std.proofs.Math.Bool.{or-false}
use Rattle.irc_engine.specs.Lemmas.Layers.{ended_as, shut_by}
use Rattle.arrayvec.specs.ArrayVec.{ArrayVec}
use Rattle.irc_batch.specs.Batches.{Sent, end_of, line_to}
use Rattle.irc_line.specs.Messages.{text}
use Rattle.irc_stage.specs.View.{View}
use Rattle.irc_server.specs.declared.event.Event.{Event}
use Rattle.irc_server.specs.declared.event.Event.TheVariants.{Connect, Line, Gone, LinkUp, LinkLine}
use Rattle.irc_server.specs.declared.event.Event.TheVariants.{LinkDown}
use Rattle.irc_server.specs.declared.event.ServerFault.{ServerFault}
use Rattle.irc_server.specs.Connected.{client_comes, client_goes, ends_client, ends_link}
use Rattle.irc_server.specs.Connected.{has_client, has_link, is_client_ended, is_link_ended}
use Rattle.irc_server.specs.Connected.{is_there_after, link_comes, link_goes}
use Rattle.irc_server.specs.ReadEvents.{read_event_of}
use Rattle.irc_engine.specs.Machines.{is_owed, ran_out_before, runs_out_now, AreConnectedBy}
use Rattle.irc_engine.specs.Machines.{IsConnectedBy, IsRefusal}
use Rattle.irc_doorman.specs.declared.asks.Asks.{Asks}
use Rattle.irc_doorman.specs.declared.guest.Fate.{Fate}
use Rattle.irc_doorman.specs.declared.guest.Fate.TheVariants.{Passes, LacksWord, TurnedAway}
use Rattle.irc_doorman.specs.declared.guest.Guest.{Guest}
use Rattle.irc_doorman.specs.Doormen.{conn_of, fate_at, given, is_there, line_fate, told, Guests}
use Rattle.irc_doorman.specs.Texts.{bad_password, closing}

-- ---- what closes nobody is said behind

module _ (event : Event) (was new : View) (x more : List Sent)
    (no_client : (q : ℕ) → is_client_ended q more ≡ false)
    (no_link : (q : ℕ) → is_link_ended q more ≡ false) where
  client_as : (q : ℕ) → is_client_ended q x ≡ is_client_ended q (x ++ more)
  client_as q = sym (or-false (is_client_ended q x))
      ∙ ap (λ b. is_client_ended q x || b) (sym (no_client q))
      ∙ sym (list_any-append (ends_client q) x more)

  link_as : (q : ℕ) → is_link_ended q x ≡ is_link_ended q (x ++ more)
  link_as q = sym (or-false (is_link_ended q x))
      ∙ ap (λ b. is_link_ended q x || b) (sym (no_link q))
      ∙ sym (list_any-append (ends_link q) x more)

  said_more : AreConnectedBy was (read_event_of event) x new
      → AreConnectedBy was (read_event_of event) (x ++ more) new
  said_more by = record {
    clients = λ q. by.clients q
        ∙ ap (is_there_after (has_client was q) (client_comes q (read_event_of event))
        (client_goes q (read_event_of event))) (client_as q);
    links = λ q. by.links q
        ∙ ap (is_there_after (has_link was q) (link_comes q (read_event_of event))
        (link_goes q (read_event_of event))) (link_as q);
    clients_were_there = λ q ended. by.clients_were_there q (client_as q ∙ ended);
    links_were_there = λ q ended. by.links_were_there q (link_as q ∙ ended);
  }

said_behind : (event : Event) (server after : Option View) (before between end more : List Sent)
    → ((q : ℕ) → is_client_ended q more ≡ false) → ((q : ℕ) → is_link_ended q more ≡ false)
    → IsConnectedBy server event before after between → end ≡ between ++ more
    → IsConnectedBy server event before after end
said_behind event server after before between end more no_client no_link by is = record {
  outs = by.outs ++ more;
  after_is = is ∙ ap (λ o. o ++ more) by.after_is ∙ append_assoc before by.outs more;
  connected = λ behind is_behind.
      let was = by.connected behind is_behind in
      (was.0, was.1, said_more event was.0 behind by.outs more no_client no_link was.2);
}

-- ---- who is turned away is told so, and closed

module _ (conn : ℕ) (line : ArrayVec ℕ) (one other : List ℕ) where
  abbrev last : List Sent
  last = line_to conn one ∷ line_to conn other ∷ end_of conn ∷ []

  away : (was new : View) (x : List Sent) → has_client was conn ≡ true
      → AreConnectedBy was (read_event_of (Gone conn)) x new
      → AreConnectedBy was (read_event_of (Line conn line)) (x ++ last) new
  away was new x there by = record {
    clients = λ q. by.clients q
        ∙ shut_by (has_client was q) (nat_eq conn q) (is_client_ended q x)
        ∙ ap (λ t. (has_client was q || false) && not t)
        (sym (list_any-append (ends_client q) x last));
    links = λ q. by.links q
        ∙ ap (λ t. (has_link was q || false) && not t)
        (sym (or-false (is_link_ended q x)) ∙ sym (list_any-append (ends_link q) x last));
    clients_were_there = λ q ended. was_there q (nat_eq conn q) refl
        (sym (list_any-append (ends_client q) x last) ∙ ended);
    links_were_there = λ q ended. by.links_were_there q
        (sym (or-false (is_link_ended q x)) ∙ sym (list_any-append (ends_link q) x last) ∙ ended);
  }
    where
      was_there : (q : ℕ) (t : Bool) → nat_eq conn q ≡ t
          → (is_client_ended q x || (nat_eq conn q || false)) ≡ true → has_client was q ≡ true
      was_there q true same ended =
          ap (has_client was) (sym (eqb-true conn q same)) ∙ there
      was_there q false differ ended = by.clients_were_there q
          (ended_as (is_client_ended q x) (nat_eq conn q) ended differ)

  turned_away : (server after : Option View) (before between end : List Sent)
      → is_there server conn ≡ true → IsConnectedBy server (Gone conn) before after between
      → end ≡ between ++ last → IsConnectedBy server (Line conn line) before after end
  turned_away server after before between end there by is = record {
    outs = by.outs ++ last;
    after_is = is ∙ ap (λ o. o ++ last) by.after_is ∙ append_assoc before by.outs last;
    connected = λ behind is_behind.
        let was = by.connected behind is_behind in (
          was.0,
          was.1,
          away was.0 behind by.outs (ap (λ s. is_there s conn) (sym was.1) ∙ there) was.2,
        );
  }

-- who is turned away is there
there_of : (there : Bool) (guest : Option Guest) (line : List ℕ)
    → TurnedAway ≡ line_fate there guest line → there ≡ true
there_of true guest line is = refl
there_of false guest line is = cc is

-- nobody else is
never_away : {A : Type 0} → TurnedAway ≡ Passes → A
never_away is = cc is

-- ---- by an event

pub connected_told : (asks : Asks) (fate : Fate) (guests : Guests) (event : Event)
    (server after : Option View) (before between end : List Sent)
    → fate ≡ fate_at server guests event → IsConnectedBy server (given fate event) before after
    between
    → end ≡ between ++ told asks fate (conn_of event) → IsConnectedBy server event before after end
connected_told asks Passes guests event server after before between end is by said =
    said_behind event server after before between end [] (λ q. refl) (λ q. refl) by said
connected_told asks LacksWord guests event server after before between end is by said =
    said_behind event server after before between end (told asks LacksWord (conn_of event))
    (λ q. refl) (λ q. refl) by said
connected_told asks TurnedAway guests (Line conn line) server after before between end is by said =
    turned_away conn line (text (bad_password asks.server)) (text closing) server after before
    between end
    (there_of (is_there server conn) (guests conn) line.items is) by said
connected_told asks TurnedAway guests (Connect conn host) server after before between end is by
    said =
    never_away is
connected_told asks TurnedAway guests (Gone conn) server after before between end is by said =
    never_away is
connected_told asks TurnedAway guests (LinkUp link name) server after before between end is by said
    =
    never_away is
connected_told asks TurnedAway guests (LinkLine link line) server after before between end is by
    said =
    never_away is
connected_told asks TurnedAway guests (LinkDown link) server after before between end is by said =
    never_away is

-- the line of who is not there is refused as its leaving is
gone_owed : (server : Option View) (conn : ℕ) (line : ArrayVec ℕ) (fault : ServerFault)
    → IsRefusal server (Gone conn) fault → IsRefusal server (Line conn line) fault
gone_owed server conn line fault runs_out_now = runs_out_now
gone_owed server conn line fault ran_out_before = ran_out_before
gone_owed server conn line fault (is_owed view f server_is owed) = is_owed view f server_is owed

pub refused_given : (fate : Fate) (guests : Guests) (event : Event) (server : Option View)
    (fault : ServerFault) → fate ≡ fate_at server guests event
    → IsRefusal server (given fate event) fault → IsRefusal server event fault
refused_given Passes guests event server fault is owed = owed
refused_given LacksWord guests event server fault is owed = owed
refused_given TurnedAway guests (Line conn line) server fault is owed =
    gone_owed server conn line fault owed
refused_given TurnedAway guests (Connect conn host) server fault is owed = never_away is
refused_given TurnedAway guests (Gone conn) server fault is owed = never_away is
refused_given TurnedAway guests (LinkUp link name) server fault is owed = never_away is
refused_given TurnedAway guests (LinkLine link line) server fault is owed = never_away is
refused_given TurnedAway guests (LinkDown link) server fault is owed = never_away is
